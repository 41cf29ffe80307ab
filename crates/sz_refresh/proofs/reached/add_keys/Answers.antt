-- A key reaches itself.
use Rattle.std.proofs.Common.{◌≡◌, map, refl, sym, ap, ◌∙◌, Ok}
use Rattle.std.specs.Arc.{arc_value}
use Rattle.sz_cells.specs.Cells.{with_those}
use Rattle.sz_spec.specs.declared.op.Op.{Op}
use Rattle.sz_spec.specs.declared.op.Op.TheVariants.{Lookup}
use Rattle.sz_spec.specs.Shapes.{shape_of}
use Rattle.sz_spec.proofs.OutputShapes.{looked-up_shape}
use Rattle.sz_frame.proofs.Added.{own-at}
use Rattle.sz_refresh.specs.Changes.{reaches}
use Rattle.sz_refresh.proofs.Squares.{keys-reach}
use Rattle.sz_refresh.proofs.reached.add_keys.Goals as goal

pub returns : goal.returns
returns c =
    let s = c.args.at.now in
    let from = c.args.from.now in
    let told : shape_of Lookup s.ins ≡ Ok s.out =
    ap (λ (op : Op). shape_of op s.ins) (sym c.requires.op) ∙ c.at_work.ensures.right.site.shape in
    let shape : c.args.to.now.extent ≡ from.extent =
    c.requires.to ∙ sym (looked-up_shape s.ins s.out told).1 ∙ sym c.requires.from in
    c.add_bits.ensures
    ∙ keys-reach (map (λ x. arc_value x) c.args.old.now) (map (λ x. arc_value x) c.args._new.now) from.extent from
    c.args.to.now (own-at from from.extent refl c.shape.ensures.rising) shape
    ∙ ap (λ (op : Op). with_those c.args.to.now (reaches op (map (λ x. arc_value x) c.args.old.now)
    (map (λ x. arc_value x) c.args._new.now) 0 from)) (sym c.requires.op)
