-- Each number is that of the pair's set.
use Rattle.std.proofs.Common.{◌≡◌, ◌∙◌, ap, map, length, subst, sym, arith, List, Some}
use Rattle.std.specs.Arc.{arc_value}
use Rattle.std.specs.List.{slice_get}
use Rattle.std.proofs.lemmas.List.{length-map}
use Rattle.sz_cells.specs.Cells.{Cells}
use Rattle.sz_frame.specs.Parts.{Pairing}
use Rattle.sz_tables.specs.Rows.{sets_of, set_at}
use Rattle.sz_tables.proofs.Ticking.{named-pair}
use Rattle.sz_tables.proofs.checklists.name_of.Goals as goal

pub returns : goal.returns
returns c =
    let t = c.args.table.now in
    let r = c.args.region.now in
    let raw = c.as_slice-sets.result.now in
    let sets : map (λ a. arc_value a) raw ≡ r.ins =
    c.as_slice-sets.ensures ∙ ap (λ (p : Pairing). p.ins) c.region.view_is in
    let long : length raw ≡ length r.ins =
    sym (length-map raw (λ a. arc_value a)) ∙ ap length sets in
    let arity : length r.ins ≡ length t.ins = omega (arith, long, c.inputs.ensures.inputs, c.if-sets-inputs.false) in
    named-pair t _ r c.requires arity
    (c.in_ok-out.ensures ∙ ap (λ (s : Cells). Some s) (c.deref.ensures ∙ ap (λ (p : Pairing). p.out) c.region.view_is))
    (λ some. subst (λ (xs : List Cells). slice_get (sets_of t.sets 0) c.in_ok-first.first ≡ Some (set_at xs 0)) sets
    (c.in_ok-first.ensures (omega (arith, some, long))))
    (λ some. subst (λ (xs : List Cells). slice_get (sets_of t.sets 1) c.in_ok-second.second ≡ Some (set_at xs 1)) sets
    (c.in_ok-second.ensures (omega (arith, some, long))))
