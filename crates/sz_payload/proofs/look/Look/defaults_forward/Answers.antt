-- Over another input than the first there is no default.
use Rattle.std.proofs.Common.{ℕ, refl, sym, ap, ◌∙◌}
use Rattle.sz_cells.specs.Cells.{has, with_those}
use Rattle.sz_spec.specs.declared.modes.Dir.TheVariants.{Forward}
use Rattle.sz_spec.specs.Sides.{image_in}
use Rattle.sz_frame.proofs.Added.{own-at}
use Rattle.sz_tables.specs.Entries.{entries}
use Rattle.sz_payload.specs.Looks.{lone}
use Rattle.sz_payload.proofs.Adding.{lone-other}
use Rattle.sz_payload.proofs.look.Look.defaults_forward.Goals as goal

pub returns-then-input-eq0 : goal.returns-then-input-eq0
returns-then-input-eq0 c =
    let s = c.args.self.now.at.now in
    let es = entries c.args.self.now.table.now in
    c.firsts_forward.ensures
    ∙ ap (λ (n : ℕ). with_those c.args.to.now (has (image_in Forward s n (lone s es n) c.args.from.now)))
    (sym c.if-input-eq0.true)

pub returns-else-input-eq0 : goal.returns-else-input-eq0
returns-else-input-eq0 c =
    let s = c.args.self.now.at.now in
    let to = c.args.to.now in
    lone-other s c.args.input c.args.from.now to (entries c.args.self.now.table.now) c.requires.held.none
    c.if-input-eq0.false c.requires.to (own-at to to.extent refl c.shape.ensures.rising)
