-- The cell is added where no entry has it.
use Rattle.std.proofs.Common.{◌≡◌, true, false, refl, ap, subst, ◌∙◌}
use Rattle.sz_cells.specs.Extent.{Extent, cell_of}
use Rattle.sz_cells.specs.Cells.{has}
use Rattle.sz_frame.specs.Stands.{has_entry}
use Rattle.sz_frame.proofs.Added.{own-at}
use Rattle.sz_tables.specs.Entries.{entries, entry_at}
use Rattle.sz_payload.proofs.Adding.{lone-set, lone-kept}
use Rattle.sz_payload.proofs.look.Look.first_forward.Goals as goal

pub returns-in-Some : goal.returns-in-Some
returns-in-Some c =
    let s = c.args.self.now.at.now in
    let es = entries c.args.self.now.table.now in
    let to = c.args.to.now in
    let there = subst (λ (e : Extent). has (entry_at es c.in-Some._row).out (cell_of e c.args.index) ≡ true)
    c.requires.held.out c.in-Some.ensures.1 in
    lone-kept s to es c.in-Some._row (cell_of s.out c.args.index) c.requires.held.none c.in-Some.ensures.0 there
    (own-at to to.extent refl c.shape.ensures.rising)

pub returns-in-None : goal.returns-in-None
returns-in-None c =
    let s = c.args.self.now.at.now in
    let es = entries c.args.self.now.table.now in
    let none = subst (λ (e : Extent). has_entry es (cell_of e c.args.index) ≡ false) c.requires.held.out
    c.in-None.ensures in
    c.set.ensures
    ∙ lone-set s c.args.to.now es c.cell_at-cell.result (cell_of s.out c.args.index) c.requires.held.none
    (c.cell_at-cell.ensures.value ∙ ap (λ (e : Extent). cell_of e c.args.index) c.out.ensures.value) none
