-- A cell has what the payload of its one entry stands for, or the default, or nothing.
use Rattle.std.proofs.Common.{◌≡◌, true, false, refl, sym, ap, subst, ◌∙◌}
use Rattle.sz_cells.specs.declared.Cell.{Cell}
use Rattle.sz_cells.specs.Extent.{Extent, cell_of}
use Rattle.sz_cells.specs.Cells.{has, with_those}
use Rattle.sz_spec.specs.Lineage.{mapped}
use Rattle.sz_spec.specs.Payloads.{mapped_by_payload}
use Rattle.sz_spec.specs.Shapes.{Site}
use Rattle.sz_frame.specs.Stands.{has_entry}
use Rattle.sz_frame.proofs.Added.{own-at, with-ext, with-none}
use Rattle.sz_tables.specs.Entries.{entries, entry_at}
use Rattle.sz_payload.specs.Kept.{entries_stand}
use Rattle.sz_payload.proofs.Standing.{stands-one, stands-none, done-kept}
use Rattle.sz_payload.proofs.look.Look.cell_back.Goals as goal

pub returns-in-Some-clause-to : goal.returns-in-Some-clause-to
returns-in-Some-clause-to g c =
    let s = c.args.self.now.at.now in
    let es = entries c.args.self.now.table.now in
    let row = c.in-Some.row in
    let i = c.args.input in
    let o = cell_of s.out c.args.index in
    let at : c.cell_at-cell.result ≡ o =
    c.cell_at-cell.ensures.value ∙ ap (λ (e : Extent). cell_of e c.args.index) c.out.ensures.value in
    let there = subst (λ (e : Extent). has (entry_at es row).out (cell_of e c.args.index) ≡ true) c.requires.held.out
    c.in-Some.ensures.1 in
    c.payload_back.ensures.to
    ∙ with-ext c.args.to.now (mapped_by_payload s.op s.ins (entry_at es row).payload i c.cell_at-cell.result)
    (entries_stand c.args.comp s es i o)
    (λ x held.
    ap (λ (y : Cell). mapped_by_payload s.op s.ins (entry_at es row).payload i y x) at
    ∙ sym (stands-one c.args.comp s es row i o x c.requires.held.apart c.in-Some.ensures.0 there))

pub returns-then-comp-clause-done : goal.returns-then-comp-clause-done
returns-then-comp-clause-done g c =
    let s = c.args.self.now.at.now in
    let to = c.args.to.now in
    let new = c.map_b_into.new.to in
    let added = subst (λ (t : Site). new ≡ with_those to (λ x. mapped t.op t.ins c.args.input c.cell_at-cell.result x))
    c.requires.map c.map_b_into.ensures in
    done-kept s c.args.self.now.table.now.payloads c.args.input c.args.last to new
    (mapped s.op s.ins c.args.input c.cell_at-cell.result) added c.requires.done

pub returns-else-comp-clause-to : goal.returns-else-comp-clause-to
returns-else-comp-clause-to g c =
    let s = c.args.self.now.at.now in
    let es = entries c.args.self.now.table.now in
    let to = c.args.to.now in
    let o = cell_of s.out c.args.index in
    let none = subst (λ (e : Extent). has_entry es (cell_of e c.args.index) ≡ false) c.requires.held.out
    c.in-None.ensures in
    with-none to (entries_stand c.args.comp s es c.args.input o) (own-at to to.extent refl c.shape.ensures.rising)
    (λ x held. stands-none c.args.comp s es c.args.input o x none c.if-comp.false)
