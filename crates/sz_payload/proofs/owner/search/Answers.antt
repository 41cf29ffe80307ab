-- Entries between two hits do not have the cell, since their rectangles do not overlap that of the cell.
use Rattle.std.proofs.Common.{◌≡◌, ℕ, length, sym, ap, subst, ◌∙◌, arith, inl, inr}
use Rattle.std.proofs.lemmas.Bool.{cases_lt}
use Rattle.std.specs.List.{AllWithin}
use Rattle.sz_cells.specs.declared.Bounds.{Bounds}
use Rattle.sz_cells.specs.Extent.{Extent, cell_of}
use Rattle.sz_cells.specs.Cells.{has}
use Rattle.sz_rtree.specs.Rectangles.{Overlaps}
use Rattle.sz_tables.specs.Entries.{entries, entry_at}
use Rattle.sz_payload.proofs.Owning.{only, passed, none-there, round-long}
use Rattle.sz_payload.proofs.owner.search.Goals as goal

pub loop-start-init : goal.loop-start-init
loop-start-init c = record {
  all = c.len-end.ensures.entries;
  below = omega arith;
  bounds = ap only (c.cell_at-cell.ensures.value ∙ ap (λ (e : Extent). cell_of e c.args.index) c.shape.ensures);
  none = λ k under. absurd (omega arith);
}

pub entry_has-requires-clause-row : goal.entry_has-requires-clause-row
entry_has-requires-clause-row c =
    omega (
      arith,
      c.in-Some.ensures.hit.1,
      round-long (entries c.args.table.now) c.args.tree.now.rectangles
          c.requires.round,
    )

pub returns-then-entry_has : goal.returns-then-entry_has
returns-then-entry_has c = (
  omega (
    arith,
    c.in-Some.ensures.hit.1,
    round-long (entries c.args.table.now) c.args.tree.now.rectangles
        c.requires.round,
  ),
  sym c.entry_has.ensures ∙ c.if-entry_has.true,
)

pub loop-start-preserved-in-Some : goal.loop-start-preserved-in-Some
loop-start-preserved-in-Some c =
    let es = entries c.args.table.now in
    let rectangles = c.args.tree.now.rectangles in
    let o = cell_of c.args.table.now.out c.args.index in
    let inv = c.loop-start.invariant in
    let hit = c.in-Some.ensures.hit in
    let row = c.in-Some.row in
    let long = round-long es rectangles c.requires.round in
    let apart = subst (λ (b : Bounds). AllWithin (λ r. Overlaps r b → ⊥) rectangles c.loop-start.start row) inv.bounds
    hit.3 in
    record {
      all = inv.all;
      below = omega (arith, long, hit.1, inv.all);
      bounds = inv.bounds;
      none = λ k under.
          elim (cases_lt k c.loop-start.start) [
            | inl before ↦ inv.none k before
            | inr from ↦
                elim (cases_lt k row) [
                  | inl between ↦
                      passed es rectangles o c.loop-start.start row c.requires.round
                      (omega (arith, long, hit.1)) apart k
                      (omega arith) between
                  | inr at ↦
                      let same : row ≡ k = omega arith in
                      ap (λ (n : ℕ). has (entry_at es n).out o) (sym same) ∙ sym c.entry_has.ensures
                      ∙ c.if-entry_has.false
                ]
          ];
    }

pub loop-start-preserved : goal.loop-start-preserved
loop-start-preserved c =
    let es = entries c.args.table.now in
    let rectangles = c.args.tree.now.rectangles in
    let o = cell_of c.args.table.now.out c.args.index in
    let inv = c.loop-start.invariant in
    let long = round-long es rectangles c.requires.round in
    let apart = subst (λ (b : Bounds). AllWithin (λ r. Overlaps r b → ⊥) rectangles c.loop-start.start (length
    rectangles)) inv.bounds c.in-None.ensures.hit in
    record {
      all = inv.all;
      below = omega arith;
      bounds = inv.bounds;
      none = λ k under.
          elim (cases_lt k c.loop-start.start) [
            | inl before ↦ inv.none k before
            | inr from ↦
                passed es rectangles o c.loop-start.start (length rectangles) c.requires.round
                (omega (arith, long)) apart k
                (omega arith) (omega (arith, long, inv.all))
          ];
    }

pub returns : goal.returns
returns c =
    let es = entries c.args.table.now in
    let inv = c.loop-start.invariant in
    none-there es (cell_of c.args.table.now.out c.args.index)
    (λ n inside. inv.none n (omega (arith, inv.all, inv.below)))
