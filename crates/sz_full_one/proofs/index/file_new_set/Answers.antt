-- Where the table has a set more, it is the region pair's.
use Rattle.std.proofs.Common.{◌≡◌, ◌<◌, ◌≤◌, ◌+◌, ℕ, List, length, refl, sym, ap, subst, ◌∙◌, arith}
use Rattle.std.specs.Arc.{arc_value}
use Rattle.sz_cells.specs.Cells.{Cells}
use Rattle.sz_frame.specs.Stands.{set_of}
use Rattle.sz_tables.specs.Filed.{Files}
use Rattle.sz_tables.specs.Rows.{RowTable}
use Rattle.sz_full_one.specs.ByCells.{with_filed}
use Rattle.sz_full_one.proofs.Growing.{sets-same, sets-more, set-costs, given-set}
use Rattle.sz_full_one.proofs.index.file_new_set.Goals as goal

pub file_set-requires-clause-room : goal.file_set-requires-clause-room
file_set-requires-clause-room c =
    let old : RowTable = c.requires.grown.0 in
    let is : c.deref.result.now ≡ set_of c.args.region.now c.args.input = given-set (λ a. arc_value a) old
    c.args.table.now c.args.region.now _ c.as_slice-sets.result.now c.index-sets-input.result c.deref.result.now
    c.args.input c.requires.grown.1 c.requires.input c.region.view_is c.as_slice-sets.ensures c.index-sets-input.is
    c.deref.ensures in
    let cost = set-costs c.args.region.now c.args.input in
    let room = c.requires.room.cells in
    let same = ap (λ (s : Cells). length s.indexes) is in
    omega (arith, same, cost, room)

pub returns-then-known-sets_of-clause-sets : goal.returns-then-known-sets_of-clause-sets
returns-then-known-sets_of-clause-sets c =
    let old : RowTable = c.requires.grown.0 in
    let is : c.deref.result.now ≡ set_of c.args.region.now c.args.input = given-set (λ a. arc_value a) old
    c.args.table.now c.args.region.now _ c.as_slice-sets.result.now c.index-sets-input.result c.deref.result.now
    c.args.input c.requires.grown.1 c.requires.input c.region.view_is c.as_slice-sets.ensures c.index-sets-input.is
    c.deref.ensures in
    let known = c.keys-known.ensures in
    sets-more old c.args.table.now c.args.region.now c.args.input c.args.files.now _ c.requires.grown.1
    c.requires.input c.requires.grown.2 (omega (arith, known, c.sets_of.ensures.count, c.if-known-sets_of.true))
    (c.file_set.ensures
    ∙ ap (λ (s : Cells). with_filed c.args.files.now.cells s.indexes c.keys-known.result) is
    ∙ ap (with_filed c.args.files.now.cells (set_of c.args.region.now c.args.input).indexes) known)
    (ap (λ (f : Files). f.keys) c.add_key.ensures)

pub returns-then-known-sets_of-clause-cells : goal.returns-then-known-sets_of-clause-cells
returns-then-known-sets_of-clause-cells c =
    let old : RowTable = c.requires.grown.0 in
    let is : c.deref.result.now ≡ set_of c.args.region.now c.args.input = given-set (λ a. arc_value a) old
    c.args.table.now c.args.region.now _ c.as_slice-sets.result.now c.index-sets-input.result c.deref.result.now
    c.args.input c.requires.grown.1 c.requires.input c.region.view_is c.as_slice-sets.ensures c.index-sets-input.is
    c.deref.ensures in
    let cost = set-costs c.args.region.now c.args.input in
    let same = ap (λ (s : Cells). length s.indexes) is in
    let spare = ap (λ (f : Files). f.spare) c.file_set.ensures in
    omega (arith, same, cost, spare)
