-- The cells of one more entry are added and counted.
use Rattle.std.proofs.Common.{◌≡◌, ◌+◌, ◌≤◌, ℕ, length, take, sym, ap, subst, ◌∙◌, refl, arith}
use Rattle.sz_cells.specs.Extent.{size_of}
use Rattle.sz_cells.specs.Runs.{AreRunsFrom}
use Rattle.sz_tables.specs.Entries.{entries}
use Rattle.sz_tables.specs.Rows.{set_at}
use Rattle.sz_tables.proofs.Counting.{IsCounted, counted-row, too-many}
use Rattle.sz_tables.proofs.MetRuns.{runs-fit}
use Rattle.sz_tables.proofs.apart.are_apart.Goals as goal
use Rattle.sz_tables.proofs.apart.are_apart.Goals.{After-cells_of_runs-count}

pub add_runs-requires : goal.add_runs-requires
add_runs-requires c =
    let t = c.args.table.now in
    runs-fit t.out c.loop-row.seen.extent (set_at t.sets c.set_number.result) c.out_runs-runs.result.now
    c.out_runs-runs.ensures.set c.loop-row.invariant.shape c.out_runs-runs.ensures.runs

pub cells_of_runs-count-requires-clause-longest : goal.cells_of_runs-count-requires-clause-longest
cells_of_runs-count-requires-clause-longest c =
    let t = c.args.table.now in
    let size : size_of t.out ≡ c.size-size.result =
    sym (c.size-size.ensures.value ∙ ap size_of c.shape-shape.ensures) in
    subst (λ (n : ℕ). AreRunsFrom 0 n c.out_runs-runs.result.now) size
    (runs-fit t.out t.out (set_at t.sets c.set_number.result) c.out_runs-runs.result.now
    c.out_runs-runs.ensures.set refl c.out_runs-runs.ensures.runs)

-- what was seen and counted with one row more
more : (c : After-cells_of_runs-count) → IsCounted c.add_runs.new.to (take (c.loop-row.row + 1) (entries
    c.args.table.now)) (c.loop-row.count + c.cells_of_runs-count.result)
    × (length c.add_runs.new.to.indexes ≤ size_of c.args.table.now.out)
    × (c.add_runs.new.to.extent ≡ c.args.table.now.out)
more c =
    let t = c.args.table.now in
    counted-row t.out c.loop-row.seen (set_at t.sets c.set_number.result) c.add_runs.new.to (entries t)
    c.loop-row.row c.loop-row.count c.cells_of_runs-count.result c.out_runs-runs.result.now
    (omega (arith, c.loop-row-test.true, c.len-row-end.ensures.entries)) c.set_number.ensures.set
    c.out_runs-runs.ensures.set c.out_runs-runs.ensures.runs c.cells_of_runs-count.ensures.count
    c.a_bitmap_is_its_cells.ensures.cells c.loop-row.invariant.shape c.add_runs.ensures c.loop-row.invariant.counted

pub returns-then-size-count : goal.returns-then-size-count
returns-then-size-count c =
    let s = (goal.at.returns-then-size-count c).After-cells_of_runs-count in
    let now = more s in
    too-many c.add_runs.new.to (entries c.args.table.now) (c.loop-row.row + 1)
    (c.loop-row.count + c.cells_of_runs-count.result) (size_of c.args.table.now.out) now.0 now.1
    (omega (arith, c.if-size-count.true, c.size-size.ensures.value, ap size_of c.shape-shape.ensures))

pub loop-row-preserved : goal.loop-row-preserved
loop-row-preserved c =
    let now = more (goal.at.loop-row-preserved c).After-cells_of_runs-count in
    record {
      shape = now.2;
      few = omega (arith, c.if-size-count.false, c.size-size.ensures.value, ap size_of c.shape-shape.ensures);
      counted = now.0;
    }
