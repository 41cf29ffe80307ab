-- Each run gets the room that it needs, and the runs spell the set.
use Rattle.std.proofs.Common.{◌≡◌, ◌+◌, ◌-◌, ◌≤◌, ◌++◌, ℕ, List, take, get_or, refl, sym, ap, ◌∙◌, arith, append-nil}
use Rattle.std.specs.List.{flat_map}
use Rattle.std.proofs.lemmas.List.{take_all}
use Rattle.std.proofs.lemmas.List.FromFn.{length-range_with_len}
use Rattle.sz_cells.specs.declared.Run.{Run}
use Rattle.sz_cells.specs.Cells.{Cells}
use Rattle.sz_cells.specs.Extent.{size_of}
use Rattle.sz_cells.specs.Runs.{AreRunsFrom, indexes_of}
use Rattle.sz_cells.proofs.Runs.{runs-at}
use Rattle.sz_tables.specs.Entries.{entries, entry_at}
use Rattle.sz_tables.specs.Filed.{Files}
use Rattle.sz_tables.specs.Rows.{set_at}
use Rattle.sz_tables.proofs.MetRuns.{set-spelled}
use Rattle.sz_payload.specs.Owned.{rests}
use Rattle.sz_payload.proofs.Filing.{rests-run}
use Rattle.sz_payload.proofs.Owning.{runs-longest}
use Rattle.sz_payload.proofs.owner.file_row.Goals as goal
use Rattle.sz_payload.proofs.owner.file_row.Goals.{After-out_runs-runs}

-- the runs are the longest ones of the row's set
longest : (c : After-out_runs-runs) → AreRunsFrom 0 (size_of c.args.table.now.out) c.out_runs-runs.result.now
longest c =
    runs-longest c.args.table.now.out (set_at c.args.table.now.sets c.set_number.result)
    c.out_runs-runs.result.now c.out_runs-runs.ensures.set c.out_runs-runs.ensures.runs

-- a run ends within the shape, and not before it begins
pub overflow_sub-run : goal.overflow_sub-run
overflow_sub-run c =
    let s = (goal.at.overflow_sub-run c).After-out_runs-runs in
    (runs-at 0 (size_of c.args.table.now.out) c.out_runs-runs.result.now c.loop-run.run-index
    (record { first = 0; last = 0 }) (longest s) c.loop-run-test.true).1

pub overflow_add-run : goal.overflow_add-run
overflow_add-run c =
    let s = (goal.at.overflow_add-run c).After-out_runs-runs in
    let at = runs-at 0 (size_of c.args.table.now.out) c.out_runs-runs.result.now c.loop-run.run-index
    (record { first = 0; last = 0 }) (longest s) c.loop-run-test.true in
    omega (arith, at.2, c.size.ensures.few, c.size.ensures.value, ap size_of c.shape-shape.ensures)

pub loop-run-init : goal.loop-run-init
loop-run-init c = record {
  keys = refl;
  filed = sym (append-nil c.args.files.now.entries);
}

pub file_run-requires : goal.file_run-requires
file_run-requires c =
    let none : Run = record { first = 0; last = 0 } in
    let s = (goal.at.file_run-requires c).After-out_runs-runs in
    let runs = c.out_runs-runs.result.now in
    let run = get_or runs c.loop-run.run-index none in
    let at = runs-at 0 (size_of c.args.table.now.out) runs c.loop-run.run-index none (longest s)
    c.loop-run-test.true in
    let size : size_of c.args.table.now.out ≤ 1048576 =
    omega (arith, c.size.ensures.few, c.size.ensures.value, ap size_of c.shape-shape.ensures) in
    record {
      keys = omega (arith, c.reserve_cells.ensures.keys, c.loop-run.invariant.keys, c.requires.keys);
      order = at.1;
      few = omega (arith, at.2, size);
      room = omega (
        arith,
        c.in_ok-reserve_cells.ensures.room,
        length-range_with_len run.first (run.last - run.first + 1),
      );
    }

pub loop-run-preserved : goal.loop-run-preserved
loop-run-preserved c =
    let none : Run = record { first = 0; last = 0 } in
    let runs = c.out_runs-runs.result.now in
    let i = c.loop-run.run-index in
    let inv = c.loop-run.invariant in
    let keys : c.reserve_cells.new.files.keys ≡ c.args.files.now.keys = c.reserve_cells.ensures.keys ∙ inv.keys in
    let before = c.reserve_cells.ensures.entries ∙ inv.filed in
    let now = ap (λ (f : Files). f.entries) c.file_run.ensures in
    record {
      keys = ap (λ (f : Files). f.keys) c.file_run.ensures ∙ keys;
      filed = rests-run c.args.files.now.keys c.args.files.now.entries c.file_run.new.files.entries
          c.reserve_cells.new.files.entries runs i c.args.row none c.loop-run-test.true before
          (now
          ∙ ap (λ (m : ℕ). c.reserve_cells.new.files.entries ++ rests m (indexes_of (get_or runs i none)) c.args.row)
          keys);
    }

pub returns-clause-filed : goal.returns-clause-filed
returns-clause-filed c =
    let runs = c.out_runs-runs.result.now in
    let out = c.args.table.now.out in
    let set = set_at c.args.table.now.sets c.set_number.result in
    let e = entry_at (entries c.args.table.now) c.args.row in
    let all : flat_map indexes_of (take c.loop-run.run-index runs) ≡ e.out.indexes =
    ap (λ (rs : List Run). flat_map indexes_of rs)
    (take_all c.loop-run.run-index runs c.loop-run-test.false ∙ c.out_runs-runs.ensures.runs)
    ∙ (set-spelled out set c.out_runs-runs.ensures.set).spelled
    ∙ ap (λ (s : Cells). s.indexes) (sym c.set_number.ensures.set) in
    c.loop-run.invariant.filed
    ∙ ap (λ (ks : List ℕ). c.args.files.now.entries ++ rests c.args.files.now.keys ks c.args.row) all
