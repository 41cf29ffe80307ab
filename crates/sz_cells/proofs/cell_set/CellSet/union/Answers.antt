-- A step takes the run that begins first: none of those that are left begins before it.
use Rattle.std.proofs.Common.{get_or, subst, sym, refl}
use Rattle.sz_cells.specs.declared.Run.{Run}
use Rattle.sz_cells.specs.Extent.{Extent, size_of}
use Rattle.sz_cells.specs.Runs.{AreRunsFrom}
use Rattle.sz_cells.proofs.Runs.{Added}
use Rattle.sz_cells.proofs.Merging.{merged-none, merged-left, merged-right, merged-next, merged-next_right, merged-all}
use Rattle.sz_cells.proofs.Merging.{union-spelled}
use Rattle.sz_cells.proofs.cell_set.CellSet.union.Goals as goal

pub loop-from_left-init : goal.loop-from_left-init
loop-from_left-init c =
    merged-none (size_of c.args.self.now.extent) c.runs-left.result.now c.runs-right.result.now c.new-runs.result.items
    c.runs-left.ensures.spelled.longest
    (subst (λ (e : Extent). AreRunsFrom 0 (size_of e) c.runs-right.result.now) c.requires
    c.runs-right.ensures.spelled.longest) c.new-runs.ensures.items

pub add_run-requires : goal.add_run-requires
add_run-requires c =
    let next =
    merged-next (size_of c.args.self.now.extent) c.runs-left.result.now c.runs-right.result.now
    c.loop-from_left.runs.items c.loop-from_left.from_left c.loop-from_left.from_right
    c.loop-from_left.invariant (c.if-is_left_next.ensures.left refl) in
    record { order = next.0; later = next.1 }

pub add_run-requires-else-is_left_next : goal.add_run-requires-else-is_left_next
add_run-requires-else-is_left_next c =
    let next =
    merged-next_right (size_of c.args.self.now.extent) c.runs-left.result.now c.runs-right.result.now
    c.loop-from_left.runs.items c.loop-from_left.from_left
    c.loop-from_left.from_right c.loop-from_left.invariant (c.if-is_left_next.ensures.right refl) in
    record { order = next.0; later = next.1 }

pub loop-from_left-preserved-then-is_left_next : goal.loop-from_left-preserved-then-is_left_next
loop-from_left-preserved-then-is_left_next c =
    let next : Run = get_or c.runs-left.result.now c.loop-from_left.from_left (record { first = 0; last = 0 }) in
    let said = c.in_ok-add_run.ensures in
    let added : Added c.loop-from_left.runs.items c.add_run.new.runs.items next = record {
      longest = said.longest;
      begun = said.begun;
      added = said.added;
    } in
    merged-left (size_of c.args.self.now.extent) c.runs-left.result.now c.runs-right.result.now
    c.loop-from_left.runs.items c.add_run.new.runs.items c.loop-from_left.from_left
    c.loop-from_left.from_right c.loop-from_left.invariant (c.if-is_left_next.ensures.left refl)
    (c.if-is_left_next.ensures.before refl) added

pub loop-from_left-preserved : goal.loop-from_left-preserved
loop-from_left-preserved c =
    let next : Run = get_or c.runs-right.result.now c.loop-from_left.from_right (record { first = 0; last = 0 }) in
    let said = c.in_ok-add_run-2.ensures in
    let added : Added c.loop-from_left.runs.items c.add_run-else-is_left_next.new.runs.items next =
    record { longest = said.longest; begun = said.begun; added = said.added } in
    merged-right (size_of c.args.self.now.extent) c.runs-left.result.now c.runs-right.result.now
    c.loop-from_left.runs.items c.add_run-else-is_left_next.new.runs.items
    c.loop-from_left.from_left c.loop-from_left.from_right c.loop-from_left.invariant (c.if-is_left_next.ensures.right
    refl) (c.if-is_left_next.ensures.after refl) added

pub returns : goal.returns
returns c =
    rw (c.from_runs.ensures, c.shape.ensures.value)
    (sym
    (union-spelled c.args.self.now c.args.other.now c.runs-left.result.now c.runs-right.result.now
    c.loop-from_left.runs.items c.requires c.runs-left.ensures.spelled
    c.runs-right.ensures.spelled c.loop-from_left.invariant.longest
    (merged-all (size_of c.args.self.now.extent) c.runs-left.result.now c.runs-right.result.now
    c.loop-from_left.runs.items c.loop-from_left.from_left c.loop-from_left.from_right
    c.loop-from_left.invariant c.if-from_left-left.false c.if-from_right-right.false)))
