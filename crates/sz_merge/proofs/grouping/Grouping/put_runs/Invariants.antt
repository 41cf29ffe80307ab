-- The cells before the told one are in the runs.
use Rattle.std.proofs.Common.{◌+◌, ◌-◌, ◌==◌, length, get_or, if◌then◌else◌}
use Rattle.sz_merge.specs.Links.{cells_told}
use Rattle.sz_merge.proofs.Grouped.{HaveWalked}
use Rattle.sz_merge.proofs.grouping.Grouping.put_runs.Given as goal

abbrev pub invariant-loop-told : goal.invariant-loop-told
invariant-loop-told l =
    let next = l.self-inside.next.items in
    HaveWalked next (cells_told (length next) next (get_or l.self-inside.first.items l.number 0)) l.told l.runs.items

-- what is told rises, and at the end nothing is told
abbrev pub decreases-loop-told : goal.decreases-loop-told
decreases-loop-told l = if l.told == 0 then 0 else length l.self-inside.next.items + 1 - l.told
