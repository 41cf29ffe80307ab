-- The runs are those of the set.
use Rattle.std.proofs.Common.{◌≡◌, ℕ, ◌+◌, ◌-◌, ◌<◌, Bool, true, false, get_or, ap, ap₂, sym, subst, ◌∙◌, refl, arith}
use Rattle.std.specs.List.{list_any, flat_map}
use Rattle.sz_cells.specs.declared.Run.{Run}
use Rattle.sz_cells.specs.Extent.{Extent, size_of, cell_of}
use Rattle.sz_cells.specs.Cells.{has}
use Rattle.sz_cells.specs.Runs.{indexes_of}
use Rattle.sz_cells.proofs.Runs.{runs-at}
use Rattle.sz_region.proofs.Meeting.{any-runs_at}
use Rattle.sz_region.proofs.apart.meets.Goals as goal

pub meets_run-requires-clause-order : goal.meets_run-requires-clause-order
meets_run-requires-clause-order c =
    let runs = c.runs-run-items.result.now in
    let none : Run = record { first = 0; last = 0 } in
    (runs-at 0 (size_of c.args.set.now.extent) runs c.loop-run.run-index none c.runs-run-items.ensures.spelled.longest
    (omega arith)).1

pub meets_run-requires-clause-within : goal.meets_run-requires-clause-within
meets_run-requires-clause-within c =
    let runs = c.runs-run-items.result.now in
    let none : Run = record { first = 0; last = 0 } in
    let within = (runs-at 0 (size_of c.args.set.now.extent) runs c.loop-run.run-index none
    c.runs-run-items.ensures.spelled.longest (omega arith)).2 in
    omega (arith, ap size_of c.requires)

pub returns-then-meets_run : goal.returns-then-meets_run
returns-then-meets_run c =
    let bits = c.args.bits.now in
    let set = c.args.set.now in
    let runs = c.runs-run-items.result.now in
    let none : Run = record { first = 0; last = 0 } in
    let test : Extent → ℕ → Bool = λ e k. has bits (cell_of e k) in
    let there : list_any (test set.extent) (indexes_of (get_or runs c.loop-run.run-index none)) ≡ true =
    ap (λ (e : Extent). list_any (test e) (indexes_of (get_or runs c.loop-run.run-index none))) c.requires
    ∙ sym c.meets_run.ensures ∙ c.if-meets_run.true in
    sym (ap (list_any (test set.extent)) (sym c.runs-run-items.ensures.spelled.spelled)
    ∙ any-runs_at (test set.extent) runs c.loop-run.run-index none (omega arith) there)
