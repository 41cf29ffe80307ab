-- Each run in turn is computed, and its cells are counted.
use Rattle.std.proofs.Common.{◌≡◌, ℕ, ◌+◌, ◌<◌, List, map, take, drop, length, get_or, ◌++◌, Option, None, sym}
use Rattle.std.proofs.Common.{ap, subst, ◌∙◌, arith}
use Rattle.std.specs.Prelude.{ℤ}
use Rattle.std.specs.Arc.{arc_value}
use Rattle.std.proofs.Math.Seq.{take-append_seam}
use Rattle.sz_cells.specs.declared.Run.{Run}
use Rattle.sz_cells.specs.Extent.{Extent, size_of}
use Rattle.sz_cells.proofs.Runs.{runs-at, spelled-more}
use Rattle.sz_spec.specs.Values.{Grid}
use Rattle.sz_refresh.proofs.Outputs.{IsComputed, computed-next, computed-all, room-left}
use Rattle.sz_refresh.proofs.output.Renewal.values_in_turn.Goals as goal

-- what stands where no run does
abbrev zero : Run
zero = record { first = 0; last = 0 }

pub compute-requires-clause-order : goal.compute-requires-clause-order
compute-requires-clause-order c =
    (runs-at 0 (size_of c.args.self.now.cells.now.extent) c.runs-run-items.result.now c.loop-run.run-index zero
    c.runs-run-items.ensures.spelled.longest c.loop-run-test.true).1

pub compute-requires-clause-within : goal.compute-requires-clause-within
compute-requires-clause-within c =
    let r = get_or c.runs-run-items.result.now c.loop-run.run-index zero in
    subst (λ (e : Extent). r.last < size_of e) c.args.self.now.within
    (runs-at 0 (size_of c.args.self.now.cells.now.extent) c.runs-run-items.result.now c.loop-run.run-index zero
    c.runs-run-items.ensures.spelled.longest c.loop-run-test.true).2

pub compute-requires-clause-room : goal.compute-requires-clause-room
compute-requires-clause-room c =
    let set = c.args.self.now.cells.now in
    let same : size_of set.extent ≡ size_of c.args.self.now.at.now.out = ap size_of c.args.self.now.within in
    omega (
      arith,
      c.requires.room,
      c.loop-run.invariant.1,
      same,
      room-left (size_of set.extent)
          c.runs-run-items.result.now c.loop-run.run-index zero
          c.runs-run-items.ensures.spelled.longest c.loop-run-test.true,
    )

pub loop-run-preserved : goal.loop-run-preserved
loop-run-preserved c =
    let s = c.args.self.now.at.now in
    let inputs : List Grid = map (λ a. arc_value a) c.args.self.now.inputs.now in
    let runs = c.runs-run-items.result.now in
    let n = c.loop-run.run-index in
    let inv = c.loop-run.invariant in
    let new = c.compute.new.values in
    let held : length c.deref_mut.result.now ≡ c.loop-run.values.len = c.deref_mut.ensures.len in
    let whole : c.loop-run.values.len ≡ length new = sym held ∙ sym c.compute.auto.values in
    let items : take c.loop-run.values.len (new ++ drop (length new) c.loop-run.values.items) ≡ new =
    ap (λ (m : ℕ). take m (new ++ drop (length new) c.loop-run.values.items)) whole
    ∙ take-append_seam new (drop (length new) c.loop-run.values.items) in
    let same : length new ≡ length c.loop-run.values.items =
    c.compute.auto.values ∙ ap (λ (vs : List (Option ℤ)). length vs) c.deref_mut.ensures.value in
    let next = computed-next s inputs c.args.self.now.old.now.values c.loop-run.values.items new runs n zero inv.0
    c.loop-run-test.true same c.compute.ensures.inside
    (λ k out.
    c.compute.ensures.outside k out
    ∙ ap (λ (vs : List (Option ℤ)). get_or vs k None) c.deref_mut.ensures.value) in (
      subst (λ (vs : List (Option ℤ)). IsComputed s inputs c.args.self.now.old.now.values vs runs (n + 1)) (sym items)
          next,
      omega (arith, c.compute.ensures.ticks, inv.1, spelled-more runs n zero c.loop-run-test.true),
    )

pub returns-clause-values : goal.returns-clause-values
returns-clause-values c =
    let s = c.args.self.now.at.now in
    let inputs : List Grid = map (λ a. arc_value a) c.args.self.now.inputs.now in
    let runs = c.runs-run-items.result.now in
    let all : c.loop-run.run-index ≡ length runs =
    omega (arith, c.loop-run-test.false, c.loop-run.auto.run-index-end) in
    computed-all s inputs c.args.self.now.old.now c.loop-run.values.items runs c.args.self.now.cells.now
    (subst (λ (m : ℕ). IsComputed s inputs c.args.self.now.old.now.values c.loop-run.values.items runs m) all
    c.loop-run.invariant.0) c.runs-run-items.ensures.spelled c.args.self.now.within c.args.self.now.others
