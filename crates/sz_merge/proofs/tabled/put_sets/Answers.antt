-- The key idea: number 0 is no kind, and the number of each set is one above the set's.
use Rattle.std.proofs.Common.{◌≡◌, ◌∙◌, ◌+◌, ◌<◌, ℕ, [], ◌∷◌}
use Rattle.std.proofs.Common.{length, get_or, refl, sym, ap, subst, arith, not, ◌==◌}
use Rattle.sz_cells.specs.Extent.{size_of}
use Rattle.sz_cells.specs.Runs.{AreRunsFrom}
use Rattle.sz_tables.specs.Rows.{set_at}
use Rattle.sz_merge.specs.Lineages.{lists_of}
use Rattle.sz_merge.specs.Marks.{AreSetsPut, kinds_below, kind_of}
use Rattle.sz_merge.proofs.Listed.{list-of-set}
use Rattle.sz_merge.proofs.Numbered.{sets-none, kind-put, kind-few}
use Rattle.sz_merge.proofs.tabled.put_sets.Goals as goal
use Rattle.sz_merge.proofs.tabled.put_sets.Goals.{After-deref}

pub loop-number-init : goal.loop-number-init
loop-number-init c = record {
  put = sets-none c.args.names.now.items c.args.to.now.items c.requires.names;
  few = omega (arith, ap length c.requires.names);
}

-- the cells of the number
group : (c : After-deref) → c.deref.result.now ≡ get_or c.args.groups.now (c.loop-number.number + 1) []
group c = c.deref.ensures.value ∙ c.in_ok-put_runs.ensures

pub put_kind-requires-clause-group : goal.put_kind-requires-clause-group
put_kind-requires-clause-group c =
    let s = (goal.at.put_kind-requires-clause-group c).After-deref in
    let inside : c.loop-number.number + 1 < length c.args.groups.now =
    omega (arith, c.requires.many, c.len-number-end.ensures.count, c.loop-number-test.true) in
    subst (AreRunsFrom 0 (size_of c.args.out)) (sym (group s))
    (c.requires.groups (c.loop-number.number + 1) [] inside)

pub loop-number-preserved : goal.loop-number-preserved
loop-number-preserved c =
    let s = (goal.at.loop-number-preserved c).After-deref in
    let behind = c.args.behind.now in
    let ins = behind.extent ∷ [] in
    let k = c.loop-number.number in
    let inv = c.loop-number.invariant in
    let set = set_at behind.sets k in
    let runs = c.deref.result.now in
    let names = c.loop-number.names.items in
    let now = c.put_kind.new.names.items in
    let mid = c.loop-number.to.items in
    let new = c.put_kind.new.to.items in
    let within : k < length behind.sets = omega (arith, c.len-number-end.ensures.count, c.loop-number-test.true) in
    let more = kind-few (not (length runs == 0)) names now mid new (kind_of c.args.out runs set) refl
    c.in_ok-put_kind.ensures in
    record {
      put =
          kind-put c.args.out c.args.groups.now (lists_of ins behind.sets) (k + 1) names now c.args.to.now.items mid new
          runs set inv.put (group s) (omega arith) (list-of-set ins behind.sets k within) c.in_ok-put_kind.ensures;
      few = omega (arith, more, inv.few);
    }

pub returns-clause-put : goal.returns-clause-put
returns-clause-put c =
    let behind = c.args.behind.now in
    subst (λ (n : ℕ). AreSetsPut c.loop-number.names.items (kinds_below c.args.out c.args.groups.now
    (lists_of (behind.extent ∷ []) behind.sets) n) c.args.to.now.items c.loop-number.to.items)
    (omega (
      arith,
      c.requires.many,
      c.len-number-end.ensures.count,
      c.loop-number.auto.number-end,
      c.loop-number-test.false,
    )) c.loop-number.invariant.put
