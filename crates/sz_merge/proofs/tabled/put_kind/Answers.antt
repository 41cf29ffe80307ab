-- The sets of a kind are those of its runs and of its number.
use Rattle.std.proofs.Common.{◌≡◌, ◌∙◌, [], ◌∷◌, Bool, false, length, refl, sym, ap, subst, not, ◌==◌, arith}
use Rattle.std.proofs.lemmas.Result.{on_ok_weaker}
use Rattle.sz_cells.specs.Extent.{Extent, size_of}
use Rattle.sz_cells.specs.Cells.{Cells}
use Rattle.sz_cells.specs.Runs.{AreRunsFrom}
use Rattle.sz_cells.proofs.Runs.{runs-rising}
use Rattle.sz_region.specs.FullBytes.{Listed}
use Rattle.sz_tables.specs.Rows.{set_at}
use Rattle.sz_tables.specs.Tables.{spelled}
use Rattle.sz_tables.proofs.Longest.{set-of_runs}
use Rattle.sz_merge.specs.Marks.{kind_of, ArePut, IsKindPut}
use Rattle.sz_merge.proofs.Listed.{spelled-own}
use Rattle.sz_merge.proofs.Numbered.{put-more}
use Rattle.sz_merge.proofs.tabled.put_kind.Goals as goal
use Rattle.sz_merge.proofs.tabled.put_kind.Goals.{After-runs}

-- the runs of the number are in order, and spell its set
longest : (c : After-runs) → AreRunsFrom 0 (size_of c.shape.result) c.runs.result.now
longest c =
    subst (λ (e : Extent). AreRunsFrom 0 (size_of e) c.runs.result.now) (sym c.shape.ensures) c.runs.ensures.longest

is : (c : After-runs) → spelled c.shape.result c.runs.result.now ≡ set_at c.args.behind.now.sets c.args.number
is c =
    let e = c.args.behind.now.extent in
    let set = set_at c.args.behind.now.sets c.args.number in
    let runs = c.runs.result.now in
    ap (λ (f : Extent). spelled f runs) c.shape.ensures
    ∙ spelled-own e set runs
    (set-of_runs e set runs c.runs.ensures.extent c.runs.ensures.runs c.runs.ensures.longest) c.runs.ensures.runs

pub invariant_of-set : goal.invariant_of-set
invariant_of-set c = longest (goal.at.invariant_of-set c).After-runs

pub put_set-requires-clause-set : goal.put_set-requires-clause-set
put_set-requires-clause-set c = record {
  extent = refl;
  rising = runs-rising 0 (size_of c.args.out) c.args.group.now c.requires.group;
}

pub put_set-requires-2-clause-few : goal.put_set-requires-2-clause-few
put_set-requires-2-clause-few c = omega (arith, c.in_ok-put_set.ensures.each, c.requires.few)

pub put_set-requires-2-clause-set : goal.put_set-requires-2-clause-set
put_set-requires-2-clause-set c = record {
  extent = refl;
  rising =
      runs-rising 0 (size_of c.shape.result) c.runs.result.now
      (longest (goal.at.put_set-requires-2-clause-set c).After-runs);
}

pub returns : goal.returns
returns c =
    let s = (goal.at.returns c).After-runs in
    let runs = c.args.group.now in
    let set = set_at c.args.behind.now.sets c.args.number in
    let names = c.args.names.now.items in
    let old = c.args.to.now.items in
    let mid = c.put_set.new.names.items in
    let now = c.put_set-2.new.names.items in
    let half = c.put_set.new.to.items in
    let new = c.put_set-2.new.to.items in
    let first : Listed = record { array = 0; set = spelled c.args.out runs } in
    let second : Listed = record { array = 1; set = set } in
    let some : (length runs == 0) ≡ false = sym c.is_empty.ensures ∙ c.if-is_empty.false in
    on_ok_weaker c.put_set-2.result
    (λ put.
    subst (λ (b : Bool). IsKindPut (not b) names now old new (kind_of c.args.out runs set)) (sym some)
    (put-more names mid now old half new (first ∷ []) (second ∷ []) c.in_ok-put_set.ensures
    (subst (λ (x : Cells). ArePut mid now half new (record { array = 1; set = x } ∷ [])) (is s) put)))
    c.put_set-2.ensures
