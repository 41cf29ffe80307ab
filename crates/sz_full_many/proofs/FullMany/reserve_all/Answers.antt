-- The rectangles stay as they were, and the room of each part is large enough.
use Rattle.std.proofs.Common.{◌≡◌, ◌≤◌, ℕ, List, length, drop, map, get_or, All}
use Rattle.std.proofs.Common.{refl, ap, sym, subst, arith}
use Rattle.std.specs.Arc.{arc_value}
use Rattle.std.proofs.lemmas.List.{take_at, length-map}
use Rattle.std.proofs.lemmas.Result.{on_ok_weaker}
use Rattle.sz_frame.specs.Parts.{Pairing}
use Rattle.sz_spec.specs.Shapes.{Site}
use Rattle.sz_rtree.specs.Rectangles.{Rectangles}
use Rattle.sz_tables.specs.Rows.{RowTable, pairings}
use Rattle.sz_tables.specs.Stores.{Store}
use Rattle.sz_full_many.proofs.Looked.{round-long}
use Rattle.sz_full_many.proofs.Indexing.{arity-few, pair-long, room-from, indexed-kept}
use Rattle.sz_full_many.proofs.FullMany.reserve_all.Goals as goal

pub runs_of_all-runs-requires-clause-inputs : goal.runs_of_all-runs-requires-clause-inputs
runs_of_all-runs-requires-clause-inputs c k d inside =
    let rs : List Pairing = map (λ a. arc_value a) c.args.regions.now in
    let long = pair-long c.args.self.now.site (get_or rs k d) (c.requires.pairs k d inside) in
    let seen : length (arc_value c.self.inside.at).ins ≡ length c.args.self.now.site.ins =
    ap (λ (s : Store Pairing). length s.site.ins) c.self.view_is in
    let own = ap (λ (s : Site). length s.ins) c.deref.ensures in
    omega (arith, long, seen, own, c.ins.ensures.arity, arity-few c.deref.result.now.op)

pub reserve_trees-requires : goal.reserve_trees-requires
reserve_trees-requires c = rw c.deref_mut.ensures.value (λ k d inside.
    let round = c.self.invariant.round k d inside in
    let rectangles = (get_or c.self.inside.trees.items k d).rectangles in
    let long = round-long c.self.inside.dir k (pairings c.self.inside.table) rectangles round in
    let given : length (pairings c.self.inside.table) ≡ length c.args.self.now.given =
    ap (λ (s : Store Pairing). length s.given) c.self.view_is in
    omega (arith, long, given, c.requires.few))

pub invariant_of-self : goal.invariant_of-self
invariant_of-self c =
    let trees = c.self.inside.trees.items in
    let new = c.reserve_trees.new.trees in
    let back = take_at new (drop (length new) trees) c.self.inside.trees.len (omega arith) in
    let t = c.self.inside.table in
    rw back
    (indexed-kept (arc_value c.self.inside.at) c.self.inside.dir t t trees new c.self.invariant refl refl refl
    (rw c.deref_mut.ensures.value at c.reserve_trees.ensures.kept))

pub reserve-requires-clause-inputs : goal.reserve-requires-clause-inputs
reserve-requires-clause-inputs c =
    let own = ap (λ (s : Site). length s.ins) c.deref.ensures in
    let table = ap length c.self.invariant.ins in
    omega (arith, own, table, c.ins.ensures.arity, arity-few c.deref.result.now.op)

pub invariant_of-self-2 : goal.invariant_of-self-2
invariant_of-self-2 c =
    let trees = c.self.inside.trees.items in
    let new = c.reserve_trees.new.trees in
    let back = take_at new (drop (length new) trees) c.self.inside.trees.len (omega arith) in
    let kept = c.reserve.ensures.kept in
    rw back
    (indexed-kept (arc_value c.self.inside.at) c.self.inside.dir c.self.inside.table c.reserve.new.self trees new
    c.self.invariant (ap (λ (t : RowTable). t.out) kept) (ap (λ (t : RowTable). t.ins) kept) (ap pairings kept)
    (rw c.deref_mut.ensures.value at c.reserve_trees.ensures.kept))

pub returns-clause-ok : goal.returns-clause-ok
returns-clause-ok c =
    let trees = c.self.inside.trees.items in
    let new = c.reserve_trees.new.trees in
    let rs : List Pairing = map (λ a. arc_value a) c.args.regions.now in
    let back = take_at new (drop (length new) trees) c.self.inside.trees.len (omega arith) in
    let count : length c.args.regions.now ≡ length rs = sym (length-map c.args.regions.now (λ a. arc_value a)) in
    let ready : All (λ (t : Rectangles). length rs ≤ t.spare) new =
    subst (λ (n : ℕ). All (λ (t : Rectangles). n ≤ t.spare) new) count c.in_ok-reserve_trees.ensures.ok in
    rw back
    (on_ok_weaker c.reserve.result
    (λ made.
    let rows = ap (λ (t : RowTable). t.spare_rows) made in
    let more = ap (λ (t : RowTable). t.spare_runs) made in
    record {
      items = room-from (length rs) c.reserve.new.self.spare_rows new (omega (arith, rows, count)) ready;
      runs = omega (arith, c.runs_of_all-runs.ensures.runs, more);
      cells = omega (arith, c.runs_of_all-runs.ensures.cells, more);
      bytes = omega arith;
    })
    c.reserve.ensures.ok)
