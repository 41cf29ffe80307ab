-- Node by node.
use Rattle.std.proofs.Common.{◌≡◌, ◌<◌, ◌≤◌, List, map, take, length, Some, refl, ap, subst, ◌∙◌, arith}
use Rattle.std.proofs.Common.{Option, option_map}
use Rattle.std.specs.List.{slice_get}
use Rattle.std.specs.Arc.{arc_value}
use Rattle.std.proofs.lemmas.List.{length-map, take_all}
use Rattle.std.proofs.lemmas.Option.{slice_get-map, slice_get_read}
use Rattle.sz_spec.specs.declared.modes.Strategy.{Strategy}
use Rattle.sz_spec.specs.Shapes.{Site}
use Rattle.sz_flow.specs.Executions.{Execution, execution_of}
use Rattle.sz_store.specs.Kept.{NodeLineage}
use Rattle.sz_recover.specs.Comparing.{IsListAt}
use Rattle.sz_bodies.specs.Fitting.{FitNodes, lineages}
use Rattle.sz_recover.specs.Opened.{HasItsStores}
use Rattle.sz_recover.specs.Soundness.{AreSoundNodes, TellsOfNode}
use Rattle.sz_bodies.proofs.NodesPut.{fit-length}
use Rattle.sz_recover.proofs.WrongNodes.{fits-at, zip-at, all-of, nodes-more, node-wrong}
use Rattle.sz_recover.proofs.checking.wrong_of_nodes.Given.{Over}
use Rattle.sz_recover.proofs.checking.wrong_of_nodes.Goals.{After-index-nodes-node}
use Rattle.sz_recover.proofs.checking.wrong_of_nodes.Goals as goal

-- there are as many executions, lists and stores
as-many : (es : List Execution) (lists : List (List Strategy)) (kept : List (Option NodeLineage))
    → FitNodes (map (λ (e : Execution). e.site) es) lists kept
    → (length es ≡ length kept) × (length lists ≡ length kept)
as-many es lists kept fit =
    let sites : List Site = map (λ (e : Execution). e.site) es in
    let fits = fit-length sites lists kept fit in
    (omega (arith, fits.1, length-map es (λ (e : Execution). e.site)), omega (arith, fits.0))

pub bounds-runs-node : goal.bounds-runs-node
bounds-runs-node g c =
    let runs = c.args.runs.now in
    let stores = c.args.nodes.now in
    let many = as-many (map execution_of runs) c.args.lists.now (lineages stores) c.requires.fit in
    let long = length-map stores (option_map (λ a. arc_value a)) in
    omega (arith, c.loop-node-test.true, many.0, length-map runs execution_of, long)

pub bounds-lists-node : goal.bounds-lists-node
bounds-lists-node g c =
    let stores = c.args.nodes.now in
    let many = as-many (map execution_of c.args.runs.now) c.args.lists.now (lineages stores) c.requires.fit in
    omega (arith, c.loop-node-test.true, many.1, length-map stores (option_map (λ a. arc_value a)))

-- what was executed at the node, its list and its stores
record IsAt (g : Over) (c : After-index-nodes-node g) : Type 0 where
  pub executed : slice_get (map execution_of c.args.runs.now) c.loop-node.node
      ≡ Some (execution_of c.index-runs-node.result)
  pub listed : slice_get c.args.lists.now c.loop-node.node ≡ Some c.index-lists-node.result
  pub stored : slice_get (lineages c.args.nodes.now) c.loop-node.node
      ≡ Some (option_map (λ a. arc_value a) c.index-nodes-node.result)

is-at : (g : Over) (c : After-index-nodes-node g) → IsAt g c
is-at g c =
    let runs = c.args.runs.now in
    let lists = c.args.lists.now in
    let stores = c.args.nodes.now in
    let n = c.loop-node.node in
    let many = as-many (map execution_of runs) lists (lineages stores) c.requires.fit in
    let long = length-map stores (option_map (λ a. arc_value a)) in
    let low : n < length runs = omega (arith, c.loop-node-test.true, many.0, length-map runs execution_of, long) in
    let below : n < length lists = omega (arith, c.loop-node-test.true, many.1, long) in
    record {
      executed =
          slice_get-map execution_of runs n
          ∙ ap (option_map execution_of)
          (slice_get_read runs (length runs) n c.index-runs-node.result refl low c.index-runs-node.is);
      listed = slice_get_read lists (length lists) n c.index-lists-node.result refl below c.index-lists-node.is;
      stored =
          slice_get-map (option_map (λ a. arc_value a)) stores n
          ∙ ap (option_map (option_map (λ a. arc_value a)))
          (slice_get_read stores (length stores) n c.index-nodes-node.result refl c.loop-node-test.true
          c.index-nodes-node.is);
    }

pub wrong_of_node-requires-clause-fits : goal.wrong_of_node-requires-clause-fits
wrong_of_node-requires-clause-fits g c κs within =
    let at = is-at g (goal.at.wrong_of_node-requires-clause-fits g c).After-index-nodes-node in
    fits-at c.loop-node.node (map execution_of c.args.runs.now) c.args.lists.now (lineages c.args.nodes.now)
    (execution_of c.index-runs-node.result) c.index-lists-node.result
    (option_map (λ a. arc_value a) c.index-nodes-node.result) c.requires.fit at.executed at.listed at.stored

pub wrong_of_node-requires-clause-stored : goal.wrong_of_node-requires-clause-stored
wrong_of_node-requires-clause-stored g c κs within =
    let at = is-at g (goal.at.wrong_of_node-requires-clause-stored g c).After-index-nodes-node in
    all-of HasItsStores (lineages c.args.nodes.now) c.loop-node.node
    (option_map (λ a. arc_value a) c.index-nodes-node.result) c.requires.stored at.stored

pub wrong_of_node-requires-clause-list : goal.wrong_of_node-requires-clause-list
wrong_of_node-requires-clause-list g c κs within =
    let at = is-at g (goal.at.wrong_of_node-requires-clause-list g c).After-index-nodes-node in
    zip-at IsListAt c.loop-node.node (map execution_of c.args.runs.now) c.args.lists.now
    (execution_of c.index-runs-node.result) c.index-lists-node.result c.requires.lists at.executed at.listed

pub returns-in-Some : goal.returns-in-Some
returns-in-Some g c =
    let at = is-at g (goal.at.returns-in-Some g c).After-index-nodes-node in
    let e = execution_of c.index-runs-node.result in
    let kept = option_map (λ a. arc_value a) c.index-nodes-node.result in
    let told : TellsOfNode e kept (Some c.in-Some.s) =
    subst (λ (o : Option Strategy). TellsOfNode e kept o) c.in-Some.is c.in_ok-found.ensures in
    node-wrong c.loop-node.node (map execution_of c.args.runs.now) (lineages c.args.nodes.now) e kept c.in-Some.s
    at.executed at.stored c.loop-node.invariant told

pub loop-node-preserved : goal.loop-node-preserved
loop-node-preserved g c =
    let at = is-at g (goal.at.loop-node-preserved g c).After-index-nodes-node in
    let e = execution_of c.index-runs-node.result in
    let kept = option_map (λ a. arc_value a) c.index-nodes-node.result in
    nodes-more c.loop-node.node (map execution_of c.args.runs.now) (lineages c.args.nodes.now) e kept at.executed
    at.stored c.loop-node.invariant
    (subst (λ (o : Option Strategy). TellsOfNode e kept o) c.in_default.is c.in_ok-found.ensures)

pub returns : goal.returns
returns g c =
    let stores = c.args.nodes.now in
    let n = c.loop-node.node in
    let es = map execution_of c.args.runs.now in
    let many = as-many es c.args.lists.now (lineages stores) c.requires.fit in
    let end : length (lineages stores) ≤ n =
    omega (arith, c.loop-node-test.false, length-map stores (option_map (λ a. arc_value a))) in
    let long : length es ≤ n = omega (arith, end, many.0) in
    subst (λ (xs : List Execution). AreSoundNodes xs (lineages stores)) (take_all n es long)
    (subst (λ (ks : List (Option NodeLineage)). AreSoundNodes (take n es) ks) (take_all n (lineages stores) end)
    c.loop-node.invariant)
