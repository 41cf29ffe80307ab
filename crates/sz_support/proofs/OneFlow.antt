-- What follows of the cells that are led to by supports, over a flow.
--
-- The key idea: go down from a node to its sources, as for the cells that are reached by the relation; at each node
-- the supporting cells by the old evaluation are enough, so the new evaluation is not asked.
use Rattle.std.proofs.Common.{◌≡◌, ℕ, suc, true, List, map, Some, refl, ap, ◌∙◌, arith}
use Rattle.std.specs.List.{slice_get}
use Rattle.sz_cells.specs.declared.Cell.{Cell}
use Rattle.sz_cells.specs.Extent.{Extent, holds}
use Rattle.sz_spec.specs.declared.flow.Node.{Node}
use Rattle.sz_spec.specs.Values.{Grid, extents_of, extent_at}
use Rattle.sz_spec.specs.Flows.{Graph, array_of, evaluations}
use Rattle.sz_spec.specs.LawsDependence.{CanRun}
use Rattle.sz_spec.specs.Supports.{supports}
use Rattle.sz_spec.proofs.Chains.{inputs-at}
use Rattle.sz_spec.proofs.FlowDependence.{site, step, taken-extent, Local, both-runs, agree-where, local-value}
use Rattle.sz_spec.proofs.FlowDependence.{depends, node-held, path-whole, can-run}
use Rattle.sz_support.specs.LawsSupports.{StepSupports, ValuesDependOnCellsLedTo}
use Rattle.sz_support.proofs.OneOperator.{value-supported}

-- a step leads to a supporting cell
supports-step : (flow : Graph) (base : List Grid) (ins : List Extent) (n i : ℕ) (x : Node) (o y : Cell)
    → slice_get flow.nodes n ≡ Some x
    → extents_of (map (array_of base (evaluations flow base)) x.from) ≡ ins
    → holds (extent_at ins i) y ≡ true
    → supports x.op (map (array_of base (evaluations flow base)) x.from) i o y ≡ true
    → StepSupports flow base (step n i) o y
supports-step flow base ins n i x o y there shapes held passes = (
  x,
  there,
  ap (λ (e : Extent). holds e y) (taken-extent flow base ins n i x there shapes) ∙ held,
  ap (λ (gs : List Grid). supports x.op gs i o y) (inputs-at flow base (evaluations flow base) n x there) ∙ passes,
)

-- each node reads the cells that support its own by the old evaluation
local-supports : (flow : Graph) (old new : List Grid) → CanRun flow old → CanRun flow new
    → extents_of old ≡ extents_of new → Local (StepSupports flow old) (λ x. x ≡ x) flow old new
local-supports flow old new first second same n x o there any held agrees =
    let s = site (extents_of old) (extents_of (evaluations flow old)) n x in
    let both = both-runs flow old new n x first second same there in
    let a : List Grid = map (array_of old (evaluations flow old)) x.from in
    let b : List Grid = map (array_of new (evaluations flow new)) x.from in
    local-value flow old new n x s o first.right there both held
    (λ at_site. value-supported s a b o both.work both.work_new at_site
    (agree-where (StepSupports flow old) (λ i y. supports x.op a i o y) flow old new n x s o there both
    (λ i y there_y passes. supports-step flow old s.ins n i x o y there (both.work).shapes there_y passes) agrees))

pub value-led : ValuesDependOnCellsLedTo
value-led flow old new n o first same held agree =
    let second = can-run flow old new first same in
    let node = node-held flow old n o held in
    depends (StepSupports flow old) (λ x. x ≡ x) flow old new first.right
    (local-supports flow old new first second same) (suc n) n o (omega arith) held
    (λ path joined begins k d inside x there. refl)
    (λ path b cells x joined begins ends led.
    agree b x (path, cells, (path-whole flow path n node.0 first.right node.1 joined begins, begins, ends), led))
