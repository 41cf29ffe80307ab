-- The views are those that the trail gives for the path, so each step can be taken, and no more is traced than 32
-- outputs have.
use Rattle.std.proofs.Common.{◌≡◌, ℕ, List, map, sym, ap, ap₂, ◌∙◌, arith, length}
use Rattle.sz_cells.specs.Extent.{Extent}
use Rattle.sz_cells.specs.Cells.{Cells, named_in}
use Rattle.sz_spec.specs.Paths.{Step}
use Rattle.sz_query.specs.Views.{View}
use Rattle.sz_script.specs.declared.command.NamedCell.{NamedCell}
use Rattle.sz_catalogue.specs.Starts.{cell_named, path_start}
use Rattle.sz_versions.specs.Along.{views_along}
use Rattle.sz_versions.specs.Searches.{Search}
use Rattle.sz_versions.proofs.PathViews.{joined-there, joined-parts, path-starts}
use Rattle.sz_versions.proofs.Along.{along-length}
use Rattle.sz_versions.proofs.Still.{trail-same}
use Rattle.sz_versions.proofs.finding.inquiry_along.Goals as goal

pub views_of-requires-clause-there : goal.views_of-requires-clause-there
views_of-requires-clause-there c =
    let parts = joined-parts c.args.dir c.args.version.now.flow c.args.path.now c.requires.joined in
    rw c.as_slice-steps.ensures (joined-there c.args.dir c.args.version.now.flow c.args.path.now parts.2)

pub invariant_of-result : goal.invariant_of-result
invariant_of-result c =
    let v = c.args.version.now in
    let dir = c.args.dir in
    let path = c.args.path.now in
    let t = c.args.run.now in
    let views = rw c.as_slice-steps.ensures at c.in_ok-views.ensures.views in
    let few = rw c.as_slice-steps.ensures at c.in_ok-views.ensures.few in
    let parts = joined-parts dir v.flow path c.requires.joined in
    let long = ap (λ (ws : List View). length ws) views ∙ along-length v dir path t in
    let inputs = c.in_ok-inputs.ensures ∙ ap (map (λ (s : Step). s.input)) c.as_slice-steps.ensures in
    let from : c.in_ok-cells.cells.extent ≡ path_start dir v path =
    ap (λ (x : Cells). x.extent) c.in_ok-cells.ensures ∙ c.start_of-start.ensures
    ∙ sym (path-starts v dir path c.index-steps-0.result parts.0 (rw c.as_slice-steps.ensures at c.index-steps-0.is)) in
    record {
      path = (omega (arith, long, parts.0), omega (arith, long, parts.1));
      steps = rw (views, inputs, from) c.requires.steps;
      few = omega (arith, few, parts.1);
    }

pub returns-clause-search : goal.returns-clause-search
returns-clause-search c =
    let v = c.args.version.now in
    let dir = c.args.dir in
    let path = c.args.path.now in
    let views = rw c.as_slice-steps.ensures at c.in_ok-views.ensures.views in
    let parts = joined-parts dir v.flow path c.requires.joined in
    let inputs = c.in_ok-inputs.ensures ∙ ap (map (λ (s : Step). s.input)) c.as_slice-steps.ensures in
    let start = c.start_of-start.ensures
    ∙ sym (path-starts v dir path c.index-steps-0.result parts.0 (rw c.as_slice-steps.ensures at c.index-steps-0.is)) in
    let cells = c.in_ok-cells.ensures
    ∙ ap₂ (λ (e : Extent) (ps : List NamedCell). named_in e (map (cell_named e) ps)) start c.as_slice.ensures in
    let made : List View → List ℕ → Cells → Search =
    λ ws is x. record { dir = dir; views = ws; inputs = is; start = x } in
    ap (λ (ws : List View). made ws c.in_ok-inputs.inputs.items c.in_ok-cells.cells) views
    ∙ ap (λ (is : List ℕ). made (views_along v dir path c.args.run.now) is c.in_ok-cells.cells) inputs
    ∙ ap (λ (x : Cells). made (views_along v dir path c.args.run.now) (map (λ (s : Step). s.input) path) x) cells

-- of the run nothing changed but what the views were lent

pub returns-clause-still : goal.returns-clause-still
returns-clause-still c = c.views_of.ensures.still

pub returns-in_err-views-clause-still : goal.returns-in_err-views-clause-still
returns-in_err-views-clause-still c = c.views_of.ensures.still

pub returns-in_err-inputs-clause-still : goal.returns-in_err-inputs-clause-still
returns-in_err-inputs-clause-still c = trail-same c.args.run.now

pub returns-in_err-cells-clause-still : goal.returns-in_err-cells-clause-still
returns-in_err-cells-clause-still c = trail-same c.args.run.now
