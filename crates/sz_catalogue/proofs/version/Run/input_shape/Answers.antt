-- The source of a step that is there is one of the version's.
use Rattle.std.proofs.Common.{◌≡◌, ap, sym, ◌∙◌, arith, length, Option, Some, nat_lt, true, ◌<◌, unwrap_or}
use Rattle.std.proofs.lemmas.Option.{slice_get-get_or}
use Rattle.std.proofs.lemmas.Bool.Decides.{nat_tests}
use Rattle.sz_cells.specs.Extent.{Extent}
use Rattle.sz_spec.specs.Values.{extent_at, no_extent}
use Rattle.sz_spec.specs.Flows.{Graph, is_source}
use Rattle.sz_spec.specs.FlowShapes.{source_shape}
use Rattle.sz_spec.specs.declared.flow.SourceRef.{SourceRef}
use Rattle.sz_spec.specs.declared.flow.SourceRef.TheVariants.{Input, Node}
use Rattle.sz_spec.specs.Paths.{source_of}
use Rattle.sz_catalogue.specs.Holdings.{shapes_of}
use Rattle.sz_catalogue.specs.Starts.{inputs_of}
use Rattle.sz_catalogue.proofs.Runs.{run-source}
use Rattle.sz_catalogue.proofs.version.Run.input_shape.Goals.{After-source_of}
use Rattle.sz_catalogue.proofs.version.Run.input_shape.Goals as goal

-- the source that is read is one of the version's, and the step's input has its shape
source-read : (c : After-source_of) (src : SourceRef) → c.source_of.result ≡ Some src
    → (is_source (length c.args.self.now.base) (length c.outputs-outputs.result.now) src ≡ true)
    × (extent_at (inputs_of c.args.self.now c.args.step.node) c.args.step.input
    ≡ source_shape (shapes_of c.args.self.now.base) c.outputs-outputs.result.now src)
source-read c src is =
    run-source c.args.self.now c.outputs-outputs.result.now c.args.step src c.outputs-outputs.ensures.run
    (ap (λ (g : Graph). source_of g c.args.step) (sym c.flow.ensures.value) ∙ sym c.source_of.ensures ∙ is)

pub base_shape-requires : goal.base_shape-requires
base_shape-requires c =
    let read = source-read (goal.at.base_shape-requires c).After-source_of (Input c.in-Some-Input.input)
    (c.in-Some-Input.is ∙ ap (λ (s : SourceRef). Some s) c.in-Some-Input.field-0-is) in
    let test : nat_lt c.in-Some-Input.input (length c.args.self.now.base) ≡ true = read.0 in
    grind (arith, nat_tests)

pub bounds-outputs-node : goal.bounds-outputs-node
bounds-outputs-node c =
    let read = source-read (goal.at.bounds-outputs-node c).After-source_of (Node c.in-Some-Node.node)
    (c.in-Some-Node.is ∙ ap (λ (s : SourceRef). Some s) c.in-Some-Node.field-0-is) in
    let test : nat_lt c.in-Some-Node.node (length c.outputs-outputs.result.now) ≡ true = read.0 in
    grind (arith, nat_tests)

pub returns-in-Some-Input : goal.returns-in-Some-Input
returns-in-Some-Input c =
    let read = source-read (goal.at.returns-in-Some-Input c).After-source_of (Input c.in-Some-Input.input)
    (c.in-Some-Input.is ∙ ap (λ (s : SourceRef). Some s) c.in-Some-Input.field-0-is) in
    c.base_shape.ensures ∙ sym read.1

pub returns-in-Some-Node : goal.returns-in-Some-Node
returns-in-Some-Node c =
    let read = source-read (goal.at.returns-in-Some-Node c).After-source_of (Node c.in-Some-Node.node)
    (c.in-Some-Node.is ∙ ap (λ (s : SourceRef). Some s) c.in-Some-Node.field-0-is) in
    let test : nat_lt c.in-Some-Node.node (length c.outputs-outputs.result.now) ≡ true = read.0 in
    let below : c.in-Some-Node.node < length c.outputs-outputs.result.now = grind (arith, nat_tests) in
    let value : c.index-outputs-node.result ≡ extent_at c.outputs-outputs.result.now c.in-Some-Node.node =
    sym (ap (λ (o : Option Extent). unwrap_or o no_extent)
    (slice_get-get_or c.outputs-outputs.result.now c.in-Some-Node.node c.index-outputs-node.result below
    ∙ ap (λ (e : Extent). Some e) (sym c.index-outputs-node.is))) in
    value ∙ sym read.1
