-- What is read of the runs and of the lists of a version, by number.
use Rattle.std.proofs.Common.{◌≡◌, ℕ, ◌<◌, List, [], map, length, get_or, Option, Some, refl, sym, ap, ◌∙◌, subst}
use Rattle.std.proofs.Common.{arith}
use Rattle.std.proofs.Common.{unwrap_or, Bool, true, None, if◌then◌else◌}
use Rattle.std.specs.List.{slice_get}
use Rattle.std.specs.Option.{option_map}
use Rattle.std.proofs.lemmas.List.{length-map}
use Rattle.std.proofs.lemmas.Option.{slice_get-map, slice_get_read, slice_get_within}
use Rattle.sz_cells.specs.declared.Cell.{Cell}
use Rattle.sz_cells.specs.Extent.{Extent}
use Rattle.sz_spec.specs.declared.modes.Dir.{Dir}
use Rattle.sz_spec.specs.declared.modes.Strategy.{Strategy}
use Rattle.sz_spec.specs.Modes.{way}
use Rattle.sz_spec.specs.Values.{Grid, extent_at, no_extent, input_at, no_grid}
use Rattle.sz_spec.specs.Paths.{Step, source_of, is_there}
use Rattle.sz_flow.specs.declared.node_run.NodeRun.{NodeRun}
use Rattle.sz_spec.proofs.FlowOutputs.{evaluations-length}
use Rattle.sz_flow.specs.Executions.{Execution, execution_of}
use Rattle.sz_flow.proofs.Executions.{outputs-evaluations}
use Rattle.sz_catalogue.specs.Holdings.{Version, arrays_of}
use Rattle.sz_catalogue.specs.Changes.{outputs, way_of}
use Rattle.sz_versions.specs.Runs.{executions_of, IsSoundVersion}
use Rattle.sz_versions.specs.Stores.{Trail}
use Rattle.sz_versions.specs.Along.{IsTrailFor}
use Rattle.sz_versions.proofs.Steps.{step-there, step-of}
use Rattle.sz_versions.proofs.Keeping.{read-at}
use Rattle.sz_versions.proofs.PathViews.{lists-at, list-parts}

-- the run of a step's node is there
pub run-there : (v : Version) (s : Step) (runs : List NodeRun) → IsSoundVersion v → is_there (source_of v.flow s) ≡ true
    → map execution_of runs ≡ executions_of v → s.node < length runs
run-there v s runs sound there same =
    let found = step-there v s sound there in
    let within = slice_get_within (executions_of v) s.node found.0 found.1 in
    omega (arith, within, ap (λ (es : List Execution). length es) same, length-map runs execution_of)

-- and holds the execution of the node
pub run-at : (v : Version) (n : ℕ) (runs : List NodeRun) (r : NodeRun) → map execution_of runs ≡ executions_of v
    → n < length runs → r ≡ get_or runs n r → slice_get (executions_of v) n ≡ Some (execution_of r)
run-at v n runs r same lt is =
    ap (λ (es : List Execution). slice_get es n) (sym same) ∙ read-at execution_of runs n r lt is

-- the shape at a place of a list
pub extent-read : (es : List Extent) (i : ℕ) (e : Extent) → i < length es → e ≡ get_or es i e → e ≡ extent_at es i
extent-read es i e lt is =
    sym (ap (λ (o : Option Extent). unwrap_or o no_extent) (slice_get_read es (length es) i e refl lt is))

-- the cell that is found by its numbers
pub told-cell : (o : Option Cell) (cell found : Cell) (b : Bool) → o ≡ (if b then Some cell else None) → b ≡ true
    → o ≡ Some found → cell ≡ found
told-cell o cell found b told there is =
    let both : Some cell ≡ Some found =
    sym (told ∙ ap (λ (c : Bool). if c then Some cell else None) there) ∙ is in cc

-- what is kept of a step's node has a place
pub store-there : (v : Version) (s : Step) (t : Trail) → IsSoundVersion v → is_there (source_of v.flow s) ≡ true
    → IsTrailFor v t → s.node < length t.kept
store-there v s t sound there own =
    let found = step-there v s sound there in
    omega (arith, slice_get_within (executions_of v) s.node found.0 found.1, own.long)

-- a node that is there has a list, and that one is not empty
pub list-there : (v : Version) (s : Step) → IsSoundVersion v → is_there (source_of v.flow s) ≡ true
    → s.node < length v.lists
list-there v s sound there =
    let e = step-there v s sound there in
    let h = step-of v s e.0 sound there e.1 in
    let known = lists-at v.flow.nodes v.lists s.node h.node sound.run.1.lists h.there in
    slice_get_within v.lists s.node known.0 known.1

pub list-filled : (v : Version) (s : Step) (list : List Strategy) → IsSoundVersion v
    → is_there (source_of v.flow s) ≡ true → slice_get v.lists s.node ≡ Some list → 0 < length list
list-filled v s list sound there at =
    let e = step-there v s sound there in
    let h = step-of v s e.0 sound there e.1 in
    let known = lists-at v.flow.nodes v.lists s.node h.node sound.run.1.lists h.there in
    let same : known.0 ≡ list = some-same known.0 list (sym known.1 ∙ at) in
    subst (λ (xs : List Strategy). 0 < length xs) same (list-parts h.node.op known.0 known.2).0 where
      some-same : (a b : List Strategy) → Some a ≡ Some b → a ≡ b
      some-same a b h = cc

-- the way of a step by the list of its node
pub way-at : (v : Version) (dir : Dir) (s : Step) (list : List Strategy) → slice_get v.lists s.node ≡ Some list
    → way_of v dir s ≡ way list dir
way-at v dir s list at = ap (λ (o : Option (List Strategy)). way (unwrap_or o []) dir) at

-- there is an execution for each node
pub executions-length : (v : Version) → length (executions_of v) ≡ length v.flow.nodes
executions-length v =
    sym (length-map (executions_of v) (λ (e : Execution). e.out))
    ∙ ap (λ (gs : List Grid). length gs) (outputs-evaluations v.flow (arrays_of v.base))
    ∙ evaluations-length v.flow (arrays_of v.base)

-- the output of a node is that of its run
pub output-at : (v : Version) (n : ℕ) (e : Execution) → slice_get (executions_of v) n ≡ Some e
    → input_at (outputs v) n ≡ e.out
output-at v n e at =
    ap (λ (gs : List Grid). input_at gs n) (sym (outputs-evaluations v.flow (arrays_of v.base)))
    ∙ ap (λ (o : Option Grid). unwrap_or o no_grid) (slice_get-map (λ (x : Execution). x.out) (executions_of v) n
    ∙ ap (option_map (λ (x : Execution). x.out)) at)
