-- The shape in which a path starts.
--
-- The key idea: the shapes found are those of the outputs, and what a node takes of shapes has the shapes of what it
-- takes of arrays.
use Rattle.std.proofs.Common.{◌≡◌, ℕ, List, [], map, Option, Some, None, option_map, unwrap_or, sym, ap, ap₂, ◌∙◌}
use Rattle.std.specs.Prelude.{Result, Ok}
use Rattle.std.specs.List.{slice_get}
use Rattle.std.specs.Result.{result_unwrap_or}
use Rattle.std.proofs.lemmas.Simd.{map-map}
use Rattle.sz_cells.specs.Extent.{Extent}
use Rattle.sz_spec.specs.declared.flow.Node.{Node}
use Rattle.sz_spec.specs.declared.modes.Dir.TheVariants.{Back, Forward}
use Rattle.sz_spec.specs.Values.{Grid, extent_at, extents_of, no_grid}
use Rattle.sz_spec.specs.Flows.{array_of}
use Rattle.sz_spec.specs.FlowShapes.{node_inputs, output_shapes}
use Rattle.sz_spec.proofs.FlowShapes.{shapes-found, inputs-shapes}
use Rattle.sz_spec.proofs.PayloadLineage.{extent-of_input}
use Rattle.sz_catalogue.specs.Holdings.{Base, Version, arrays_of, shapes_of}
use Rattle.sz_catalogue.specs.Starts.{outputs_of}
use Rattle.sz_catalogue.specs.Changes.{outputs}
use Rattle.sz_catalogue.specs.Laws.{PathsStartInTheirArrays}

base-shapes : (base : List Base) → shapes_of base ≡ extents_of (arrays_of base)
base-shapes base = sym (map-map (λ (g : Grid). g.extent) (λ (b : Base). b.array) base)

outputs-shapes : (v : Version) (shapes : List Extent) → output_shapes v.flow (shapes_of v.base) ≡ Ok shapes
    → outputs_of v ≡ extents_of (outputs v)
outputs-shapes v shapes h =
    let fits = sym (ap (output_shapes v.flow) (base-shapes v.base)) ∙ h in
    ap (λ (r : Result (List Extent) ℕ). result_unwrap_or r []) h
    ∙ sym (shapes-found v.flow (arrays_of v.base) shapes fits)

-- what a node takes, or nothing
taken-shapes : (base outputs : List Grid) (o : Option Node) (i : ℕ)
    → extent_at (unwrap_or (option_map (node_inputs (extents_of base) (extents_of outputs)) o) []) i
    ≡ (unwrap_or (slice_get (unwrap_or (option_map (λ (x : Node). map (array_of base outputs) x.from) o) []) i)
    no_grid).extent
taken-shapes base outputs None i = extent-of_input [] i
taken-shapes base outputs (Some x) i =
    ap (λ (es : List Extent). extent_at es i) (sym (inputs-shapes base outputs x.from))
    ∙ extent-of_input (map (array_of base outputs) x.from) i

pub paths-start : PathsStartInTheirArrays
paths-start Back v s shapes h =
    ap (λ (es : List Extent). extent_at es s.node) (outputs-shapes v shapes h) ∙ extent-of_input (outputs v) s.node
paths-start Forward v s shapes h =
    ap₂ (λ (bs os : List Extent).
    extent_at (unwrap_or (option_map (node_inputs bs os) (slice_get v.flow.nodes s.node)) []) s.input)
    (base-shapes v.base) (outputs-shapes v shapes h)
    ∙ taken-shapes (arrays_of v.base) (outputs v) (slice_get v.flow.nodes s.node) s.input
