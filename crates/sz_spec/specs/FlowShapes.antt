-- The shapes of a flow's outputs, found from the shapes of its base arrays alone.
use Rattle.std.specs.Prelude.{ℕ, List, [], ◌∷◌, ◌++◌, map, length, fold, Result, Ok, Err}
use Rattle.std.specs.Result.{result_map_both}
use Rattle.sz_cells.specs.Extent.{Extent}
use Rattle.sz_spec.specs.declared.flow.Node.{Node}
use Rattle.sz_spec.specs.declared.flow.SourceRef.{SourceRef}
use Rattle.sz_spec.specs.declared.flow.SourceRef.TheVariants as source
use Rattle.sz_spec.specs.Values.{extent_at}
use Rattle.sz_spec.specs.Shapes.{shape_of}
use Rattle.sz_spec.specs.Flows.{Graph}

-- the shape that a source has, given those of the base arrays and of the outputs so far
abbrev pub source_shape : List Extent → List Extent → SourceRef → Extent
source_shape base outputs (source.Input i) = extent_at base i
source_shape base outputs (source.Node m) = extent_at outputs m

-- the shapes of the arrays that a node takes
abbrev pub node_inputs : List Extent → List Extent → Node → List Extent
node_inputs base outputs x = map (source_shape base outputs) x.from

-- the shapes of the outputs so far with that of a further node behind them, or the number of the
-- first node whose shape rule its inputs break
abbrev pub with_node : List Extent → Result (List Extent) ℕ → Node → Result (List Extent) ℕ
with_node base (Err n) x = Err n
with_node base (Ok outputs) x =
    result_map_both (λ e. outputs ++ e ∷ []) (λ fault. length outputs)
    (shape_of x.op (node_inputs base outputs x))

-- the shapes of the outputs of all nodes over base arrays of these shapes, or the number of the
-- first node whose shape rule its inputs break
abbrev pub output_shapes : Graph → List Extent → Result (List Extent) ℕ
output_shapes g base = fold (with_node base) (Ok []) g.nodes
