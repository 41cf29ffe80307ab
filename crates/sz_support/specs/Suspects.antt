-- Which cells of a flow could hold another value, whatever some cells of a base array held:
-- forward, node by node, by supports over the evaluation of the base arrays as they are.
use Rattle.std.specs.Prelude.{ℕ, List, [], ◌∷◌, ◌++◌, map, length, Bool}
use Rattle.std.specs.List.{list_any, range_with_len}
use Rattle.sz_cells.specs.declared.Cell.{Cell}
use Rattle.sz_cells.specs.Cells.{Cells, cells_where, any_cell}
use Rattle.sz_spec.specs.declared.op.Op.{Op}
use Rattle.sz_spec.specs.declared.flow.Node.{Node}
use Rattle.sz_spec.specs.Values.{Grid, extents_of}
use Rattle.sz_spec.specs.Shapes.{output_extent}
use Rattle.sz_spec.specs.Flows.{Graph, evaluations}
use Rattle.sz_spec.specs.Affected.{set_at, changed_of, changed_in, arrays_for}
use Rattle.sz_spec.specs.Supports.{supports}

-- of a set of cells for each input, some cell of some set supports output cell o
abbrev pub is_suspect : Op → List Grid → List Cells → Cell → Bool
is_suspect op inputs sets o =
    list_any (λ i. any_cell (λ x. supports op inputs i o x) (set_at sets i))
    (range_with_len 0 (length sets))

-- the suspects of an operator: the union over its inputs of the cells of the output that some cell
-- of the input's set supports
abbrev pub suspects_by : Op → List Grid → List Cells → Cells
suspects_by op inputs sets =
    cells_where (output_extent op (extents_of inputs)) (is_suspect op inputs sets)

-- the suspects of all nodes, one after another, given the sets of the base arrays: the set of a
-- source that is a node are the node's suspects
abbrev pub suspects_from : (Node → List Grid) → List Cells → List Cells → List Node → List Cells
suspects_from inputs base nodes [] = nodes
suspects_from inputs base nodes (x ∷ rest) =
    let cells = suspects_by x.op (inputs x) (map (changed_in base nodes) x.from) in
    suspects_from inputs base (nodes ++ cells ∷ []) rest

-- the suspects of each node of a flow, where some cells of base array b may hold other values than
-- they do: those of one set
abbrev pub suspects : Graph → List Grid → ℕ → Cells → List Cells
suspects flow base b set =
    suspects_from (arrays_for base (evaluations flow base)) (changed_of flow.inputs b set) []
    flow.nodes
