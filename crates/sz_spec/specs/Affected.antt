-- What a changed base array changes in a flow: the cells of each node that have to be computed
-- again, since a changed cell stood behind them or stands behind them now.
use Rattle.std.specs.Prelude.{ℕ, ◌+◌, List, [], ◌∷◌, ◌++◌, map, length, Bool, ◌||◌, ◌==◌}
use Rattle.std.specs.Prelude.{if◌then◌else◌, unwrap_or, fold}
use Rattle.std.specs.List.{slice_get, list_any, range_with_len}
use Rattle.sz_cells.specs.declared.Cell.{Cell}
use Rattle.sz_cells.specs.Cells.{Cells, cells_where, any_cell, no_cells}
use Rattle.sz_spec.specs.declared.op.Op.{Op}
use Rattle.sz_spec.specs.declared.flow.Node.{Node}
use Rattle.sz_spec.specs.declared.flow.SourceRef.{SourceRef}
use Rattle.sz_spec.specs.declared.flow.SourceRef.TheVariants as source
use Rattle.sz_spec.specs.Values.{Grid, no_extent, extents_of}
use Rattle.sz_spec.specs.Shapes.{output_extent}
use Rattle.sz_spec.specs.Lineage.{related}
use Rattle.sz_spec.specs.Flows.{Graph, array_of, evaluations}

-- the set of a number in a list of sets
abbrev pub set_at : List Cells → ℕ → Cells
set_at sets i = unwrap_or (slice_get sets i) (no_cells no_extent)

-- the changed cells of each of so many base arrays: those of one are given, the others have none
abbrev pub changed_of : ℕ → ℕ → Cells → List Cells
changed_of inputs input changed =
    map (λ b. if b == input then changed else no_cells changed.extent) (range_with_len 0 inputs)

-- the changed cells of the array that a source stands for, given those of the base arrays and of
-- the nodes so far
abbrev pub changed_in : List Cells → List Cells → SourceRef → Cells
changed_in base nodes (source.Input i) = set_at base i
changed_in base nodes (source.Node m) = set_at nodes m

-- output cell o is related to a changed cell of some input, by the old inputs or by the new ones
abbrev pub is_reached : Op → List Grid → List Grid → List Cells → Cell → Bool
is_reached op old new changed o = list_any (λ i.
    any_cell (λ x. related op old i o x || related op new i o x) (set_at changed i))
    (range_with_len 0 (length changed))

-- the affected cells of an operator: those of its output that are reached
abbrev pub affected_by : Op → List Grid → List Grid → List Cells → Cells
affected_by op old new changed =
    cells_where (output_extent op (extents_of old)) (is_reached op old new changed)

-- an evaluation of a flow: the base arrays, and the outputs of all nodes
abbrev pub arrays_for : List Grid → List Grid → Node → List Grid
arrays_for base outputs x = map (array_of base outputs) x.from

-- the affected cells of all nodes, one after another: the changed cells of a node are its affected
-- ones
abbrev pub affected_from :
    (Node → List Grid) → (Node → List Grid) → List Cells → List Cells → List Node → List Cells
affected_from old new base nodes [] = nodes
affected_from old new base nodes (x ∷ rest) =
    let cells = affected_by x.op (old x) (new x) (map (changed_in base nodes) x.from) in
    affected_from old new base (nodes ++ cells ∷ []) rest

-- the affected cells of each node of a flow, where old base arrays give way to new ones, of the
-- same shapes, that differ from them at most in these cells of one of them
abbrev pub affected : Graph → List Grid → List Grid → ℕ → Cells → List Cells
affected flow old new input changed =
    affected_from (arrays_for old (evaluations flow old)) (arrays_for new (evaluations flow new))
    (changed_of flow.inputs input changed) [] flow.nodes

-- how many cells that is in all
abbrev pub cells_in : List Cells → ℕ
cells_in sets = fold (λ n set. n + length set.indexes) 0 sets
