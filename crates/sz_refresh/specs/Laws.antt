-- What a reader may take for granted of affected cells. Each law is proved of the definitions.
use Rattle.std.specs.Prelude.{◌≡◌, ℕ, length, map, true, false, Bool, ◌||◌, Some}
use Rattle.std.specs.List.{slice_get, list_any, range_with_len}
use Rattle.sz_cells.specs.declared.Cell.{Cell}
use Rattle.sz_cells.specs.Extent.{holds}
use Rattle.sz_cells.specs.Cells.{Cells, has}
use Rattle.sz_spec.specs.declared.op.Op.{Op}
use Rattle.sz_spec.specs.declared.flow.Node.{Node}
use Rattle.sz_spec.specs.Values.{Grid, value_at, input_at, extents_of}
use Rattle.sz_spec.specs.Shapes.{output_extent}
use Rattle.sz_spec.specs.Lineage.{related, forward}
use Rattle.sz_spec.specs.Flows.{Graph, is_well_formed, evaluations}
use Rattle.sz_spec.specs.Paths.{inputs_of, extent_of}
use Rattle.sz_spec.specs.LawsDependence.{CanRun}
use Rattle.sz_spec.specs.Affected.{set_at, changed_of, changed_in, affected_by, affected}
use Rattle.std.specs.Prelude.{List}

-- an operator's affected cells are those that the changed cells of some input reach forward, by the
-- old relation or by the new one
abbrev pub AffectedCellsAreReachedForward : Type 0
AffectedCellsAreReachedForward = (op : Op) (old new : List Grid) (changed : List Cells) (o : Cell)
    → (let out = output_extent op (extents_of old) in
    let reached : List Grid → ℕ → Bool =
    λ inputs i. has (forward (related op inputs i) out (set_at changed i)) o in
    has (affected_by op old new changed) o
    ≡ list_any (λ i. reached old i || reached new i) (range_with_len 0 (length changed)))

-- there is one set of affected cells for each node of a flow
abbrev pub EachNodeHasItsAffectedCells : Type 0
EachNodeHasItsAffectedCells = (flow : Graph) (old new : List Grid) (input : ℕ) (changed : Cells)
    → length (affected flow old new input changed) ≡ length flow.nodes

-- of a flow that is well formed, the set of a node is that of its operator, over the arrays that
-- the node takes in the old evaluation and in the new one; the changed cells of a source that is a
-- node are that node's set
abbrev pub AffectedCellsAreThoseOfTheirNodes : Type 0
AffectedCellsAreThoseOfTheirNodes = (flow : Graph) (old new : List Grid) (input : ℕ)
    (changed : Cells) (n : ℕ) (x : Node) → is_well_formed flow ≡ true
    → slice_get flow.nodes n ≡ Some x
    → (let sets = affected flow old new input changed in slice_get sets n
    ≡ Some (affected_by x.op (inputs_of flow old (evaluations flow old) n)
    (inputs_of flow new (evaluations flow new) n)
    (map (changed_in (changed_of flow.inputs input changed) sets) x.from)))

-- old and new base arrays hold one value at each cell but at most those of a set of one of them
abbrev pub DifferAtMostIn : ℕ → Cells → List Grid → List Grid → Type 0
DifferAtMostIn input changed old new = (b : ℕ) (x : Cell) → holds (extent_of old b) x ≡ true
    → (b ≡ input → has changed x ≡ false)
    → value_at (input_at old b) x ≡ value_at (input_at new b) x

-- then each cell of a node that is not affected keeps its value
abbrev pub OtherCellsKeepTheirValues : Type 0
OtherCellsKeepTheirValues = (flow : Graph) (old new : List Grid) (input : ℕ) (changed : Cells)
    (n : ℕ) (o : Cell) → CanRun flow old → extents_of old ≡ extents_of new
    → DifferAtMostIn input changed old new
    → holds (extent_of (evaluations flow old) n) o ≡ true
    → has (set_at (affected flow old new input changed) n) o ≡ false
    → value_at (input_at (evaluations flow old) n) o
    ≡ value_at (input_at (evaluations flow new) n) o
