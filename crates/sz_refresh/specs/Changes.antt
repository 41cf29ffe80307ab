-- What is changed of the sources of one node, and which cells that reaches.
use Rattle.std.specs.Prelude.{◌≡◌, ℕ, List, Bool, true, ◌==◌, ◌||◌, nat_lt, if◌then◌else◌, Some}
use Rattle.std.specs.List.{slice_get}
use Rattle.sz_cells.specs.declared.Cell.{Cell}
use Rattle.sz_cells.specs.Extent.{Extent}
use Rattle.sz_cells.specs.Cells.{Cells, any_cell, no_cells}
use Rattle.sz_spec.specs.declared.op.Op.{Op}
use Rattle.sz_spec.specs.declared.flow.SourceRef.{SourceRef}
use Rattle.sz_spec.specs.declared.flow.SourceRef.TheVariants as source
use Rattle.sz_spec.specs.Values.{Grid, extent_at}
use Rattle.sz_spec.specs.Lineage.{related}
use Rattle.sz_spec.specs.Affected.{set_at}

-- a source that is a node is one of the first so many
abbrev pub is_before : ℕ → SourceRef → Bool
is_before n (source.Input b) = true
is_before n (source.Node m) = nat_lt m n

-- some cells of the source may be changed: it is the changed base array, or a node
abbrev pub is_changed : ℕ → SourceRef → Bool
is_changed input (source.Input b) = b == input
is_changed input (source.Node m) = true

-- the changed cells of a source, given those of one base array and of the nodes so far
abbrev pub changed_from : ℕ → Cells → List Cells → SourceRef → Cells
changed_from input changed sets (source.Input b) =
    if b == input then changed else no_cells changed.extent
changed_from input changed sets (source.Node m) = set_at sets m

-- the changed cells of each source that may have some are of the shape that the node takes there
abbrev pub HaveShapes : ℕ → Cells → List Cells → List Extent → List SourceRef → Type 0
HaveShapes input changed sets ins from = (i : ℕ) (s : SourceRef) → slice_get from i ≡ Some s
    → is_changed input s ≡ true → (changed_from input changed sets s).extent ≡ extent_at ins i

-- an output cell is related to a cell of a set of input i's cells, by the old inputs or by the new
abbrev pub reaches : Op → List Grid → List Grid → ℕ → Cells → Cell → Bool
reaches op old new i set o = any_cell (λ x. related op old i o x || related op new i o x) set
