-- The operators that move cells: which they are, and where a relation leads to one cell of each
-- layer.
use Rattle.std.specs.Prelude.{◌==◌, ◌&&◌, Bool, true, false}
use Rattle.sz_cells.specs.declared.Cell.{Cell}
use Rattle.sz_cells.specs.Extent.{Extent, row_in}
use Rattle.sz_spec.specs.declared.op.Op.{Op}
use Rattle.sz_spec.specs.declared.op.Op.TheVariants.{Transpose, Slice, Lookup, FoldLayers}

-- each output cell is mapped to one cell
abbrev pub is_single : Op → Bool
is_single Transpose = true
is_single (Slice r0 c0 h w) = true
is_single _ = false

-- each output cell is related to at most one cell of each input
abbrev pub is_one : Op → Bool
is_one Lookup = true
is_one op = is_single op

-- the operator is one of this crate, and its lineage is a mapping
abbrev pub is_mapping : Op → Bool
is_mapping (FoldLayers fold) = true
is_mapping op = is_single op

-- the operator is one of this crate
abbrev pub is_moving : Op → Bool
is_moving Lookup = true
is_moving op = is_mapping op

-- the cell is at a row and a column of its layer
abbrev pub is_in_line : Extent → Cell → Cell → Bool
is_in_line e place x = (row_in e x == place.row) && (x.col == place.col)
