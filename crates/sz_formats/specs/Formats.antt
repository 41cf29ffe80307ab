-- The formats of a log, 1 and 2, by how a cell set is spelled: by eight bytes a run in format 1,
-- and short in format 2.
use Rattle.std.specs.Prelude.{ℕ, List, Bool, ◌==◌, ◌||◌, if◌then◌else◌}
use Rattle.sz_cells.specs.Cells.{Cells}
use Rattle.sz_cells.specs.SetBytes.{set_bytes}
use Rattle.sz_short.specs.ShortSets.{short_set_bytes}

abbrev pub is_format : ℕ → Bool
is_format f = (f == 1) || (f == 2)

abbrev pub spelling : ℕ → Cells → List ℕ
spelling f = if f == 2 then short_set_bytes else set_bytes

-- the format that one is not
abbrev pub other_than : ℕ → ℕ
other_than f = if f == 2 then 1 else 2
