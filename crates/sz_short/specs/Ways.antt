-- The two ways in which a store is spelled again: with short sets in place of the others, or the
-- other way round.
use Rattle.std.specs.Prelude.{ℕ, List}
use Rattle.sz_cells.specs.Cells.{Cells}
use Rattle.sz_cells.specs.SetBytes.{set_bytes}
use Rattle.sz_short.specs.declared.ways.Way.{Way}
use Rattle.sz_short.specs.declared.ways.Way.TheVariants.{Shorten, Widen}
use Rattle.sz_short.specs.ShortSets.{short_set_bytes}

-- the bytes of a set that is read
abbrev pub read_bytes : Way → Cells → List ℕ
read_bytes Shorten set = set_bytes set
read_bytes Widen set = short_set_bytes set

-- the bytes of a set that is written
abbrev pub written_bytes : Way → Cells → List ℕ
written_bytes Shorten set = short_set_bytes set
written_bytes Widen set = set_bytes set
