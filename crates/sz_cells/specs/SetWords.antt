-- Reading a cell set's bytes: the set that they spell, and whether they are its one spelling.
use Rattle.std.specs.Prelude.{ℕ, ◌+◌, List, [], ◌∷◌, drop, Bool, true, ◌&&◌, nat_lt, nat_le}
use Rattle.std.specs.List.{flat_map}
use Rattle.std.specs.Int.{w32, from_be_bytes}
use Rattle.std.specs.Str.{bytes_eq}
use Rattle.sz_cells.specs.declared.Run.{Run}
use Rattle.sz_cells.specs.Extent.{Extent, size_of}
use Rattle.sz_cells.specs.Cells.{Cells}
use Rattle.sz_cells.specs.Runs.{indexes_of}
use Rattle.sz_cells.specs.SetBytes.{set_bytes}

-- the runs that eight bytes after eight bytes spell
abbrev pub runs_spelled : List ℕ → List Run
runs_spelled (a ∷ b ∷ c ∷ d ∷ e ∷ f ∷ g ∷ h ∷ bytes) =
    record {
      first = from_be_bytes w32 (a ∷ b ∷ c ∷ d ∷ []);
      last = from_be_bytes w32 (e ∷ f ∷ g ∷ h ∷ []);
    } ∷ runs_spelled bytes
runs_spelled _ = []

-- the set that bytes spell, behind the four of the number of runs
abbrev pub set_spelled : Extent → List ℕ → Cells
set_spelled e bytes =
    record { extent = e; indexes = flat_map indexes_of (runs_spelled (drop 4 bytes)) }

-- indexes that strictly rise, none below `least`, each below `bound`
abbrev pub are_rising : ℕ → ℕ → List ℕ → Bool
are_rising least bound [] = true
are_rising least bound (x ∷ xs) = nat_le least x && nat_lt x bound && are_rising (x + 1) bound xs

-- the bytes are the one spelling of a set of this shape
abbrev pub is_set_word : Extent → List ℕ → Bool
is_set_word e bytes = are_rising 0 (size_of e) (set_spelled e bytes).indexes
    && bytes_eq (set_bytes (set_spelled e bytes)) bytes
