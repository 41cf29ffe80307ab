-- The bytes of a set with its array, from the longest runs that spell the set.
use Rattle.std.proofs.Common.{◌≡◌, ℕ, List, ◌∷◌, ap}
use Rattle.std.specs.List.{flat_map}
use Rattle.sz_cells.specs.declared.Run.{Run}
use Rattle.sz_cells.specs.Extent.{Extent, size_of}
use Rattle.sz_cells.specs.Runs.{AreRunsFrom, indexes_of}
use Rattle.sz_cells.proofs.Runs.{runs_of-spelled}
use Rattle.sz_region.specs.Taking.{runs_bytes}
use Rattle.sz_region.specs.FullBytes.{listed_bytes}

pub listed-word : (array : ℕ) (e : Extent) (runs : List Run) → AreRunsFrom 0 (size_of e) runs
    → listed_bytes (record { array = array; set = record { extent = e; indexes = flat_map indexes_of runs } })
    ≡ array ∷ runs_bytes runs
listed-word array e runs are =
    ap (λ (rs : List Run). array ∷ runs_bytes rs) (runs_of-spelled 0 (size_of e) runs are)
