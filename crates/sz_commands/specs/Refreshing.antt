-- What a refresh makes, before any of it is held.
use Rattle.std.specs.Prelude.{◌≡◌, ℕ, List}
use Rattle.sz_spec.specs.Values.{Grid}
use Rattle.sz_script.specs.declared.command.NewCell.{NewCell}
use Rattle.sz_catalogue.specs.Holdings.{Holdings}
use Rattle.sz_catalogue.specs.Rules.{version_of}
use Rattle.sz_catalogue.specs.Refreshes.{array_refreshed, version_refreshed, cells_affected}
use Rattle.sz_versions.specs.Stores.{Trail, IsTrailOf}

-- A refresh of an input of a version makes this array, what is carried of the version on it, and so
-- many node cells were computed again.
pub record IsMadeBy (c : Holdings) (n i : ℕ) (set : List NewCell) (array : Grid) (run : Trail)
    (cells : ℕ) : Type 0 where
  pub array_is : array ≡ array_refreshed (version_of c n) i set
  pub own : IsTrailOf (version_refreshed c (version_of c n) i set) run
  pub count : cells ≡ cells_affected c (version_of c n) i set
