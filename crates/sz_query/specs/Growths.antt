-- An operator whose stores grow on a shelf, and when it may be run again in their place.
use Rattle.std.specs.Prelude.{◌≡◌, ℕ, ◌≤◌, List, false}
use Rattle.sz_spec.specs.Values.{Grid}
use Rattle.sz_spec.specs.Shapes.{Site}
use Rattle.sz_shelf.specs.Places.{ShelfPlace}
use Rattle.sz_shelf.specs.Passes.{Onlooker}

-- the operator at its shapes, the arrays that it takes, and the shelf
pub record Growth : Type 0 where
  pub site : Site
  pub inputs : List Grid
  pub place : ShelfPlace

-- a pass took a turn, and its last one found no seal
pub record FoundOpen (p : Onlooker) : Type 0 where
  pub turned : 1 ≤ p.turns
  pub unsealed : p.found_sealed ≡ false
