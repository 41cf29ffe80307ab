-- What stays true of the stores of a node.
use Rattle.std.specs.Prelude.{◌≡◌, ℕ, ◌+◌, ◌/◌, ◌≤◌, List, map, length, Bool, true, All}
use Rattle.sz_cells.specs.declared.Cell.{Cell}
use Rattle.sz_cells.specs.Extent.{index_of}
use Rattle.sz_spec.specs.declared.modes.Strategy.{Strategy}
use Rattle.sz_spec.specs.Shapes.{Site}
use Rattle.sz_spec.specs.Modes.{supports}
use Rattle.sz_spec.specs.Pieces.{pieces_of}
use Rattle.sz_frame.specs.Fits.{AreApart}
use Rattle.sz_frame.specs.Stands.{has_entry}
use Rattle.sz_tables.specs.Stores.{most_given}
use Rattle.sz_store.specs.Kept.{Holding, regions, entries, Keep, stored_in, is_placed}
use Rattle.sz_store.specs.Stocks.{IsOfItsMode, count_in}

-- no cell is in two entries, and each cell of an entry is one of a piece that is placed
abbrev pub AreOfPlaced : Site → List Bool → Holding → Type 0
AreOfPlaced s placed (regions rs) = Unit {0}
AreOfPlaced s placed (entries comp es) = AreApart es
    × ((o : Cell) → has_entry es o ≡ true → is_placed placed (index_of s.out o / 64) ≡ true)

-- a store keeps what its strategy asks for, and has numbers for so many entries more
pub record IsStocked (s : Site) (placed : List Bool) (spare : ℕ) (f : Keep) : Type 0 where
  pub mode : IsOfItsMode f
  pub few : count_in f.holding + spare ≤ most_given
  pub apart : AreOfPlaced s placed f.holding

-- the operator supports the list, and the stores are those of its stored strategies, each for this
-- operator
pub record AreStocked (s : Site) (list : List Strategy) (placed : List Bool) (spare : ℕ)
    (stores : List Keep) (sites : List Site) : Type 0 where
  pub supported : All (λ t. supports s.op t ≡ true) list
  pub stored : map (λ f. f.strategy) stores ≡ stored_in list
  pub same : All (λ x. x ≡ s) sites
  pub pieces : length placed ≡ pieces_of s.out
  pub each : All (IsStocked s placed spare) stores
