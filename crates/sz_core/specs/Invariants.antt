-- What holds of every machine beside its state: marks of placed pieces, and asks that can go on.
use Rattle.std.specs.Prelude.{◌≡◌, ℕ, ◌<◌, ◌≤◌, ◌^◌, List, [], ◌∷◌, length, drop, Bool}
use Rattle.std.specs.Prelude.{true, false, ◌==◌}
use Rattle.std.specs.List.{slice_index_or, list_any}
use Rattle.sz_cells.specs.Extent.{Extent}
use Rattle.sz_spec.specs.declared.modes.Dir.{Dir}
use Rattle.sz_spec.specs.Paths.{Step}
use Rattle.sz_spec.specs.Sides.{extent_before, extent_after}
use Rattle.sz_core.specs.States.{Shelf, Ask, shelf_at}

-- for each of so many pieces, whether it is placed; all pieces below the least one are
pub record AreMarks (placed : List ℕ) (marks : List Bool) (least : ℕ) : Type 0 where
  pub few : length marks ≤ 2 ^ 32
  pub marked : (k : ℕ) → k < length marks
      → slice_index_or marks k false ≡ list_any (λ j. j == k) placed
  pub below : (k : ℕ) → k < least → slice_index_or marks k false ≡ true

-- each of so many pieces is placed
abbrev pub AreAllPlaced : ℕ → List ℕ → Type 0
AreAllPlaced count placed = (k : ℕ) → k < count → list_any (λ j. j == k) placed ≡ true

-- a step is on a shelf that is there, over an input that its node takes, and takes cells of this
-- shape
pub record IsStepFrom (dir : Dir) (shelves : List Shelf) (e : Extent) (s : Step) : Type 0 where
  pub node : s.node < length shelves
  pub input : s.input < length (shelf_at shelves s.node).ins
  pub shape : e ≡ extent_before dir (shelf_at shelves s.node).out (shelf_at shelves s.node).ins
      s.input

-- the shape of the cells to which a step leads
abbrev pub extent_beyond : Dir → List Shelf → Step → Extent
extent_beyond dir shelves s =
    extent_after dir (shelf_at shelves s.node).out (shelf_at shelves s.node).ins s.input

-- a path can be taken from cells of this shape: each step takes cells of the shape to which the one
-- before it leads
abbrev pub LiesAlong : Dir → List Shelf → Extent → List Step → Type 0
LiesAlong dir shelves e [] = Unit {0}
LiesAlong dir shelves e (s ∷ path) =
    IsStepFrom dir shelves e s × LiesAlong dir shelves (extent_beyond dir shelves s) path

-- the steps that an ask has not made can be taken from its cells
abbrev pub CanGoOn : List Shelf → Ask → Type 0
CanGoOn shelves a = LiesAlong a.dir shelves a.cells.extent (drop a.made a.path)
