-- Region pairs by rectangles round their sets: rectangle r of a tree is round every cell of the
-- set of region pair r from which a look starts. Backward that is the output set, in one tree;
-- forward there is a tree for each input.
use Rattle.std.specs.Prelude.{◌≡◌, ℕ, ◌<◌, ◌≤◌, ◌+◌, List, [], ◌∷◌, ◌++◌, length}
use Rattle.std.specs.Prelude.{slice_index_or, min, map}
use Rattle.std.specs.List.{AllZip, concat}
use Rattle.sz_cells.specs.declared.Bounds.{Bounds}
use Rattle.sz_spec.specs.declared.modes.Dir.{Dir}
use Rattle.sz_spec.specs.declared.modes.Dir.TheVariants.{Back, Forward}
use Rattle.sz_spec.specs.Shapes.{Site}
use Rattle.sz_frame.specs.Parts.{Pairing}
use Rattle.sz_rtree.specs.Rectangles.{Rectangles}
use Rattle.sz_tables.specs.Rows.{RowTable, pairings}
use Rattle.sz_tables.specs.Scans.{near_set}
use Rattle.sz_tables.specs.Sets.{IsRound}

-- rectangle r is round the near set of region pair r
abbrev pub AreRound : Dir → ℕ → List Pairing → List Bounds → Type 0
AreRound dir i given rectangles = AllZip (λ r b. IsRound b (near_set dir i r)) given rectangles

-- how many trees there are, and the one for a look over input i
abbrev pub trees_for : Dir → ℕ → ℕ
trees_for Back inputs = 1
trees_for Forward inputs = inputs

abbrev pub tree_for : Dir → ℕ → ℕ
tree_for Back i = 0
tree_for Forward i = i

-- a tree has one rectangle more, which is round the near set of this region pair, and has taken no
-- memory
pub record HasNext (dir : Dir) (i : ℕ) (r : Pairing) (old new : Rectangles) : Type 0 where
  pub bounds : Bounds
  pub round : IsRound bounds (near_set dir i r)
  pub rectangles : new.rectangles ≡ old.rectangles ++ bounds ∷ []
  pub spare : old.spare ≤ new.spare + 1
  pub capacities : new.capacities ≡ old.capacities

-- the capacities of the lists that trees keep, one tree after the other
abbrev pub tree_capacities : List Rectangles → List ℕ
tree_capacities trees = concat (map (λ t. t.capacities) trees)

-- for how many more region pairs there is room in a table and in each of some trees
abbrev pub room_in : ℕ → List Rectangles → ℕ
room_in rows [] = rows
room_in rows (t ∷ trees) = min t.spare (room_in rows trees)

-- the table is one between the operator's shapes, and the trees have its region pairs
pub record IsIndexed (s : Site) (dir : Dir) (t : RowTable) (trees : List Rectangles) : Type 0 where
  pub out : t.out ≡ s.out
  pub ins : t.ins ≡ s.ins
  pub count : length trees ≡ trees_for dir (length s.ins)
  pub round : (i : ℕ) (d : Rectangles) → i < length trees
      → AreRound dir i (pairings t) (slice_index_or trees i d).rectangles
