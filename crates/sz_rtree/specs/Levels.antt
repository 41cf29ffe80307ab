-- What keeps a look short: boxes, each round a run of rectangles whose numbers follow one another.
use Rattle.std.specs.Prelude.{ℕ, ◌≤◌, ◌<◌, ◌+◌, ◌*◌, ◌/◌, ◌^◌, List, ◌∷◌, length}
use Rattle.std.specs.Prelude.{slice_index_or, All, map}
use Rattle.std.specs.Global.{Vec}
use Rattle.std.specs.Vec.{vec_capacity}
use Rattle.sz_cells.specs.declared.Bounds.{Bounds}
use Rattle.sz_rtree.specs.Rectangles.{Overlaps}
use Rattle.sz_rtree.specs.declared.levels.Level.{Level}

-- the outer rectangle reaches at least as far on each side
pub record IsInside (inner outer : Bounds) : Type 0 where
  pub top : outer.top ≤ inner.top
  pub bottom : inner.bottom ≤ outer.bottom
  pub left : outer.left ≤ inner.left
  pub right : inner.right ≤ outer.right

-- box k is round the rectangles from number k * span up to (k + 1) * span
pub record HasBoxes (rectangles : List Bounds) (span : ℕ) (boxes : List Bounds) : Type 0 where
  pub positive : 0 < span
  pub small : span < 2 ^ 32
  pub enough : length rectangles ≤ length boxes * span
  pub each : (n : ℕ) (d : Bounds) → n < length rectangles
      → IsInside (slice_index_or rectangles n d) (slice_index_or boxes (n / span) d)

-- the level has a box round each rectangle
abbrev pub Covers : List Bounds → Level → Type 0
Covers rectangles level = HasBoxes rectangles level.span level.boxes.items

-- the boxes of so many rectangles need no more memory
abbrev pub HasRoom : ℕ → Level → Type 0
HasRoom count level = count ≤ vec_capacity level.boxes * level.span

-- how many boxes each level can hold without more memory
abbrev pub box_capacities : List Level → List ℕ
box_capacities levels = map (λ level. vec_capacity level.boxes) levels

-- how much each list of a tree can hold without more memory: the rectangles, the levels, and the
-- boxes of each level
abbrev pub capacities_of : Vec Bounds → Vec Level → List ℕ
capacities_of rectangles levels =
    vec_capacity rectangles ∷ vec_capacity levels ∷ box_capacities levels.items

-- no rectangle from the number `from` up to `end` overlaps `bounds`
abbrev pub MissesUpTo : List Bounds → Bounds → ℕ → ℕ → Type 0
MissesUpTo rectangles bounds from end =
    (n : ℕ) (d : Bounds) → from ≤ n → n < end → n < length rectangles
    → ¬ (Overlaps (slice_index_or rectangles n d) bounds)

-- the levels cover the rectangles, and in a list of this capacity and on each level there is room
-- for `spare` more
pub record CanTake (rectangles : List Bounds) (spare capacity : ℕ) (levels : List Level)
    : Type 0 where
  pub few : length rectangles + spare < 2 ^ 32
  pub room : length rectangles + spare ≤ capacity
  pub covered : All (Covers rectangles) levels
  pub level_room : All (HasRoom (length rectangles + spare)) levels

-- the next `spare` rectangles need no memory
abbrev pub IsReady : Vec Bounds → ℕ → List Level → Type 0
IsReady rectangles spare levels =
    CanTake rectangles.items spare (vec_capacity rectangles) levels
