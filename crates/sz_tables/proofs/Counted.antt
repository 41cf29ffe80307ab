-- How many cells and runs sets have, how long payloads are, and sums that go through a list.
--
-- The key idea: a set's runs end within a shape, so it has no more runs, nor more cells, than the largest shape has
-- cells, and it has no cell where it has no run.
use Rattle.std.proofs.Common.{◌≡◌, ℕ, ◌+◌, ◌*◌, ◌<◌, ◌≤◌, List, [], ◌∷◌, length, map, take, drop, get_or}
use Rattle.std.proofs.Common.{arith, sym, ap, ◌∙◌}
use Rattle.std.specs.Prelude.{sum_by}
use Rattle.std.specs.List.{flat_map}
use Rattle.std.proofs.lemmas.List.{get_or-map, length-map}
use Rattle.std.proofs.lemmas.List.Sums.{sum_by_more, sum_by-drop_more}
use Rattle.sz_cells.specs.declared.Run.{Run}
use Rattle.sz_cells.specs.Extent.{size_of}
use Rattle.sz_cells.specs.Cells.{Cells}
use Rattle.sz_cells.specs.Runs.{Spells, AreRunsFrom, indexes_of}
use Rattle.sz_cells.proofs.Runs.{runs-length, spelled-length}
use Rattle.sz_tables.specs.Stores.{cells_in}

cells-of_runs : (bound : ℕ) (runs : List Run) → AreRunsFrom 0 bound runs → bound ≤ 1048576
    → length (flat_map indexes_of runs) ≤ length runs * 1048576
cells-of_runs bound [] longest small = omega arith
cells-of_runs bound (r ∷ runs) longest small =
    let few = spelled-length bound (r ∷ runs) longest in
    omega arith

pub set-runs : (set : Cells) (runs : List Run) → Spells runs set → size_of set.extent ≤ 1048576
    → length runs ≤ 1048576
set-runs set runs spells small = omega (arith, runs-length (size_of set.extent) runs spells.longest)

pub set-cells : (set : Cells) (runs : List Run) → Spells runs set → size_of set.extent ≤ 1048576
    → cells_in set ≤ length runs * 1048576
set-cells set runs spells small =
    omega (arith, cells-of_runs (size_of set.extent) runs spells.longest small, ap length spells.spelled)

-- ---- what is met in a list that is made of another

-- the element that is made of the one at an index stands at that index
pub item-made : {X Y : Type 0} (f : X → Y) (xs : List X) (ys : List Y) (i : ℕ) (x : X) (y : Y) → map f xs ≡ ys
    → i < length xs → x ≡ get_or xs i x → y ≡ f x → (i < length ys) × (get_or ys i y ≡ y)
item-made f xs ys i x y made inside at is =
    let own : get_or (map f xs) i y ≡ y = get_or-map f xs i x y inside ∙ ap f (sym at) ∙ sym is in
    (omega (arith, length-map xs f, ap length made), rw made at own)

-- one more of a sum
pub sum-more : {X : Type 0} (f : X → ℕ) (xs : List X) (i : ℕ) (x : X) → (i < length xs) × (get_or xs i x ≡ x)
    → sum_by f (take (i + 1) xs) ≡ sum_by f (take i xs) + f x
sum-more f xs i x there =
    sum_by_more f xs i x there.0 ∙ ap (λ y. sum_by f (take i xs) + f y) there.1

-- one less of the rest of a sum
pub rest-more : {X : Type 0} (f : X → ℕ) (xs : List X) (i : ℕ) (x : X) → (i < length xs) × (get_or xs i x ≡ x)
    → sum_by f (drop i xs) ≡ f x + sum_by f (drop (i + 1) xs)
rest-more f xs i x there =
    sum_by-drop_more f xs i x there.0 ∙ ap (λ y. f y + sum_by f (drop (i + 1) xs)) there.1
