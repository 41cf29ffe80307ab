-- The runs of two sets, merged into those of both.
--
-- The key idea: the runs that were made cover what the runs that were taken cover, and all of them begin by a number
-- before which no run that is left begins. A step takes the run that begins first, so the number may be its beginning.
use Rattle.std.proofs.Common.{◌≡◌, ℕ, ◌+◌, ◌<◌, ◌≤◌, Bool, ◌||◌, ◌==◌, List, []}
use Rattle.std.proofs.Common.{length, get_or, take, drop, refl, sym, ap, ap₂, subst, ◌∙◌, arith}
use Rattle.std.specs.List.{All, list_any, flat_map}
use Rattle.std.proofs.lemmas.List.{take_all}
use Rattle.std.proofs.Math.Bool.{or_assoc, or_comm}
use Rattle.std.proofs.lemmas.List.Elements.{All-nil, All-weaker}
use Rattle.std.proofs.lemmas.List.Folds.{list_any_more}
use Rattle.sz_cells.specs.declared.Run.{Run}
use Rattle.sz_cells.specs.Extent.{Extent, size_of, cell_of}
use Rattle.sz_cells.specs.Cells.{Cells, has, union_of}
use Rattle.sz_cells.specs.Runs.{indexes_of, is_in, covers, first_at, AreRunsFrom, Spells}
use Rattle.sz_cells.proofs.Sets.{filter-range_ext, has-index}
use Rattle.sz_cells.proofs.Runs.{Added, runs-head, runs-lower, runs-from, runs-filter, any-covers}

-- so many runs of either side were merged into some runs
pub record Merged (size : ℕ) (left right runs : List Run) (i j : ℕ) : Type 0 where
  pub longest : AreRunsFrom 0 size runs
  pub covered : (k : ℕ) → covers runs k ≡ (covers (take i left) k || covers (take j right) k)
  pub floor : ℕ
  pub begun : All (λ r. r.first ≤ floor) runs
  pub left_rest : AreRunsFrom floor size (drop i left)
  pub right_rest : AreRunsFrom floor size (drop j right)

-- the two sides may be turned
merged-turned : (size : ℕ) (left right runs : List Run) (i j : ℕ) → Merged size left right runs i j
    → Merged size right left runs j i
merged-turned size left right runs i j m = record {
  longest = m.longest;
  covered = λ k. m.covered k ∙ or_comm (covers (take i left) k) (covers (take j right) k);
  floor = m.floor;
  begun = m.begun;
  left_rest = m.right_rest;
  right_rest = m.left_rest;
}

-- the next run of the left side is added, where none on the right begins before it
pub merged-left : (size : ℕ) (left right runs new : List Run) (i j : ℕ) → Merged size left right runs i j
    → i < length left
    → (j < length right → first_at left i ≤ first_at right j)
    → Added runs new (get_or left i (record { first = 0; last = 0 }))
    → Merged size left right new (i + 1) j
merged-left size left right runs new i j m inside before added =
    let none : Run = record { first = 0; last = 0 } in
    let next : Run = get_or left i none in
    let head = runs-head m.floor size left i none inside m.left_rest in
    record {
      longest = added.longest size m.longest head.2;
      covered = λ k.
          added.added k
          ∙ ap (λ b. b || is_in next k) (m.covered k)
          ∙ or_assoc (covers (take i left) k) (covers (take j right) k) (is_in next k)
          ∙ ap (λ b. covers (take i left) k || b) (or_comm (covers (take j right) k) (is_in next k))
          ∙ sym (or_assoc (covers (take i left) k) (is_in next k) (covers (take j right) k))
          ∙ ap (λ b. b || covers (take j right) k) (sym (list_any_more (λ r. is_in r k) left i none inside));
      floor = next.first;
      begun = added.begun;
      left_rest = runs-lower (next.last + 2) next.first size (drop (i + 1) left) (omega (arith, head.1)) head.3;
      right_rest = runs-from m.floor next.first size right j none before m.right_rest;
    }

-- the next run of the right side is added, where none on the left begins before it
pub merged-right : (size : ℕ) (left right runs new : List Run) (i j : ℕ) → Merged size left right runs i j
    → j < length right
    → (i < length left → first_at right j ≤ first_at left i)
    → Added runs new (get_or right j (record { first = 0; last = 0 }))
    → Merged size left right new i (j + 1)
merged-right size left right runs new i j m inside before added =
    merged-turned size right left new (j + 1) i (merged-left size right left runs new j i
    (merged-turned size left right runs i j m) inside before added)

-- the run that is taken is in order, and the runs that were made begin no later
pub merged-next : (size : ℕ) (left right runs : List Run) (i j : ℕ) → Merged size left right runs i j
    → i < length left
    → ((get_or left i (record { first = 0; last = 0 })).first ≤ (get_or left i
    (record { first = 0; last = 0 })).last)
    × All (λ r. r.first ≤ (get_or left i (record { first = 0; last = 0 })).first) runs
merged-next size left right runs i j m inside =
    let none : Run = record { first = 0; last = 0 } in
    let head = runs-head m.floor size left i none inside m.left_rest in (
      head.1,
      All-weaker (λ r. r.first ≤ m.floor) (λ r. r.first ≤ (get_or left i none).first)
          (λ r h. omega (arith, head.0)) runs m.begun,
    )

pub merged-next_right : (size : ℕ) (left right runs : List Run) (i j : ℕ) → Merged size left right runs i j
    → j < length right
    → ((get_or right j (record { first = 0; last = 0 })).first ≤ (get_or right j
    (record { first = 0; last = 0 })).last)
    × All (λ r. r.first ≤ (get_or right j (record { first = 0; last = 0 })).first) runs
merged-next_right size left right runs i j m inside = merged-next size right left runs j i
    (merged-turned size left right runs i j m) inside

-- before any run is taken
pub merged-none : (size : ℕ) (left right runs : List Run) → AreRunsFrom 0 size left → AreRunsFrom 0 size right
    → runs ≡ [] → Merged size left right runs 0 0
merged-none size left right runs l r none =
    subst (λ (new : List Run). Merged size left right new 0 0) (sym none)
    (record {
      longest = tt;
      covered = λ k. refl;
      floor = 0;
      begun = All-nil (λ r. r.first ≤ 0);
      left_rest = l;
      right_rest = r;
    })

-- when all runs are taken
pub merged-all : (size : ℕ) (left right runs : List Run) (i j : ℕ) → Merged size left right runs i j
    → length left ≤ i → length right ≤ j
    → (k : ℕ) → covers runs k ≡ (covers left k || covers right k)
merged-all size left right runs i j m l r k = m.covered k ∙ ap₂ (λ (xs ys : List Run). covers xs k || covers ys k)
    (take_all i left l) (take_all j right r)

-- what runs that cover the indexes of two sets of one shape spell is the union of the sets
pub union-spelled : (a b : Cells) (left right runs : List Run) → b.extent ≡ a.extent → Spells left a
    → Spells right b
    → AreRunsFrom 0 (size_of a.extent) runs → ((k : ℕ) → covers runs k ≡ (covers left k || covers right k))
    → union_of a b ≡ record { extent = a.extent; indexes = flat_map indexes_of runs }
union-spelled a b left right runs same sa sb longest covered =
    let e : Extent = a.extent in
    let make : List ℕ → Cells = λ xs. record { extent = e; indexes = xs } in
    let of_set : (set : Cells) (rs : List Run) (k : ℕ) → Spells rs set → set.extent ≡ e → k < size_of e
    → has set (cell_of e k) ≡ covers rs k =
    λ set rs k s path below.
    has-index set e k path below
    ∙ ap (list_any (λ x. x == k)) (sym s.spelled)
    ∙ any-covers 0 (size_of set.extent) k rs s.longest in
    ap make
    (filter-range_ext (λ k. has a (cell_of e k) || has b (cell_of e k)) (covers runs) 0 (size_of e)
    (λ k low high.
    ap₂ (λ (x y : Bool). x || y) (of_set a left k sa refl (omega arith)) (of_set b right k sb same (omega arith))
    ∙ sym (covered k))
    ∙ sym (runs-filter (size_of e) runs longest))
