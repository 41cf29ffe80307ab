-- Links between cells, and what becomes of their roots where cells are united.
--
-- A cell's word is 0 where it has no link, else 1 plus the index of the cell to which it is linked.
use Rattle.std.specs.Prelude.{◌≡◌, ℕ, ◌+◌, ◌-◌, ◌<◌, ◌≤◌, ◌==◌, ◌||◌, ◌↔◌, nat_lt}
use Rattle.std.specs.Prelude.{List, slice_index, if◌then◌else◌}

-- the cell of an index has a link
abbrev pub HasLink : List ℕ → ℕ → Type 0
HasLink words k = 0 < slice_index words k

-- each link goes to the cell itself or to an earlier one, which has a link too
pub record AreLinks (words : List ℕ) : Type 0 where
  pub down : (k p : ℕ) → slice_index words k ≡ 1 + p → p ≤ k
  pub linked : (k p : ℕ) → slice_index words k ≡ 1 + p → HasLink words p

-- the same cells have a link
abbrev pub KeepLinks : List ℕ → List ℕ → Type 0
KeepLinks old new = (k : ℕ) → HasLink old k ↔ HasLink new k

-- `root` tells for each cell that has a link where links lead from it in the end: to a cell that is
-- linked to itself, and is no later one
pub record AreRoots (words : List ℕ) (root : ℕ → ℕ) : Type 0 where
  pub on : (k p : ℕ) → slice_index words k ≡ 1 + p → root p ≡ root k
  pub own : (k : ℕ) → slice_index words k ≡ 1 + k → root k ≡ k
  pub low : (k : ℕ) → root k ≤ k

-- a root, where one root was linked to another
abbrev pub moved : ℕ → ℕ → ℕ → ℕ
moved from to r = if r == from then to else r

-- the roots after two cells were united: the greater of their roots is linked to the other one
abbrev pub merged : (ℕ → ℕ) → ℕ → ℕ → ℕ → ℕ
merged root a b k = if nat_lt (root a) (root b) then moved (root b) (root a) (root k)
    else moved (root a) (root b) (root k)

-- the roots after the cells to which two words link were united, where both are no 0
abbrev pub merged_by : (ℕ → ℕ) → ℕ → ℕ → ℕ → ℕ
merged_by root left above k = if (left == 0) || (above == 0) then root k
    else merged root (left - 1) (above - 1) k

-- the word for a cell of this index: it links the cell to itself where both words are 0, and else
-- to a cell with a link, of the same root as the cells to which the words link
pub record IsWordBeside (words : List ℕ) (root : ℕ → ℕ) (index one other word : ℕ) : Type 0 where
  pub itself : one ≡ 0 → other ≡ 0 → word ≡ 1 + index
  pub linked : (p : ℕ) → 0 < one + other → word ≡ 1 + p → HasLink words p
  pub some : 0 < word
  pub left : (p q : ℕ) → one ≡ 1 + p → word ≡ 1 + q → root p ≡ root q
  pub above : (p q : ℕ) → other ≡ 1 + p → word ≡ 1 + q → root p ≡ root q

-- the label of the cell of an index by its root: 0 where it has no link
abbrev pub label_by : List ℕ → (ℕ → ℕ) → ℕ → ℕ
label_by words root k = if slice_index words k == 0 then 0 else 1 + root k

-- the word of the cell to which the cell of an index is linked, 0 where it has no link
abbrev pub word_on : List ℕ → ℕ → ℕ
word_on words k = if slice_index words k == 0 then 0
    else slice_index words (slice_index words k - 1)
