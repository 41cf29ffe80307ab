-- Entries in the order in which they came, each with a key and an item, and the last one of a key.
use Rattle.std.specs.Prelude.{◌≡◌, ◌≢◌, ℕ, zero, suc, ◌+◌, ◌^◌, ◌%◌, ◌<◌, ◌≤◌, List, length, map}
use Rattle.std.specs.Prelude.{All, ◌⊎◌}
use Rattle.std.specs.Prelude.{slice_index, slice_index_or, Option, Some, None, MatchOption}
use Rattle.std.specs.List.{HoldsAt, AllWithin}
use Rattle.sz_tables.specs.declared.chains.Link.{Link}

-- one entry: what it is filed under, and what it holds
pub record Filed : Type 0 where
  pub key : ℕ
  pub item : ℕ

-- what is seen of chains: how many keys there are, the entries in the order in which they came, for
-- how many keys and entries there is room without more memory, and the capacities of the lists that
-- are kept, which say how much memory is held
pub record Files : Type 0 where
  pub keys : ℕ
  pub entries : List Filed
  pub spare_keys : ℕ
  pub spare : ℕ
  pub capacities : List ℕ

-- the greatest number below `end` of an entry with this key, and none where no such entry has it
abbrev pub IsLastBelow : List Filed → ℕ → ℕ → Option ℕ → Type 0
IsLastBelow entries key end found =
    MatchOption found
    (AllWithin (λ e. e.key ≢ key) entries 0 end)
    (λ n. (n < end) × HoldsAt (λ e. e.key ≡ key) entries n
    × AllWithin (λ e. e.key ≢ key) entries (n + 1) end)

-- an entry with its item, under what is left of the item over so many keys
abbrev pub rest_under : ℕ → Filed → Filed
rest_under keys e = record { key = e.item % keys; item = e.item }

-- keys and entries are as they were, or each entry is under the rest of its item over new keys
abbrev pub IsWidened : Files → Files → Type 0
IsWidened old new = ((new.keys ≡ old.keys) × (new.entries ≡ old.entries))
    ⊎ ((0 < new.keys) × (new.entries ≡ map (rest_under new.keys) old.entries))

-- the entry that a link is seen as
abbrev pub entry_of : Link → Filed
entry_of l = record { key = l.key; item = l.item }

-- the number that is kept as one more than it, and none where 0 is kept
abbrev pub told : ℕ → Option ℕ
told zero = None
told (suc n) = Some n

-- heads tell the last entry of each key, and each link the one before it of the same key
pub record AreChained (heads : List ℕ) (links : List Link) : Type 0 where
  pub last : (key : ℕ) → key < length heads
      → IsLastBelow (map entry_of links) key (length links) (told (slice_index heads key))
  pub before : (n : ℕ) (d : Link) → n < length links
      → IsLastBelow (map entry_of links) (slice_index_or links n d).key n
      (told (slice_index_or links n d).before)
  pub keys : All (λ l. l.key < length heads) links

-- in a list of this capacity there is room for `spare` more beside `count`, and all can be numbered
pub record HasRoom (count spare capacity : ℕ) : Type 0 where
  pub few : count + spare < 2 ^ 32
  pub room : count + spare ≤ capacity
