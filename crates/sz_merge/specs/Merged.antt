-- What a merged store is: it stands for the same, and its region pairs are the kinds of lineage.
use Rattle.std.specs.Prelude.{◌≡◌, ℕ, ◌<◌, List, [], ◌∷◌, ◌++◌, length, map, Bool, true, All}
use Rattle.std.specs.List.{AllZip}
use Rattle.sz_cells.specs.declared.Cell.{Cell}
use Rattle.sz_spec.specs.declared.modes.Strategy.{Strategy}
use Rattle.sz_spec.specs.Modes.{mode_of}
use Rattle.sz_spec.specs.Shapes.{Site}
use Rattle.sz_frame.specs.Parts.{Pairing}
use Rattle.sz_frame.specs.Stands.{full_stands}
use Rattle.sz_cells.specs.Extent.{Extent}
use Rattle.sz_region.specs.FullBytes.{Listed, IsFullWord}
use Rattle.sz_region.specs.Putting.{HasShapes}
use Rattle.sz_store.specs.Kept.{Holding, regions, entries, Keep, NodeLineage, holding_stands}
use Rattle.sz_store.specs.Kept.{is_whole, stored_in}
use Rattle.sz_store.specs.Words.{Begins, BeginEach}
use Rattle.sz_merge.specs.Distinct.{AreKinds}

-- two stores stand for the same, each input by itself
abbrev pub StandForTheSame : Site → Holding → Holding → Type 0
StandForTheSame s g h = (i : ℕ) (o x : Cell) → i < length s.ins
    → holding_stands s g i o x ≡ holding_stands s h i o x

-- what a store keeps once it is merged: region pairs become kinds, and entries stay
abbrev pub IsMergedTo : Site → Holding → Holding → Type 0
IsMergedTo s (regions rs) (regions ms) = StandForTheSame s (regions ms) (regions rs)
    × AreKinds ms × All (HasShapes s.out s.ins) ms
IsMergedTo s (entries comp es) h = h ≡ entries comp es
IsMergedTo s _ _ = ⊥

-- a store of a strategy, and what it is once it is merged
abbrev pub IsMergedKeep : Site → Keep → Keep → Type 0
IsMergedKeep s f g = (g.strategy ≡ f.strategy) × IsMergedTo s f.holding g.holding

-- how many region pairs a store of such has; a store of entries has none
abbrev pub kinds_of_holding : Holding → List ℕ
kinds_of_holding (regions rs) = length rs ∷ []
kinds_of_holding (entries comp es) = []

-- how many region pairs each store of such has, in the order of the stores
abbrev pub kinds_in : List Keep → List ℕ
kinds_in [] = []
kinds_in (f ∷ fs) = kinds_of_holding f.holding ++ kinds_in fs

-- A store was merged: its word stands behind other bytes, and its number of kinds behind other ones.
-- Where the flag is true, it was put as it is.
pub record IsPartMerged (s : Site) (f : Keep) (same : Bool) (old new kinds after : List ℕ) : Type 0
  where
    pub kept : Holding
    pub merged : IsMergedTo s f.holding kept
    pub word : List ℕ
    pub added : new ≡ old ++ word
    pub read : (rest : List ℕ)
        → Begins s (mode_of f.strategy) (new ++ rest) (length old) (length new) kept
    pub counted : after ≡ kinds ++ kinds_of_holding kept
    pub left : same ≡ true → kept ≡ f.holding

-- The stores were merged, all words and numbers of kinds one after another. Where the flag is true,
-- each was put as it is.
pub record ArePartsMerged (s : Site) (fs : List Keep) (same : Bool) (new kinds : List ℕ) : Type 0
  where
    pub after : List Keep
    pub merged : AllZip (IsMergedKeep s) fs after
    pub read : (rest : List ℕ)
        → BeginEach s (map (λ f. f.strategy) fs) (new ++ rest) 0 (length new) after
    pub counted : kinds ≡ kinds_in after
    pub left : same ≡ true → after ≡ fs

-- the bytes are the words of merged stores, whatever follows, and these are their numbers of kinds
pub record AreRead (s : Site) (ts : List Strategy) (before : List Keep) (bytes kinds : List ℕ)
    : Type 0 where
  pub after : List Keep
  pub merged : AllZip (IsMergedKeep s) before after
  pub read : (rest : List ℕ) → BeginEach s ts (bytes ++ rest) 0 (length bytes) after
  pub counted : kinds ≡ kinds_in after

-- The stores of a node, their bytes and the numbers of their kinds are what merging makes of the
-- stores of an operator and a list.
pub record AreMerged (s : Site) (list : List Strategy) (before : List Keep) (after : NodeLineage)
    (bytes kinds : List ℕ) : Type 0 where
  pub site : after.site ≡ s
  pub same_list : after.list ≡ list
  pub whole : is_whole after ≡ true
  pub read : BeginEach s (stored_in list) bytes 0 (length bytes) after.stores
  pub each : AllZip (IsMergedKeep s) before after.stores
  pub counted : kinds ≡ kinds_in after.stores

-- region pairs that are the kinds of some, so many, were put behind other bytes in one word
pub record AreKindsPut (out : Extent) (ins : List Extent) (before : List Pairing) (count : ℕ)
    (old new : List ℕ) : Type 0 where
  pub put : List Pairing
  pub kinds : AreKinds put
  pub shapes : All (HasShapes out ins) put
  pub same : (i : ℕ) (o x : Cell) → i < length ins
      → full_stands put i o x ≡ full_stands before i o x
  pub many : length put ≡ count
  pub table : List Listed
  pub word : List ℕ
  pub is_word : IsFullWord out ins table put word
  pub added : new ≡ old ++ word
