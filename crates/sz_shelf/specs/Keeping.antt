-- What stays true of what lies in the slot of a shelf.
--
-- An open store is what lineages that fit make of empty stores, placed in the order of the list. A
-- shared one stands for the tag's relation; it may be another than the one that was filled.
use Rattle.std.specs.Prelude.{◌≡◌, ℕ, ◌<◌, ◌≤◌, ◌^◌, List, map, length, Bool, true, false}
use Rattle.std.specs.Prelude.{Option, Some, None}
use Rattle.std.specs.List.{filter, slice_index_or}
use Rattle.std.specs.Arc.{arc_value}
use Rattle.sz_spec.specs.Pieces.{pieces_of}
use Rattle.sz_frame.specs.Parts.{Parts}
use Rattle.sz_store.specs.Kept.{NodeLineage, AreParts, no_lineage, with_lineage, with_lineages}
use Rattle.sz_store.specs.Needed.{AllFitAsNeeded}
use Rattle.sz_shelf.specs.Tags.{Tag, IsTag, StandsFor, tag_pieces}
use Rattle.sz_shelf.specs.Contents.{is_in, missing_in}
use Rattle.sz_shelf.specs.declared.stored.Stored.{Stored}
use Rattle.sz_shelf.specs.declared.stored.Stored.TheVariants.{Open, Shared, Moved}

-- the stores, in whichever form
abbrev pub store_in : Stored → Option NodeLineage
store_in (Open kept) = Some kept
store_in (Shared a) = Some (arc_value a)
store_in Moved = None

abbrev pub IsThere : Stored → Type 0
IsThere (Open kept) = Unit {0}
IsThere (Shared a) = Unit {0}
IsThere Moved = ⊥

-- open stores that can be given a lineage, of a piece that is not placed in them
abbrev pub CanTake : Parts → Stored → Type 0
CanTake p (Open kept) = (p.piece < pieces_of kept.site.out) × AreParts kept.site kept.list p
CanTake p _ = ⊥

-- open stores with a lineage more
abbrev pub with_more : Parts → Stored → Stored
with_more p (Open kept) = Open (with_lineage kept p)
with_more p s = s

-- stores as they were, or in the form that is shared
abbrev pub IsSharedFrom : Stored → Stored → Type 0
IsSharedFrom before (Shared a) = store_in before ≡ Some (arc_value a)
IsSharedFrom before after = after ≡ before

-- lineages that fit, one of each placed piece in their order, make up these stores
pub record IsMadeOf (t : Tag) (placed : List ℕ) (kept : NodeLineage) : Type 0 where
  pub lineages : List Parts
  pub fit : AllFitAsNeeded t.site t.inputs t.list lineages
  pub pieces : map (λ p. p.piece) lineages ≡ placed
  pub made : kept ≡ with_lineages (no_lineage t.site t.list) lineages

abbrev pub AreStores : Tag → List ℕ → Bool → Stored → Type 0
AreStores t placed sealed (Open kept) = IsMadeOf t placed kept
AreStores t placed sealed (Shared a) = (sealed ≡ true) × StandsFor t (arc_value a)
AreStores t placed sealed Moved = ⊥

-- For each piece whether it is placed. As many are marked as the list has pieces, so no piece is in
-- it twice, and none that there is not.
pub record AreMarks (t : Tag) (placed : List ℕ) (marks : List Bool) : Type 0 where
  pub long : length marks ≡ tag_pieces t
  pub few : length marks < 2 ^ 32
  pub marked : (k : ℕ) → k < length marks → slice_index_or marks k false ≡ is_in placed k
  pub once : length (filter (λ b. b) marks) ≡ length placed

-- the least place that is not marked, or the number of places
pub record IsFirst (marks : List Bool) (first : ℕ) : Type 0 where
  pub within : first ≤ length marks
  pub below : (k : ℕ) → k < first → slice_index_or marks k false ≡ true
  pub here : slice_index_or marks first false ≡ false

-- what lies in the slot: stores of this tag, with these pieces, sealed or not
pub record IsShelved (t : Tag) (placed : List ℕ) (sealed : Bool) (flags : List Bool) (least : ℕ)
    (s : Stored) : Type 0 where
  pub tag : IsTag t
  pub marks : AreMarks t placed flags
  pub first : IsFirst flags least
  pub whole : sealed ≡ true → missing_in (tag_pieces t) placed ≡ None
  pub stores : AreStores t placed sealed s
