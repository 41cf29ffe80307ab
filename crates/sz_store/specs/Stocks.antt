-- One store, whichever sort it is: a further sort is a further line in `stock_of`.
use Rattle.std.specs.Prelude.{◌≡◌, ℕ, List, ◌+◌, ◌≤◌, ◌++◌, length, true, false, All}
use Rattle.sz_spec.specs.declared.modes.Mode.{Mode}
use Rattle.sz_spec.specs.declared.modes.Mode.TheVariants as mode
use Rattle.sz_spec.specs.Shapes.{Site}
use Rattle.sz_spec.specs.Modes.{mode_of}
use Rattle.sz_frame.specs.Parts.{Parts}
use Rattle.sz_frame.specs.Fits.{AreApart}
use Rattle.sz_tables.specs.Rows.{RowTable, pairings}
use Rattle.sz_tables.specs.Stores.{Room, IsWithin, IsPairOf, no_room, most_given}
use Rattle.sz_tables.specs.Stores.{room_for_pairs, room_for_entries}
use Rattle.sz_tables.specs.Apart.{HaveInputsApart}
use Rattle.sz_store.specs.Kept.{Holding, regions, entries, Keep, nothing_for}
use Rattle.sz_payload.specs.Kept.{IsEntryOf, part_of}
use Rattle.sz_store.specs.declared.kept.KeptStore.{KeptStore}
use Rattle.sz_store.specs.declared.kept.KeptStore.TheVariants.{One, Many, Pay}
use Rattle.sz_store.specs.declared.stores.ListedStore.{ListedStore}

-- a store: the operator at its shapes, what it keeps, for how much more there is room, and the
-- capacities of its lists
pub record Stock : Type 0 where
  pub site : Site
  pub holding : Holding
  pub room : Room
  pub capacities : List ℕ

abbrev pub stock_of : KeptStore → Stock
stock_of (One s) = record {
  site = s.site;
  holding = regions s.given;
  room = s.room;
  capacities = s.capacities;
}
stock_of (Many s) = record {
  site = s.site;
  holding = regions s.given;
  room = s.room;
  capacities = s.capacities;
}
stock_of (Pay s) = record {
  site = s.store.site;
  holding = entries s.comp s.store.given;
  room = s.store.room;
  capacities = s.store.capacities;
}

-- a store of a list, as the node's stores have it, the operator that it is for, and the capacities
-- of its lists
abbrev pub keep_of : ListedStore → Keep
keep_of l = record { strategy = l.strategy; holding = (stock_of l.kept).holding }

abbrev pub site_of : ListedStore → Site
site_of l = (stock_of l.kept).site

abbrev pub capacities_of : ListedStore → List ℕ
capacities_of l = (stock_of l.kept).capacities

-- the store of a mode before anything is placed, whatever capacities its lists have
abbrev pub empty_stock : Site → Mode → List ℕ → Stock
empty_stock s m capacities = record {
  site = s;
  holding = nothing_for m;
  room = no_room;
  capacities = capacities;
}

-- the mode of what is kept
abbrev pub mode_in : Holding → Mode
mode_in (regions rs) = mode.Full
mode_in (entries false es) = mode.Pay
mode_in (entries true es) = mode.Comp

-- what is kept are entries
abbrev pub AreEntries : Holding → Type 0
AreEntries (regions rs) = ⊥
AreEntries (entries comp es) = Unit {0}

-- the table has the region pairs that are kept, between the operator's shapes
pub record IsTableOf (s : Site) (h : Holding) (t : RowTable) : Type 0 where
  pub pairs : h ≡ regions (pairings t)
  pub out : t.out ≡ s.out
  pub ins : t.ins ≡ s.ins

-- a store keeps what its strategy asks for
abbrev pub IsOfItsMode : Keep → Type 0
IsOfItsMode f = mode_of f.strategy ≡ mode_in f.holding

-- how many region pairs or entries are kept, and how many a lineage has for them
abbrev pub count_in : Holding → ℕ
count_in (regions rs) = length rs
count_in (entries comp es) = length es

abbrev pub more_in : Parts → Holding → ℕ
more_in p (regions rs) = length p.regions
more_in p (entries comp es) = length (part_of comp p)

-- the room that a lineage's part needs
abbrev pub room_for : Parts → Holding → Room
room_for p (regions rs) = room_for_pairs p.regions
room_for p (entries comp es) = room_for_entries (part_of comp p)

-- a lineage's part is one of the operator's, and no cell of its entries is in an entry that is kept
abbrev pub IsPartOf : Site → Parts → Holding → Type 0
IsPartOf s p (regions rs) = All (IsPairOf s) p.regions
IsPartOf s p (entries comp es) =
    All (IsEntryOf s) (part_of comp p) × AreApart (es ++ part_of comp p)

-- a store can be given a lineage's part
pub record CanGrow (p : Parts) (k : Stock) : Type 0 where
  pub few : count_in k.holding + more_in p k.holding ≤ most_given
  pub part : IsPartOf k.site p k.holding

-- Where the store keeps region pairs, the sets that these and a lineage's have of an input are one
-- or apart, any two of them. Of entries nothing is asked.
abbrev pub StaysApart : Parts → Holding → Type 0
StaysApart p (regions rs) = HaveInputsApart (rs ++ p.regions)
StaysApart p (entries comp es) = Unit {0}

-- it has the room for it
abbrev pub HasRoomFor : Parts → Stock → Type 0
HasRoomFor p k = IsWithin (room_for p k.holding) k.room
