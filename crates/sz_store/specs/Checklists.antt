-- Whether lineages are those that a store keeps.
use Rattle.std.specs.Prelude.{◌≡◌, ℕ, Bool, true, false, [], ◌++◌, IsPermutation}
use Rattle.sz_cells.specs.declared.Cell.{Cell}
use Rattle.sz_spec.specs.Shapes.{Site}
use Rattle.sz_tables.specs.Rows.{RowTable, pairings}
use Rattle.sz_tables.specs.Entries.{EntryRows, entries as entries_in}
use Rattle.sz_store.specs.Kept.{Holding, regions, entries, holding_stands}
use Rattle.sz_store.specs.declared.checklist.StoreChecklist.{StoreChecklist}
use Rattle.sz_store.specs.declared.checklist.StoreChecklist.TheVariants.{Pairs, Pays, Comps}

-- the table of a store: of region pairs, or of entries, where the flag is true of composite lineage
pub data StoreTable : Type 0 where
  of_pairs : RowTable → StoreTable
  of_entries : Bool → EntryRows → StoreTable

-- the table of a checklist's store
abbrev pub table_in : StoreChecklist → StoreTable
table_in (Pairs c) = of_pairs c.table
table_in (Pays c) = of_entries false c.table
table_in (Comps c) = of_entries true c.table

-- what a table keeps
abbrev pub held_in : StoreTable → Holding
held_in (of_pairs t) = regions (pairings t)
held_in (of_entries comp t) = entries comp (entries_in t)

-- what the store of a checklist keeps
abbrev pub kept_in : StoreChecklist → Holding
kept_in c = held_in (table_in c)

-- what of it was ticked
abbrev pub ticked_in : StoreChecklist → Holding
ticked_in (Pairs c) = regions c.ticked
ticked_in (Pays c) = entries false c.ticked
ticked_in (Comps c) = entries true c.ticked

-- nothing, for a store that keeps such
abbrev pub emptied : Holding → Holding
emptied (regions _) = regions []
emptied (entries comp _) = entries comp []

-- what is in one or in the other, of two stores that keep the same sort
abbrev pub joined : Holding → Holding → Holding
joined (regions a) (regions b) = regions (a ++ b)
joined (entries comp a) (entries _ b) = entries comp (a ++ b)
joined a _ = a

-- one keeps what the other does, each region pair or entry as often, in any order
abbrev pub AreOneList : Holding → Holding → Type 0
AreOneList (regions a) (regions b) = IsPermutation a b
AreOneList (entries c a) (entries d b) = (c ≡ d) × IsPermutation a b
AreOneList _ _ = ⊥

-- Stores that keep the same in another order stand for the same.
abbrev pub OtherOrdersStandForTheSame : Type 0
OtherOrdersStandForTheSame = (s : Site) (a b : Holding) (i : ℕ) (o x : Cell) → AreOneList a b
    → holding_stands s a i o x ≡ holding_stands s b i o x
