-- The bytes of a node's stores: those of each stored strategy of its list, one after another. Each
-- is the word of its region pairs or of its entries.
use Rattle.std.specs.Prelude.{◌≡◌, ℕ, ◌≤◌, List, [], ◌∷◌, ◌++◌, length, true, false}
use Rattle.sz_cells.specs.Cells.{Cells}
use Rattle.sz_spec.specs.declared.modes.Mode.{Mode}
use Rattle.sz_spec.specs.declared.modes.Mode.TheVariants as mode
use Rattle.sz_spec.specs.declared.modes.Strategy.{Strategy}
use Rattle.sz_spec.specs.Shapes.{Site}
use Rattle.sz_spec.specs.Modes.{mode_of}
use Rattle.sz_region.specs.FullBytes.{Listed, IsFullWord, BeginsRegions}
use Rattle.sz_region.specs.PayBytes.{IsPayWord}
use Rattle.sz_region.specs.declared.set_bytes.Take.{Take}
use Rattle.sz_region.specs.declared.set_bytes.Take.TheVariants.{Bad, NoMemory}
use Rattle.sz_tables.specs.Tables.{AreDifferent}
use Rattle.sz_payload.specs.Begins.{AreLawful, BeginsPayloads}
use Rattle.sz_store.specs.Kept.{Holding, regions, entries, Keep}

-- The word spells what a store keeps, and names no set and no payload twice. Each payload of its
-- table is one of the operator.
abbrev pub IsWordOf : Site → Holding → List ℕ → Type 0
IsWordOf s (regions rs) word = (sets : List Listed) × AreDifferent sets
    × IsFullWord s.out s.ins sets rs word
IsWordOf s (entries comp es) word = (payloads : List (List ℕ)) × (sets : List Cells)
    × AreDifferent payloads × AreDifferent sets × AreLawful s payloads
    × IsPayWord s.out payloads sets es word

-- the bytes are words of what the stores keep, one after another
abbrev pub AreWordsOf : Site → List Keep → List ℕ → Type 0
AreWordsOf s [] bytes = bytes ≡ []
AreWordsOf s (f ∷ fs) bytes = (word : List ℕ) × (rest : List ℕ) × IsWordOf s f.holding word
    × AreWordsOf s fs rest × (bytes ≡ word ++ rest)

-- a store of a mode begins at a place of some bytes, keeps this, and ends before another
abbrev pub Begins : Site → Mode → List ℕ → ℕ → ℕ → Holding → Type 0
Begins s mode.Full bytes at next (regions rs) = BeginsRegions s.out s.ins bytes at next rs
Begins s mode.Pay bytes at next (entries false es) = BeginsPayloads s bytes at next es
Begins s mode.Comp bytes at next (entries true es) = BeginsPayloads s bytes at next es
Begins _ _ _ _ _ _ = ⊥

-- a store of each of these strategies begins where the one before it ends, the first one at a
-- place; all are within the bytes, and the last one ends before another place
abbrev pub BeginEach : Site → List Strategy → List ℕ → ℕ → ℕ → List Keep → Type 0
BeginEach s [] bytes at next [] = next ≡ at
BeginEach s (t ∷ ts) bytes at next (f ∷ fs) = (place : ℕ) × (place ≤ length bytes)
    × (f.strategy ≡ t) × Begins s (mode_of t) bytes at place f.holding
    × BeginEach s ts bytes place next fs
BeginEach _ _ _ _ _ _ = ⊥

-- no store of a mode begins at a place, and no stores of a list
abbrev pub NoneBegins : Site → Mode → List ℕ → ℕ → Type 0
NoneBegins s m bytes at = (next : ℕ) (h : Holding) → Begins s m bytes at next h → ⊥

abbrev pub NoneBegin : Site → List Strategy → List ℕ → ℕ → Type 0
NoneBegin s ts bytes at =
    (next : ℕ) (fs : List Keep) → BeginEach s ts bytes at next fs → ⊥

-- what is said where nothing is read: at which place it does not begin, or that there was no memory
abbrev pub SaysNone : Type 0 → ℕ → Take → Type 0
SaysNone None at (Bad place) = (place ≡ at) × None
SaysNone None at NoMemory = Unit {0}
