-- The stores of a node in bytes of either format: those of each stored strategy of its list, one
-- after another. In format 2 the cell sets in the tables of sets and of output sets are short; all
-- else is the same bytes.
use Rattle.std.specs.Prelude.{◌≡◌, ℕ, ◌≤◌, List, [], ◌∷◌, ◌++◌, length, drop, true, false}
use Rattle.sz_cells.specs.Cells.{Cells}
use Rattle.sz_spec.specs.declared.modes.Mode.{Mode}
use Rattle.sz_spec.specs.declared.modes.Mode.TheVariants as mode
use Rattle.sz_spec.specs.declared.modes.Strategy.{Strategy}
use Rattle.sz_spec.specs.Shapes.{Site}
use Rattle.sz_spec.specs.Modes.{mode_of}
use Rattle.sz_frame.specs.Parts.{Entry}
use Rattle.sz_payload.specs.Begins.{AreLawful}
use Rattle.sz_short.specs.ShortStores.{ArePayParts, pay_word, BeginsFull}
use Rattle.sz_store.specs.Kept.{Holding, regions, entries, Keep}
use Rattle.sz_formats.specs.Formats.{spelling}

-- A store of these entries, its output sets so spelled, begins at a place, and ends before another.
-- Each payload of its table is one of the operator, also one that no entry names.
pub record BeginsPayloadsBy (spell : Cells → List ℕ) (s : Site) (bytes : List ℕ) (at next : ℕ)
    (entries : List Entry) : Type 0 where
  pub payloads : List (List ℕ)
  pub sets : List Cells
  pub names : List (List ℕ)
  pub rest : List ℕ
  pub are : ArePayParts s.out payloads sets names entries
  pub lawful : AreLawful s payloads
  pub spelled : drop at bytes ≡ pay_word spell payloads sets names ++ rest
  pub ends : drop next bytes ≡ rest

-- a store of a mode, its sets so spelled, begins at a place, keeps this, and ends before another
abbrev pub BeginsBy : (Cells → List ℕ) → Site → Mode → List ℕ → ℕ → ℕ → Holding → Type 0
BeginsBy spell s mode.Full bytes at next (regions rs) =
    BeginsFull spell s.out s.ins bytes at next rs
BeginsBy spell s mode.Pay bytes at next (entries false es) =
    BeginsPayloadsBy spell s bytes at next es
BeginsBy spell s mode.Comp bytes at next (entries true es) =
    BeginsPayloadsBy spell s bytes at next es
BeginsBy _ _ _ _ _ _ _ = ⊥

-- a store of each of these strategies begins where the one before it ends, the first one at a
-- place; all are within the bytes, and the last one ends before another place
abbrev pub BeginEachBy : (Cells → List ℕ) → Site → List Strategy → List ℕ → ℕ → ℕ → List Keep
    → Type 0
BeginEachBy spell s [] bytes at next [] = next ≡ at
BeginEachBy spell s (t ∷ ts) bytes at next (f ∷ fs) = (place : ℕ) × (place ≤ length bytes)
    × (f.strategy ≡ t) × BeginsBy spell s (mode_of t) bytes at place f.holding
    × BeginEachBy spell s ts bytes place next fs
BeginEachBy _ _ _ _ _ _ _ = ⊥

-- no stores of a list begin at a place
abbrev pub NoneBeginBy : (Cells → List ℕ) → Site → List Strategy → List ℕ → ℕ → Type 0
NoneBeginBy spell s ts bytes at =
    (next : ℕ) (fs : List Keep) → BeginEachBy spell s ts bytes at next fs → ⊥

-- the same in the bytes of a format
abbrev pub BeginEachIn : ℕ → Site → List Strategy → List ℕ → ℕ → ℕ → List Keep → Type 0
BeginEachIn f s ts bytes at next fs = BeginEachBy (spelling f) s ts bytes at next fs

abbrev pub NoneBeginIn : ℕ → Site → List Strategy → List ℕ → ℕ → Type 0
NoneBeginIn f s ts bytes at = NoneBeginBy (spelling f) s ts bytes at
