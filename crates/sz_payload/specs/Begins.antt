-- Stores of an operator's entries in bytes: what begins at a place, and what is said where none
-- does.
use Rattle.std.specs.Prelude.{◌≡◌, ℕ, ◌^◌, ◌<◌, List, ◌++◌, length, drop, true}
use Rattle.std.specs.List.{All}
use Rattle.sz_cells.specs.Cells.{Cells}
use Rattle.sz_spec.specs.Payloads.{is_payload}
use Rattle.sz_spec.specs.Shapes.{Site}
use Rattle.sz_region.specs.declared.set_bytes.Take.{Take}
use Rattle.sz_region.specs.declared.set_bytes.Take.TheVariants.{Bad, NoMemory}
use Rattle.sz_region.specs.Counted.{counted}
use Rattle.sz_frame.specs.Parts.{Entry}
use Rattle.sz_region.specs.PayBytes.{IsPayWord, IsShort, payload_bytes}

-- each is a payload of the operator
abbrev pub AreLawful : Site → List (List ℕ) → Type 0
AreLawful s payloads = All (λ p. is_payload s.op s.ins p ≡ true) payloads

-- A store of these entries begins at a place, and ends before another. Each payload of its table is
-- one of the operator, also one that no entry names.
pub record BeginsPayloads (s : Site) (bytes : List ℕ) (at next : ℕ) (entries : List Entry) : Type 0
  where
    pub payloads : List (List ℕ)
    pub sets : List Cells
    pub word : List ℕ
    pub rest : List ℕ
    pub is_word : IsPayWord s.out payloads sets entries word
    pub lawful : AreLawful s payloads
    pub spelled : drop at bytes ≡ word ++ rest
    pub ends : drop next bytes ≡ rest

-- none begins at the place, whichever the entries are and wherever it ends
abbrev pub NoPayloadsBegin : Site → List ℕ → ℕ → Type 0
NoPayloadsBegin s bytes at =
    (next : ℕ) (entries : List Entry) → BeginsPayloads s bytes at next entries → ⊥

-- what is said where no store is read: at which place none begins, or that there was no memory
abbrev pub SaysNoPayloads : Site → List ℕ → ℕ → Take → Type 0
SaysNoPayloads s bytes at (Bad place) = (place ≡ at) × NoPayloadsBegin s bytes at
SaysNoPayloads s bytes at NoMemory = Unit {0}

-- a table of payloads begins at a place
pub record IsTableAt (bytes : List ℕ) (at : ℕ) (payloads : List (List ℕ)) (rest : List ℕ) : Type 0
  where
    pub short : All IsShort payloads
    pub few : length payloads < 2 ^ 32
    pub spelled : drop at bytes ≡ counted payload_bytes payloads ++ rest
