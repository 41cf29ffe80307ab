-- The bytes of a store of payloads, for payload and for composite lineage: a table of payloads, a
-- table of output sets, and entries that name one of each.
--
-- 4 bytes for the number of payloads; each is 4 for its length, and its bytes. 4 bytes for the
-- number of output sets, and the bytes of each. 4 bytes for the number of entries; each is 4 for
-- the number of its output set and 4 for that of its payload. Both tables are numbered from 0. No
-- cell is in two entries.
use Rattle.std.specs.Prelude.{◌≡◌, ℕ, ◌^◌, ◌<◌, ◌≤◌, List, [], ◌∷◌, ◌++◌, length, drop, Some}
use Rattle.std.specs.List.{All, AllZip, slice_get}
use Rattle.sz_cells.specs.Extent.{Extent}
use Rattle.sz_cells.specs.Cells.{Cells}
use Rattle.sz_cells.specs.SetBytes.{IsSetOf, four_bytes, set_bytes}
use Rattle.sz_frame.specs.Parts.{Entry}
use Rattle.sz_frame.specs.Fits.{AreApart}
use Rattle.sz_region.specs.Counted.{counted, rows_bytes}

-- a payload's length is a number of four bytes
abbrev pub IsShort : List ℕ → Type 0
IsShort payload = length payload < 2 ^ 32

-- the payload's length, and its bytes
abbrev pub payload_bytes : List ℕ → List ℕ
payload_bytes payload = four_bytes (length payload) ++ payload

-- the two numbers are those of an entry's output set and of its payload
abbrev pub AreNamesOfEntry : List Cells → List (List ℕ) → List ℕ → Entry → Type 0
AreNamesOfEntry sets payloads (set ∷ payload ∷ []) e =
    (slice_get sets set ≡ Some e.out) × (slice_get payloads payload ≡ Some e.payload)
AreNamesOfEntry sets payloads _ e = ⊥

-- the word spells these entries for an output of this shape, by these tables
pub record IsPayWord (out : Extent) (payloads : List (List ℕ)) (sets : List Cells)
    (entries : List Entry) (word : List ℕ) : Type 0 where
  pub short : All IsShort payloads
  pub few_payloads : length payloads < 2 ^ 32
  pub each : All (IsSetOf out) sets
  pub few_sets : length sets < 2 ^ 32
  pub few : length entries ≤ 2 ^ 30
  pub apart : AreApart entries
  pub names : List (List ℕ)
  pub named : AllZip (AreNamesOfEntry sets payloads) names entries
  pub spelled : word
      ≡ counted payload_bytes payloads ++ counted set_bytes sets ++ rows_bytes names

-- a store of these entries begins at a place, and ends before another
pub record BeginsEntries (out : Extent) (bytes : List ℕ) (at next : ℕ) (entries : List Entry)
    : Type 0 where
  pub payloads : List (List ℕ)
  pub sets : List Cells
  pub word : List ℕ
  pub rest : List ℕ
  pub is_word : IsPayWord out payloads sets entries word
  pub spelled : drop at bytes ≡ word ++ rest
  pub ends : drop next bytes ≡ rest
