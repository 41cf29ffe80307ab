-- The bytes of a store, full or of payloads, by a spelling of its cell sets: that of eight bytes a
-- run, or the short one. All else is the same bytes in both.
use Rattle.std.specs.Prelude.{◌≡◌, ℕ, ◌*◌, ◌^◌, ◌<◌, ◌≤◌, List, ◌∷◌, ◌++◌, length, drop}
use Rattle.std.specs.List.{All, AllZip}
use Rattle.sz_cells.specs.Extent.{Extent}
use Rattle.sz_cells.specs.Cells.{Cells}
use Rattle.sz_cells.specs.SetBytes.{IsSetOf, four_bytes}
use Rattle.sz_region.specs.declared.set_bytes.Take.{Take}
use Rattle.sz_region.specs.declared.set_bytes.Take.TheVariants.{Bad, NoMemory}
use Rattle.sz_frame.specs.Parts.{Pairing, Entry}
use Rattle.sz_frame.specs.Fits.{AreApart}
use Rattle.sz_region.specs.Counted.{counted, rows_bytes, IsAt}
use Rattle.sz_region.specs.FullBytes.{Listed, IsListed, AreNamesOf}
use Rattle.sz_region.specs.PayBytes.{IsShort, payload_bytes, AreNamesOfEntry}
use Rattle.sz_short.specs.ShortSets.{short_set_bytes}

-- ---- full lineage

-- the array's byte, and the set's bytes
abbrev pub listed_by : (Cells → List ℕ) → Listed → List ℕ
listed_by spell l = l.array ∷ spell l.set

-- these region pairs of an operator with these shapes, by this table of sets and these names
pub record AreFullParts (out : Extent) (ins : List Extent) (table : List Listed)
    (names : List (List ℕ)) (regions : List Pairing) : Type 0 where
  pub each : All (IsListed out ins) table
  pub few_sets : length table < 2 ^ 32
  pub few : length regions ≤ 2 ^ 30
  pub named : AllZip (AreNamesOf table (length ins)) names regions

-- their bytes
abbrev pub full_word : (Cells → List ℕ) → List Listed → List (List ℕ) → List ℕ
full_word spell table names = counted (listed_by spell) table ++ rows_bytes names

-- a store of these region pairs, its sets so spelled, begins at a place, and ends before another
pub record BeginsFull (spell : Cells → List ℕ) (out : Extent) (ins : List Extent) (bytes : List ℕ)
    (at next : ℕ) (regions : List Pairing) : Type 0 where
  pub table : List Listed
  pub names : List (List ℕ)
  pub rest : List ℕ
  pub are : AreFullParts out ins table names regions
  pub spelled : drop at bytes ≡ full_word spell table names ++ rest
  pub ends : drop next bytes ≡ rest

-- no store of region pairs, its sets so spelled, begins at the place
abbrev pub NoFullBegins : (Cells → List ℕ) → Extent → List Extent → List ℕ → ℕ → Type 0
NoFullBegins spell out ins bytes at =
    (next : ℕ) (regions : List Pairing) → BeginsFull spell out ins bytes at next regions → ⊥

-- what is said where no short store is read: at which place none begins, or that there was no
-- memory
abbrev pub SaysNoShortFull : Extent → List Extent → List ℕ → ℕ → Take → Type 0
SaysNoShortFull out ins bytes at (Bad place) =
    (place ≡ at) × NoFullBegins short_set_bytes out ins bytes at
SaysNoShortFull out ins bytes at NoMemory = Unit {0}

-- A store that begins at a place, its sets spelled in one way, was appended with its sets spelled
-- in another: the same sets in the same order, and the same names.
pub record RespellsFull (reads writes : Cells → List ℕ) (out : Extent) (ins : List Extent)
    (bytes : List ℕ) (at next : ℕ) (old new : List ℕ) : Type 0 where
  pub table : List Listed
  pub names : List (List ℕ)
  pub regions : List Pairing
  pub are : AreFullParts out ins table names regions
  pub read : IsAt bytes at next (full_word reads table names)
  pub written : new ≡ old ++ full_word writes table names

-- ---- payloads

-- these entries for an output of this shape, by these tables and names
pub record ArePayParts (out : Extent) (payloads : List (List ℕ)) (sets : List Cells)
    (names : List (List ℕ)) (entries : List Entry) : Type 0 where
  pub short : All IsShort payloads
  pub few_payloads : length payloads < 2 ^ 32
  pub each : All (IsSetOf out) sets
  pub few_sets : length sets < 2 ^ 32
  pub few : length entries ≤ 2 ^ 30
  pub apart : AreApart entries
  pub named : AllZip (AreNamesOfEntry sets payloads) names entries

-- their bytes
abbrev pub pay_word : (Cells → List ℕ) → List (List ℕ) → List Cells → List (List ℕ) → List ℕ
pay_word spell payloads sets names =
    counted payload_bytes payloads ++ counted spell sets ++ rows_bytes names

-- a store of these entries, its sets so spelled, begins at a place, and ends before another
pub record BeginsPay (spell : Cells → List ℕ) (out : Extent) (bytes : List ℕ) (at next : ℕ)
    (entries : List Entry) : Type 0 where
  pub payloads : List (List ℕ)
  pub sets : List Cells
  pub names : List (List ℕ)
  pub rest : List ℕ
  pub are : ArePayParts out payloads sets names entries
  pub spelled : drop at bytes ≡ pay_word spell payloads sets names ++ rest
  pub ends : drop next bytes ≡ rest

-- no store of entries, its sets so spelled, begins at the place
abbrev pub NoPayBegins : (Cells → List ℕ) → Extent → List ℕ → ℕ → Type 0
NoPayBegins spell out bytes at =
    (next : ℕ) (entries : List Entry) → BeginsPay spell out bytes at next entries → ⊥

-- what is said where no short store is read: at which place none begins, or that there was no
-- memory
abbrev pub SaysNoShortPay : Extent → List ℕ → ℕ → Take → Type 0
SaysNoShortPay out bytes at (Bad place) = (place ≡ at) × NoPayBegins short_set_bytes out bytes at
SaysNoShortPay out bytes at NoMemory = Unit {0}

-- A store that begins at a place, its sets spelled in one way, was appended with its sets spelled
-- in another: the same payloads and sets in the same order, and the same names.
pub record RespellsPay (reads writes : Cells → List ℕ) (out : Extent) (bytes : List ℕ)
    (at next : ℕ) (old new : List ℕ) : Type 0 where
  pub payloads : List (List ℕ)
  pub sets : List Cells
  pub names : List (List ℕ)
  pub entries : List Entry
  pub are : ArePayParts out payloads sets names entries
  pub read : IsAt bytes at next (pay_word reads payloads sets names)
  pub written : new ≡ old ++ pay_word writes payloads sets names

-- ---- rows of names

-- rows of this width, no more than a number of four bytes says
pub record AreRowsOf (width : ℕ) (rows : List (List ℕ)) : Type 0 where
  pub wide : All (λ row. length row ≡ width) rows
  pub few : length rows < 2 ^ 32

-- four bytes for how many rows of this width there are, and so many bytes
pub record IsBlock (width : ℕ) (block : List ℕ) : Type 0 where
  pub count : ℕ
  pub body : List ℕ
  pub small : count < 2 ^ 32
  pub spelled : block ≡ four_bytes count ++ body
  pub long : length body ≡ count * width * 4
