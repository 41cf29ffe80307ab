-- What a reader may take for granted of the bytes of stores. Each law is proved of the definitions.
use Rattle.std.specs.Prelude.{◌≡◌, ℕ, ◌+◌, ◌≤◌, List, ◌∷◌, ◌++◌, length, true}
use Rattle.std.specs.List.{All}
use Rattle.sz_cells.specs.Extent.{Extent, is_extent}
use Rattle.sz_cells.specs.Cells.{Cells}
use Rattle.sz_cells.specs.SetBytes.{IsSetOf, BeginsSet, set_bytes}
use Rattle.sz_frame.specs.Parts.{Pairing, Entry}
use Rattle.sz_region.specs.FullBytes.{Listed, IsFullWord, BeginsRegions}
use Rattle.sz_region.specs.PayBytes.{IsPayWord, BeginsEntries}

-- each is the shape of an array
abbrev pub AreRight : List Extent → Type 0
AreRight extents = All (λ e. is_extent e ≡ true) extents

-- At most one list of region pairs begins at a place of some bytes, and its store ends at one
-- place.
abbrev pub OneListOfRegionsBegins : Type 0
OneListOfRegionsBegins = (out : Extent) (ins : List Extent) (bytes : List ℕ) (at next other : ℕ)
    (a b : List Pairing) → AreRight (out ∷ ins)
    → BeginsRegions out ins bytes at next a → BeginsRegions out ins bytes at other b
    → next ≤ length bytes → other ≤ length bytes → (a ≡ b) × (next ≡ other)

-- The word of some region pairs, whatever stands before and behind it, begins a store of them that
-- ends behind it; and any reading of that place within the bytes is this one.
abbrev pub WrittenRegionsAreRead : Type 0
WrittenRegionsAreRead = (out : Extent) (ins : List Extent) (table : List Listed)
    (regions : List Pairing) (before word rest : List ℕ) → AreRight (out ∷ ins)
    → IsFullWord out ins table regions word → let bytes = before ++ (word ++ rest) in
    BeginsRegions out ins bytes (length before) (length before + length word) regions
    × ((other : List Pairing) (next : ℕ) → BeginsRegions out ins bytes (length before) next other
    → next ≤ length bytes → (other ≡ regions) × (next ≡ length before + length word))

-- At most one list of entries begins at a place of some bytes, and its store ends at one place.
abbrev pub OneListOfEntriesBegins : Type 0
OneListOfEntriesBegins = (out : Extent) (bytes : List ℕ) (at next other : ℕ) (a b : List Entry)
    → is_extent out ≡ true → BeginsEntries out bytes at next a → BeginsEntries out bytes at other b
    → next ≤ length bytes → other ≤ length bytes → (a ≡ b) × (next ≡ other)

-- The word of some entries, whatever stands before and behind it, begins a store of them that ends
-- behind it; and any reading of that place within the bytes is this one.
abbrev pub WrittenEntriesAreRead : Type 0
WrittenEntriesAreRead = (out : Extent) (payloads : List (List ℕ)) (sets : List Cells)
    (entries : List Entry) (before word rest : List ℕ) → is_extent out ≡ true
    → IsPayWord out payloads sets entries word → let bytes = before ++ (word ++ rest) in
    BeginsEntries out bytes (length before) (length before + length word) entries
    × ((other : List Entry) (next : ℕ) → BeginsEntries out bytes (length before) next other
    → next ≤ length bytes → (other ≡ entries) × (next ≡ length before + length word))

-- The bytes of a set, whatever stands before and behind them, begin that set and end behind them;
-- and any reading of that place within the bytes is this one.
abbrev pub WrittenSetsAreRead : Type 0
WrittenSetsAreRead = (e : Extent) (before : List ℕ) (set : Cells) (rest : List ℕ)
    → is_extent e ≡ true → IsSetOf e set → let bytes = before ++ (set_bytes set ++ rest) in
    BeginsSet e bytes (length before) (length before + length (set_bytes set)) set
    × ((other : Cells) (next : ℕ) → BeginsSet e bytes (length before) next other
    → next ≤ length bytes → (other ≡ set) × (next ≡ length before + length (set_bytes set)))
