-- What a reader may take for granted of short numbers, of short sets, and of stores by a spelling
-- of their sets. Each law is proved.
use Rattle.std.specs.Prelude.{◌≡◌, ◌↔◌, ℕ, ◌+◌, ◌^◌, ◌<◌, ◌≤◌, true, List, ◌++◌, length}
use Rattle.sz_cells.specs.Extent.{Extent, is_extent}
use Rattle.sz_cells.specs.Cells.{Cells}
use Rattle.sz_cells.specs.SetBytes.{IsSetOf, set_bytes}
use Rattle.sz_frame.specs.Parts.{Pairing, Entry}
use Rattle.sz_region.specs.FullBytes.{BeginsRegions}
use Rattle.sz_region.specs.PayBytes.{BeginsEntries}
use Rattle.sz_short.specs.ShortNumber.{short_number, number_spelled, IsShortSpelling}
use Rattle.sz_short.specs.ShortSets.{short_set_bytes, BeginsShortSet}
use Rattle.sz_short.specs.ShortStores.{BeginsFull, BeginsPay}

-- the bytes of a number are a short spelling, of this number, in at most 5 bytes
abbrev pub NumbersHaveShortSpellings : Type 0
NumbersHaveShortSpellings = (n : ℕ) → n < 2 ^ 32
    → IsShortSpelling (short_number n) × (number_spelled (short_number n) ≡ n)
    × (length (short_number n) ≤ 5)

-- and a short spelling of a number below 2^32 is the bytes of that number
abbrev pub ShortSpellingsAreNumbers : Type 0
ShortSpellingsAreNumbers = (bytes : List ℕ) → IsShortSpelling bytes
    → number_spelled bytes < 2 ^ 32 → bytes ≡ short_number (number_spelled bytes)

-- of two numbers with the same bytes at the beginning, whatever follows, the numbers are one, and
-- so is what follows
abbrev pub BytesAreOneShortNumber : Type 0
BytesAreOneShortNumber = (m n : ℕ) (x y : List ℕ) → m < 2 ^ 32 → n < 2 ^ 32
    → short_number m ++ x ≡ short_number n ++ y → (m ≡ n) × (x ≡ y)

-- of two sets of one shape with the same short bytes at the beginning, whatever follows, the sets
-- are one, and so is what follows
abbrev pub BytesAreOneShortSet : Type 0
BytesAreOneShortSet = (e : Extent) (a b : Cells) (x y : List ℕ)
    → is_extent e ≡ true → IsSetOf e a → IsSetOf e b
    → short_set_bytes a ++ x ≡ short_set_bytes b ++ y → (a ≡ b) × (x ≡ y)

-- at most one short set of a shape begins at a place of some bytes, and it ends at one place
abbrev pub OneShortSetBegins : Type 0
OneShortSetBegins = (e : Extent) (bytes : List ℕ) (at next other : ℕ) (a b : Cells)
    → is_extent e ≡ true
    → BeginsShortSet e bytes at next a → BeginsShortSet e bytes at other b
    → next ≤ length bytes → other ≤ length bytes
    → (a ≡ b) × (next ≡ other) × (next ≡ at + length (short_set_bytes a))

-- the short bytes of a set, whatever stands before and behind them, begin it, and it ends behind
-- them; and any reading of that place within the bytes is this one
abbrev pub WrittenShortSetsAreRead : Type 0
WrittenShortSetsAreRead = (e : Extent) (set : Cells) (before rest : List ℕ)
    → is_extent e ≡ true → IsSetOf e set → let word = short_set_bytes set in
    let bytes = before ++ (word ++ rest) in
    BeginsShortSet e bytes (length before) (length before + length word) set
    × ((other : Cells) (next : ℕ) → BeginsShortSet e bytes (length before) next other
    → next ≤ length bytes → (other ≡ set) × (next ≡ length before + length word))

-- where its sets have eight bytes a run, a store of full lineage is one as it is defined without a
-- choice of spelling
abbrev pub LongFullIsFull : Type 0
LongFullIsFull = (out : Extent) (ins : List Extent) (bytes : List ℕ) (at next : ℕ)
    (regions : List Pairing) → BeginsFull set_bytes out ins bytes at next regions
    ↔ BeginsRegions out ins bytes at next regions

-- and so is a store of payloads
abbrev pub LongPayIsPay : Type 0
LongPayIsPay = (out : Extent) (bytes : List ℕ) (at next : ℕ) (entries : List Entry)
    → BeginsPay set_bytes out bytes at next entries ↔ BeginsEntries out bytes at next entries
