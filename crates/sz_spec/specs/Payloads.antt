-- Payloads: the bytes that are kept for a cell in place of the cells that it is related to, and
-- what they stand for.
use Rattle.std.specs.Prelude.{ℕ, List, [], ◌∷◌, Bool, true, false, ◌&&◌, ◌||◌, ◌==◌, nat_lt}
use Rattle.std.specs.Prelude.{if◌then◌else◌}
use Rattle.std.specs.Int.{w32, from_be_bytes}
use Rattle.std.specs.Option.{option_map_or}
use Rattle.sz_cells.specs.declared.Cell.{Cell}
use Rattle.sz_cells.specs.Extent.{Extent}
use Rattle.sz_cells.specs.Cells.{is_same, has}
use Rattle.sz_cells.specs.SetBytes.{set_bytes, four_bytes}
use Rattle.sz_cells.specs.SetWords.{set_spelled, is_set_word}
use Rattle.sz_spec.specs.declared.op.Op.{Op}
use Rattle.sz_spec.specs.declared.op.Op.TheVariants.{Lookup, Regions, Clean}
use Rattle.sz_spec.specs.Values.{Grid, input_at, extent_at}
use Rattle.sz_spec.specs.Operators.Lookup.{match_of}
use Rattle.sz_spec.specs.Operators.Regions.{is_high, component_of}
use Rattle.sz_spec.specs.Operators.Clean.{is_hot, is_in_square}

-- the column that a lookup's payload names: four bytes of it
abbrev pub column_named : List ℕ → ℕ
column_named payload = from_be_bytes w32 payload

-- which payloads are an operator's: of lookup no byte or four bytes of a column of the table; of
-- clean the byte 0 or 1; of regions no byte or exactly one cell set of the input's shape; of the
-- others none
abbrev pub is_column : Extent → List ℕ → Bool
is_column table (a ∷ b ∷ c ∷ d ∷ []) = nat_lt (column_named (a ∷ b ∷ c ∷ d ∷ [])) table.cols
is_column table _ = false

abbrev pub is_flag : List ℕ → Bool
is_flag (b ∷ []) = (b == 0) || (b == 1)
is_flag _ = false

abbrev pub is_none_or : (List ℕ → Bool) → List ℕ → Bool
is_none_or test [] = true
is_none_or test (b ∷ bytes) = test (b ∷ bytes)

abbrev pub is_payload : Op → List Extent → List ℕ → Bool
is_payload Lookup ins payload = is_none_or (is_column (extent_at ins 1)) payload
is_payload (Regions t) ins payload = is_none_or (is_set_word (extent_at ins 0)) payload
is_payload (Clean t) ins payload = is_flag payload
is_payload _ ins payload = false

-- what a payload of cell o stands for: o is related to cell x of input i
abbrev pub entry_kept : List ℕ → Cell → Bool
entry_kept [] x = false
entry_kept (b ∷ bytes) x = (x.row == 0) && (x.col == column_named (b ∷ bytes))

abbrev pub set_kept : Extent → List ℕ → Cell → Cell → Bool
set_kept e [] o x = is_same x o
set_kept e (b ∷ bytes) o x = has (set_spelled e (b ∷ bytes)) x

abbrev pub square_kept : Extent → List ℕ → Cell → Cell → Bool
square_kept e (b ∷ []) o x = if b == 1 then is_in_square e o x else is_same x o
square_kept e _ o x = is_same x o

abbrev pub mapped_by_payload : Op → List Extent → List ℕ → ℕ → Cell → Cell → Bool
mapped_by_payload Lookup ins payload i o x =
    ((i == 0) && is_same x o) || ((i == 1) && entry_kept payload x)
mapped_by_payload (Regions t) ins payload i o x =
    (i == 0) && set_kept (extent_at ins 0) payload o x
mapped_by_payload (Clean t) ins payload i o x =
    (i == 0) && square_kept (extent_at ins 0) payload o x
mapped_by_payload _ ins payload i o x = false

-- the payload that is kept for output cell o: it stands for the cells to which o is related
abbrev pub payload_of : Op → List Grid → Cell → List ℕ
payload_of Lookup inputs o =
    option_map_or four_bytes (match_of (input_at inputs 0) (input_at inputs 1) o) []
payload_of (Regions t) inputs o =
    if is_high t (input_at inputs 0) o then set_bytes (component_of t (input_at inputs 0) o) else []
payload_of (Clean t) inputs o = if is_hot t (input_at inputs 0) o then 1 ∷ [] else 0 ∷ []
payload_of _ inputs o = []

-- the cells for which a composite store keeps an entry: the matched, the high and the hot ones
abbrev pub overrides : Op → List Grid → Cell → Bool
overrides Lookup inputs o =
    option_map_or (λ k. true) (match_of (input_at inputs 0) (input_at inputs 1) o) false
overrides (Regions t) inputs o = is_high t (input_at inputs 0) o
overrides (Clean t) inputs o = is_hot t (input_at inputs 0) o
overrides _ inputs o = false
