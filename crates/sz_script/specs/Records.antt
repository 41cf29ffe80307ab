-- The cells of an array as a comma-separated text gives them: records of fields, as `csv` reads
-- them. No record is a header, and every other setting is that crate's default: fields are parted
-- by commas and may stand in quotes, no field is trimmed, and all records are equally long.
use Rattle.std.specs.Prelude.{◌≡◌, ℕ, ◌*◌, ◌^◌, ℤ, pos, List, [], ◌∷◌, map, length, Bool, not, ◌&&◌}
use Rattle.std.specs.Prelude.{◌==◌, nat_lt, nat_le, if◌then◌else◌, Option, Some, None, is_some}
use Rattle.std.specs.Prelude.{option_map, unwrap_or, neg_ℤ, Result, Ok, Err, true, take}
use Rattle.std.specs.List.{list_all, flat_map, slice_get}
use Rattle.std.specs.Str.{all_ascii_digits}
use Rattle.std.specs.Str.Parse.{digits_value}
use Rattle.csv.specs.declared.error.ErrorKind.{ErrorKind}
use Rattle.csv.specs.declared.error.ErrorKind.TheVariants as kind
use Rattle.csv.specs.Reading.{default_config, records, strip_bom}
use Rattle.sz_cells.specs.Extent.{layered}
use Rattle.sz_spec.specs.Values.{Grid}
use Rattle.sz_script.specs.Fields.{only_if}
use Rattle.sz_script.specs.declared.command.LineFault.{LineFault}
use Rattle.sz_script.specs.declared.command.LineFault.TheVariants as line_fault
use Rattle.sz_script.specs.declared.refusal.Refusal.{Refusal}
use Rattle.sz_script.specs.declared.refusal.Refusal.TheVariants.{BadCells, TooManyCells}

-- the records of a text, each the list of its fields' bytes
abbrev pub records_in : List ℕ → List (List (List ℕ))
records_in text = records default_config (strip_bom text)

-- ---- fields

-- one digit or more, and nothing else
abbrev pub are_digits : List ℕ → Bool
are_digits ds = nat_lt 0 (length ds) && all_ascii_digits ds

-- the number that digits write, and the same below 0, where it is an i64
abbrev pub number_of : List ℕ → Option ℤ
number_of ds = only_if (are_digits ds && nat_lt (digits_value 10 ds) (2 ^ 63))
    (Some (pos (digits_value 10 ds)))

abbrev pub negated_of : List ℕ → Option ℤ
negated_of ds = only_if (are_digits ds && nat_le (digits_value 10 ds) (2 ^ 63))
    (Some (neg_ℤ (pos (digits_value 10 ds))))

-- what a field holds: nothing where it has no bytes, and else the number of its digits, which a
-- minus may stand before
abbrev pub value_in : List ℕ → Option (Option ℤ)
value_in [] = Some None
value_in (c ∷ ds) = option_map Some (if c == 45 then negated_of ds else number_of (c ∷ ds))

abbrev pub is_value : List ℕ → Bool
is_value field = is_some (value_in field)

abbrev pub value_of : List ℕ → Option ℤ
value_of field = unwrap_or (value_in field) None

-- ---- records

-- so many fields, each of them a value
abbrev pub is_row : ℕ → List (List ℕ) → Bool
is_row width fields = (length fields == width) && list_all is_value fields

-- how many fields the first record has
abbrev pub width_of : List (List (List ℕ)) → ℕ
width_of rows = length (unwrap_or (slice_get rows 0) [])

-- one record or more, one field or more in each, and each as long as the first
abbrev pub are_rows : List (List (List ℕ)) → Bool
are_rows rows = nat_lt 0 (length rows) && nat_lt 0 (width_of rows)
    && list_all (is_row (width_of rows)) rows

-- more than 1,048,576 cells
abbrev pub are_too_many : List (List (List ℕ)) → Bool
are_too_many rows = nat_lt 1048576 (length rows * width_of rows)

-- the values in row-major order
abbrev pub values_of_row : List (List ℕ) → List (Option ℤ)
values_of_row fields = map value_of fields

abbrev pub table_of : List (List (List ℕ)) → Grid
table_of rows = record {
  extent = layered 1 (length rows) (width_of rows);
  values = flat_map values_of_row rows;
}

-- the array that records are, or the rule that they break
abbrev pub table_in : List (List (List ℕ)) → Result Grid Refusal
table_in rows = if not (are_rows rows) then Err BadCells
    else if are_too_many rows then Err TooManyCells
    else Ok (table_of rows)

-- ---- texts

-- there is no record, or they are ragged, or a field is neither empty nor an i64
abbrev pub is_bad_text : List ℕ → Bool
is_bad_text text = not (are_rows (records_in text))

abbrev pub has_too_many_fields : List ℕ → Bool
has_too_many_fields text = are_too_many (records_in text)

-- the array that a text is, where its cells are neither bad nor too many
abbrev pub grid_of_text : List ℕ → Grid
grid_of_text text = table_of (records_in text)

-- ---- what is kept while a text is read

-- the first of some values: one more than an array has cells
abbrev pub first_values : List (Option ℤ) → List (Option ℤ)
first_values values = take 1048577 values

-- records that break no rule but may be too many: how many fields each has, and the first values
pub record IsTable (rows : List (List (List ℕ))) (width : ℕ)
    (values : List (Option ℤ)) : Type 0 where
  pub wide : width ≡ width_of rows
  pub each : list_all (is_row width) rows ≡ true
  pub first : values ≡ first_values (flat_map values_of_row rows)

-- how a fault of `csv` is told: one of memory as no memory, and so one of the reader, which a text
-- has not; any other as bad cells
abbrev pub fault_of : ErrorKind → LineFault
fault_of (kind.Io e) = line_fault.NoMemory
fault_of kind.OutOfMemory = line_fault.NoMemory
fault_of (kind.UnequalLengths place expected len) = line_fault.Refused BadCells
fault_of (kind.Utf8 place err) = line_fault.Refused BadCells
fault_of (kind.Serialize text) = line_fault.Refused BadCells
fault_of (kind.Deserialize place err) = line_fault.Refused BadCells
