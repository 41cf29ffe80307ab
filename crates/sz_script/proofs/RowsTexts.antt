-- Tables of comma-separated texts: what their fields hold, their records, and the array of a line or the numbers of its
-- refusal. Each is found by computing; expected arrays by hand.
--
-- The key idea: a row is a text and what it is read as.
use Rattle.std.specs.Prelude.{◌≡◌, ℕ, ℤ, List, pos, negsuc, [], ◌∷◌, ◌++◌, map, codes, replicate, Option}
use Rattle.std.specs.Prelude.{Some, None, is_none, Ok, true, false}
use Rattle.std.specs.List.{list_all}
use Rattle.std.specs.Str.{is_utf8, chars}
use Rattle.std.proofs.Common.{refl}
use Rattle.csv.proofs.OnLiterals.{csv_on_literals}
use Rattle.serde_json.proofs.OnLiterals.{serde_json_on_literals}
use Rattle.sz_script.specs.declared.command.Command.TheVariants as command
use Rattle.sz_script.specs.Reading.{reading}
use Rattle.sz_script.specs.Records.{records_in, value_in, are_too_many}
use Rattle.sz_script.proofs.RowsTold.{AreTold, row, each, read_as, between}

line-csv : reading (codes "{\"csv\":\"t\",\"text\":\"1,,3\\n4,5,6\\n\"}")
    ≡ Ok (command.Csv (codes "t") (record {
      extent = record { layers = 1; rows = 2; cols = 3 };
      values = Some (pos 1) ∷ None ∷ Some (pos 3) ∷ Some (pos 4) ∷ Some (pos 5) ∷ Some (pos 6) ∷ [];
    }))
unfolding serde_json_on_literals csv_on_literals is_utf8 chars
line-csv = refl

-- ---- fields

-- the fields' texts, and what each holds
abbrev FieldRow : Type 0
FieldRow = List ℕ × Option (Option ℤ)

abbrev AreValues : List FieldRow → Type 0
AreValues rows = map (λ (r : FieldRow). value_in r.0) rows ≡ map (λ (r : FieldRow). r.1) rows

numbers : AreValues (
    (codes "-7", Some (Some (negsuc 6))) ∷ (codes "-0", Some (Some (pos 0))) ∷ (codes "007", Some (Some (pos 7)))
    ∷ (replicate 1000 48 ++ codes "7", Some (Some (pos 7))) ∷ ([], Some None)
    ∷ (codes "9223372036854775807", Some (Some (pos 9223372036854775807)))
    ∷ (codes "-9223372036854775808", Some (Some (negsuc 9223372036854775807))) ∷ [])
numbers = refl

-- past the greatest and the least number, by their signs, with blanks, and with a point
no_numbers : list_all (λ text. is_none (value_in text)) (
    codes "9223372036854775808" ∷ codes "-9223372036854775809" ∷ codes "+5" ∷ codes "-" ∷ codes "--1" ∷ codes " 1"
    ∷ codes "1 " ∷ codes " " ∷ codes "1.0" ∷ []) ≡ true
no_numbers = refl

-- ---- records

-- a text, and the fields of its records
abbrev RecordsRow : Type 0
RecordsRow = List ℕ × List (List (List ℕ))

abbrev AreRecords : List RecordsRow → Type 0
AreRecords rows = map (λ (r : RecordsRow). records_in r.0) rows ≡ map (λ (r : RecordsRow). r.1) rows

quotes : AreRecords (
    -- a quote that is not closed ends with the text, and takes its commas and ends of lines with it
    (codes "1,\"2,3\n4", (codes "1" ∷ codes "2,3\n4" ∷ []) ∷ [])
    ∷ (codes "\"a\"\"b\",1", (codes "a\"b" ∷ codes "1" ∷ []) ∷ [])
    ∷ (codes "\"\",\"7\"\n", ([] ∷ codes "7" ∷ []) ∷ []) ∷ [])
unfolding csv_on_literals
quotes = refl

ends : AreRecords (
    -- a carriage return alone ends a record, and empty lines are none
    (
      codes "1,2\r3,4\r\n\r\n\n5,6",
      (codes "1" ∷ codes "2" ∷ []) ∷ (codes "3" ∷ codes "4" ∷ []) ∷ (codes "5" ∷ codes "6" ∷ []) ∷ [],
    )
    -- a byte order mark is none of the first field
    ∷ (239 ∷ 187 ∷ 191 ∷ codes "1,2", (codes "1" ∷ codes "2" ∷ []) ∷ [])
    ∷ (codes " 1 , 2", (codes " 1 " ∷ codes " 2" ∷ []) ∷ [])
    ∷ (codes "\n\r\n", [])
    ∷ (codes ",", ([] ∷ [] ∷ []) ∷ []) ∷ [])
unfolding csv_on_literals
ends = refl

-- ---- lines

-- an array `t`, by its text
texts : AreTold (between (codes "{\"csv\":\"t\",\"text\":\"") (codes "\"}")) (
    each [] (codes "\\\"1\\\",\\\"\\\"" ∷ codes "1,\\\"2" ∷ codes "\\ufeff1" ∷ [])
    ++ each (5 ∷ []) (
    -- a mark that is not at the start is no number
    codes "1,\\ufeff1" ∷ codes "1,2\\n3" ∷ codes "1\\n2,3" ∷ codes "" ∷ codes "\\n\\n" ∷ codes "1,+5"
    -- a first record that is right, and a second that is none
    ∷ codes "1\\nx" ∷ []))
unfolding serde_json_on_literals csv_on_literals is_utf8 chars
texts = refl

-- a name that is none comes before a text that is bad; and what is no text
lines : AreTold read_as (
    row (codes "{\"csv\":\"T\",\"text\":\"x\"}") (4 ∷ [])
    ∷ each (3 ∷ []) (codes "{\"csv\":\"t\",\"text\":[[1]]}" ∷ codes "{\"csv\":\"t\"}"
    ∷ codes "{\"csv\":\"t\",\"cells\":[[1]]}" ∷ []))
unfolding serde_json_on_literals csv_on_literals is_utf8 chars
lines = refl

-- ---- the greatest texts, by records of empty fields

abbrev empties : ℕ → ℕ → List (List (List ℕ))
empties height width = replicate height (replicate width [])

records-most : are_too_many (empties 1024 1024) ≡ false
records-most = refl

-- one cell more than there may be: 17 times 61,681
records-more : are_too_many (empties 17 61681) ≡ true
records-more = refl
