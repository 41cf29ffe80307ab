-- The records so far are those that the reader gave, and their table is what was kept of them.
use Rattle.std.proofs.Common.{◌≡◌, ◌<◌, ℕ, List, Some, false}
use Rattle.csv.specs.Reading.{Reached, Ready, default_config, source_of, strip_bom}
use Rattle.csv.specs.declared.parser.State.TheVariants as st
use Rattle.csv.specs.declared.reader.Trim.TheVariants as trim
use Rattle.sz_script.specs.Records.{IsTable}
use Rattle.sz_script.proofs.Tables.{expected_of}
use Rattle.sz_script.proofs.records.read_rows.Given as goal

abbrev pub invariant-loop-record : goal.invariant-loop-record
invariant-loop-record l =
    (l.record-iterator.rdr.trim ≡ trim.None) × Ready l.record-iterator.rdr × (0 < l.record-iterator.left)
    × (l.record-iterator.rdr.config ≡ default_config) × (l.record-iterator.rdr.flexible ≡ false)
    × (rest : List ℕ) × (source_of (λ s. Some s.now) l.record-iterator.rdr ≡ Some rest)
    × (rows : List (List (List ℕ)))
    × Reached default_config st.StartRecord (strip_bom l.fn.text) rows l.record-iterator.rdr.state rest
    × (l.record-iterator.rdr.expected ≡ expected_of rows) × IsTable rows l.width l.cells.items
