-- The set is filed, and behind the rows before it the row.
use Rattle.std.proofs.Common.{◌≡◌, ◌++◌, [], ◌∷◌, List, ℕ, sym, ap, ◌∙◌, arith}
use Rattle.sz_tables.specs.Filed.{Filed, Files}
use Rattle.sz_full_one.proofs.Growing.{rows-filed}
use Rattle.sz_full_one.proofs.index.file_input.Goals as goal

pub returns-clause-files : goal.returns-clause-files
returns-clause-files c =
    let sets = c.file_new_set.ensures.sets in
    record {
      sets = record {
        keys = sets.keys;
        entries = sets.entries;
        shapes = sets.shapes;
        numbers = ap (λ (f : Files). f.keys) c.add.ensures ∙ sets.numbers;
      };
      rows = rows-filed c.requires.grown.0 c.args.table.now c.args.region.now c.args.input c.args.row
          c.number_of.result c.args.files.now (record { cells = c.file_new_set.new.files.cells; rows = c.add.new.self })
          c.requires.grown.1 c.requires.row c.requires.grown.2 c.number_of.ensures
          (ap (λ (f : Files). f.entries) c.add.ensures
          ∙ ap (λ (es : List Filed). es ++ record { key = c.number_of.result; item = c.args.row } ∷ [])
          c.file_new_set.ensures.rows);
    }
