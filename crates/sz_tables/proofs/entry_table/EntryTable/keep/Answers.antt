-- Making room changes no entry.
use Rattle.std.proofs.Common.{List, [], ◌∷◌, ◌++◌, ℕ, ap, subst, ◌∙◌}
use Rattle.sz_frame.specs.Parts.{Entry}
use Rattle.sz_tables.specs.Entries.{EntryRows, entries}
use Rattle.sz_tables.specs.Tables.{HasAtMostOneMore}
use Rattle.sz_tables.proofs.entry_table.EntryTable.keep.Goals as goal

pub returns-clause-entries : goal.returns-clause-entries
returns-clause-entries c =
    c.add.ensures.entries
    ∙ ap (λ (xs : List Entry). xs ++ c.args.entry.now ∷ []) (ap entries c.reserve.ensures.kept)

pub returns-clause-payloads : goal.returns-clause-payloads
returns-clause-payloads c =
    subst (λ (ps : List (List ℕ)). HasAtMostOneMore ps c.add.new.self.payloads c.args.entry.now.payload)
    (ap (λ (t : EntryRows). t.payloads) c.reserve.ensures.kept) c.add.ensures.payloads
