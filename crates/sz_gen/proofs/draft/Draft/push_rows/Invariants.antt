-- The rows so far stand in the text, and their draws are made.
use Rattle.std.proofs.Common.{◌≡◌, ◌*◌, ◌++◌, codes}
use Rattle.sz_gen.specs.Draws.{number_after}
use Rattle.sz_gen.specs.Lists.{items_text}
use Rattle.sz_gen.specs.Session.{row_text_at}
use Rattle.sz_gen.proofs.draft.Draft.push_rows.Given as goal

abbrev pub invariant-loop-line : goal.invariant-loop-line
invariant-loop-line l = record {
  number : l.self.number ≡ number_after l.fn.self.number (l.line * l.columns);
  text : l.self.text.items
      ≡ (l.fn.self.text.items ++ codes "[") ++ items_text (row_text_at l.fn.self.number l.columns l.below) l.line;
}
