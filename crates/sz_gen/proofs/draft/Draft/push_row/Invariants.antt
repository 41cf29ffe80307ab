-- The draws so far stand in the text, and no other draws are made.
use Rattle.std.proofs.Common.{◌≡◌, ◌++◌, codes}
use Rattle.sz_gen.specs.Draws.{number_after}
use Rattle.sz_gen.specs.Lists.{items_text}
use Rattle.sz_gen.specs.Session.{draw_text}
use Rattle.sz_gen.proofs.draft.Draft.push_row.Given as goal

abbrev pub invariant-loop-column : goal.invariant-loop-column
invariant-loop-column l = record {
  number : l.self.number ≡ number_after l.fn.self.number l.column;
  text : l.self.text.items
      ≡ (l.fn.self.text.items ++ codes "[") ++ items_text (draw_text l.fn.self.number l.below) l.column;
}
