-- The triples so far stand in the text, and each has made six draws.
use Rattle.std.proofs.Common.{◌≡◌, ◌*◌, ◌++◌}
use Rattle.sz_gen.specs.Draws.{number_after}
use Rattle.sz_gen.specs.Session.{triples, text_of_lines}
use Rattle.sz_gen.proofs.draft.Draft.push_triples.Given as goal

abbrev pub invariant-loop-done : goal.invariant-loop-done
invariant-loop-done l = record {
  number : l.self.number ≡ number_after l.fn.self.number (l._done * 6);
  text : l.self.text.items ≡ l.fn.self.text.items ++ text_of_lines (triples l._done l.side l.fn.self.number);
}
