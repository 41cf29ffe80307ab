-- Each turn adds one triple, and makes its six draws.
use Rattle.std.proofs.Common.{◌≡◌, ◌+◌, ◌*◌, ◌++◌, sym, ap, ◌∙◌, append-nil, arith}
use Rattle.sz_gen.specs.Draws.{number_after}
use Rattle.sz_gen.specs.Session.{triple, triples, text_of_lines}
use Rattle.sz_gen.proofs.DrawSteps.{number_after-zero, number_after-twice}
use Rattle.sz_gen.proofs.LineSteps.{text_of_lines-join, triples-zero, triples-suc}
use Rattle.sz_gen.proofs.draft.Draft.push_triples.Goals as goal

pub loop-done-init : goal.loop-done-init
loop-done-init c =
    let x = c.args.self.now.number in
    let text = c.args.self.now.text.items in
    record {
      number = sym (number_after-zero x);
      text = sym (ap (λ ls. text ++ text_of_lines ls) (triples-zero c.args.side x) ∙ append-nil text);
    }

pub loop-done-preserved : goal.loop-done-preserved
loop-done-preserved c =
    let x = c.args.self.now.number in
    let text = c.args.self.now.text.items in
    let side = c.args.side in
    let k = c.loop-done._done in
    let so_far = c.loop-done.invariant in
    let more : k * 6 + 6 ≡ (k + 1) * 6 = omega arith in
    record {
      number = c.in_ok-push_triple.ensures.number ∙ ap (λ n. number_after n 6) so_far.number
          ∙ number_after-twice x (k * 6) 6 ∙ ap (number_after x) more;
      text = text_of_lines-join text (triples k side x) (triple side (number_after x (k * 6))) so_far.text
          c.in_ok-push_triple.ensures.text (ap (triple side) so_far.number)
          ∙ ap (λ ls. text ++ text_of_lines ls) (sym (triples-suc k side x));
    }
