-- Each turn adds a comma and a draw, which is one item more of the list.
use Rattle.std.proofs.Common.{◌≡◌, decimal, sym, ◌∙◌, ap, arith}
use Rattle.std.proofs.lemmas.Result.{on_ok_weaker}
use Rattle.sz_gen.specs.Draws.{draw_of}
use Rattle.sz_gen.specs.Session.{draw_text, row_text}
use Rattle.sz_gen.proofs.DrawSteps.{number_after-zero, number_after-suc}
use Rattle.sz_gen.proofs.ListSteps.{items_text-zero, items_text-push, list_text-whole}
use Rattle.sz_gen.proofs.draft.Draft.push_row.Goals as goal

pub loop-column-init : goal.loop-column-init
loop-column-init c =
    let x = c.args.self.now.number in
    record {
      number = c.push.ensures.number ∙ sym (number_after-zero x);
      text = c.in_ok-push.ensures.text ∙ items_text-zero (draw_text x c.args.below) _;
    }

pub loop-column-preserved : goal.loop-column-preserved
unfolding draw_text
loop-column-preserved c =
    let x = c.args.self.now.number in
    let m = c.args.below in
    let k = c.loop-column.column in
    let so_far = c.loop-column.invariant in
    let number = c.push_comma.ensures.number ∙ so_far.number in
    record {
      number = number_after-suc x k number c.in_ok-push_draw.ensures.number;
      text = items_text-push (draw_text x m) k _ so_far.text c.in_ok-push_comma.ensures.text
          c.in_ok-push_draw.ensures.text (ap (λ n. decimal (draw_of n m)) number);
    }

pub returns-clause-text : goal.returns-clause-text
unfolding row_text
returns-clause-text c =
    let x = c.args.self.now.number in
    let n : c.loop-column.column ≡ c.args.columns = omega arith in
    let text = list_text-whole (draw_text x c.args.below) c.args.columns c.args.self.now.text.items in
    on_ok_weaker c.push-2.result (λ e. cc) c.push-2.ensures.text
