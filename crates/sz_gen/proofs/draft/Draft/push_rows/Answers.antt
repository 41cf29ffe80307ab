-- Each turn adds a comma and a row, which is one item more of the list, and makes the row's draws.
use Rattle.std.proofs.Common.{◌≡◌, ◌+◌, ◌*◌, sym, ◌∙◌, ap, arith}
use Rattle.std.proofs.lemmas.Result.{on_ok_weaker}
use Rattle.sz_gen.specs.Draws.{number_after}
use Rattle.sz_gen.specs.Session.{row_text, row_text_at, rows_text}
use Rattle.sz_gen.proofs.DrawSteps.{number_after-zero, number_after-twice}
use Rattle.sz_gen.proofs.ListSteps.{items_text-zero, items_text-push, list_text-whole}
use Rattle.sz_gen.proofs.draft.Draft.push_rows.Goals as goal

pub loop-line-init : goal.loop-line-init
loop-line-init c =
    let x = c.args.self.now.number in
    let none : 0 * c.args.columns ≡ 0 = omega arith in
    record {
      number = c.push.ensures.number ∙ sym (number_after-zero x) ∙ ap (number_after x) (sym none);
      text = c.in_ok-push.ensures.text ∙ items_text-zero (row_text_at x c.args.columns c.args.below) _;
    }

pub loop-line-preserved : goal.loop-line-preserved
unfolding row_text_at
loop-line-preserved c =
    let x = c.args.self.now.number in
    let w = c.args.columns in
    let m = c.args.below in
    let r = c.loop-line.line in
    let so_far = c.loop-line.invariant in
    let number = c.push_comma.ensures.number ∙ so_far.number in
    let more : r * w + w ≡ (r + 1) * w = omega arith in
    record {
      number = c.in_ok-push_row.ensures.number ∙ ap (λ n. number_after n w) number
          ∙ number_after-twice x (r * w) w ∙ ap (number_after x) more;
      text = items_text-push (row_text_at x w m) r _ so_far.text c.in_ok-push_comma.ensures.text
          c.in_ok-push_row.ensures.text (ap (λ n. row_text n w m) number);
    }

pub returns-clause-text : goal.returns-clause-text
unfolding rows_text
returns-clause-text c =
    let x = c.args.self.now.number in
    let n : c.loop-line.line ≡ c.args.rows = omega arith in
    let text = list_text-whole (row_text_at x c.args.columns c.args.below) c.args.rows c.args.self.now.text.items in
    on_ok_weaker c.push-2.result (λ e. cc) c.push-2.ensures.text
