-- The line's pieces, one after another.
use Rattle.std.proofs.lemmas.Result.{on_ok_weaker}
use Rattle.sz_gen.specs.Session.{flow_line}
use Rattle.sz_gen.proofs.LineSteps.{append-twice}
use Rattle.sz_gen.proofs.draft.Draft.push_flow.Goals as goal

pub returns-clause-text : goal.returns-clause-text
unfolding flow_line
returns-clause-text c =
    let text = c.args.self.now.text.items in
    let two = append-twice text _ _ c.in_ok-push.ensures.text c.in_ok-push-2.ensures.text in
    let three = append-twice text _ _ two c.in_ok-push-3.ensures.text in
    let four = append-twice text _ _ three c.in_ok-push-4.ensures.text in
    let five = append-twice text _ _ four c.in_ok-push-5.ensures.text in
    let six = append-twice text _ _ five c.in_ok-push-6.ensures.text in
    let seven = append-twice text _ _ six c.in_ok-push-7.ensures.text in
    on_ok_weaker c.push_line.result (λ last. append-twice text _ _ seven last) c.push_line.ensures.text
