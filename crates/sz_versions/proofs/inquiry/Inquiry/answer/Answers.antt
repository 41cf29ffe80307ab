-- Each view was asked once, and is told of as it is then.
use Rattle.std.proofs.Common.{ℕ, List, map, ap, ap₂, ◌∙◌, subst, arith}
use Rattle.std.specs.List.{AllZip}
use Rattle.std.proofs.lemmas.Result.{IfOk-weaker}
use Rattle.sz_query.specs.declared.views.NodeView.{NodeView}
use Rattle.sz_query.specs.Views.{view_of}
use Rattle.sz_query.specs.Turns.{IsAsked}
use Rattle.sz_query.specs.Answers.{answered, most_traced_of}
use Rattle.sz_versions.specs.Searches.{Search, IsAnswerTo}
use Rattle.sz_versions.proofs.Inquiries.{asked-within, if-both, if-on}
use Rattle.sz_versions.proofs.inquiry.Inquiry.answer.Goals as goal

pub returns-clause-answer : goal.returns-clause-answer
returns-clause-answer g c =
    let told = c.answer_with.ensures in
    let r = c.answer_with.result in
    let new = map view_of c.answer_with.new.views in
    let lent = c.deref_mut.ensures.value in
    IfOk-weaker r _ _
    (λ f p. subst (λ (s : Search). IsAnswerTo s f) c.self.view_is (record {
      views = new;
      asked = subst (λ (ws : List NodeView). AllZip IsAsked (map view_of ws) new) lent p.1.1.1;
      cells = p.0 ∙ ap₂ (λ (ws : List NodeView) (is : List ℕ).
          answered c.self.inside.dir (map view_of ws) is c.self.inside.cells) lent c.deref.ensures.value;
      used = p.1.0;
      traced = p.1.1.0;
      few = omega (
        arith,
        p.1.1.0,
        asked-within _ _ p.1.1.1,
        ap (λ (ws : List NodeView). most_traced_of (map view_of ws)) lent,
        c.self.invariant.few,
      );
    }))
    (if-both _ _ r told.cells (if-both _ _ r told.used (if-on _ _ r told.traced told.asked)))
