-- One ask more.
use Rattle.std.proofs.Common.{◌≡◌, ◌+◌, ◌++◌, ◌∷◌, [], take, sym, ap, ◌∙◌, subst}
use Rattle.std.proofs.lemmas.List.{take_more}
use Rattle.std.proofs.lemmas.Slice.Zip.{all_zipped_more}
use Rattle.sz_commands.specs.States.{SessionState}
use Rattle.sz_commands.specs.Asks.{IsBegun}
use Rattle.sz_commands.specs.declared.asking.AskLine.{AskLine}
use Rattle.sz_commands.proofs.session.Session.begin_each.Goals as goal

pub loop-line-preserved : goal.loop-line-preserved
loop-line-preserved g c =
    let held = c.args.self.now in
    let lines = c.args.lines.now in
    let i = c.loop-line.line-index in
    let l = c.line-item.result in
    let a = c.in_ok-begin.field-0 in
    let more : take (i + 1) lines ≡ take i lines ++ l ∷ [] =
    take_more lines i l c.loop-line-test.true ∙ ap (λ (x : AskLine). take i lines ++ x ∷ []) (sym c.line-item.is) in
    let one = subst (λ (h : SessionState). IsBegun h l a) c.loop-line.invariant.same c.in_ok-begin.ensures.begun in
    record {
      begun =
          rw (more, c.in_ok-push.ensures.items)
          (all_zipped_more (IsBegun held) (take i lines) c.loop-line.all.items l a c.loop-line.invariant.begun one);
      same = c.begin.ensures.same ∙ c.loop-line.invariant.same;
    }
