-- The version is not awaited, so no log gave it, and its trail is one of a version that was started here.
use Rattle.std.proofs.Common.{ap, ◌∙◌}
use Rattle.std.proofs.lemmas.Result.{IfOk-weaker}
use Rattle.sz_catalogue.specs.Holdings.{Version}
use Rattle.sz_versions.proofs.Inquiries.{if-both}
use Rattle.sz_versions.proofs.Lent.{kept-still, lent-own, unlent-still}
use Rattle.sz_versions.proofs.MergedNodes.{by-runs}
use Rattle.sz_versions.proofs.Service.{sound-listed, first-kept, ended-own}
use Rattle.sz_versions.proofs.held.HeldRun.whole.Goals as goal

pub ended-whole-requires : goal.ended-whole-requires
ended-whole-requires g c =
    let b = c.args.self.now.logged in
    let v = c.args.version.now in
    let t = c.in_ok-run.run' in
    let lists = c.as_slice.ensures ∙ ap (λ (x : Version). x.lists) c.version.view_is in
    let own = lent-own v c.args.self.now c.in_ok-run.run' c.in_ok-run.ensures.run c.requires.own in
    record {
      listed = sound-listed v t.executions c.as_slice.result.now c.requires.sound (by-runs b v t own) lists;
      kept = first-kept b v t c.as_slice.result.now c.requires.first own lists;
    }

pub returns-clause-whole : goal.returns-clause-whole
returns-clause-whole g c =
    let v = c.args.version.now in
    IfOk-weaker c.ended-whole.result _ _
    (λ u p. ended-own c.args.self.now.logged v c.in_ok-run.run' u c.as_slice.result.now c.requires.first
    (lent-own v c.args.self.now c.in_ok-run.run' c.in_ok-run.ensures.run c.requires.own)
    (c.as_slice.ensures ∙ ap (λ (x : Version). x.lists) c.version.view_is) p.0 p.1)
    (if-both _ _ c.ended-whole.result c.ended-whole.ensures.executions c.ended-whole.ensures.whole)

pub returns-clause-still : goal.returns-clause-still
returns-clause-still g c =
    kept-still c.args.self.now c.lend.new.self c.keep.new.self
    c.in_ok-run.run' c.ended-whole.new.run c.in_ok-run.ensures.run c.in_ok-run.ensures.rest c.keep.ensures
    c.ended-whole.ensures.still

pub returns-in_err-run-clause-still : goal.returns-in_err-run-clause-still
returns-in_err-run-clause-still g c = unlent-still c.args.self.now c.lend.new.self c.in_err-run.ensures.err
