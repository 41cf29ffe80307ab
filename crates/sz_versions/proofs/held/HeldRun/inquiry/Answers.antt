-- The trail is one for the version, so each step can be taken; and what is asked is asked by what it carries.
use Rattle.std.proofs.Common.{ap, ◌∙◌}
use Rattle.std.proofs.lemmas.Result.{IfOk-weaker}
use Rattle.sz_versions.specs.Along.{search_along}
use Rattle.sz_versions.specs.Stores.{Trail}
use Rattle.sz_versions.proofs.Along.{by-for, by-steps, by-search}
use Rattle.sz_versions.proofs.Lent.{kept-still, lent-own, unlent-still}
use Rattle.sz_versions.proofs.held.HeldRun.inquiry.Goals as goal

pub inquiry_along-inquiry-requires-clause-run : goal.inquiry_along-inquiry-requires-clause-run
inquiry_along-inquiry-requires-clause-run g c =
    let v = c.args.version.now in
    by-for c.args.self.now.logged v c.in_ok-run.run'
    (lent-own v c.args.self.now c.in_ok-run.run' c.in_ok-run.ensures.run c.requires.own)

pub inquiry_along-inquiry-requires-clause-steps : goal.inquiry_along-inquiry-requires-clause-steps
inquiry_along-inquiry-requires-clause-steps g c =
    let v = c.args.version.now in
    by-steps c.args.self.now.logged v c.args.dir c.args.path.now c.in_ok-run.run' c.requires.sound c.requires.joined
    (lent-own v c.args.self.now c.in_ok-run.run' c.in_ok-run.ensures.run c.requires.own)

pub returns-clause-search : goal.returns-clause-search
returns-clause-search g c =
    let v = c.args.version.now in
    let r = c.args.self.now in
    IfOk-weaker c.inquiry_along-inquiry.result _ _
    (λ s is. by-search r.logged v c.args.dir c.args.path.now c.args.named.now r.trail s c.requires.sound
    c.requires.joined c.requires.own
    (is ∙ ap (λ (t : Trail). search_along v c.args.dir c.args.path.now c.args.named.now t) c.in_ok-run.ensures.run))
    c.inquiry_along-inquiry.ensures.search

pub returns-clause-still : goal.returns-clause-still
returns-clause-still g c =
    kept-still c.args.self.now c.lend.new.self c.keep.new.self
    c.in_ok-run.run' c.inquiry_along-inquiry.new.run c.in_ok-run.ensures.run c.in_ok-run.ensures.rest
    c.keep.ensures c.inquiry_along-inquiry.ensures.still

pub returns-in_err-run-clause-still : goal.returns-in_err-run-clause-still
returns-in_err-run-clause-still g c = unlent-still c.args.self.now c.lend.new.self c.in_err-run.ensures.err
