-- What answers the inquiry is what is found along the path.
use Rattle.std.proofs.Common.{arith}
use Rattle.std.proofs.lemmas.Result.{IfOk-weaker}
use Rattle.sz_query.specs.declared.path.Found.{Found}
use Rattle.sz_catalogue.specs.Rules.{version_of}
use Rattle.sz_commands.specs.States.{logged_of}
use Rattle.sz_versions.specs.Searches.{IsAnswerTo}
use Rattle.sz_versions.proofs.Inquiries.{on-found, if-both}
use Rattle.sz_commands.proofs.Sought.{IsSought, sought}
use Rattle.sz_commands.proofs.session.Session.find.Given.{Over}
use Rattle.sz_commands.proofs.session.Session.find.Goals.{In_ok-inquiry}
use Rattle.sz_commands.proofs.session.Session.find.Goals as goal

-- what answers it is what is sought of the version
found : (g : Over) (c : In_ok-inquiry g) (f : Found) → IsAnswerTo c.in_ok-inquiry.inquiry f
    → IsSought (logged_of c.args.self.now c.args.version) (version_of c.args.self.now.held c.args.version) c.args.dir
    c.args.path.now c.args.named.now f
found g c f a =
    sought (logged_of c.args.self.now c.args.version) (version_of c.args.self.now.held c.args.version) c.args.dir
    c.args.path.now c.args.named.now c.in_ok-inquiry.inquiry f c.in_ok-inquiry.ensures.search a

pub returns-clause-cells : goal.returns-clause-cells
returns-clause-cells g c =
    IfOk-weaker c.answer.result _ _
    (λ f a. (found g (goal.at.returns-clause-cells g c).In_ok-inquiry f a).cells) c.answer.ensures.answer

pub returns-clause-ways : goal.returns-clause-ways
returns-clause-ways g c =
    λ awaited. IfOk-weaker c.answer.result _ _
    (λ f a. (found g (goal.at.returns-clause-ways g c).In_ok-inquiry f a).ways awaited) c.answer.ensures.answer

pub returns-clause-traced : goal.returns-clause-traced
returns-clause-traced g c =
    λ awaited. IfOk-weaker c.answer.result _ _
    (λ f a. (found g (goal.at.returns-clause-traced g c).In_ok-inquiry f a).told awaited) c.answer.ensures.answer

pub returns-clause-least : goal.returns-clause-least
returns-clause-least g c =
    on-found _ _ c.answer.result
    (λ f p. omega (arith, p.1, (found g (goal.at.returns-clause-least g c).In_ok-inquiry f p.0).least))
    (if-both _ _ c.answer.result c.answer.ensures.answer c.answer.ensures.ticks)

pub returns-clause-most : goal.returns-clause-most
returns-clause-most g c =
    on-found _ _ c.answer.result
    (λ f p. omega (arith, p.1, (found g (goal.at.returns-clause-most g c).In_ok-inquiry f p.0).most))
    (if-both _ _ c.answer.result c.answer.ensures.answer c.answer.ensures.ticks)
