-- What is carried is that of the versions that are held, and stays, but for the passes of shelves.
use Rattle.std.proofs.Common.{◌≡◌, false, refl, sym, subst}
use Rattle.std.proofs.lemmas.Result.{IfOk-weaker}
use Rattle.sz_catalogue.specs.Rules.{has_no_version, is_not_joined, is_out_of_range}
use Rattle.sz_commands.specs.States.{SessionState}
use Rattle.sz_commands.specs.Inquiries.{IsInquiryOf}
use Rattle.sz_versions.specs.Searches.{Search}
use Rattle.sz_commands.proofs.session.Session.inquiry.Goals as goal

pub inquiry-requires-clause-held : goal.inquiry-requires-clause-held
inquiry-requires-clause-held g c =
    λ κs lives. subst (λ (s : SessionState). has_no_version s.held c.args.version ≡ false) (sym c.self.view_is)
    c.requires.version

pub inquiry-requires-clause-joined : goal.inquiry-requires-clause-joined
inquiry-requires-clause-joined g c =
    λ κs lives. subst (λ (s : SessionState). is_not_joined s.held c.args.version c.args.dir c.args.path.now ≡ false)
    (sym c.self.view_is)
    c.requires.joined

pub inquiry-requires-clause-range : goal.inquiry-requires-clause-range
inquiry-requires-clause-range g c =
    λ κs lives. subst (λ (s : SessionState).
    is_out_of_range s.held c.args.version c.args.dir c.args.path.now c.args.named.now
    ≡ false)
    (sym c.self.view_is) c.requires.range

pub returns-clause-search : goal.returns-clause-search
returns-clause-search g c =
    let P : SessionState → Search → Type 0 =
    λ s q. IsInquiryOf s c.args.version c.args.dir c.args.path.now c.args.named.now q in
    IfOk-weaker c.inquiry.result _ _
    (λ q h. subst (λ (s : SessionState). P s q) c.self.view_is h) c.inquiry.ensures.search

pub returns-clause-same : goal.returns-clause-same
returns-clause-same g c =
    rw (← c.self.view_is, c.inquiry.ensures.logged, c.inquiry.ensures.stored) refl
