-- The version is held, and its kinds are told; what is carried of it is merged.
use Rattle.std.proofs.Common.{◌≡◌, ℕ, [], ◌∷◌, false, subst}
use Rattle.std.specs.Prelude.{None}
use Rattle.std.specs.List.{AllZip}
use Rattle.sz_script.specs.declared.command.Command.TheVariants as order
use Rattle.sz_script.specs.declared.refusal.Refusal.TheVariants as refusal
use Rattle.sz_catalogue.specs.Holdings.{Holdings}
use Rattle.sz_catalogue.specs.Rules as rules
use Rattle.sz_catalogue.specs.Rules.{judged, has_no_version}
use Rattle.sz_versions.specs.Merging.{IsMergedIn}
use Rattle.sz_versions.specs.Residents.{stored_in}
use Rattle.sz_versions.proofs.Keeps.{rule-fails, not_false}
use Rattle.sz_commands.specs.States.{SessionState}
use Rattle.sz_commands.proofs.Seen.{free-inside, seen-merged}
use Rattle.sz_commands.proofs.session.Session.merged.Goals as goal

-- what the rules say of the version: it is held, and its merge was asked
may-tell : (c : Holdings) (n : ℕ) → judged c (order.Merged n) ≡ None
    → (has_no_version c n ≡ false) × (rules.is_not_merged c n ≡ false)
may-tell c n free =
    let last = (rules.is_not_merged c n, refusal.NotMerged) ∷ [] in
    let held = rule-fails (has_no_version c n) refusal.NoSuchVersion last free in
    (held.0, (rule-fails (rules.is_not_merged c n) refusal.NotMerged [] held.1).0)

pub merged-requires-clause-held : goal.merged-requires-clause-held
merged-requires-clause-held g c =
    λ κs lives. (may-tell c.self.inside.catalogue c.args.version
    (free-inside (order.Merged c.args.version) c.self.view_is c.requires.judged)).0

pub merged-requires-clause-awaited : goal.merged-requires-clause-awaited
merged-requires-clause-awaited g c =
    let may = may-tell c.self.inside.catalogue c.args.version
    (free-inside (order.Merged c.args.version) c.self.view_is c.requires.judged) in
    λ κs lives. (c.self.invariant.asked c.args.version (not_false _ may.1)).awaited

pub returns-clause-reply : goal.returns-clause-reply
returns-clause-reply g c =
    rw (← c.self.view_is)
    (seen-merged c.self.inside.catalogue c.self.inside.runs c.merged.new.self c.args.version
    c.in_ok-kinds.kinds.items None c.merged.ensures.logged c.in_ok-kinds.ensures.kinds)

pub returns-clause-stored : goal.returns-clause-stored
returns-clause-stored g c =
    let M : SessionState → Type 0 =
    λ s. AllZip (IsMergedIn c.args.version) s.stored (stored_in c.merged.new.self) in
    subst M c.self.view_is c.in_ok-kinds.ensures.stored
