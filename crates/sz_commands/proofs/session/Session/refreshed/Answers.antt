-- What the session holds is what its catalogue and its runs do.
use Rattle.std.proofs.Common.{◌≡◌, ◌+◌, List, refl, subst, sym}
use Rattle.std.specs.Prelude.{None}
use Rattle.std.specs.Arc.{arc_value}
use Rattle.sz_script.specs.declared.command.Command.TheVariants as order
use Rattle.sz_script.specs.declared.command.NewCell.{NewCell}
use Rattle.sz_catalogue.specs.Holdings.{Holdings}
use Rattle.sz_catalogue.specs.Rules.{judged, version_of}
use Rattle.sz_catalogue.specs.Refreshes.{cells_affected}
use Rattle.sz_commands.specs.States.{SessionState}
use Rattle.sz_commands.specs.Refreshing.{IsMadeBy}
use Rattle.sz_commands.proofs.session.Session.refreshed.Goals as goal

pub refresh_version-requires-clause-judged : goal.refresh_version-requires-clause-judged
refresh_version-requires-clause-judged g c =
    let J : SessionState → Type 0 =
    λ s. judged s.held (order.Refresh c.args.version c.args.input c.args.set.now) ≡ None in
    let free = subst J (sym c.self.view_is) c.requires.judged in
    λ κs lives. rw c.as_slice.ensures free

pub returns-clause-made : goal.returns-clause-made
returns-clause-made g c =
    let made = c.in_ok-made.made in
    let M : Holdings → List NewCell → Type 0 =
    λ h set. IsMadeBy h c.args.version c.args.input set (arc_value made.array) made.run made.cells in
    let own : M c.self.inside.catalogue c.as_slice.result.now = record {
      array_is = c.in_ok-made.ensures.array;
      own = c.in_ok-made.ensures.run;
      count = c.in_ok-made.ensures.cells;
    } in
    subst (λ (s : SessionState). M s.held c.args.set.now) c.self.view_is
    (subst (M c.self.inside.catalogue) c.as_slice.ensures own)

pub returns-clause-ticks : goal.returns-clause-ticks
returns-clause-ticks g c =
    let T : Holdings → List NewCell → Type 0 = λ h set. c.refresh_version.new.tally
    ≡ c.args.tally.now + cells_affected h (version_of h c.args.version) c.args.input set in
    let own : T c.self.inside.catalogue c.as_slice.result.now = c.in_ok-made.ensures.ticks in
    subst (λ (s : SessionState). T s.held c.args.set.now) c.self.view_is
    (subst (T c.self.inside.catalogue) c.as_slice.ensures own)

pub returns-clause-same : goal.returns-clause-same
returns-clause-same g c = rw (← c.self.view_is, c.refresh_version.ensures.same) refl
