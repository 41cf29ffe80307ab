-- What a refresh makes is made of what is held, which stays till it is held too.
use Rattle.std.proofs.Common.{◌≡◌, sym, subst}
use Rattle.std.specs.Prelude.{IfOk, None}
use Rattle.std.specs.Arc.{arc_value}
use Rattle.sz_script.specs.declared.command.Command.TheVariants as order
use Rattle.sz_catalogue.specs.Rules.{judged}
use Rattle.sz_catalogue.specs.Seen.{response_of}
use Rattle.sz_commands.specs.Refreshing.{IsMadeBy}
use Rattle.sz_commands.specs.States.{SessionState, apart, accepted}
use Rattle.sz_commands.proofs.session.Session.refresh.Goals as goal

pub hold_refreshed-requires-clause-judged : goal.hold_refreshed-requires-clause-judged
hold_refreshed-requires-clause-judged g c =
    subst (λ (s : SessionState). judged s.held (order.Refresh c.args.version c.args.input c.args.set.now) ≡ None)
    (sym c.in_ok-made.ensures.same) c.requires.judged

pub hold_refreshed-requires-clause-made : goal.hold_refreshed-requires-clause-made
hold_refreshed-requires-clause-made g c =
    let made = c.in_ok-made.made in
    subst (λ (s : SessionState). IsMadeBy s.held c.args.version c.args.input c.args.set.now (arc_value made.array)
    made.run made.cells) (sym c.in_ok-made.ensures.same) c.in_ok-made.ensures.made

pub returns-clause-reply : goal.returns-clause-reply
returns-clause-reply g c =
    subst (λ (s : SessionState). IfOk c.hold_refreshed.result (λ r.
    accepted (apart s) (order.Refresh c.args.version c.args.input c.args.set.now)
    ≡ (apart c.hold_refreshed.new.self, response_of r))) c.in_ok-made.ensures.same c.hold_refreshed.ensures.reply
