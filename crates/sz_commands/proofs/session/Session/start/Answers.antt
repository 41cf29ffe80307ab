-- The version that is started is sound, and what is carried of it is its own. Where the catalogue has no memory for it,
-- that is taken back.
use Rattle.std.proofs.Common.{List, None, refl, sym, ap, subst, arith}
use Rattle.sz_script.specs.declared.command.Command.TheVariants as order
use Rattle.sz_catalogue.specs.Holdings.{Holdings, next_number}
use Rattle.sz_catalogue.specs.Responses.{Response}
use Rattle.sz_catalogue.specs.Changes.{with_version}
use Rattle.sz_catalogue.specs.Starts.{version_started}
use Rattle.sz_versions.specs.Residents.{Resident, IsInService, stored_in}
use Rattle.sz_versions.proofs.Keeps.{can-start}
use Rattle.sz_versions.proofs.Residents.{service-started}
use Rattle.sz_commands.specs.States.{SessionState}
use Rattle.sz_commands.specs.Carrying.{AddsEntry}
use Rattle.sz_commands.proofs.Carrying.{next-added, entry-added}
use Rattle.sz_commands.proofs.Seen.{free-inside, seen-more}
use Rattle.sz_commands.proofs.session.Session.start.Goals as goal

pub run_version-requires-clause-sound : goal.run_version-requires-clause-sound
run_version-requires-clause-sound g c = λ κs lives. c.self.invariant.sound.flows

pub run_version-requires-clause-judged : goal.run_version-requires-clause-judged
run_version-requires-clause-judged g c = λ κs lives.
    rw (c.as_str.ensures, c.as_slice.ensures)
    (free-inside (order.Start c.args.name c.args.base) c.self.view_is c.requires.judged)

pub overflow_cast-number : goal.overflow_cast-number
overflow_cast-number g c =
    let free = free-inside (order.Start c.args.name c.args.base) c.self.view_is c.requires.judged in
    let can = can-start c.self.inside.catalogue c.args.name c.args.base free in
    omega (arith, can.number, c.next_number-number.ensures)

pub start-requires : goal.start-requires
start-requires g c = record {
  judged =
      rw c.as_slice-2.ensures
      (free-inside (order.Start c.args.name c.args.base) c.self.view_is c.requires.judged);
}

pub invariant_of-self-in-Ok : goal.invariant_of-self-in-Ok
invariant_of-self-in-Ok g c =
    let cat = c.self.inside.catalogue in
    let rs = c.self.inside.runs in
    let t = c.in_ok-run.run' in
    let d = with_version cat (next_number cat) (version_started cat c.args.name c.args.base) in
    let free = free-inside (order.Start c.args.name c.args.base) c.self.view_is c.requires.judged in
    let after = ap (λ (p : Holdings × Response). p.0) (rw c.as_slice-2.ensures at c.in-Ok.ensures.ok) in
    let own = rw (c.as_str.ensures, c.as_slice.ensures) at c.in_ok-run.ensures in
    let added = next-added rs t c.in_ok-add.ensures.ok c.next_number-number.ensures in
    subst (λ (h : Holdings). IsInService h c.add.new.self) (sym after)
    (subst (λ (xs : List Resident). IsInService d xs) (sym added)
    (service-started cat rs c.args.name c.args.base t c.self.invariant free own))

pub returns-in-Ok-clause-reply : goal.returns-in-Ok-clause-reply
returns-in-Ok-clause-reply g c =
    let cat = c.self.inside.catalogue in
    let rs = c.self.inside.runs in
    rw (← c.self.view_is)
    (seen-more cat _ rs c.add.new.self _ (order.Start c.args.name c.args.base) _ None refl refl c.in_ok-add.ensures.ok
    (rw c.as_slice-2.ensures at c.in-Ok.ensures.ok))

pub returns-in-Ok-clause-stored : goal.returns-in-Ok-clause-stored
returns-in-Ok-clause-stored g c =
    let rs = c.self.inside.runs in
    let t = c.in_ok-run.run' in
    subst (λ (s : SessionState). AddsEntry s.held s.stored (stored_in c.add.new.self)) c.self.view_is
    (entry-added c.self.inside.catalogue rs c.add.new.self t
    (next-added rs t c.in_ok-add.ensures.ok c.next_number-number.ensures))
