-- The version that a refresh makes is sound, and what is carried of it is its own. Where the catalogue has no memory
-- for it, that is taken back.
use Rattle.std.proofs.Common.{◌≡◌, List, None, refl, sym, ap, ap₂, ◌∙◌, subst, arith}
use Rattle.std.specs.Arc.{arc_value}
use Rattle.sz_spec.specs.Values.{Grid}
use Rattle.sz_script.specs.declared.command.Command.{Command}
use Rattle.sz_script.specs.declared.command.Command.TheVariants as order
use Rattle.sz_catalogue.specs.Holdings.{Holdings}
use Rattle.sz_catalogue.specs.Responses.{Response, refreshed}
use Rattle.sz_catalogue.specs.Rules.{version_of}
use Rattle.sz_catalogue.specs.Refreshes.{array_refreshed, base_at}
use Rattle.sz_catalogue.specs.Changes as changes
use Rattle.sz_catalogue.specs.Changes.{with_refreshed}
use Rattle.sz_catalogue.proofs.Refreshed.{refresh-number, set-extent}
use Rattle.sz_versions.specs.Residents.{Resident, IsInService, stored_in}
use Rattle.sz_versions.proofs.Refreshes.{can-refresh, service-refreshed}
use Rattle.sz_commands.specs.States.{SessionState}
use Rattle.sz_commands.specs.Carrying.{AddsEntry}
use Rattle.sz_commands.specs.Refreshing.{IsMadeBy}
use Rattle.sz_commands.proofs.Carrying.{next-added, entry-added}
use Rattle.sz_commands.proofs.Seen.{free-inside, seen-more}
use Rattle.sz_commands.proofs.session.Session.hold_refreshed.Goals.{After-add}
use Rattle.sz_commands.proofs.session.Session.hold_refreshed.Goals as goal

-- what was made is made of what the catalogue holds
made : (c : After-add)
    → IsMadeBy c.self.inside.catalogue c.args.version c.args.input c.args._set.now (arc_value c.args.made.array)
    c.args.made.run c.args.made.cells
made c =
    subst (λ (s : SessionState). IsMadeBy s.held c.args.version c.args.input c.args._set.now
    (arc_value c.args.made.array) c.args.made.run c.args.made.cells) (sym c.self.view_is) c.requires.made

-- and the version that is held then stands on it
after : (c : After-add)
    → with_refreshed c.self.inside.catalogue c.args.version c.args.input (arc_value c.args.made.array)
    ≡ with_refreshed c.self.inside.catalogue c.args.version c.args.input
    (array_refreshed (version_of c.self.inside.catalogue c.args.version) c.args.input c.args._set.now)
after c = ap (λ (g : Grid). with_refreshed c.self.inside.catalogue c.args.version c.args.input g) (made c).array_is

pub overflow_cast-number : goal.overflow_cast-number
overflow_cast-number c =
    let cat = c.self.inside.catalogue in
    let free =
    free-inside (order.Refresh c.args.version c.args.input c.args._set.now) c.self.view_is c.requires.judged in
    let can = can-refresh cat c.args.version c.args.input c.args._set.now free in
    let low = refresh-number cat c.args.version c.args.input can.versions in
    omega (arith, low, c.next_number-number.ensures)

pub share_refreshed-requires : goal.share_refreshed-requires
share_refreshed-requires c =
    let cat = c.self.inside.catalogue in
    let n = c.args.version in
    let i = c.args.input in
    let set = c.args._set.now in
    let can = can-refresh cat n i set (free-inside (order.Refresh n i set) c.self.view_is c.requires.judged) in
    record {
      there = can.held;
      input = can.input;
      shape = ap (λ (g : Grid). g.extent) (made (goal.at.share_refreshed-requires c).After-add).array_is
          ∙ set-extent (base_at (version_of cat n) i).array set;
      arrays = can.arrays;
      versions = can.versions;
    }

pub invariant_of-self-in-Ok : goal.invariant_of-self-in-Ok
invariant_of-self-in-Ok c =
    let cat = c.self.inside.catalogue in
    let rs = c.self.inside.runs in
    let n = c.args.version in
    let i = c.args.input in
    let set = c.args._set.now in
    let here = (goal.at.invariant_of-self-in-Ok c).After-add in
    let free = free-inside (order.Refresh n i set) c.self.view_is c.requires.judged in
    let added = next-added rs c.args.made.run c.in_ok-add.ensures.ok c.next_number-number.ensures in
    subst (λ (h : Holdings). IsInService h c.add.new.self) (sym (c.in-Ok.ensures.held ∙ after here))
    (subst (λ (xs : List Resident). IsInService (with_refreshed cat n i (array_refreshed (version_of cat n) i set)) xs)
    (sym added) (service-refreshed cat rs n i set c.args.made.run c.self.invariant free (made here).own))

pub returns-in-Ok-clause-reply : goal.returns-in-Ok-clause-reply
returns-in-Ok-clause-reply c =
    let cat = c.self.inside.catalogue in
    let rs = c.self.inside.runs in
    let set : Command = order.Refresh c.args.version c.args.input c.args._set.now in
    let here = (goal.at.returns-in-Ok-clause-reply c).After-add in
    let is : (c.share_refreshed.new.self, refreshed c.in-Ok.version c.args.made.cells) ≡ changes.accepted cat set =
    ap₂ (λ (h : Holdings) (r : Response). (h, r)) (c.in-Ok.ensures.held ∙ after here)
    (ap₂ refreshed c.in-Ok.ensures.number (made here).count) in
    rw (← c.self.view_is) (seen-more cat _ rs c.add.new.self _ set _ None refl refl c.in_ok-add.ensures.ok is)

pub returns-in-Ok-clause-stored : goal.returns-in-Ok-clause-stored
returns-in-Ok-clause-stored c =
    let rs = c.self.inside.runs in
    let t = c.args.made.run in
    subst (λ (s : SessionState). AddsEntry s.held s.stored (stored_in c.add.new.self)) c.self.view_is
    (entry-added c.self.inside.catalogue rs c.add.new.self t
    (next-added rs t c.in_ok-add.ensures.ok c.next_number-number.ensures))
