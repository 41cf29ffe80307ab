-- One more group acts, and at a closed gate the log is well made.
use Rattle.std.proofs.Common.{ℕ, List, Option, subst, ◌∙◌}
use Rattle.sz_log.proofs.Moments.{told, all_told}
use Rattle.sz_log.proofs.Makes.{looks_twice}
use Rattle.sz_recover.specs.Logs.{TakesNext}
use Rattle.sz_recover.proofs.Opened.{so_far-more, so_far-end}
use Rattle.sz_recover.proofs.opening.act_each.Given.{Over}
use Rattle.sz_recover.proofs.opening.act_each.Goals.{In_ok-next}
use Rattle.sz_recover.proofs.opening.act_each.Goals as goal

-- what is taken at the place, of the disk as it was first
abbrev Takes : (g : Over) (c : In_ok-next g) → Option ℕ → Type 0
Takes g c next =
    TakesNext (g.T.Station.disk c.args.station.now) c.loop-kept.at next c.loop-kept.format c.take_next.new.format
    c.loop-kept.catalogue c.take_next.new.catalogue c.loop-kept.kept.items c.take_next.new.kept.items

takes : (g : Over) (c : In_ok-next g) → Takes g c c.in_ok-next.field-0
takes g c =
    subst (λ (q : Option (List ℕ)). TakesNext q c.loop-kept.at c.in_ok-next.field-0 c.loop-kept.format
    c.take_next.new.format c.loop-kept.catalogue c.take_next.new.catalogue c.loop-kept.kept.items
    c.take_next.new.kept.items) c.loop-kept.invariant.kept.0 c.in_ok-next.ensures.ok

pub loop-kept-preserved : goal.loop-kept-preserved
loop-kept-preserved g c =
    let inv = c.loop-kept.invariant in
    let s = (goal.at.loop-kept-preserved g c).In_ok-next in
    let o = g.T.Station.disk c.args.station.now in
    let p = g.T.Station.disk c.loop-kept.station in
    record {
      kept = (
        c.take_next.ensures.kept.0 ∙ inv.kept.0,
        (c.take_next.ensures.kept.1.0 ∙ inv.kept.1.0, c.take_next.ensures.kept.1.1 ∙ inv.kept.1.1),
      );
      faults = c.in_ok-next.ensures.counted ∙ inv.faults;
      stops = all_told _ _ (λ d is.
          looks_twice (g.T.Station.said c.args.station.now) (g.T.Station.said c.loop-kept.station)
          (told o d _ is inv.stops) (told p d _ (inv.kept.0 ∙ is) c.take_next.ensures.stops) inv.kept.1.0);
      entries = c.in_ok-next.ensures.entries inv.entries;
      format = c.in_ok-next.ensures.format;
      far = so_far-more o c.loop-kept.at c.in-Some.next c.loop-kept.format c.take_next.new.format c.loop-kept.catalogue
          c.take_next.new.catalogue c.loop-kept.kept.items c.take_next.new.kept.items inv.far
          (subst (λ (n : Option ℕ). Takes g s n) c.in-Some.is (takes g s));
    }

pub returns-clause-made : goal.returns-clause-made
returns-clause-made g c =
    let s = (goal.at.returns-clause-made g c).In_ok-next in
    so_far-end (g.T.Station.disk c.args.station.now) c.loop-kept.at c.loop-kept.format c.take_next.new.format
    c.loop-kept.catalogue c.take_next.new.catalogue c.loop-kept.kept.items c.take_next.new.kept.items
    c.loop-kept.invariant.far (subst (λ (n : Option ℕ). Takes g s n) c.in_default.is (takes g s))

pub returns-clause-entries : goal.returns-clause-entries
returns-clause-entries g c = c.in_ok-next.ensures.entries c.loop-kept.invariant.entries
