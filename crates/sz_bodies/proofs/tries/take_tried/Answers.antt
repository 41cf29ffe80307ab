-- What was read at this place is the only node that stands here.
use Rattle.std.proofs.Common.{ℕ, ◌∙◌, ap₂, sym, subst, Option, List}
use Rattle.std.specs.Prelude.{IfSome}
use Rattle.sz_spec.specs.declared.modes.Strategy.{Strategy}
use Rattle.sz_store.specs.Kept.{NodeLineage}
use Rattle.sz_bodies.specs.Fitting.{part_of}
use Rattle.sz_bodies.specs.Taking.{site_over}
use Rattle.sz_bodies.specs.Tries.{IsTaken}
use Rattle.sz_bodies.specs.declared.tries.TakenNode.{TakenNode}
use Rattle.sz_bodies.proofs.tries.take_tried.Goals as goal

pub returns-then-tried-at-clause-only : goal.returns-then-tried-at-clause-only
returns-then-tried-at-clause-only g c =
    let s = site_over c.args.base.now c.args.outputs.now c.args.node.now in
    let bytes = c.args.bytes.now in
    let t : TakenNode = c.in-Some.taken in
    let there : IsTaken c.args.format s bytes c.args.tried.now.at t =
    subst (λ (o : Option TakenNode). IfSome o (IsTaken c.args.format s bytes c.args.tried.now.at)) c.in-Some.is
    c.requires.tried in
    let here : IsTaken c.args.format s bytes c.args.at t =
    subst (λ (n : ℕ). IsTaken c.args.format s bytes n t) c.if-tried-at.true there in
    λ other y is. let one = here.only other y is in (
      one.0
          ∙ sym (ap₂ (λ (l : List Strategy) (k : Option NodeLineage). part_of l k) c.in_ok-list.ensures.list
          c.in_ok-list.ensures.kept),
      one.1,
    )
