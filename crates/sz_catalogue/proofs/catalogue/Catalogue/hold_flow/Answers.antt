-- The flow is well formed, and its name is new.
use Rattle.std.proofs.Common.{refl, ap, ◌∙◌}
use Rattle.sz_script.specs.declared.command.Command.TheVariants as command
use Rattle.sz_catalogue.specs.declared.catalogue.Catalogue.TheView.{view}
use Rattle.sz_catalogue.specs.Holdings.{Holdings}
use Rattle.sz_catalogue.specs.Rules.{judged}
use Rattle.sz_catalogue.proofs.Counts.{limits-kept}
use Rattle.sz_catalogue.proofs.Order.{right-flow, flow-new, flow-in_order}
use Rattle.sz_catalogue.proofs.catalogue.Catalogue.hold_flow.Goals as goal

pub invariant_of-self-2 : goal.invariant_of-self-2
invariant_of-self-2 c =
    let held : Holdings = view c.self.inside in
    let taken = ap (λ (h : Holdings). judged h (command.Flow c.args.name c.args.flow)) c.self.view_is
    ∙ c.requires.judged in
    let right = right-flow c.args.name c.args.flow c.requires.right in
    let new = flow-new held c.args.name c.args.flow taken in
    rw (c.in_ok-push.ensures.held, c.as_str.ensures, c.in_ok-held.ensures) (record {
      limits = limits-kept refl refl c.self.invariant.limits;
      order = flow-in_order held c.args.name c.args.flow c.self.invariant.order right.0 right.1 new;
    })
