-- Other strategies leave the graph, and are for the node.
use Rattle.std.proofs.Common.{refl, ap, ◌∙◌}
use Rattle.sz_script.specs.declared.command.Command.TheVariants as command
use Rattle.sz_catalogue.specs.declared.catalogue.Catalogue.TheView.{view}
use Rattle.sz_catalogue.specs.Holdings.{Holdings}
use Rattle.sz_catalogue.specs.Rules.{judged}
use Rattle.sz_catalogue.proofs.Counts.{limits-kept}
use Rattle.sz_catalogue.proofs.Order.{strategies-in_order}
use Rattle.sz_catalogue.proofs.catalogue.Catalogue.set_list.Goals as goal

pub invariant_of-self : goal.invariant_of-self
invariant_of-self c =
    let held : Holdings = view c.self.inside in
    let taken = ap (λ (h : Holdings). judged h (command.Strategy c.args.name c.args.node c.args.list)) c.self.view_is
    ∙ c.requires in
    rw (c.set_list.ensures, c.as_str.ensures) (record {
      limits = limits-kept refl refl c.self.invariant.limits;
      order = strategies-in_order held c.args.name c.args.node c.args.list c.self.invariant.order taken;
    })
