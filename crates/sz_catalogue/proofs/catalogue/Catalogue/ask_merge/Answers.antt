-- Which merges were asked is nothing that the limits or the order speak of.
use Rattle.std.proofs.Common.{refl}
use Rattle.sz_catalogue.specs.declared.catalogue.Catalogue.TheView.{view}
use Rattle.sz_catalogue.specs.Holdings.{Holdings}
use Rattle.sz_catalogue.proofs.Counts.{limits-kept}
use Rattle.sz_catalogue.proofs.Order.{merges-in_order}
use Rattle.sz_catalogue.proofs.catalogue.Catalogue.ask_merge.Goals as goal

pub invariant_of-self : goal.invariant_of-self
invariant_of-self c =
    let held : Holdings = view c.self.inside in
    record {
      limits = limits-kept refl refl c.self.invariant.limits;
      order = merges-in_order held c.push.new.self.items c.self.invariant.order;
    }
