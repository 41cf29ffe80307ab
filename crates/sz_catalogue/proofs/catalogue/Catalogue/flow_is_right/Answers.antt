-- Each flow that is held is well formed.
use Rattle.sz_catalogue.proofs.Order.{flow-right}
use Rattle.sz_catalogue.proofs.catalogue.Catalogue.flow_is_right.Goals as goal

pub returns : goal.returns
returns c = flow-right c.args.self.now c.args.name.now c.is_in_order.ensures
