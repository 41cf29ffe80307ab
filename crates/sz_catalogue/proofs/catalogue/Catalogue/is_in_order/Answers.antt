-- What is kept of its fields is told of what they hold.
use Rattle.std.proofs.Common.{subst}
use Rattle.sz_catalogue.specs.Order.{IsInOrder}
use Rattle.sz_catalogue.proofs.catalogue.Catalogue.is_in_order.Goals as goal

pub returns : goal.returns
returns c = subst IsInOrder c.self.view_is c.self.invariant.order
