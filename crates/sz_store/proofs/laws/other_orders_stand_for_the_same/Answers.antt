-- Whether a region pair or an entry is among others does not hang on their order.
use Rattle.sz_store.proofs.Orders.{other-orders}
use Rattle.sz_store.proofs.laws.other_orders_stand_for_the_same.Goals as goal

pub returns : goal.returns
returns c = other-orders
