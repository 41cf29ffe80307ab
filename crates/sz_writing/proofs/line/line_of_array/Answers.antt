-- The text of the object is the line.
use Rattle.serde_json.specs.View.{view}
use Rattle.sz_writing.specs.Orders.{array_order}
use Rattle.sz_writing.proofs.Orders.{order-read}
use Rattle.sz_writing.proofs.line.line_of_array.Goals as goal

pub returns : goal.returns
returns c =
    let order = c.in_ok-order.ensures in
    let line = c.in_ok-to_vec.ensures in
    order-read c.in_ok-to_vec.field-0.items (array_order c.args.name.now c.args.array.now) (view c.in_ok-order.order)
    order (line.text order.whole) line.utf8 (line.reads_back order.shallow)
