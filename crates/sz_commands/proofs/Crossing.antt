-- An ask moves between threads.
--
-- The key idea: a type may cross where its fields may, so an ask follows from the views that it owns.
use denote.Param.Send.{IsSend, IsSync, sendable}
use Rattle.std.proofs.Crossing.{crosses}
use Rattle.sz_cells.specs.contracts.cell_set.CellSet as CellSet
use Rattle.sz_spec.specs.contracts.array.Array as Array
use Rattle.sz_spec.specs.contracts.array.ArrayList as ArrayList
use Rattle.sz_query.specs.contracts.views.NodeRunRef as NodeRunRef
use Rattle.sz_query.specs.contracts.views.NodeView as NodeView
use Rattle.sz_query.specs.contracts.used.UsedList as UsedList
use Rattle.sz_query.specs.contracts.path.Found as Found
use Rattle.sz_script.specs.contracts.refusal.Refusal as Refusal
use Rattle.sz_shelf.proofs.Crossing.{at_send, at_sync, fields, pass_send, shelf_send, shelf_sync, store_send}
use Rattle.sz_shelf.proofs.Crossing.{store_sync}
use Rattle.sz_versions.specs.contracts.inquiry.Inquiry as Inquiry
use Rattle.sz_commands.specs.contracts.asking.Asked as Asked

array_send : IsSend Array.the_row
array_send = search (sendable, crosses, fields) depth 60 fits 5000

array_sync : IsSync Array.the_row
array_sync = search (sendable, crosses, fields) depth 60 fits 5000

arrays_send : IsSend ArrayList.the_row
arrays_send = search (array_send, array_sync, sendable, crosses, fields) depth 60 fits 5000

run_send : IsSend NodeRunRef.the_row
run_send = search (at_send, at_sync, arrays_send, sendable, crosses, fields) depth 60 fits 5000

-- what a view holds
ruleset passes = (shelf_send, shelf_sync, pass_send)

ruleset parts = (at_send, at_sync, store_send, store_sync, run_send)

view_send : IsSend NodeView.the_row
view_send = search (passes, parts, sendable, crosses, fields) depth 60 fits 5000

cells_send : IsSend CellSet.the_row
cells_send = search (sendable, crosses, fields) depth 60 fits 5000

inquiry_send : IsSend Inquiry.the_row
inquiry_send = search (view_send, cells_send, sendable, crosses, fields) depth 60 fits 5000

used_send : IsSend UsedList.the_row
used_send = search (sendable, crosses, fields) depth 60 fits 5000

found_send : IsSend Found.the_row
found_send = search (cells_send, used_send, sendable, crosses, fields) depth 60 fits 5000

refusal_send : IsSend Refusal.the_row
refusal_send = search (sendable, crosses, fields) depth 60 fits 5000

pub asked_send : IsSend Asked.the_row
asked_send = search (inquiry_send, found_send, refusal_send, sendable, crosses, fields) depth 60 fits 5000
