-- A bench is shared, since a shelf may be, and a pass moves.
use denote.Param.Send.{IsSync, sendable, shr_send, mut_send}
use Rattle.std.proofs.Crossing.{crosses, sync}
use Rattle.std.specs.contracts.alloc.Global as Heap
use Rattle.sz_shelf.specs.contracts.pass.Pass as Pass
use Rattle.sz_shelf.proofs.Crossing.{fields, at_send, at_sync, shelf_send, shelf_sync, pass_send}
use Rattle.trials_shelf.specs.contracts.tests.bench.Bench as Bench
use Rattle.trials_shelf.specs.contracts.tests.threads.fill_beside_looks.{R-row}
use Rattle.trials_shelf.proofs.Crossing.{closure_send}
use Rattle.trials_shelf.proofs.tests.threads.fill_beside_looks.Goals as goal

bench_sync : IsSync Bench.the_row
bench_sync = search (at_send, at_sync, shelf_send, shelf_sync, sendable, crosses, fields) depth 60 fits 5000

pub join_mut-filled-requires-send-F : goal.join_mut-filled-requires-send-F
join_mut-filled-requires-send-F g c κs lives =
    closure_send _ _ _ _ _ _ _ (shr_send _ _ Heap.the_row sync) (shr_send _ _ (R-row g.row.R) c.type_bounds.sync-R)
    (shr_send _ _ Bench.the_row bench_sync) (mut_send _ _ Pass.the_row pass_send)
