-- A task moves between threads.
--
-- The key idea: a type may cross where its fields may, so a task follows from those that it holds.
use denote.RattleType.{RattleType}
use denote.Param.Send.{IsSend, IsSync, sendable}
use Rattle.std.proofs.Crossing.{crosses}
use Rattle.sz_spec.specs.contracts.array.Array as Array
use Rattle.sz_spec.specs.contracts.array.ArrayList as ArrayList
use Rattle.sz_ops_region.specs.contracts.cell_labels.Labels as Labels
use Rattle.sz_ops_region.specs.contracts.components.Components as Components
use Rattle.sz_ops_region.specs.contracts.Aid as Regions
use Rattle.sz_ops.specs.contracts.aid.Aid as Aid
use Rattle.sz_claims.specs.contracts.Claims as Claims
use Rattle.sz_claims.specs.contracts.ClaimPass as ClaimPass
use Rattle.sz_shelf.proofs.Crossing.{at_send, at_sync, fields, pass_send, shelf_send, shelf_sync}
use Rattle.sz_shelf.proofs.Crossing.{seat_send, shared_send, shared_sync, lease_send, lease_sync}
use Rattle.sz_pool.specs.contracts.task.StrategyList as StrategyList
use Rattle.sz_pool.specs.contracts.task.Task as Task

array_send : IsSend Array.the_row
array_send = search (sendable, crosses, fields) depth 60 fits 5000

array_sync : IsSync Array.the_row
array_sync = search (sendable, crosses, fields) depth 60 fits 5000

arrays_send : IsSend ArrayList.the_row
arrays_send = search (array_send, array_sync, sendable, crosses, fields) depth 60 fits 5000

labels_send : IsSend Labels.the_row
labels_send = search (sendable, crosses, fields) depth 60 fits 5000

labels_sync : IsSync Labels.the_row
labels_sync = search (sendable, crosses, fields) depth 60 fits 5000

components_send : IsSend Components.the_row
components_send = search (sendable, crosses, fields) depth 60 fits 5000

components_sync : IsSync Components.the_row
components_sync = search (sendable, crosses, fields) depth 60 fits 5000

regions_send : IsSend Regions.the_row
regions_send = search (labels_send, components_send, sendable, crosses, fields) depth 60 fits 5000

regions_sync : IsSync Regions.the_row
regions_sync = search (labels_sync, components_sync, sendable, crosses, fields) depth 60 fits 5000

aid_send : IsSend Aid.the_row
aid_send = search (regions_send, sendable, crosses, fields) depth 60 fits 5000

aid_sync : IsSync Aid.the_row
aid_sync = search (regions_sync, sendable, crosses, fields) depth 60 fits 5000

strategies_send : IsSend StrategyList.the_row
strategies_send = search (sendable, crosses, fields) depth 60 fits 5000

claims_send : IsSend Claims.the_row
claims_send = search (shared_send, lease_send, sendable, crosses, fields) depth 60 fits 5000

claims_sync : IsSync Claims.the_row
claims_sync = search (shared_sync, lease_sync, sendable, crosses, fields) depth 60 fits 5000

claim_pass_send : IsSend ClaimPass.the_row
claim_pass_send = search (seat_send, sendable, crosses, fields) depth 60 fits 5000

-- what a task holds
ruleset passes = (shelf_send, shelf_sync, pass_send, claims_send, claims_sync, claim_pass_send)

ruleset parts = (at_send, at_sync, arrays_send, aid_send, aid_sync, strategies_send)

pub task_send : IsSend Task.the_row
task_send = search (passes, parts, sendable, crosses, fields) depth 60 fits 5000
