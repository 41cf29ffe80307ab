-- What of a shelf moves between threads: a pass may move, and a shelf may be shared.
--
-- The key idea: a type may cross where its fields may, so each type follows from those that it holds, from the tables
-- up. One search from the shelf down would find the same, but it goes through every table for each strategy, and gives
-- up. A proof above that sends a pass or shares a shelf cites these.
use denote.RattleType.{RattleType}
use denote.Param.Send.{IsSend, IsSync, Frees, sendable, part_keyless}
use denote.Param.SendFields.{declared_send, declared_sync, variants_send, variants_sync, as_row_send}
use denote.Param.SendFields.{as_row_sync}
use denote.Struct.Struct.{Struct}
use denote.Struct.Owning.{shape}
use Rattle.std.proofs.Crossing.{crosses}
use Rattle.std.specs.declared.alloc.Allocator as alloc
use Rattle.atomic_table.proofs.Rights.{right_send}
use Rattle.atomic_table.specs.contracts.send_lease.SendLease as SendLease
use Rattle.atomic_table.specs.contracts.shared.Seat as Seat
use Rattle.atomic_table.specs.contracts.shared.Shared as Shared
use Rattle.atomic_table.specs.declared.shared.TableRule.{Ghosts}
use Rattle.atomic_table.proofs.Sent.{seat_keyless, owns_keyless, shares_keyless}
use Rattle.sz_spec.specs.contracts.op_at.OpAt as OpAt
use Rattle.sz_tables.specs.contracts.chains.Chains as Chains
use Rattle.sz_tables.specs.contracts.set_table.SetTable as SetTable
use Rattle.sz_tables.specs.contracts.payload_table.PayloadTable as PayloadTable
use Rattle.sz_tables.specs.contracts.region_table.RegionTable as RegionTable
use Rattle.sz_tables.specs.contracts.entry_table.EntryTable as EntryTable
use Rattle.sz_rtree.specs.contracts.RTree as RTree
use Rattle.sz_full_one.specs.contracts.FullOne as FullOne
use Rattle.sz_full_many.specs.contracts.FullMany as FullMany
use Rattle.sz_store.specs.contracts.kept.KeptStore as KeptStore
use Rattle.sz_store.specs.contracts.stores.ListedStore as ListedStore
use Rattle.sz_store.specs.contracts.NodeStore as NodeStore
use Rattle.sz_shelf.specs.contracts.stored.Stored as Stored
use Rattle.sz_shelf.specs.contracts.shelved.Shelved as Shelved
use Rattle.sz_shelf.specs.contracts.pass.Pass as Pass
use Rattle.sz_shelf.specs.contracts.shelf.Shelf as Shelf

-- ---- the table's own, at every type

pub seat_send : (S V : RattleType) → IsSend S → IsSend (Seat.the_row S V)
seat_send S V s = record {
  owned =
      λ d vs.
      ((λ vss. (tt, ((λ uss. (tt, tt)), tt))), seat_keyless S s V.coded.code d.table_id d.id d.me);
  leaving = λ k f vs. tt;
}

pub shared_send : (S V K P : RattleType) (g : Ghosts P.Denot S.Denot V.Denot K.Denot) → IsSend S
    → IsSend (Shared.the_row S V K P g)
shared_send S V K P g s = record {
  owned =
      λ d vs. (
        (λ vss. (tt, (tt, (tt, ((λ uss. (tt, tt)), tt))))),
        owns_keyless S s V.coded.code d.table_id (g.holds d.key) d.words d.slots,
      );
  leaving = λ k f vs. tt;
}

pub shared_sync : (S V K P : RattleType) (g : Ghosts P.Denot S.Denot V.Denot K.Denot) → IsSend S
    → IsSync (Shared.the_row S V K P g)
shared_sync S V K P g s =
    let fields : IsSync (Struct (shape (Shared.the_type S V K P g))) = search sendable depth 20 in
    record {
      shared =
          λ d b o ν. (
            fields.shared (d.words, (d.slots, (tt, tt))) b o ν,
            shares_keyless S s V.coded.code d.table_id (g.holds d.key) d.words d.slots ν,
          );
    }

-- ---- the types of the store, and those of the shelf

-- what is so of each field is so of the whole
pub ruleset fields = (declared_send, declared_sync, variants_send, variants_sync, as_row_send, as_row_sync)

pub at_send : IsSend OpAt.the_row
at_send = search (sendable, crosses, fields) depth 60 fits 5000

pub at_sync : IsSync OpAt.the_row
at_sync = search (sendable, crosses, fields) depth 60 fits 5000

chains_send : IsSend Chains.the_row
chains_send = search (sendable, crosses, fields) depth 60 fits 5000

chains_sync : IsSync Chains.the_row
chains_sync = search (sendable, crosses, fields) depth 60 fits 5000

set_table_send : IsSend SetTable.the_row
set_table_send = search (chains_send, sendable, crosses, fields) depth 60 fits 5000

set_table_sync : IsSync SetTable.the_row
set_table_sync = search (chains_sync, sendable, crosses, fields) depth 60 fits 5000

payloads_send : IsSend PayloadTable.the_row
payloads_send = search (chains_send, sendable, crosses, fields) depth 60 fits 5000

payloads_sync : IsSync PayloadTable.the_row
payloads_sync = search (chains_sync, sendable, crosses, fields) depth 60 fits 5000

regions_send : IsSend RegionTable.the_row
regions_send = search (set_table_send, sendable, crosses, fields) depth 60 fits 5000

regions_sync : IsSync RegionTable.the_row
regions_sync = search (set_table_sync, sendable, crosses, fields) depth 60 fits 5000

entries_send : IsSend EntryTable.the_row
entries_send = search (set_table_send, payloads_send, sendable, crosses, fields) depth 60 fits 5000

entries_sync : IsSync EntryTable.the_row
entries_sync = search (set_table_sync, payloads_sync, sendable, crosses, fields) depth 60 fits 5000

tree_send : IsSend RTree.the_row
tree_send = search (sendable, crosses, fields) depth 60 fits 5000

tree_sync : IsSync RTree.the_row
tree_sync = search (sendable, crosses, fields) depth 60 fits 5000

one_send : IsSend FullOne.the_row
one_send = search (at_send, at_sync, regions_send, chains_send, sendable, crosses, fields) depth 60 fits 5000

one_sync : IsSync FullOne.the_row
one_sync = search (at_send, at_sync, regions_sync, chains_sync, sendable, crosses, fields) depth 60 fits 5000

many_send : IsSend FullMany.the_row
many_send = search (at_send, at_sync, regions_send, tree_send, sendable, crosses, fields) depth 60 fits 5000

many_sync : IsSync FullMany.the_row
many_sync = search (at_send, at_sync, regions_sync, tree_sync, sendable, crosses, fields) depth 60 fits 5000

kept_send : IsSend KeptStore.the_row
kept_send =
    search (one_send, many_send, at_send, at_sync, entries_send, tree_send, chains_send, sendable, crosses, fields)
    depth 60 fits 5000

kept_sync : IsSync KeptStore.the_row
kept_sync =
    search (one_sync, many_sync, at_send, at_sync, entries_sync, tree_sync, chains_sync, sendable, crosses, fields)
    depth 60 fits 5000

listed_send : IsSend ListedStore.the_row
listed_send = search (kept_send, sendable, crosses, fields) depth 60 fits 5000

listed_sync : IsSync ListedStore.the_row
listed_sync = search (kept_sync, sendable, crosses, fields) depth 60 fits 5000

pub store_send : IsSend NodeStore.the_row
store_send = search (listed_send, at_send, at_sync, sendable, crosses, fields) depth 60 fits 5000

pub store_sync : IsSync NodeStore.the_row
store_sync = search (listed_sync, at_send, at_sync, sendable, crosses, fields) depth 60 fits 5000

stored_send : IsSend Stored.the_row
stored_send = search (store_send, store_sync, sendable, crosses, fields) depth 40

pub shelved_send : IsSend Shelved.the_row
shelved_send = search (stored_send, sendable, crosses, fields) depth 300 fits 100000

pub pass_send : IsSend Pass.the_row
pass_send = search (shelved_send, store_send, store_sync, seat_send, sendable, crosses, fields) depth 40

pub lease_send : (T A : RattleType) (g : alloc.Ghosts A.Denot) → IsSend A → Frees g g.dealloc_token
    → IsSend (SendLease.the_row T A g)
lease_send T A g s f = right_send T A g f

pub lease_sync : (T A : RattleType) (g : alloc.Ghosts A.Denot) → IsSend A → Frees g g.dealloc_token
    → IsSync (SendLease.the_row T A g)
lease_sync T A g s f = record {
  shared = λ d b o ν q. part_keyless (SendLease.the_row T A g) (right_send T A g f) q d b o;
}

pub shelf_send : IsSend Shelf.the_row
shelf_send =
    search (shelved_send, shared_send, lease_send, sendable, crosses, fields) depth 60 fits 5000

pub shelf_sync : IsSync Shelf.the_row
shelf_sync =
    search (shelved_send, shared_sync, lease_sync, sendable, crosses, fields) depth 60 fits 5000
