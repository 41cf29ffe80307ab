-- The bytes so far are those of the number of payloads and of the payloads before this one.
use Rattle.std.proofs.Common.{◌≡◌, ◌++◌, length, take}
use Rattle.std.specs.List.{flat_map}
use Rattle.sz_cells.specs.SetBytes.{four_bytes}
use Rattle.sz_region.specs.PayBytes.{payload_bytes}
use Rattle.sz_region.proofs.tables.put_payloads.Given as goal

abbrev pub invariant-loop-payload : goal.invariant-loop-payload
invariant-loop-payload l =
    l.to.items ≡ l.fn.to.items ++ (four_bytes (length l.payloads) ++ flat_map payload_bytes
    (take l.payload-index l.payloads))
