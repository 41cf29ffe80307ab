-- What was there before the payloads is still there.
use Rattle.std.proofs.Common.{◌++◌, length, take, rules}
use Rattle.std.specs.List.{flat_map}
use Rattle.sz_cells.specs.SetBytes.{four_bytes}
use Rattle.sz_region.specs.PayBytes.{payload_bytes}
use Rattle.sz_region.proofs.Appending.{kept-first}
use Rattle.sz_region.proofs.tables.put_payloads.Goals as goal

pub returns-in_err-put_payload-clause-err : goal.returns-in_err-put_payload-clause-err
returns-in_err-put_payload-clause-err c =
    let payloads = c.args.payloads.now in
    let kept = kept-first c.args.to.now.items
    (four_bytes (length payloads) ++ flat_map payload_bytes (take c.loop-payload.payload-index payloads))
    c.put_payload.new.to.items (rw c.loop-payload.invariant at c.in_err-put_payload.ensures.err) in
    search rules
