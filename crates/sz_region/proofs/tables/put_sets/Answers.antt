-- What was there before the sets is still there.
use Rattle.std.proofs.Common.{◌++◌, length, take, rules}
use Rattle.std.specs.List.{flat_map}
use Rattle.sz_cells.specs.SetBytes.{four_bytes}
use Rattle.sz_region.specs.FullBytes.{listed_bytes}
use Rattle.sz_region.proofs.Appending.{kept-first}
use Rattle.sz_region.proofs.tables.put_sets.Goals as goal

pub returns-in_err-put_listed-clause-err : goal.returns-in_err-put_listed-clause-err
returns-in_err-put_listed-clause-err c =
    let sets = c.args.sets.now in
    let kept = kept-first c.args.to.now.items
    (four_bytes (length sets) ++ flat_map listed_bytes (take c.loop-set.set-index sets)) c.put_listed.new.to.items
    (rw c.loop-set.invariant at c.in_err-put_listed.ensures.err) in
    search rules
