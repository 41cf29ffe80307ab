-- Each entry is that of the number at its place.
use Rattle.std.proofs.Common.{◌≡◌, length, ◌∙◌, arith}
use Rattle.sz_ops_move.specs.Entries.{entry_of}
use Rattle.sz_ops_move.proofs.Copied.{entries-next, entries-all}
use Rattle.sz_ops_move.proofs.lookup.push_entries.Goals as goal

pub loop-k-init : goal.loop-k-init
loop-k-init c = record { made = c.requires.none; count = c.requires.empty; room = c.requires.room }

pub push_reserved-requires : goal.push_reserved-requires
push_reserved-requires c =
    let inv = c.loop-k.invariant in
    omega (arith, inv.count, inv.room, c.loop-k-test.true)

pub loop-k-preserved : goal.loop-k-preserved
loop-k-preserved c =
    let inv = c.loop-k.invariant in
    record {
      made = c.push_reserved.ensures.items
          ∙ entries-next (entry_of c.args.cols c.args.table.now) c.args.numbers.now c.loop-k.entries.items c.loop-k.k
          c.entry_of.result c.loop-k-test.true inv.made c.entry_of.ensures;
      count = omega (arith, c.push_reserved.ensures.len, inv.count);
      room = omega (arith, c.push_reserved.ensures.capacity, inv.room);
    }

pub returns : goal.returns
returns c =
    let last : c.loop-k.k ≡ length c.args.numbers.now = omega (arith, c.loop-k.auto.k-end, c.loop-k-test.false) in
    entries-all (entry_of c.args.cols c.args.table.now) c.args.numbers.now c.loop-k.entries.items c.loop-k.k last
    c.loop-k.invariant.made
