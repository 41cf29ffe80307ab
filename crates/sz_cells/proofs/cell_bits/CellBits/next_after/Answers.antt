-- Outside of the words that were touched no bit is 1.
use Rattle.std.proofs.Common.{◌*◌}
use Rattle.sz_cells.specs.Extent.{size_of}
use Rattle.sz_cells.specs.Words.{has_bit}
use Rattle.sz_cells.proofs.Bitmaps.{next-bit}
use Rattle.sz_cells.proofs.cell_bits.CellBits.next_after.Goals as goal

pub returns : goal.returns
returns c =
    let found = rw (c.deref.ensures.value, c.max.ensures) at c.next_one.ensures in
    rw (← c.self.view_is)
    (next-bit (has_bit c.self.inside.words.items) (size_of c.self.inside.shape) (c.self.inside.first * 64) c.args.from
    (c.self.inside.end * 64) c.next_one.result
    c.self.invariant.before c.self.invariant.after c.self.invariant.no_more found)
