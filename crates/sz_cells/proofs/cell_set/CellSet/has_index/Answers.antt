-- The search stops at the first run that does not end before the index, since the ends of the runs do not fall.
use Rattle.std.proofs.Common.{arith, le-ltb}
use Rattle.sz_cells.specs.Extent.{size_of}
use Rattle.sz_cells.proofs.Runs.{runs-rise, any-runs_inside, any-runs_past}
use Rattle.sz_cells.proofs.cell_set.CellSet.has_index.Goals as goal

pub place_of-place-requires : goal.place_of-place-requires
place_of-place-requires c =
    rw c.deref.ensures.value (runs-rise 0 (size_of c.self.inside.shape) c.self.inside.runs.items c.self.invariant.0)

pub returns-then-place-len : goal.returns-then-place-len
returns-then-place-len c =
    let point = rw c.deref.ensures.value at c.place_of-place.ensures.first in
    let long = rw c.deref.ensures.value at c.deref.ensures.len in
    rw (← c.self.view_is)
    (any-runs_inside (size_of c.self.inside.shape) c.args.index c.place_of-place.result c.index.result.now
    c.self.inside.runs.items c.self.invariant.0 point (omega (arith, c.if-place-len.true, c.len.ensures, long))
    c.index.ensures)

pub returns-else-place-len : goal.returns-else-place-len
returns-else-place-len c =
    let point = rw c.deref.ensures.value at c.place_of-place.ensures.first in
    let long = rw c.deref.ensures.value at c.deref.ensures.len in
    rw (← c.self.view_is, le-ltb c.place_of-place.result c.len.result (omega arith))
    (any-runs_past (size_of c.self.inside.shape) c.args.index c.place_of-place.result c.self.inside.runs.items
    c.self.invariant.0 point (omega (
      arith,
      c.if-place-len.false,
      c.len.ensures,
      c.deref.ensures.len,
      c.place_of-place.ensures.within,
      long,
    )))
