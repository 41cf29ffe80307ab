-- There are no more longest runs than cells.
use Rattle.std.proofs.Common.{arith}
use Rattle.sz_cells.specs.Extent.{size_of}
use Rattle.sz_cells.proofs.Runs.{runs-length}
use Rattle.sz_region.proofs.set_bytes.put_runs.Goals as goal

pub prove-unreachable-requires : goal.prove-unreachable-requires
prove-unreachable-requires c =
    omega (arith, runs-length (size_of c.args.shape.now) c.args.runs.now c.requires, c.size.ensures)
