-- A block begins at a multiple of the side, and ends a side later or where there is nothing more.
use Rattle.std.proofs.Common.{arith}
use Rattle.sz_ops_local.proofs.Blocks.{block-below, block-cols}
use Rattle.sz_ops_local.proofs.block.span_of.Goals as goal

pub overflow_mul-from : goal.overflow_mul-from
overflow_mul-from c =
    let low = block-below c.args.n c.args.side c.args.block c.requires.side c.requires.block in
    omega (arith, low)

pub overflow_sub-n : goal.overflow_sub-n
overflow_sub-n c =
    let low = block-below c.args.n c.args.side c.args.block c.requires.side c.requires.block in
    omega (arith, low)

pub overflow_add-result : goal.overflow_add-result
overflow_add-result c =
    let low = block-below c.args.n c.args.side c.args.block c.requires.side c.requires.block in
    omega (arith, low, c.min.ensures)

pub returns-clause-some : goal.returns-clause-some
returns-clause-some c =
    let low = block-below c.args.n c.args.side c.args.block c.requires.side c.requires.block in
    omega (arith, low, c.min.ensures)

pub returns-clause-within : goal.returns-clause-within
returns-clause-within c =
    let low = block-below c.args.n c.args.side c.args.block c.requires.side c.requires.block in
    omega (arith, low, c.min.ensures)

pub returns-clause-block : goal.returns-clause-block
returns-clause-block c = λ k inside.
    let low = block-below c.args.n c.args.side c.args.block c.requires.side c.requires.block in
    rw c.min.ensures (block-cols c.args.n c.args.side c.args.block k c.requires.side inside low)
