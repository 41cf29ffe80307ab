-- The quotient rounded up is the number of blocks.
use Rattle.std.proofs.Common.{◌∙◌}
use Rattle.sz_spec.proofs.CodeShapes.{blocks-divided}
use Rattle.sz_spec.proofs.shapes.blocks_over.Goals as goal

pub returns : goal.returns
returns c = c.div_ceil.ensures ∙ blocks-divided c.args.count c.args.side c.requires
