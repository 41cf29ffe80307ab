-- What was appended so far is what the items so far give, each of which passes.
use Rattle.std.proofs.Common.{[]}
use Rattle.sz_script.specs.Kernels.{is_row_of_wholes, weights_of}
use Rattle.sz_script.proofs.Walks.{IsWalkedUpTo}
use Rattle.sz_script.proofs.kernels.kernel_of.Given as goal

abbrev pub invariant-loop-row : goal.invariant-loop-row
invariant-loop-row l = IsWalkedUpTo is_row_of_wholes weights_of l.rows l.row-index [] l.weights.items
