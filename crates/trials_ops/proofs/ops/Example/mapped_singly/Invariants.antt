-- The cells so far are of the shape to which the direction leads.
use Rattle.std.proofs.Common.{◌≡◌}
use Rattle.trials_ops.proofs.ops.Example.mapped_singly.Given as goal

abbrev pub invariant-loop-index : goal.invariant-loop-index
invariant-loop-index l = l.to.extent ≡ l.initial.to.extent
