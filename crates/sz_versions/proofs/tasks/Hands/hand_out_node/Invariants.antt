-- No more passes were split off than workers were gone through, and the claim pass is of the claims.
use Rattle.std.proofs.Common.{◌≡◌, ◌≤◌, ◌+◌, ℕ}
use Rattle.std.specs.Arc.{arc_value}
use Rattle.sz_versions.proofs.tasks.Hands.hand_out_node.Given as goal

abbrev pub invariant-loop : goal.invariant-loop
invariant-loop g l = record {
  pass : (n : ℕ) × (n ≤ l.counter) × (l.pass ≡ record l.initial.pass { splits = l.initial.pass.splits + n });
  claimant : l.claimant.table ≡ (arc_value l.claims).table;
}
