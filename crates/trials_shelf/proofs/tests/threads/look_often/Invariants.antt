-- The pass stays one of the shelf.
use Rattle.std.proofs.Common.{◌≡◌}
use Rattle.sz_shelf.specs.Passes.{place_of}
use Rattle.trials_shelf.proofs.tests.threads.look_often.Given as goal

abbrev pub invariant-loop : goal.invariant-loop
invariant-loop g l = (place_of l.pass ≡ place_of l.initial.pass) × (l.bench ≡ l.initial.bench)
