-- The rows so far are in the strip.
use Rattle.sz_ops_move.specs.Turning.{IsStrip}
use Rattle.sz_ops_move.proofs.turning.fill_strip.Given as goal

abbrev pub invariant-loop-row : goal.invariant-loop-row
invariant-loop-row l = IsStrip l.cells l.strip l.pitch l.cols l.first l.wide l.row
