-- So far each node is sound.
use Rattle.std.proofs.Common.{take, map}
use Rattle.sz_flow.specs.Executions.{execution_of}
use Rattle.sz_bodies.specs.Fitting.{lineages}
use Rattle.sz_recover.specs.Soundness.{AreSoundNodes}
use Rattle.sz_recover.proofs.checking.wrong_of_nodes.Given as goal

abbrev pub invariant-loop-node : goal.invariant-loop-node
invariant-loop-node g l = AreSoundNodes (take l.node (map execution_of l.runs)) (take l.node (lineages l.nodes))
