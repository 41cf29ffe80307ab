-- A run more is that of the execution that it was.
use Rattle.std.proofs.Common.{map, sym, ◌∙◌, arith}
use Rattle.std.proofs.Math.ListN.{length-set}
use Rattle.std.proofs.Math.Seq.{map-set_same}
use Rattle.std.proofs.lemmas.List.{length-map}
use Rattle.sz_flow.specs.Executions.{execution_of}
use Rattle.sz_versions.proofs.Keeping.{listed-length}
use Rattle.sz_versions.proofs.building.prepare_each.Goals as goal

pub bounds-lists-node : goal.bounds-lists-node
bounds-lists-node c =
    omega (
      arith,
      c.loop-node-test.true,
      listed-length (map execution_of c.args.runs.now) c.args.lists.now c.requires,
      length-map c.args.runs.now execution_of,
    )

pub returns-in_err-prepare_one : goal.returns-in_err-prepare_one
returns-in_err-prepare_one c =
    map-set_same execution_of c.loop-node.runs c.loop-node.node c.prepare_one.new.run c.index-runs-node.result
    c.prepare_one.ensures
    ∙ c.loop-node.invariant.same

pub loop-node-preserved : goal.loop-node-preserved
loop-node-preserved c =
    let runs = c.loop-node.runs in
    let n = c.loop-node.node in
    let new = c.prepare_one.new.run in
    record {
      end = c.loop-node.invariant.end ∙ sym (length-set runs n new);
      same = map-set_same execution_of runs n new c.index-runs-node.result c.prepare_one.ensures
          ∙ c.loop-node.invariant.same;
    }
