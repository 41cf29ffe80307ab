-- One node more: what is kept of it is kept of its run, for the list at its place.
use Rattle.std.proofs.Common.{map, refl, arith, false}
use Rattle.sz_versions.specs.Stores.{keeping_of}
use Rattle.sz_versions.proofs.Keeping.{IsListedAt, list-below, listed-run, kept-one, kept-all}
use Rattle.sz_versions.proofs.building.begun.Goals.{After-as_slice}
use Rattle.sz_versions.proofs.building.begun.Goals as goal

pub bounds-lists-node : goal.bounds-lists-node
bounds-lists-node c =
    list-below c.args.runs.now c.args.lists.now c.loop-node.node c.requires
    (omega (arith, c.loop-node-test.true, c.loop-node.invariant.end))

-- the run, and the list at its place
here : (c : After-as_slice) → IsListedAt c.args.runs.now c.args.lists.now c.loop-node.node c.index-runs-node.result
    c.index-lists-node.result
here c =
    listed-run c.args.runs.now c.args.lists.now c.loop-node.node c.index-runs-node.result c.index-lists-node.result
    c.requires (omega (arith, c.loop-node-test.true, c.loop-node.invariant.end)) c.index-runs-node.is
    c.index-lists-node.is

pub begin-requires : goal.begin-requires
begin-requires c = rw c.as_slice.ensures (here (goal.at.begin-requires c).After-as_slice).supported

pub loop-node-preserved : goal.loop-node-preserved
loop-node-preserved c = record {
  end = refl;
  kept = rw c.in_ok-push.ensures.items
      (kept-one false c.loop-node.stores.items c.in_ok-begin.field-0
      (here (goal.at.loop-node-preserved c).After-as_slice) c.loop-node.invariant.kept
      (rw c.as_slice.ensures at c.in_ok-begin.ensures));
}

pub returns : goal.returns
returns c =
    kept-all false c.args.runs.now c.args.lists.now c.loop-node.node (map keeping_of c.loop-node.stores.items)
    c.requires (omega (arith, c.loop-node-test.false, c.loop-node.invariant.end)) c.loop-node.invariant.kept
