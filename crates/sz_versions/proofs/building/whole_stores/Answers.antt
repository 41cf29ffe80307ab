-- One node more: its stores are made whole, of what is kept of it.
use Rattle.std.proofs.Common.{map, refl, arith, subst, true, false}
use Rattle.std.proofs.lemmas.List.{length-map}
use Rattle.sz_flow.specs.Executions.{execution_of}
use Rattle.sz_versions.specs.Stores.{IsKeptOf, keeping_of}
use Rattle.sz_versions.specs.declared.runs.NodeKeeping.{NodeKeeping}
use Rattle.sz_versions.proofs.Keeping.{IsListedAt, list-below, listed-run, kept-length, kept-read, kept-one, kept-all}
use Rattle.sz_versions.proofs.Still.{stills-same, long-still, keeps-still, stills-set}
use Rattle.sz_versions.proofs.building.whole_stores.Given.{Over}
use Rattle.sz_versions.proofs.building.whole_stores.Goals.{After-as_slice-list}
use Rattle.sz_versions.proofs.building.whole_stores.Goals as goal

pub loop-node-init : goal.loop-node-init
loop-node-init g c = record {
  end = refl;
  whole = rw c.in_ok-stores.ensures.items tt;
  still = stills-same (map keeping_of c.args.begun.now);
}

pub bounds-lists-node : goal.bounds-lists-node
bounds-lists-node g c =
    list-below c.args.runs.now c.args.lists.now c.loop-node.node c.requires.listed
    (omega (arith, c.loop-node-test.true, c.loop-node.invariant.end))

pub bounds-begun-node : goal.bounds-begun-node
bounds-begun-node g c =
    let before = map keeping_of c.args.begun.now in
    let now = map keeping_of c.loop-node.begun in
    omega (
      arith,
      c.loop-node-test.true,
      c.loop-node.invariant.end,
      (kept-length false (map execution_of c.args.runs.now) c.args.lists.now before c.requires.kept).0,
      long-still before now c.loop-node.invariant.still,
      length-map c.args.runs.now execution_of,
      length-map c.loop-node.begun keeping_of,
    )

-- the run, and the list at its place
here : (g : Over) (c : After-as_slice-list g) → IsListedAt c.args.runs.now c.args.lists.now c.loop-node.node
    c.index-runs-node.result c.index-lists-node.result
here g c =
    listed-run c.args.runs.now c.args.lists.now c.loop-node.node c.index-runs-node.result c.index-lists-node.result
    c.requires.listed (omega (arith, c.loop-node-test.true, c.loop-node.invariant.end)) c.index-runs-node.is
    c.index-lists-node.is

pub end-requires : goal.end-requires
end-requires g c =
    let es = map execution_of c.args.runs.now in
    let lists = c.args.lists.now in
    let run = c.index-runs-node.result in
    let list = c.index-lists-node.result in
    let h = here g (goal.at.end-requires g c).After-as_slice-list in
    let own = keeps-still false es lists (map keeping_of c.args.begun.now) (map keeping_of c.loop-node.begun)
    c.loop-node.invariant.still c.requires.kept in
    let kept = kept-read false es lists c.loop-node.begun c.loop-node.node (execution_of run) list
    c.index-begun-node.result own h.here h.listed c.index-begun-node.is in
    record {
      supported = rw c.as_slice-list.ensures h.supported;
      kept = rw c.as_slice-list.ensures
          (subst (λ (x : NodeKeeping). IsKeptOf false (execution_of run) list (keeping_of x))
          c.index-begun-node.is kept);
    }

pub loop-node-preserved : goal.loop-node-preserved
loop-node-preserved g c = record {
  end = refl;
  whole = rw c.in_ok-push.ensures.items
      (kept-one true c.loop-node.stores.items c.in_ok-end.field-0
      (here g (goal.at.loop-node-preserved g c).After-as_slice-list) c.loop-node.invariant.whole
      (rw c.as_slice-list.ensures at c.in_ok-end.ensures.whole));
  still = stills-set (map keeping_of c.args.begun.now) c.loop-node.begun c.loop-node.node c.end.new.begun
      c.index-begun-node.result c.loop-node.invariant.still c.in_ok-end.ensures.still;
}

pub returns-clause-whole : goal.returns-clause-whole
returns-clause-whole g c =
    kept-all true c.args.runs.now c.args.lists.now c.loop-node.node (map keeping_of c.loop-node.stores.items)
    c.requires.listed (omega (arith, c.loop-node-test.false, c.loop-node.invariant.end)) c.loop-node.invariant.whole

-- ---- what was begun, where the memory is out

pub returns-in_err-stores-clause-still : goal.returns-in_err-stores-clause-still
returns-in_err-stores-clause-still g c = stills-same (map keeping_of c.args.begun.now)

pub returns-in_err-end-clause-still : goal.returns-in_err-end-clause-still
returns-in_err-end-clause-still g c =
    stills-set (map keeping_of c.args.begun.now) c.loop-node.begun c.loop-node.node c.end.new.begun
    c.index-begun-node.result c.loop-node.invariant.still c.in_err-end.ensures.still

pub returns-in_err-push-clause-still : goal.returns-in_err-push-clause-still
returns-in_err-push-clause-still g c =
    stills-set (map keeping_of c.args.begun.now) c.loop-node.begun c.loop-node.node c.end.new.begun
    c.index-begun-node.result c.loop-node.invariant.still c.in_ok-end.ensures.still

pub returns-clause-still : goal.returns-clause-still
returns-clause-still g c = c.loop-node.invariant.still
