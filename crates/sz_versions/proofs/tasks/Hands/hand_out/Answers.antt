-- What is kept of a node is lent once its tasks are handed out, and stays what is kept of the same execution.
use Rattle.std.proofs.Common.{◌<◌, List, map, length, refl, sym, ap, ◌∙◌, arith, subst, false}
use Rattle.std.specs.Arc.{arc_value}
use Rattle.std.specs.List.{slice_get}
use Rattle.std.proofs.lemmas.List.{length-map}
use Rattle.std.proofs.lemmas.Option.{slice_get_read}
use Rattle.sz_flow.specs.Executions.{Execution, execution_of}
use Rattle.sz_versions.specs.Stores.{Trail, keeping_of}
use Rattle.sz_versions.specs.Lending.{lent, AreLent}
use Rattle.sz_versions.proofs.Keeping.{read-at, kept-length, kept-read}
use Rattle.sz_versions.proofs.Lending.{lent-same, lent-set, keeps-lent}
use Rattle.sz_versions.proofs.tasks.Hands.hand_out.Goals as goal

pub loop-node-init : goal.loop-node-init
loop-node-init g c = record {
  runs = ap (λ (t : Trail). t.executions) c.run.view_is;
  stores = subst (AreLent c.args.run.now.kept) (sym (ap (λ (t : Trail). t.kept) c.run.view_is))
      (lent-same c.args.run.now.kept);
  end = refl;
}

pub index-requires : goal.index-requires
index-requires g c =
    let r = c.args.run.now in
    let runs = c.loop-node.run-inside.runs in
    let long = kept-length false r.executions c.args.lists.now r.kept c.requires in
    omega (
      arith,
      c.loop-node-test.true,
      c.loop-node.invariant.end,
      long.1,
      ap (λ (es : List Execution). length es) c.loop-node.invariant.runs,
      length-map (arc_value runs).items execution_of,
      ap (λ v. v.len) c.deref.ensures,
      (arc_value runs).ok.0,
    )

pub index_mut-requires : goal.index_mut-requires
index_mut-requires g c =
    let r = c.args.run.now in
    let long = kept-length false r.executions c.args.lists.now r.kept c.requires in
    let keeps = map keeping_of c.loop-node.run-inside.stores.items in
    let own =
    keeps-lent false r.executions c.args.lists.now r.kept keeps c.loop-node.invariant.stores c.requires in
    omega (
      arith,
      c.loop-node-test.true,
      c.loop-node.invariant.end,
      (kept-length false r.executions c.args.lists.now keeps own).0,
      long.1,
      length-map c.loop-node.run-inside.stores.items keeping_of,
      c.loop-node.run-inside.stores.ok.0,
    )

pub hand_out_node-requires : goal.hand_out_node-requires
hand_out_node-requires g c =
    let r = c.args.run.now in
    let n = c.loop-node.node in
    let lists = c.args.lists.now in
    let runs = (arc_value c.loop-node.run-inside.runs).items in
    let stores = c.loop-node.run-inside.stores.items in
    let run = c.index.result.now in
    let list = c.index-lists-node.result in
    let below : n < length lists = omega (arith, c.loop-node-test.true, c.loop-node.invariant.end) in
    let few : n < length runs = omega (
      arith,
      below,
      (kept-length false r.executions lists r.kept c.requires).1,
      length-map runs execution_of,
      ap (λ (es : List Execution). length es) c.loop-node.invariant.runs,
    ) in
    let own = keeps-lent false r.executions lists r.kept (map keeping_of stores) c.loop-node.invariant.stores
    c.requires in
    let here = ap (λ (es : List Execution). slice_get es n) (sym c.loop-node.invariant.runs)
    ∙ read-at execution_of runs n run few (rw c.deref.ensures at c.index.ensures) in
    let there = slice_get_read lists (length lists) n list refl below c.index-lists-node.is in
    rw c.as_slice-list.ensures
    (kept-read false r.executions lists stores n (execution_of run) list c.index_mut.result.now own here there
    c.index_mut.ensures.value)

pub loop-node-preserved : goal.loop-node-preserved
loop-node-preserved g c = record {
  runs = c.loop-node.invariant.runs;
  stores = let more = c.hand_out_node.ensures in
      lent-set c.args.run.now.kept c.loop-node.run-inside.stores.items c.loop-node.node c.hand_out_node.new.stores
      c.index_mut.result.now c.loop-node.invariant.stores
      (more.0, more.2 ∙ ap (λ k. lent more.0 (keeping_of k)) c.index_mut.ensures.value);
  end = c.loop-node.invariant.end;
}
