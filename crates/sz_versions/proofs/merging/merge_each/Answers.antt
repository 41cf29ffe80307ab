-- One node more is merged, and its numbers are told.
use Rattle.std.proofs.Common.{◌≡◌, ◌<◌, ◌+◌, ℕ, suc, [], ◌∷◌, ◌++◌, map, take, length, true, refl, ap, ◌∙◌, subst}
use Rattle.std.proofs.Common.{arith, List, sym}
use Rattle.std.proofs.lemmas.List.{map-append}
use Rattle.sz_flow.specs.Executions.{execution_of}
use Rattle.sz_versions.specs.Stores.{keeping_of}
use Rattle.sz_versions.specs.declared.runs.NodeKeeping.{NodeKeeping}
use Rattle.sz_versions.specs.Merging.{IsMergeable, IsMergedNode, AreMergedNodes, kinds_in_kept, kinds_in_nodes}
use Rattle.sz_versions.proofs.Keeping.{listed-at}
use Rattle.sz_versions.proofs.MergedNodes.{few-lists, few-kept, node-at, same-at, merged-next, all-taken}
use Rattle.sz_versions.proofs.MergedNodes.{kinds-next}
use Rattle.sz_versions.proofs.merging.merge_each.Goals as goal

pub loop-node-init : goal.loop-node-init
loop-node-init g c = record {
  end = refl;
  same = refl;
  merged = rw c.in_ok-merged.ensures.items tt;
  kinds = c.requires.none;
}

pub bounds-lists-node : goal.bounds-lists-node
bounds-lists-node g c =
    few-lists true c.args.runs.now c.args.lists.now c.args.kept.now c.loop-node.node c.requires.mergeable
    (omega (arith, c.loop-node-test.true, c.loop-node.invariant.end))

pub bounds-kept-node : goal.bounds-kept-node
bounds-kept-node g c =
    few-kept true c.args.runs.now c.args.lists.now c.args.kept.now c.loop-node.kept c.loop-node.node
    c.requires.mergeable c.loop-node.invariant.same
    (omega (arith, c.loop-node-test.true, c.loop-node.invariant.end))

pub merge_node-requires-clause-supported : goal.merge_node-requires-clause-supported
merge_node-requires-clause-supported g c =
    let runs = c.args.runs.now in
    let e = execution_of c.index-runs-node.result in
    let list = c.index-lists-node.result in
    let few : c.loop-node.node < length runs = omega (arith, c.loop-node-test.true, c.loop-node.invariant.end) in
    let here = node-at true runs c.args.lists.now c.args.kept.now c.loop-node.kept c.loop-node.node
    c.index-runs-node.result list c.index-kept-node.result c.requires.mergeable c.loop-node.invariant.same few
    c.index-runs-node.is c.index-lists-node.is c.index-kept-node.is in
    λ κs lives. rw c.as_slice-list.ensures
    (listed-at (map execution_of runs) c.args.lists.now c.loop-node.node e list c.requires.listed here.here
    here.listed)

pub merge_node-requires-clause-mergeable : goal.merge_node-requires-clause-mergeable
merge_node-requires-clause-mergeable g c =
    let runs = c.args.runs.now in
    let e = execution_of c.index-runs-node.result in
    let list = c.index-lists-node.result in
    let few : c.loop-node.node < length runs = omega (arith, c.loop-node-test.true, c.loop-node.invariant.end) in
    let here = node-at true runs c.args.lists.now c.args.kept.now c.loop-node.kept c.loop-node.node
    c.index-runs-node.result list c.index-kept-node.result c.requires.mergeable c.loop-node.invariant.same few
    c.index-runs-node.is c.index-lists-node.is c.index-kept-node.is in
    λ κs lives. rw c.as_slice-list.ensures
    (subst (λ (x : NodeKeeping). IsMergeable true e list (keeping_of x)) c.index-kept-node.is here.own)

pub loop-node-preserved : goal.loop-node-preserved
loop-node-preserved g c =
    let runs = c.args.runs.now in
    let n = c.loop-node.node in
    let es = map execution_of runs in
    let lists = c.args.lists.now in
    let ks = map keeping_of c.args.kept.now in
    let run = c.index-runs-node.result in
    let list = c.index-lists-node.result in
    let kept = c.index-kept-node.result in
    let new = c.in_ok-merge_node.field-0 in
    let few : n < length runs = omega (arith, c.loop-node-test.true, c.loop-node.invariant.end) in
    let here = node-at true runs lists c.args.kept.now c.loop-node.kept n run list kept c.requires.mergeable
    c.loop-node.invariant.same few c.index-runs-node.is c.index-lists-node.is c.index-kept-node.is in
    let next : suc n ≡ n + 1 = omega arith in
    let one = subst (λ (x : NodeKeeping). IsMergedNode (execution_of run) list (keeping_of x) (keeping_of new))
    (sym c.index-kept-node.is) (rw c.as_slice-list.ensures at c.in_ok-merge_node.ensures.merged) in
    let own = subst (λ (x : NodeKeeping). c.merge_node.new.kinds.items
    ≡ c.loop-node.kinds.items ++ kinds_in_kept (execution_of run) list (keeping_of x))
    (sym c.index-kept-node.is) (rw c.as_slice-list.ensures at c.in_ok-merge_node.ensures.kinds) in
    let news = ap (λ xs. map keeping_of xs) c.in_ok-push.ensures.items
    ∙ map-append keeping_of c.loop-node.merged.items (new ∷ []) in
    record {
      end = refl;
      same = same-at c.args.kept.now c.loop-node.kept n c.merge_node.new.kept kept c.loop-node.invariant.same
          c.merge_node.ensures.same;
      merged = rw news
          (subst (λ (m : ℕ). AreMergedNodes (take m es) (take m lists) (take m ks)
          (map keeping_of c.loop-node.merged.items ++ keeping_of new ∷ [])) next
          (merged-next es lists ks (map keeping_of c.loop-node.merged.items) n (execution_of run) list (keeping_of kept)
          (keeping_of new) here.here here.listed here.there c.loop-node.invariant.merged one));
      kinds = own
          ∙ ap (λ (xs : List ℕ). xs ++ kinds_in_kept (execution_of run) list (keeping_of kept))
          c.loop-node.invariant.kinds
          ∙ kinds-next es lists ks n (execution_of run) list (keeping_of kept) here.here here.listed here.there
          ∙ ap (λ (m : ℕ). kinds_in_nodes (take m es) (take m lists) (take m ks)) next;
    }

-- ---- the end

pub returns-clause-merged : goal.returns-clause-merged
returns-clause-merged g c =
    let all = all-taken true c.args.runs.now c.args.lists.now c.args.kept.now c.loop-node.node c.requires.mergeable
    (omega (arith, c.loop-node-test.false, c.loop-node.invariant.end)) in
    rw (all.0, all.1, all.2) at c.loop-node.invariant.merged

pub returns-clause-kinds : goal.returns-clause-kinds
returns-clause-kinds g c =
    let all = all-taken true c.args.runs.now c.args.lists.now c.args.kept.now c.loop-node.node c.requires.mergeable
    (omega (arith, c.loop-node-test.false, c.loop-node.invariant.end)) in
    rw (all.0, all.1, all.2) at c.loop-node.invariant.kinds

-- ---- what is kept, where the memory is out

pub returns-in_err-merge_node-clause-same : goal.returns-in_err-merge_node-clause-same
returns-in_err-merge_node-clause-same g c =
    same-at c.args.kept.now c.loop-node.kept c.loop-node.node c.merge_node.new.kept c.index-kept-node.result
    c.loop-node.invariant.same c.merge_node.ensures.same

pub returns-in_err-push-clause-same : goal.returns-in_err-push-clause-same
returns-in_err-push-clause-same g c =
    same-at c.args.kept.now c.loop-node.kept c.loop-node.node c.merge_node.new.kept c.index-kept-node.result
    c.loop-node.invariant.same c.merge_node.ensures.same
