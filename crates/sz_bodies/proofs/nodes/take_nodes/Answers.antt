-- One more node stands behind those before it.
use Rattle.std.proofs.Common.{◌≡◌, ℕ, ◌+◌, List, [], ◌∷◌, ◌++◌, map, take, drop, ap, ap₂, sym, subst, ◌∙◌}
use Rattle.std.proofs.Common.{Option, option_map, arith}
use Rattle.std.specs.Arc.{arc_value}
use Rattle.std.proofs.lemmas.List.{map-append}
use Rattle.std.proofs.lemmas.Result.{err_from_is_err_and}
use Rattle.sz_spec.specs.declared.flow.Node.{Node}
use Rattle.sz_spec.specs.declared.modes.Strategy.{Strategy}
use Rattle.sz_spec.specs.Shapes.{Site}
use Rattle.sz_store.specs.Kept.{NodeLineage}
use Rattle.sz_bodies.specs.Bodies.{NodePart}
use Rattle.sz_bodies.specs.Fitting.{FitNodes, lineages, part_of, parts_of}
use Rattle.sz_bodies.specs.Taking.{site_over}
use Rattle.sz_bodies.proofs.HeadParts.{if_bad-weaker}
use Rattle.sz_bodies.proofs.NodesPut.{one-taken}
use Rattle.sz_bodies.proofs.Sequence.{AreRead, left-is, read-stops, read-more, read-all, fit-more, parts-more}
use Rattle.sz_bodies.proofs.nodes.take_nodes.Goals as goal

pub returns-in_err-list-clause-err : goal.returns-in_err-list-clause-err
returns-in_err-list-clause-err g c =
    let base = c.args.base.now in
    let outs = c.args.outputs.now in
    let nodes = c.args.nodes.now in
    let i : ℕ = c.loop-node.node-index in
    let n : Node = c.node-item.result in
    let done = parts_of c.loop-node.lists.items (lineages c.loop-node.stores.items) in
    let left = left-is nodes i n c.loop-node-test.true c.node-item.is in
    let read : AreRead c.args.format base outs nodes (n ∷ drop (i + 1) nodes) c.args.bytes.now c.args.at
    c.loop-node.place done =
    subst (λ (xs : List Node). AreRead c.args.format base outs nodes xs c.args.bytes.now c.args.at
    c.loop-node.place done) left
    c.loop-node.invariant.read in
    let none = if_bad-weaker c.in_err-list.field-0.0
    (λ missing. read-stops c.args.format base outs nodes n (drop (i + 1) nodes) c.args.bytes.now c.args.at
    c.loop-node.place done read
    missing) c.in_err-list.ensures.err in
    let p = err_from_is_err_and c.from_residual-in_err-list.result c.from_residual-in_err-list.ensures.1 in
    rw (p.1, p.2) none

pub loop-node-preserved : goal.loop-node-preserved
loop-node-preserved g c =
    let base = c.args.base.now in
    let outs = c.args.outputs.now in
    let nodes = c.args.nodes.now in
    let i : ℕ = c.loop-node.node-index in
    let n : Node = c.node-item.result in
    let s : Site = site_over base outs n in
    let list : List Strategy = c.in_ok-list.list in
    let kept : Option NodeLineage = option_map (λ a. arc_value a) c.in_ok-list.kept in
    let lists = c.loop-node.lists.items in
    let stores = lineages c.loop-node.stores.items in
    let done = parts_of lists stores in
    let inv = c.loop-node.invariant in
    let sites = map (site_over base outs) (take i nodes) in
    let more_lists : c.push.new.self.items ≡ lists ++ list ∷ [] = c.in_ok-push.ensures.items in
    let more_stores : lineages c.push-in-loop-node.new.self.items ≡ stores ++ kept ∷ [] =
    ap (λ xs. lineages xs) c.in_ok-push-2.ensures.items
    ∙ map-append (λ a. option_map (λ b. arc_value b) a) c.loop-node.stores.items (c.in_ok-list.kept ∷ []) in
    let left = left-is nodes i n c.loop-node-test.true c.node-item.is in
    let read : AreRead c.args.format base outs nodes (n ∷ drop (i + 1) nodes) c.args.bytes.now c.args.at
    c.loop-node.place done =
    subst (λ (xs : List Node). AreRead c.args.format base outs nodes xs c.args.bytes.now c.args.at
    c.loop-node.place done) left
    inv.read in
    let parts : parts_of c.push.new.self.items (lineages c.push-in-loop-node.new.self.items)
    ≡ done ++ part_of list kept ∷ [] =
    ap₂ (λ (ls : List (List Strategy)) (ks : List (Option NodeLineage)). parts_of ls ks) more_lists more_stores
    ∙ parts-more sites lists stores list kept inv.fit in
    let taken : map (site_over base outs) (take (i + 1) nodes) ≡ sites ++ s ∷ [] =
    ap (λ (xs : List Node). map (site_over base outs) xs) (one-taken nodes i n c.loop-node-test.true c.node-item.is)
    ∙ map-append (site_over base outs) (take i nodes) (n ∷ []) in
    record {
      read =
          subst (λ (xs : List NodePart). AreRead c.args.format base outs nodes (drop (i + 1) nodes) c.args.bytes.now
          c.args.at
          c.in_ok-list.next xs) (sym parts)
          (read-more c.args.format base outs nodes n (drop (i + 1) nodes) c.args.bytes.now c.args.at c.loop-node.place
          c.in_ok-list.next done (part_of list kept) read c.in_ok-list.ensures.node c.in_ok-list.ensures.only);
      fit =
          subst (λ (ss : List Site). FitNodes ss c.push.new.self.items
          (lineages c.push-in-loop-node.new.self.items)) (sym taken)
          (subst (λ (ls : List (List Strategy)). FitNodes (sites ++ s ∷ []) ls
          (lineages c.push-in-loop-node.new.self.items)) (sym more_lists)
          (subst (λ (ks : List (Option NodeLineage)). FitNodes (sites ++ s ∷ []) (lists ++ list ∷ []) ks)
          (sym more_stores)
          (fit-more sites lists stores s list kept inv.fit c.in_ok-list.ensures.fits)));
      index = omega (arith, inv.index);
    }

pub returns-clause-nodes : goal.returns-clause-nodes
returns-clause-nodes g c =
    (read-all c.args.format c.args.base.now c.args.outputs.now c.args.nodes.now c.args.bytes.now c.args.at
    c.loop-node.place (parts_of c.loop-node.lists.items (lineages c.loop-node.stores.items)) c.loop-node.node-index
    c.loop-node-test.false c.loop-node.invariant.read).0

pub returns-clause-only : goal.returns-clause-only
returns-clause-only g c =
    (read-all c.args.format c.args.base.now c.args.outputs.now c.args.nodes.now c.args.bytes.now c.args.at
    c.loop-node.place (parts_of c.loop-node.lists.items (lineages c.loop-node.stores.items)) c.loop-node.node-index
    c.loop-node-test.false c.loop-node.invariant.read).1
