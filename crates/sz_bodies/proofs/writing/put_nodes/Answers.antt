-- One node more stands behind the others.
use Rattle.std.proofs.Common.{◌≡◌, ◌<◌, ◌≤◌, ◌+◌, ℕ, suc, List, [], ◌∷◌, ◌++◌, take, length, refl, sym, ap, subst, ◌∙◌}
use Rattle.std.proofs.Common.{arith, append_assoc, All, option_map}
use Rattle.std.specs.Arc.{arc_value}
use Rattle.std.proofs.lemmas.List.{length-map, take_all, append-nil}
use Rattle.std.proofs.lemmas.List.Elements.{All-append, All-cons, All-nil}
use Rattle.std.proofs.lemmas.Option.{slice_get-map, slice_get_read}
use Rattle.sz_spec.specs.Shapes.{Site}
use Rattle.sz_bodies.specs.Bodies.{NodePart, BeginNodes}
use Rattle.sz_bodies.specs.Fitting.{FitNodes, lineages, part_of, parts_of}
use Rattle.sz_bodies.proofs.NodesPut.{fit-length, node-next, nodes-append, NextNode}
use Rattle.sz_bodies.proofs.writing.put_nodes.Goals.{After-index-stores-node}
use Rattle.sz_bodies.proofs.writing.put_nodes.Goals as goal

pub bounds-lists-node : goal.bounds-lists-node
bounds-lists-node c =
    let stores = c.args.stores.now in
    let fit = fit-length c.requires.fit.0 c.args.lists.now (lineages stores) c.requires.fit.1 in
    omega (arith, c.loop-node-test.true, fit.0, length-map stores (option_map (λ a. arc_value a)))

-- the node at the number, whatever its operator is
node-at : (c : After-index-stores-node) (sites : List Site)
    → FitNodes sites c.args.lists.now (lineages c.args.stores.now)
    → NextNode c.loop-node.node sites c.args.lists.now (lineages c.args.stores.now) c.index-lists-node.result
    (option_map (λ a. arc_value a) c.index-stores-node.result)
node-at c sites fit =
    let lists = c.args.lists.now in
    let stores = c.args.stores.now in
    let n = c.loop-node.node in
    let lengths = fit-length sites lists (lineages stores) fit in
    let below : n < length lists = omega (
      arith,
      c.loop-node-test.true,
      lengths.0,
      length-map stores (option_map (λ a. arc_value a)),
    ) in
    let here = slice_get_read lists (length lists) n c.index-lists-node.result refl below c.index-lists-node.is in
    let there = slice_get-map (option_map (λ a. arc_value a)) stores n
    ∙ ap (option_map (option_map (λ a. arc_value a)))
    (slice_get_read stores (length stores) n c.index-stores-node.result refl c.loop-node-test.true
    c.index-stores-node.is) in
    node-next n sites lists (lineages stores) c.index-lists-node.result
    (option_map (λ a. arc_value a) c.index-stores-node.result) fit here there

pub loop-node-preserved : goal.loop-node-preserved
loop-node-preserved c =
    let old = c.args.to.now.items in
    let mid = c.loop-node.to.items in
    let new = c.put_node.new.to.items in
    let lists = c.args.lists.now in
    let stores = c.args.stores.now in
    let n = c.loop-node.node in
    let list = c.index-lists-node.result in
    let kept = option_map (λ a. arc_value a) c.index-stores-node.result in
    let inv = c.loop-node.invariant in
    let put = c.in_ok-put_node.ensures in
    let one : n + 1 ≡ suc n = omega arith in
    let next = node-at (goal.at.loop-node-preserved c).After-index-stores-node in
    let parts = (next c.requires.fit.0 c.requires.fit.1).parts in
    let short : NodePart → Type 0 = λ x. length x.list < 256 in
    record {
      end = refl;
      short =
          rw one
          (subst (All short) (sym parts)
          (All-append short (parts_of (take n lists) (take n (lineages stores))) (part_of list kept ∷ []) inv.short
          (All-cons short (part_of list kept) [] put.short (All-nil short))));
      front = (
        inv.front.0 ++ put.front.0,
        put.front.1 ∙ ap (λ (xs : List ℕ). xs ++ put.front.0) inv.front.1
            ∙ append_assoc old inv.front.0 put.front.0,
      );
      nodes =
          λ sites fit rest.
          let r = next sites fit in
          let bytes : mid ++ (put.front.0 ++ rest) ≡ new ++ rest =
          sym (append_assoc mid put.front.0 rest) ∙ ap (λ (xs : List ℕ). xs ++ rest) (sym put.front.1) in
          let before = subst
          (λ (xs : List ℕ). BeginNodes c.args.format (take n sites) xs (length old) (length mid)
          (parts_of (take n lists) (take n (lineages stores))))
          bytes (inv.nodes sites fit (put.front.0 ++ rest)) in
          let both = nodes-append c.args.format (take n sites) (r.site ∷ []) (new ++ rest) (length old) (length mid)
          (length new)
          (parts_of (take n lists) (take n (lineages stores))) (part_of list kept ∷ []) before
          (put.node r.site r.fits rest) in
          rw one
          (subst (λ (xs : List Site). BeginNodes c.args.format xs (new ++ rest) (length old) (length new)
          (parts_of (take (suc n) lists) (take (suc n) (lineages stores)))) (sym r.taken)
          (subst (BeginNodes c.args.format (take n sites ++ r.site ∷ []) (new ++ rest) (length old) (length new))
          (sym r.parts)
          both));
    }

pub returns-clause-short : goal.returns-clause-short
returns-clause-short c =
    let lists = c.args.lists.now in
    let stores = c.args.stores.now in
    let n = c.loop-node.node in
    let lengths = fit-length c.requires.fit.0 lists (lineages stores) c.requires.fit.1 in
    let kept : length (lineages stores) ≡ length stores = length-map stores (option_map (λ a. arc_value a)) in
    subst (λ ls. All (λ x. length x.list < 256) (parts_of ls (lineages stores)))
    (take_all n lists (omega (arith, c.loop-node-test.false, lengths.0, kept)))
    (subst (λ ks. All (λ x. length x.list < 256) (parts_of (take n lists) ks))
    (take_all n (lineages stores) (omega (arith, c.loop-node-test.false, kept))) c.loop-node.invariant.short)

pub returns-clause-nodes : goal.returns-clause-nodes
returns-clause-nodes c sites fit =
    let lists = c.args.lists.now in
    let stores = c.args.stores.now in
    let n = c.loop-node.node in
    let old = c.args.to.now.items in
    let new = c.loop-node.to.items in
    let lengths = fit-length sites lists (lineages stores) fit in
    let kept : length (lineages stores) ≡ length stores = length-map stores (option_map (λ a. arc_value a)) in
    let more = length stores in
    let end : more ≤ n = c.loop-node-test.false in
    subst (λ ls. BeginNodes c.args.format sites new (length old) (length new) (parts_of ls (lineages stores)))
    (take_all n lists (omega (arith, end, lengths.0, kept)))
    (subst (λ ks. BeginNodes c.args.format sites new (length old) (length new) (parts_of (take n lists) ks))
    (take_all n (lineages stores) (omega (arith, end, kept)))
    (subst (λ ss. BeginNodes c.args.format ss new (length old) (length new) (parts_of (take n lists) (take n
    (lineages stores))))
    (take_all n sites (omega (arith, end, lengths.1, kept)))
    (subst (λ xs. BeginNodes c.args.format (take n sites) xs (length old) (length new)
    (parts_of (take n lists) (take n (lineages stores)))) (append-nil new) (c.loop-node.invariant.nodes sites fit []))))
