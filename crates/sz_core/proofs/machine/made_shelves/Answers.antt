-- The pairs at hand are those of the next node, and its shelf is the next one.
use Rattle.std.proofs.Common.{◌≡◌, ℕ, ◌<◌, ◌++◌, ◌∷◌, [], length, length-append}
use Rattle.std.proofs.Common.{get_or, map, sym, ap, ap₂, ◌∙◌, arith, List}
use Rattle.std.proofs.lemmas.Iterator.Adapters.{YieldsList-from_vec}
use Rattle.std.proofs.lemmas.Iterator.Consumers.{YieldsList-turn, YieldsList-end}
use Rattle.std.proofs.lemmas.List.{get_or_default}
use Rattle.std.proofs.lemmas.List.FromFn.{length-map-range_with_len, map-range_with_len_more}
use Rattle.std.specs.List.{range_with_len}
use Rattle.sz_core.specs.declared.pairs.Pair.{Pair}
use Rattle.sz_core.specs.Starts.{shelf_of, first_shelf}
use Rattle.sz_core.specs.States.{Shelf}
use Rattle.sz_core.proofs.Starting.{shelves-right}
use Rattle.sz_core.proofs.machine.made_shelves.Goals.{After-len-node}
use Rattle.sz_core.proofs.machine.made_shelves.Goals as goal

-- the next node is the one of as many shelves as there are, and the pairs at hand are those of its shelf
next-node : (f : ℕ → Shelf) (all yielded : List (List (List Pair))) (made : List Shelf) (n : ℕ)
    (pairs : List (List Pair)) → n ≡ length made → made ≡ map f (range_with_len 0 (length yielded))
    → length yielded < length all → pairs ≡ get_or all (length yielded) pairs
    → (n ≡ length yielded) × (pairs ≡ get_or all (length yielded) [])
next-node f all yielded made n pairs count so_far within at = (
  count ∙ ap length so_far ∙ length-map-range_with_len f 0 (length yielded),
  at ∙ get_or_default all (length yielded) pairs [] within,
)

turned : (c : After-len-node) → (length c.loop-pairs.yielded < length c.args.shelves.items)
    × (c.len-node.result ≡ length c.loop-pairs.yielded)
    × (c.in-Some.pairs ≡ get_or c.args.shelves.items (length c.loop-pairs.yielded) [])
turned c =
    let all = c.args.shelves.items in
    let gives = c.into_iter-pairs-iterator.ensures.into_iter_gives in
    let t = YieldsList-turn (YieldsList-from_vec {s = c.into_iter-pairs-iterator.result} all gives.0 (gives.1
    ∙ c.args.shelves.ok.0)) c.loop-pairs.yielded c.loop-pairs.pairs-iterator c.loop-pairs.yielded_by
    c.next.result c.next.new.self c.in-Some.pairs c.in-Some.is c.next.ensures.steps in
    let (n, here) = next-node (first_shelf c.args.flow.now c.args.base.now all) all c.loop-pairs.yielded
    c.loop-pairs.made.items c.len-node.result c.in-Some.pairs
    (omega (arith, c.len-node.ensures, c.loop-pairs.made.ok)) c.loop-pairs.invariant t.0 t.1 in
    (t.0, n, here)

pub made_shelf-requires : goal.made_shelf-requires
made_shelf-requires c =
    let right = shelves-right c.args.flow.now c.args.base.now c.args.shelves.items c.requires.shelves in
    let (within, n, here) = turned (goal.at.made_shelf-requires c).After-len-node in
    record {
      checked = c.requires.checked;
      fits = c.requires.fits;
      shapes = c.deref.ensures.value ∙ c.in_ok-outs.ensures;
      node = omega (arith, n, within, right.0);
      shelf = rw (n, here) (right.1 (length c.loop-pairs.yielded) within);
    }

pub loop-pairs-preserved : goal.loop-pairs-preserved
loop-pairs-preserved c =
    let flow = c.args.flow.now in
    let base = c.args.base.now in
    let f = first_shelf flow base c.args.shelves.items in
    let (within, n, here) = turned (goal.at.loop-pairs-preserved c).After-len-node in
    let made : c.in_ok-made_shelf.field-0 ≡ f (length c.loop-pairs.yielded) =
    c.in_ok-made_shelf.ensures ∙ ap₂ (λ (m : ℕ) (ps : List (List Pair)). shelf_of flow base m ps) n here in
    let behind : List Shelf → Shelf → List Shelf = λ xs x. xs ++ x ∷ [] in
    c.in_ok-push.ensures.items ∙ ap₂ behind c.loop-pairs.invariant made
    ∙ sym (ap (λ (m : ℕ). map f (range_with_len 0 m))
    (length-append c.loop-pairs.yielded (c.in-Some.pairs ∷ []))
    ∙ map-range_with_len_more f 0 (length c.loop-pairs.yielded) (length c.loop-pairs.yielded) (omega arith))

pub returns : goal.returns
returns c =
    let all = c.args.shelves.items in
    let gives = c.into_iter-pairs-iterator.ensures.into_iter_gives in
    let t = YieldsList-end (YieldsList-from_vec {s = c.into_iter-pairs-iterator.result} all gives.0 (gives.1
    ∙ c.args.shelves.ok.0)) c.loop-pairs.yielded c.loop-pairs.pairs-iterator c.loop-pairs.yielded_by
    c.next.result c.next.new.self c.in-None.is c.next.ensures.steps in
    c.loop-pairs.invariant ∙ ap (λ (m : ℕ).
    map (first_shelf c.args.flow.now c.args.base.now all) (range_with_len 0 m)) t.1
