-- One word more stands behind the others.
use Rattle.std.proofs.Common.{◌≡◌, ℕ, List, ◌++◌, map, get_or, length, ◌<◌, sym, ap, subst, ◌∙◌, append_assoc}
use Rattle.std.proofs.Common.{arith}
use Rattle.std.proofs.lemmas.List.{get_or-map, length-map, take_all}
use Rattle.sz_spec.specs.Shapes.{Site}
use Rattle.sz_store.specs.Stocks.{keep_of, site_of}
use Rattle.sz_store.specs.Kept.{Keep}
use Rattle.sz_store.specs.Words.{IsWordOf, AreWordsOf}
use Rattle.sz_store.proofs.Placing.{all-of_map}
use Rattle.sz_store.proofs.Listed.{words-more}
use Rattle.sz_store.proofs.stores.put_all.Goals as goal

pub loop-store-preserved : goal.loop-store-preserved
loop-store-preserved c =
    let stores = c.args.stores.now in
    let i = c.loop-store.store-index in
    let x = c.store-item.result in
    let put = c.in_ok-put_bytes.ensures.ok in
    let inv = c.loop-store.invariant in
    let old = c.args.to.now.items in
    let more : (front : List ℕ) → c.loop-store.to.items ≡ old ++ front
    → c.put_bytes.new.to.items ≡ old ++ (front ++ put.0) =
    λ front is. put.2 ∙ ap (λ (bs : List ℕ). bs ++ put.0) is ∙ append_assoc old front put.0 in
    record {
      front = (inv.front.0 ++ put.0, more inv.front.0 inv.front.1);
      words =
          λ s same.
          let before = inv.words s same in
          let site : site_of (get_or stores i x) ≡ s =
          all-of_map (λ (y : Site). y ≡ s) site_of stores same i x c.loop-store-test.true in
          let own : site_of x ≡ s = ap site_of c.store-item.is ∙ site in
          let f = keep_of x in
          let here : get_or (map keep_of stores) i f ≡ f =
          get_or-map keep_of stores i x f c.loop-store-test.true ∙ ap keep_of (sym c.store-item.is) in
          let within : i < length (map keep_of stores) = omega (
            arith,
            length-map stores keep_of,
            c.loop-store-test.true,
          ) in
          let word : IsWordOf s f.holding put.0 = subst (λ (y : Site). IsWordOf y f.holding put.0) own put.1 in (
            before.0 ++ put.0,
            words-more s (map keep_of stores) i f before.0 put.0 within here before.1 word,
            more before.0 before.2,
          );
    }

pub returns-clause-ok : goal.returns-clause-ok
returns-clause-ok c s same =
    let all = c.loop-store.invariant.words s same in
    let fs = map keep_of c.args.stores.now in
    let end = take_all c.loop-store.store-index fs (omega (arith, length-map c.args.stores.now keep_of)) in
    (all.0, subst (λ (xs : List Keep). AreWordsOf s xs all.0) end all.1, all.2)
