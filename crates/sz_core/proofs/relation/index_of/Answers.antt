-- Each piece's pairs are added behind those of the pieces before it.
use Rattle.std.proofs.Common.{◌≡◌, ◌||◌, [], List, map, take, get_or, sym}
use Rattle.std.proofs.Common.{ap₂, ◌∙◌, arith}
use Rattle.std.proofs.lemmas.List.{length-map, take_all}
use Rattle.std.proofs.lemmas.List.Folds.{flat_map-map}
use Rattle.std.specs.List.{list_any}
use Rattle.sz_core.specs.declared.pairs.Pair.{Pair}
use Rattle.sz_core.specs.Links.{pair_leads}
use Rattle.sz_core.proofs.Groups.{seen-at}
use Rattle.sz_core.proofs.Relations.{lists-next}
use Rattle.sz_core.proofs.relation.index_of.Goals as goal

pub add_pairs-requires : goal.add_pairs-requires
add_pairs-requires c =
    let pieces = c.args.pieces.now in
    let i = c.loop-piece.piece-index in
    let here : c.deref.result.now ≡ get_or (map (λ v. v.items) pieces) i [] =
    c.deref.ensures.value
    ∙ seen-at (λ v. v.items) pieces i c.piece-item.result c.loop-piece-test.true c.piece-item.is in
    rw (c.loop-piece.invariant.to, c.loop-piece.invariant.count, here)
    (c.requires i [] (rw (length-map pieces (λ v. v.items)) c.loop-piece-test.true))

pub loop-piece-preserved : goal.loop-piece-preserved
loop-piece-preserved c =
    let pieces = c.args.pieces.now in
    let inv = c.loop-piece.invariant in
    record {
      to = c.in_ok-add_pairs.ensures.to ∙ inv.to;
      count = c.in_ok-add_pairs.ensures.count ∙ inv.count;
      led = λ k t.
          let test = pair_leads c.args.dir c.args.input k t in
          c.in_ok-add_pairs.ensures.ok k t
          ∙ ap₂ (λ a (ps : List Pair). a || list_any test ps) (inv.led k t) c.deref.ensures.value
          ∙ sym (lists-next test (λ v. v.items) pieces c.loop-piece.piece-index c.piece-item.result
          c.loop-piece-test.true c.piece-item.is);
    }

pub returns : goal.returns
returns c =
    let pieces = c.args.pieces.now in
    let whole : take c.loop-piece.piece-index pieces ≡ pieces =
    take_all c.loop-piece.piece-index pieces (omega arith) in
    rw (flat_map-map (λ (ps : List Pair). ps) (λ v. v.items) pieces) (rw whole at c.loop-piece.invariant)
