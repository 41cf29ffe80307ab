-- Cell by cell.
use Rattle.std.proofs.Common.{◌≡◌, ◌<◌, true, true≢false, refl, sym, ap, ◌∙◌, arith, below_more}
use Rattle.sz_cells.specs.Extent.{size_of}
use Rattle.sz_spec.specs.Sides.{near_side}
use Rattle.sz_store.specs.Kept.{holding_for}
use Rattle.sz_recover.proofs.Comparing.{agree-all, agree-at}
use Rattle.sz_recover.proofs.checking.are_one_on.Goals as goal

pub returns-then-not-branch : goal.returns-then-not-branch
returns-then-not-branch c =
    let a = holding_for c.args.s c.args.a.now.stores in
    let b = holding_for c.args.s c.args.b.now.stores in
    let at = c.in_ok-agree_at.ensures.agree in (
      λ no. absurd (true≢false (sym no)),
      λ same.
          let yes = at.1 (agree-at c.side_of-dir.result c.args.at.now a b c.args.input c.loop-index.index same) in
          grind (arith, yes, c.if-not-branch.true),
    )

pub loop-index-preserved : goal.loop-index-preserved
loop-index-preserved c =
    let yes : c.in_ok-agree_at.field-0 ≡ true = grind (arith, c.if-not-branch.false) in
    record {
      sides = c.agree_at.ensures.sides;
      each = below_more _ _ c.loop-index.invariant.each (c.in_ok-agree_at.ensures.agree.0 yes);
    }

pub returns : goal.returns
returns c =
    let a = holding_for c.args.s c.args.a.now.stores in
    let b = holding_for c.args.s c.args.b.now.stores in
    let near = near_side c.side_of-dir.result c.args.at.now c.args.input in
    let size = c.size-index-end.ensures.value ∙ ap size_of c.near_shape-near.ensures in (
      λ yes.
          agree-all c.side_of-dir.result c.args.at.now a b c.args.input
          (λ k below.
          let inside : k < c.loop-index.index = omega (arith, below, size, c.loop-index-test.false) in
          c.loop-index.invariant.each k inside),
      λ same. refl,
    )
