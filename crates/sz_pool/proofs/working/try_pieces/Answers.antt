-- One try more, of the piece at which the loop is.
use Rattle.std.proofs.Common.{◌<◌, ◌+◌, Bool, ap, ◌∙◌, sym, subst, arith}
use Rattle.std.specs.Arc.{arc_value}
use Rattle.sz_cells.specs.Extent.{Extent}
use Rattle.sz_spec.specs.Shapes.{Site}
use Rattle.sz_spec.specs.Pieces.{pieces_of}
use Rattle.sz_pool.specs.Tries.{HasTried, HasTriedAll}
use Rattle.sz_pool.proofs.Following.{tried-none, tried-next}
use Rattle.sz_pool.proofs.Same.{same-task, same-then}
use Rattle.sz_pool.proofs.working.try_pieces.Goals as goal

pub loop-k-init : goal.loop-k-init
loop-k-init g c =
    let task = c.args.task.now in record {
      same = same-task task;
      tried = tried-none (arc_value task.at).out task.claim_pass task.pass c.args.tally.now;
    }

pub loop-k-preserved : goal.loop-k-preserved
loop-k-preserved g c =
    let first = c.args.task.now in
    let before = c.loop-k.task in
    let after = c.try_piece-tried.new.task in
    let out = (arc_value first.at).out in
    let kept = c.loop-k.invariant in
    let tried = c.try_piece-tried.result in
    let n = c.pieces_of-k-end.ensures ∙ ap pieces_of (c.out.ensures.value ∙ ap (λ (s : Site). s.out) c.deref.ensures) in
    let inside : c.loop-k.k < pieces_of out = omega (arith, n, c.loop-k-test.true) in
    let step =
    subst (λ (s : Site). HasTried s.out c.loop-k.k tried before.claim_pass after.claim_pass before.pass
    after.pass c.loop-k.tally c.try_piece-tried.new.tally) kept.same.at c.try_piece-tried.ensures.tried in
    let next =
    tried-next out c.loop-k.k c.loop-k.refused tried first.claim_pass before.claim_pass after.claim_pass first.pass
    before.pass after.pass c.args.tally.now c.loop-k.tally c.try_piece-tried.new.tally inside kept.tried step in
    record {
      same = same-then first before after kept.same c.try_piece-tried.ensures.same;
      tried =
          subst (λ (b : Bool). HasTriedAll out (c.loop-k.k + 1) b first.claim_pass after.claim_pass first.pass
          after.pass c.args.tally.now c.try_piece-tried.new.tally) (sym c.refused_after-refused.ensures) next;
    }
