-- While a piece is missing, it is placed next; and the reply after it names a later one.
use Rattle.std.proofs.Common.{ℕ, ◌-◌, ◌<◌, sym, subst, arith}
use Rattle.sz_spec.specs.Pieces.{pieces_of}
use Rattle.sz_shelf.specs.declared.answers.SealReply.{SealReply}
use Rattle.sz_shelf.specs.declared.answers.SealReply.TheVariants.{Missing}
use Rattle.sz_pool.proofs.Filling.{IsFilling, IsFurther, frontier, next-of, filling-room, filling-turn, left-most}
use Rattle.sz_pool.proofs.finishing.fill.Given.{Over}
use Rattle.sz_pool.proofs.finishing.fill.Goals.{In-Missing, After-seal-reply-in-Missing}
use Rattle.sz_pool.proofs.finishing.fill.Goals as goal

-- the shelf is being filled, and the last reply was that this piece is missing
filling : (g : Over) (c : In-Missing g)
    → IsFilling c.args.maker.now.at.now.out c.args.pass.now c.loop-reply.pass (Missing c.in-Missing.k) c.args.tally.now
    c.loop-reply.tally
filling g c = subst (λ (r : SealReply). IsFilling c.args.maker.now.at.now.out c.args.pass.now c.loop-reply.pass r
    c.args.tally.now c.loop-reply.tally) c.in-Missing.is c.loop-reply.invariant

-- so it is after the next reply, which names a later one
further : (g : Over) (c : After-seal-reply-in-Missing g)
    → IsFilling c.args.maker.now.at.now.out c.args.pass.now c.loop-reply.pass (Missing c.in-Missing.k) c.args.tally.now
    c.loop-reply.tally
    → IsFurther c.args.maker.now.at.now.out c.args.pass.now c.seal-reply-in-Missing.new.pass c.in-Missing.k
    c.seal-reply-in-Missing.result c.args.tally.now c.place.new.tally
further g c f =
    let told = c.seal-reply-in-Missing.ensures in
    filling-turn c.args.maker.now.at.now.out c.args.pass.now c.loop-reply.pass c.place.new.pass
    c.seal-reply-in-Missing.new.pass c.in-Missing.k c.seal-reply-in-Missing.result c.args.tally.now c.loop-reply.tally
    c.place.new.tally f c.in_ok-place.ensures told.turn told.kept told.answer told.seen
    told.sealed

pub place-requires-clause-piece : goal.place-requires-clause-piece
place-requires-clause-piece g c =
    (next-of _ _ _ _ _ _ (filling g (goal.at.place-requires-clause-piece g c).In-Missing)).inside

pub place-requires-clause-room : goal.place-requires-clause-room
place-requires-clause-room g c =
    filling-room _ _ _ _ _ _ (filling g (goal.at.place-requires-clause-room g c).In-Missing) c.requires.room

pub returns-in_err-place-clause-most : goal.returns-in_err-place-clause-most
returns-in_err-place-clause-most g c =
    left-most _ _ _ _ _ _ _ (filling g (goal.at.returns-in_err-place-clause-most g c).In-Missing)
    c.in_err-place.ensures.most

pub loop-reply-smaller : goal.loop-reply-smaller
loop-reply-smaller g c =
    let n = pieces_of c.args.maker.now.at.now.out in
    let k = c.in-Missing.k in
    let reply = c.seal-reply-in-Missing.result in
    let at = goal.at.loop-reply-smaller g c in
    let next = further g at.After-seal-reply-in-Missing (filling g at.In-Missing) in
    let less : n - frontier n reply < n - k = omega (arith, next.further, next.within) in
    subst (λ (r : SealReply). n - frontier n reply < n - frontier n r) (sym c.in-Missing.is) less

pub loop-reply-preserved : goal.loop-reply-preserved
loop-reply-preserved g c =
    let at = goal.at.loop-reply-preserved g c in
    (further g at.After-seal-reply-in-Missing (filling g at.In-Missing)).filling
