-- Piece by piece, up to the last one.
use Rattle.std.proofs.Common.{◌≡◌, ◌<◌, ◌≤◌, ap, ◌∙◌, arith}
use Rattle.sz_spec.specs.Pieces.{pieces_of}
use Rattle.sz_spec.specs.Shapes.{Site}
use Rattle.sz_flow.specs.Executions.{execution_of}
use Rattle.sz_recover.proofs.Made.{made-more, made-exact}
use Rattle.sz_recover.proofs.checking.store_made.Goals as goal

pub loop-k-preserved : goal.loop-k-preserved
loop-k-preserved c =
    let e = execution_of c.args.run.now in
    let got = c.in_ok-add_piece.ensures in
    let end : c.pieces_of-k-end.result ≡ pieces_of e.site.out =
    c.pieces_of-k-end.ensures ∙ ap pieces_of (c.out.ensures.value ∙ ap (λ (s : Site). s.out) c.deref.ensures) in
    let inside : c.loop-k.k < pieces_of e.site.out = omega (arith, end, c.loop-k-test.true) in
    made-more e.site e.inputs c.args.s c.loop-k.k c.loop-k.made c.add_piece.new.made got.0 inside
    c.loop-k.invariant got.1 got.2 got.3

pub returns-clause-exact : goal.returns-clause-exact
returns-clause-exact c =
    let e = execution_of c.args.run.now in
    let end : c.pieces_of-k-end.result ≡ pieces_of e.site.out =
    c.pieces_of-k-end.ensures ∙ ap pieces_of (c.out.ensures.value ∙ ap (λ (s : Site). s.out) c.deref.ensures) in
    let enough : pieces_of e.site.out ≤ c.loop-k.k = omega (arith, end, c.loop-k-test.false) in
    made-exact c.placed_pieces_make_the_relation.ensures e c.args.s c.loop-k.k c.loop-k.made c.requires.stored enough
    c.loop-k.invariant
