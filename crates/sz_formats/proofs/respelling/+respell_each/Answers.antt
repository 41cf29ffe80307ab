-- The store of the first strategy, and behind it those of the others.
use Rattle.std.proofs.Common.{◌≡◌, ◌++◌, [], ℕ, List, length}
use Rattle.std.proofs.lemmas.Result.{IfOk-weaker, IfErr-weaker, err_from_is_err_and}
use Rattle.sz_region.specs.Stores.{OnBad}
use Rattle.sz_region.proofs.Spans.{on_bad-weaker}
use Rattle.sz_store.specs.Kept.{stored_in}
use Rattle.sz_formats.specs.Words.{NoneBeginIn}
use Rattle.sz_formats.specs.Twice.{AreTwice, from_format, span}
use Rattle.sz_formats.proofs.Through.{first_of, others_of, first-rest, each-more, none-at-once, none-after}
use Rattle.sz_formats.proofs.respelling.+respell_each.Goals as goal

pub returns-in_err-place-clause-err : goal.returns-in_err-place-clause-err
returns-in_err-place-clause-err t c =
    let list = c.args.list.now in
    let e = c.in_err-place.field-0.0 in
    let none : OnBad e (NoneBeginIn c.args.format c.args.op.now (stored_in list) c.args.bytes.now c.args.at) =
    on_bad-weaker e
    (none-at-once c.args.format c.args.op.now (first_of list) (others_of list) list c.args.bytes.now c.args.at
    (first-rest list c.in-len1-up.len_at_least)) c.in_err-place.ensures.err in
    let p = err_from_is_err_and c.from_residual.result c.from_residual.ensures.1 in
    rw (p.1, p.2) none

pub returns-clause-ok : goal.returns-clause-ok
returns-clause-ok t c =
    let list = c.args.list.now in
    let s = c.args.op.now in
    let w = from_format c.args.format in
    let bytes = c.args.bytes.now in
    let old = c.args.to.now.items in
    let mid = c.respell_next.new.to.items in
    let new = c.respell_each.new.to.items in
    let front : (more : List ℕ) × (new ≡ mid ++ more) = c.respell_each.ensures.front in
    IfOk-weaker c.respell_each.result
    (λ n. (rest : List ℕ) → AreTwice w s (stored_in (others_of list)) (span bytes c.in_ok-place.place n)
    (span (new ++ rest) (length mid) (length new)))
    (λ n. (rest : List ℕ) → AreTwice w s (stored_in list) (span bytes c.args.at n)
    (span (new ++ rest) (length old) (length new)))
    (λ n are rest. each-more c.args.format s (first_of list) (others_of list) list bytes c.args.at c.in_ok-place.place n
    old mid new front.0 rest (first-rest list c.in-len1-up.len_at_least) front.1 c.in_ok-place.ensures.ok (are rest))
    c.respell_each.ensures.ok

pub returns-clause-err : goal.returns-clause-err
returns-clause-err t c =
    let list = c.args.list.now in
    let s = c.args.op.now in
    let f = c.args.format in
    let bytes = c.args.bytes.now in
    let old = c.args.to.now.items in
    let mid = c.respell_next.new.to.items in
    IfErr-weaker c.respell_each.result
    (λ e. OnBad e (NoneBeginIn f s (stored_in (others_of list)) bytes c.in_ok-place.place))
    (λ e. OnBad e (NoneBeginIn f s (stored_in list) bytes c.args.at))
    (λ e says. on_bad-weaker e (none-after f s (first_of list) (others_of list) list bytes c.args.at
    c.in_ok-place.place (span (mid ++ []) (length old) (length mid)) (first-rest list c.in-len1-up.len_at_least)
    c.requires (c.in_ok-place.ensures.ok [])) says) c.respell_each.ensures.err
