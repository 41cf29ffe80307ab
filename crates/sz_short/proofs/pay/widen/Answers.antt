-- What is written is a store exactly where a short one was read.
use Rattle.std.proofs.Common.{◌≡◌, ℕ, List, length, subst, arith, rules}
use Rattle.sz_region.specs.PayBytes.{BeginsEntries}
use Rattle.sz_region.specs.Stores.{OnBad, NoEntriesBegin}
use Rattle.sz_short.specs.ShortSets.{short_set_bytes}
use Rattle.sz_short.proofs.Respelling.{passed, short-known}
use Rattle.sz_short.proofs.RespellingPay.{kept-behind, no-pay-sets, no-pay-rows, no-pay-judged, short-pay-judged}
use Rattle.sz_short.proofs.pay.widen.Goals as goal

pub returns-in_err-far-clause-err : goal.returns-in_err-far-clause-err
returns-in_err-far-clause-err c =
    let ps = c.in_ok-place.ensures.ok in
    passed c.from_residual-in_err-far.result c.in_err-far.field-0.0 c.from_residual-in_err-far.ensures.1
    (no-pay-sets short_set_bytes c.args.out c.args.bytes.now c.args.at c.in_ok-place.place ps.0 ps.1 ps.2)
    c.in_err-far.ensures.err

pub returns-in_err-far-clause-kept : goal.returns-in_err-far-clause-kept
returns-in_err-far-clause-kept c =
    let kept = kept-behind c.args.to.now.items _ _ _ c.in_ok-place.ensures.ok.3 c.in_err-far.ensures.kept in
    search rules

pub returns-in_err-next-clause-err : goal.returns-in_err-next-clause-err
returns-in_err-next-clause-err c =
    let ps = c.in_ok-place.ensures.ok in
    let ss = c.in_ok-far.ensures.ok in
    passed c.from_residual-in_err-next.result c.in_err-next.field-0.0 c.from_residual-in_err-next.ensures.1
    (no-pay-rows short_set_bytes short-known c.args.out c.args.bytes.now c.args.at c.in_ok-place.place c.in_ok-far.far
    ps.0 ss.0 c.requires ps.1 ps.2 ss.1 ss.2) c.in_err-next.ensures.err

pub returns-in_err-find_store-clause-err : goal.returns-in_err-find_store-clause-err
returns-in_err-find_store-clause-err c =
    let ps = c.in_ok-place.ensures.ok in
    let ss = c.in_ok-far.ensures.ok in
    let more = c.in_ok-next.ensures.ok in
    let fault = c.in_err-find_store.field-0.0 in
    let begin : c.len-begin.result ≡ length c.args.to.now.items = first_of (omega arith, search rules) in
    passed c.from_residual-in_err-find_store.result fault c.from_residual-in_err-find_store.ensures.1
    (no-pay-judged c.args.out c.args.bytes.now c.args.at c.in_ok-place.place c.in_ok-far.far c.in_ok-next.next ps.0 ss.0
    more.0 c.args.to.now.items c.copy_payloads.new.to.items c.respell_sets.new.to.items c.copy_rows.new.to.items
    c.requires ps.1 ps.2 ss.1 ss.2 more.1 more.2 ps.3 ss.3 more.3)
    (subst (λ (xs : List ℕ). OnBad fault (NoEntriesBegin c.args.out xs (length c.args.to.now.items)))
    c.deref.ensures.value
    (subst (λ (k : ℕ). OnBad fault (NoEntriesBegin c.args.out c.deref.result.now k)) begin
    c.in_err-find_store.ensures.err))

pub returns-clause-ok : goal.returns-clause-ok
returns-clause-ok c =
    let old = c.args.to.now.items in
    let ps = c.in_ok-place.ensures.ok in
    let ss = c.in_ok-far.ensures.ok in
    let begins = c.in_ok-find_store.ensures.ok in
    let begin : c.len-begin.result ≡ length old = first_of (omega arith, search rules) in
    short-pay-judged c.args.out c.args.bytes.now c.args.at c.in_ok-place.place c.in_ok-far.far c.in_ok-next.next
    begins.0 ps.0 ss.0 c.in_ok-next.ensures.ok.0 begins.1 old c.copy_payloads.new.to.items c.respell_sets.new.to.items
    c.copy_rows.new.to.items c.requires ps.1 ps.2 ss.1 ss.2 c.in_ok-next.ensures.ok.1 c.in_ok-next.ensures.ok.2 ps.3
    ss.3 c.in_ok-next.ensures.ok.3
    (subst (λ (xs : List ℕ). BeginsEntries c.args.out xs (length old) begins.0 begins.1) c.deref.ensures.value
    (subst (λ (k : ℕ). BeginsEntries c.args.out c.deref.result.now k begins.0 begins.1) begin begins.2))
