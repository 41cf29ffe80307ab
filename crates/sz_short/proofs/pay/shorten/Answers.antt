-- A store begins, so the parts that are read are its parts.
use Rattle.std.proofs.Common.{◌≡◌, ℕ, List, ◌++◌, rules}
use Rattle.std.proofs.lemmas.Result.{IfOk-weaker, IfErr-weaker}
use Rattle.sz_cells.specs.SetBytes.{set_bytes}
use Rattle.sz_region.specs.Counted.{IsAt, rows_bytes}
use Rattle.sz_region.specs.Stores.{OnBad, NoneAt, NoEntriesBegin}
use Rattle.sz_region.proofs.Spans.{on_bad-weaker}
use Rattle.sz_short.specs.ShortSets.{short_set_bytes}
use Rattle.sz_short.specs.ShortStores.{AreRowsOf, IsBlock, RespellsPay}
use Rattle.sz_short.proofs.Respelling.{passed, long-known}
use Rattle.sz_short.proofs.RespellingPay.{kept-behind, no-long-pay, no-pay-sets, no-pay-rows, long-pay-judged}
use Rattle.sz_short.proofs.pay.shorten.Goals as goal

pub returns-in_err-far-clause-err : goal.returns-in_err-far-clause-err
returns-in_err-far-clause-err c =
    let ps = c.in_ok-place.ensures.ok in
    passed c.from_residual-in_err-far.result c.in_err-far.field-0.0 c.from_residual-in_err-far.ensures.1
    (λ missing. no-long-pay c.args.out c.args.bytes.now c.args.at
    (no-pay-sets set_bytes c.args.out c.args.bytes.now c.args.at c.in_ok-place.place ps.0 ps.1 ps.2 missing))
    c.in_err-far.ensures.err

pub returns-in_err-far-clause-kept : goal.returns-in_err-far-clause-kept
returns-in_err-far-clause-kept c =
    let kept = kept-behind c.args.to.now.items _ _ _ c.in_ok-place.ensures.ok.3 c.in_err-far.ensures.kept in
    search rules

pub returns-clause-ok : goal.returns-clause-ok
returns-clause-ok c =
    let bytes = c.args.bytes.now in
    let old = c.args.to.now.items in
    let one = c.copy_payloads.new.to.items in
    let two = c.respell_sets.new.to.items in
    let new = c.copy_rows.new.to.items in
    let begins = c.in_ok-find_store.ensures.ok in
    let ps = c.in_ok-place.ensures.ok in
    let ss = c.in_ok-far.ensures.ok in
    IfOk-weaker c.copy_rows.result
    (λ n. (block : List ℕ) × IsBlock 2 block × IsAt bytes c.in_ok-far.far n block × (new ≡ two ++ block))
    (λ n. RespellsPay set_bytes short_set_bytes c.args.out bytes c.args.at n old new)
    (λ n more. long-pay-judged c.args.out bytes c.args.at c.in_ok-place.place c.in_ok-far.far n begins.0 ps.0 ss.0
    more.0
    begins.1 old one two new c.requires ps.1 ps.2 ss.1 ss.2 more.1 more.2 ps.3 ss.3 more.3 begins.2)
    c.copy_rows.ensures.ok

pub returns-clause-err : goal.returns-clause-err
returns-clause-err c =
    let bytes = c.args.bytes.now in
    let ps = c.in_ok-place.ensures.ok in
    let ss = c.in_ok-far.ensures.ok in
    IfErr-weaker c.copy_rows.result
    (λ e. OnBad e (NoneAt (AreRowsOf 2) rows_bytes bytes c.in_ok-far.far))
    (λ e. OnBad e (NoEntriesBegin c.args.out bytes c.args.at))
    (λ e says. on_bad-weaker e (λ none. no-long-pay c.args.out bytes c.args.at
    (no-pay-rows set_bytes long-known c.args.out bytes c.args.at c.in_ok-place.place c.in_ok-far.far ps.0 ss.0
    c.requires
    ps.1 ps.2 ss.1 ss.2 none)) says)
    c.copy_rows.ensures.err
