-- A store begins, so the parts that are read are its parts.
use Rattle.std.proofs.Common.{◌≡◌, ℕ, ◌+◌, List, ◌++◌, length}
use Rattle.std.proofs.lemmas.Result.{IfOk-weaker, IfErr-weaker}
use Rattle.sz_cells.specs.SetBytes.{set_bytes}
use Rattle.sz_region.specs.Counted.{IsAt, rows_bytes}
use Rattle.sz_region.specs.Stores.{OnBad, NoneAt, NoRegionsBegin}
use Rattle.sz_region.proofs.Spans.{on_bad-weaker}
use Rattle.sz_short.specs.ShortSets.{short_set_bytes}
use Rattle.sz_short.specs.ShortStores.{AreRowsOf, IsBlock, RespellsFull}
use Rattle.sz_short.proofs.Respelling.{passed, long-known, no-long, no-full-table, no-full-rows, long-judged}
use Rattle.sz_short.proofs.full.shorten.Goals as goal

pub returns-in_err-place-clause-err : goal.returns-in_err-place-clause-err
returns-in_err-place-clause-err c =
    let ins = c.args.ins.now in
    passed c.from_residual-in_err-place.result c.in_err-place.field-0.0 c.from_residual-in_err-place.ensures.1
    (λ missing. no-long c.args.out ins c.args.bytes.now c.args.at
    (no-full-table set_bytes c.args.out ins c.args.bytes.now c.args.at missing)) c.in_err-place.ensures.err

pub returns-clause-ok : goal.returns-clause-ok
returns-clause-ok c =
    let ins = c.args.ins.now in
    let bytes = c.args.bytes.now in
    let old = c.args.to.now.items in
    let mid = c.respell_table.new.to.items in
    let new = c.copy_rows.new.to.items in
    let place = c.in_ok-place.place in
    let begins = c.in_ok-find_store.ensures.ok in
    let has = c.in_ok-place.ensures.ok in
    IfOk-weaker c.copy_rows.result
    (λ n. (block : List ℕ) × IsBlock (length ins + 1) block × IsAt bytes place n block × (new ≡ mid ++ block))
    (λ n. RespellsFull set_bytes short_set_bytes c.args.out ins bytes c.args.at n old new)
    (λ n more. long-judged c.args.out ins bytes c.args.at place n begins.0 has.0 more.0 begins.1 old mid new c.requires
    has.1 has.2 more.1 more.2 has.3 more.3 begins.2)
    c.copy_rows.ensures.ok

pub returns-clause-err : goal.returns-clause-err
returns-clause-err c =
    let ins = c.args.ins.now in
    let bytes = c.args.bytes.now in
    let place = c.in_ok-place.place in
    let has = c.in_ok-place.ensures.ok in
    IfErr-weaker c.copy_rows.result
    (λ e. OnBad e (NoneAt (AreRowsOf (length ins + 1)) rows_bytes bytes place))
    (λ e. OnBad e (NoRegionsBegin c.args.out ins bytes c.args.at))
    (λ e says. on_bad-weaker e (λ none. no-long c.args.out ins bytes c.args.at
    (no-full-rows set_bytes long-known c.args.out ins bytes c.args.at place has.0 c.requires has.1 has.2 none)) says)
    c.copy_rows.ensures.err
