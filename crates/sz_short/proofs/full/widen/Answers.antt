-- What is written is a store exactly where a short one was read.
use Rattle.std.proofs.Common.{◌≡◌, ℕ, List, length, subst, arith, rules}
use Rattle.sz_region.specs.FullBytes.{BeginsRegions}
use Rattle.sz_region.specs.Stores.{OnBad, NoRegionsBegin}
use Rattle.sz_short.specs.ShortSets.{short_set_bytes}
use Rattle.sz_short.proofs.Respelling.{passed, short-known, no-full-table, no-full-rows, no-short-judged, short-judged}
use Rattle.sz_short.proofs.full.widen.Goals as goal

pub returns-in_err-place-clause-err : goal.returns-in_err-place-clause-err
returns-in_err-place-clause-err c =
    let ins = c.args.ins.now in
    passed c.from_residual.result c.in_err-place.field-0.0 c.from_residual.ensures.1
    (no-full-table short_set_bytes c.args.out ins c.args.bytes.now c.args.at) c.in_err-place.ensures.err

pub returns-in_err-next-clause-err : goal.returns-in_err-next-clause-err
returns-in_err-next-clause-err c =
    let ins = c.args.ins.now in
    let has = c.in_ok-place.ensures.ok in
    passed c.from_residual-in_err-next.result c.in_err-next.field-0.0 c.from_residual-in_err-next.ensures.1
    (no-full-rows short_set_bytes short-known c.args.out ins c.args.bytes.now c.args.at c.in_ok-place.place has.0
    c.requires has.1 has.2) c.in_err-next.ensures.err

pub returns-in_err-find_store-clause-err : goal.returns-in_err-find_store-clause-err
returns-in_err-find_store-clause-err c =
    let ins = c.args.ins.now in
    let has = c.in_ok-place.ensures.ok in
    let more = c.in_ok-next.ensures.ok in
    let fault = c.in_err-find_store.field-0.0 in
    let begin : c.len-begin.result ≡ length c.args.to.now.items = first_of (omega arith, search rules) in
    let judged : OnBad fault (NoRegionsBegin c.args.out ins c.copy_rows.new.to.items (length c.args.to.now.items)) =
    subst (λ (xs : List ℕ). OnBad fault (NoRegionsBegin c.args.out ins xs (length c.args.to.now.items)))
    c.deref.ensures.value
    (subst (λ (k : ℕ). OnBad fault (NoRegionsBegin c.args.out ins c.deref.result.now k)) begin
    c.in_err-find_store.ensures.err) in
    passed c.from_residual-in_err-find_store.result fault c.from_residual-in_err-find_store.ensures.1
    (no-short-judged c.args.out ins c.args.bytes.now c.args.at c.in_ok-place.place c.in_ok-next.next has.0 more.0
    c.args.to.now.items c.respell_table.new.to.items c.copy_rows.new.to.items c.requires has.1 has.2 more.1 more.2
    has.3 more.3) judged

pub returns-clause-ok : goal.returns-clause-ok
returns-clause-ok c =
    let old = c.args.to.now.items in
    let has = c.in_ok-place.ensures.ok in
    let begins = c.in_ok-find_store.ensures.ok in
    let begin : c.len-begin.result ≡ length old = first_of (omega arith, search rules) in
    short-judged c.args.out c.args.ins.now c.args.bytes.now c.args.at c.in_ok-place.place c.in_ok-next.next begins.0
    has.0 c.in_ok-next.ensures.ok.0 begins.1 old c.respell_table.new.to.items c.copy_rows.new.to.items c.requires has.1
    has.2 c.in_ok-next.ensures.ok.1 c.in_ok-next.ensures.ok.2 has.3 c.in_ok-next.ensures.ok.3
    (subst (λ (xs : List ℕ). BeginsRegions c.args.out c.args.ins.now xs (length old) begins.0 begins.1)
    c.deref.ensures.value
    (subst (λ (k : ℕ). BeginsRegions c.args.out c.args.ins.now c.deref.result.now k begins.0 begins.1) begin begins.2))
