-- In format 2 the stores are put short, and in any other format as `sz_store` has them.
use Rattle.std.proofs.Common.{ℕ, List, ◌++◌, length, sym, subst}
use Rattle.std.specs.Prelude.{OnOk}
use Rattle.std.proofs.lemmas.Result.{on_ok_weaker}
use Rattle.sz_store.specs.Kept.{stored_in}
use Rattle.sz_formats.specs.Words.{BeginEachIn}
use Rattle.sz_formats.proofs.Through.{long-each}
use Rattle.sz_formats.proofs.stores.put_stores.Goals as goal

pub returns-then-format-eq2-clause-read : goal.returns-then-format-eq2-clause-read
returns-then-format-eq2-clause-read c =
    let s = c.args.store.now in
    let old = c.args.to.now.items in
    let new = c.put_short.new.to.items in
    subst (λ (f : ℕ). OnOk c.put_short.result ((rest : List ℕ)
    → BeginEachIn f s.site (stored_in s.list) (new ++ rest) (length old) (length new) s.stores))
    (sym c.if-format-eq2.true) c.put_short.ensures.read

pub returns-else-format-eq2-clause-read : goal.returns-else-format-eq2-clause-read
returns-else-format-eq2-clause-read c =
    let s = c.args.store.now in
    let old = c.args.to.now.items in
    let new = c.put_bytes.new.to.items in
    on_ok_weaker c.put_bytes.result
    (λ begin rest. long-each c.args.format c.if-format-eq2.false s.site (stored_in s.list) (new ++ rest) (length old)
    (length new) s.stores (begin rest)) c.put_bytes.ensures.read

pub returns-else-format-eq2-clause-front : goal.returns-else-format-eq2-clause-front
returns-else-format-eq2-clause-front c = on_ok_weaker c.put_bytes.result (λ put. (put.0, put.2)) c.put_bytes.ensures.ok
