-- The table, and behind it the names.
use Rattle.std.proofs.Common.{◌≡◌, ℕ, List, ◌≤◌, length, map, ap, sym, subst, ◌∙◌, arith}
use Rattle.std.specs.Arc.{arc_value}
use Rattle.std.specs.List.{AllZip}
use Rattle.std.proofs.lemmas.Result.{IfOk-weaker, IfErr-weaker}
use Rattle.sz_region.specs.Counted.{IsAt, counted, rows_bytes}
use Rattle.sz_region.specs.FullBytes.{Listed, IsListed, listed_bytes, AreNamesOf, BeginsRegions}
use Rattle.sz_region.specs.Stores.{OnBad, NoRegionsBegin, NoneAt, AreFew, AreStoreNames}
use Rattle.sz_region.proofs.Spans.{on_bad-weaker}
use Rattle.sz_region.proofs.FullStores.{regions-begin, no-regions-table, no-regions-names}
use Rattle.sz_region.proofs.take_full.take_full.Goals as goal

pub returns-clause-ok : goal.returns-clause-ok
returns-clause-ok c =
    let table : List Listed = c.deref.result.now in
    let is : table ≡ c.in_ok-table.table.items = c.deref.ensures.value in
    let listed : AreFew (IsListed c.args.out c.args.ins.now) table =
    subst (AreFew (IsListed c.args.out c.args.ins.now)) (sym is) c.in_ok-table.ensures.sets in
    let first : IsAt c.args.bytes.now c.args.at c.in_ok-table.place (counted listed_bytes table) =
    subst (λ (t : List Listed). IsAt c.args.bytes.now c.args.at c.in_ok-table.place (counted listed_bytes t)) (sym is)
    c.in_ok-table.ensures.bytes in
    IfOk-weaker c.take_pairs.result
    (λ r. (rows : List (List ℕ)) × AllZip (AreNamesOf table (length c.args.ins.now)) rows
    (map (λ x. arc_value x) r.0.items)
    × (length rows ≤ 1073741824) × IsAt c.args.bytes.now c.in_ok-table.place r.1 (rows_bytes rows))
    (λ r. BeginsRegions c.args.out c.args.ins.now c.args.bytes.now c.args.at r.1 (map (λ x. arc_value x) r.0.items))
    (λ r names. regions-begin c.args.out c.args.ins.now c.args.bytes.now c.args.at c.in_ok-table.place r.1 table names.0
    (map (λ x. arc_value x) r.0.items) listed first names.1 names.2 names.3)
    c.take_pairs.ensures.ok

pub returns-clause-err : goal.returns-clause-err
returns-clause-err c =
    let table : List Listed = c.deref.result.now in
    let is : table ≡ c.in_ok-table.table.items = c.deref.ensures.value in
    let listed : AreFew (IsListed c.args.out c.args.ins.now) table =
    subst (AreFew (IsListed c.args.out c.args.ins.now)) (sym is) c.in_ok-table.ensures.sets in
    let first : IsAt c.args.bytes.now c.args.at c.in_ok-table.place (counted listed_bytes table) =
    subst (λ (t : List Listed). IsAt c.args.bytes.now c.args.at c.in_ok-table.place (counted listed_bytes t)) (sym is)
    c.in_ok-table.ensures.bytes in
    IfErr-weaker c.take_pairs.result
    (λ e. OnBad e (NoneAt (AreStoreNames table (length c.args.ins.now)) rows_bytes c.args.bytes.now
    c.in_ok-table.place))
    (λ e. OnBad e (NoRegionsBegin c.args.out c.args.ins.now c.args.bytes.now c.args.at))
    (λ e says. on_bad-weaker e (no-regions-names c.args.out c.args.ins.now c.args.bytes.now c.args.at
    c.in_ok-table.place
    table c.requires listed first) says)
    c.take_pairs.ensures.err
