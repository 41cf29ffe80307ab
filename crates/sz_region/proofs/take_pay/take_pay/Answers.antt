-- The payloads, behind them the sets, behind these the names, and no cell in two of the entries.
use Rattle.std.proofs.Common.{◌≡◌, ℕ, List, length, map, true, false, not, ap, sym, subst, ◌∙◌, arith, rules}
use Rattle.std.specs.Arc.{arc_value}
use Rattle.std.specs.List.{All}
use Rattle.std.proofs.lemmas.Result.{err_from_is_err_and}
use Rattle.sz_cells.specs.Cells.{Cells}
use Rattle.sz_cells.specs.SetBytes.{IsSetOf, set_bytes}
use Rattle.sz_frame.specs.Parts.{Entry}
use Rattle.sz_frame.specs.Fits.{AreApart}
use Rattle.sz_region.specs.Counted.{counted, IsAt}
use Rattle.sz_region.specs.PayBytes.{IsShort, payload_bytes, BeginsEntries}
use Rattle.sz_region.specs.Stores.{AreFew, SaysWhetherApart}
use Rattle.sz_region.proofs.Spans.{on_bad-weaker}
use Rattle.sz_region.proofs.PayStores.{no-entries-sets, no-entries-names, no-entries-apart, entries-begin}
use Rattle.sz_region.proofs.PayStores.{entries-shapes}
use Rattle.sz_region.proofs.take_pay.take_pay.Goals as goal

pub returns-in_err-sets-clause-err : goal.returns-in_err-sets-clause-err
returns-in_err-sets-clause-err c =
    let payloads = map (λ p. arc_value p) c.in_ok-payloads.payloads.items in
    let none = on_bad-weaker c.in_err-sets.field-0.0
    (no-entries-sets c.args.out c.args.bytes.now c.args.at c.in_ok-payloads.place payloads
    c.in_ok-payloads.ensures.payloads
    c.in_ok-payloads.ensures.bytes) c.in_err-sets.ensures.err in
    let p = err_from_is_err_and c.from_residual-in_err-sets.result c.from_residual-in_err-sets.ensures.1 in
    rw (p.1, p.2) none

pub returns-in_err-entries-clause-err : goal.returns-in_err-entries-clause-err
returns-in_err-entries-clause-err c =
    let payloads = map (λ p. arc_value p) c.deref.result.now in
    let sets = map (λ s. arc_value s) c.deref-2.result.now in
    let same : payloads ≡ map (λ p. arc_value p) c.in_ok-payloads.payloads.items =
    ap (map (λ p. arc_value p)) c.deref.ensures.value in
    let alike : sets ≡ map (λ s. arc_value s) c.in_ok-sets.sets.items = ap (map (λ s. arc_value s))
    c.deref-2.ensures.value in
    let none = on_bad-weaker c.in_err-entries.field-0.0
    (no-entries-names c.args.out c.args.bytes.now c.args.at c.in_ok-payloads.place c.in_ok-sets.place payloads sets
    c.requires (subst (AreFew IsShort) (sym same) c.in_ok-payloads.ensures.payloads)
    (subst (λ (ps : List (List ℕ)). IsAt c.args.bytes.now c.args.at c.in_ok-payloads.place (counted payload_bytes ps))
    (sym same) c.in_ok-payloads.ensures.bytes)
    (subst (AreFew (IsSetOf c.args.out)) (sym alike) c.in_ok-sets.ensures.sets)
    (subst (λ (ss : List Cells). IsAt c.args.bytes.now c.in_ok-payloads.place c.in_ok-sets.place (counted set_bytes ss))
    (sym alike) c.in_ok-sets.ensures.bytes))
    c.in_err-entries.ensures.err in
    let p = err_from_is_err_and c.from_residual-in_err-entries.result c.from_residual-in_err-entries.ensures.1 in
    rw (p.1, p.2) none

pub are_apart-requires : goal.are_apart-requires
are_apart-requires c =
    let payloads = map (λ p. arc_value p) c.deref.result.now in
    let sets = map (λ s. arc_value s) c.deref-2.result.now in
    let alike : sets ≡ map (λ s. arc_value s) c.in_ok-sets.sets.items = ap (map (λ s. arc_value s))
    c.deref-2.ensures.value in
    let names = c.in_ok-entries.ensures.ok in
    subst (λ xs. All (λ e. e.out.extent ≡ c.args.out) (map (λ e. arc_value e) xs)) (sym c.deref-3.ensures.value)
    (entries-shapes c.args.out sets payloads names.0 (map (λ e. arc_value e) c.in_ok-entries.entries.items)
    (subst (All (IsSetOf c.args.out)) (sym alike) c.in_ok-sets.ensures.sets.0) names.1)

pub returns-then-not-branch-clause-err : goal.returns-then-not-branch-clause-err
returns-then-not-branch-clause-err c =
    let payloads = map (λ p. arc_value p) c.deref.result.now in
    let sets = map (λ s. arc_value s) c.deref-2.result.now in
    let entries = map (λ e. arc_value e) c.in_ok-entries.entries.items in
    let same : payloads ≡ map (λ p. arc_value p) c.in_ok-payloads.payloads.items =
    ap (map (λ p. arc_value p)) c.deref.ensures.value in
    let alike : sets ≡ map (λ s. arc_value s) c.in_ok-sets.sets.items = ap (map (λ s. arc_value s))
    c.deref-2.ensures.value in
    let names = c.in_ok-entries.ensures.ok in
    let says : SaysWhetherApart entries false =
    subst (λ b. SaysWhetherApart entries b) c.if-not-branch.true
    (subst (λ xs. SaysWhetherApart (map (λ e. arc_value e) xs) c.in_ok-are_apart.field-0) c.deref-3.ensures.value
    c.in_ok-are_apart.ensures) in
    no-entries-apart c.args.out c.args.bytes.now c.args.at c.in_ok-payloads.place c.in_ok-sets.place
    c.in_ok-entries.next payloads sets names.0 entries
    c.requires (subst (AreFew IsShort) (sym same) c.in_ok-payloads.ensures.payloads)
    (subst (λ (ps : List (List ℕ)). IsAt c.args.bytes.now c.args.at c.in_ok-payloads.place (counted payload_bytes ps))
    (sym same) c.in_ok-payloads.ensures.bytes)
    (subst (AreFew (IsSetOf c.args.out)) (sym alike) c.in_ok-sets.ensures.sets)
    (subst (λ (ss : List Cells). IsAt c.args.bytes.now c.in_ok-payloads.place c.in_ok-sets.place (counted set_bytes ss))
    (sym alike) c.in_ok-sets.ensures.bytes) names.1 names.2 names.3 says

pub returns-clause-ok : goal.returns-clause-ok
returns-clause-ok c =
    let payloads = map (λ p. arc_value p) c.deref.result.now in
    let sets = map (λ s. arc_value s) c.deref-2.result.now in
    let entries = map (λ e. arc_value e) c.in_ok-entries.entries.items in
    let same : payloads ≡ map (λ p. arc_value p) c.in_ok-payloads.payloads.items =
    ap (map (λ p. arc_value p)) c.deref.ensures.value in
    let alike : sets ≡ map (λ s. arc_value s) c.in_ok-sets.sets.items = ap (map (λ s. arc_value s))
    c.deref-2.ensures.value in
    let names = c.in_ok-entries.ensures.ok in
    let says : SaysWhetherApart entries true =
    subst (λ b. SaysWhetherApart entries b) c.if-not-branch.false
    (subst (λ xs. SaysWhetherApart (map (λ e. arc_value e) xs) c.in_ok-are_apart.field-0) c.deref-3.ensures.value
    c.in_ok-are_apart.ensures) in
    entries-begin c.args.out c.args.bytes.now c.args.at c.in_ok-payloads.place c.in_ok-sets.place
    c.in_ok-entries.next payloads sets names.0 entries
    (subst (AreFew IsShort) (sym same) c.in_ok-payloads.ensures.payloads)
    (subst (λ (ps : List (List ℕ)). IsAt c.args.bytes.now c.args.at c.in_ok-payloads.place (counted payload_bytes ps))
    (sym same) c.in_ok-payloads.ensures.bytes)
    (subst (AreFew (IsSetOf c.args.out)) (sym alike) c.in_ok-sets.ensures.sets)
    (subst (λ (ss : List Cells). IsAt c.args.bytes.now c.in_ok-payloads.place c.in_ok-sets.place (counted set_bytes ss))
    (sym alike) c.in_ok-sets.ensures.bytes) names.1 names.2 names.3 says
