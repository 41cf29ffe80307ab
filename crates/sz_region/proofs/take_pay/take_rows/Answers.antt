-- One more entry is that of the row behind those before it.
use Rattle.std.proofs.Common.{◌≡◌, ℕ, ◌+◌, List, [], ◌∷◌, ◌++◌, length, map, ap, sym, subst, ◌∙◌, arith}
use Rattle.std.specs.Arc.{arc_value}
use Rattle.std.specs.List.{AllZip, flat_map}
use Rattle.std.proofs.lemmas.List.{length-map, length_push, map_push}
use Rattle.std.proofs.lemmas.Result.{err_from_is_err_and}
use Rattle.sz_cells.specs.SetBytes.{four_bytes}
use Rattle.sz_frame.specs.Parts.{Entry}
use Rattle.sz_region.specs.Counted.{IsAt}
use Rattle.sz_region.specs.PayBytes.{AreNamesOfEntry}
use Rattle.sz_region.proofs.Numbering.{zip-append, zip-length}
use Rattle.sz_region.proofs.Spans.{at-more, at-both, on_bad-weaker, no-number}
use Rattle.sz_region.proofs.PayStores.{no-entry-rows}
use Rattle.sz_region.proofs.take_pay.take_rows.Goals as goal

pub returns-in_default-clause-err : goal.returns-in_default-clause-err
returns-in_default-clause-err c rows rest few is =
    no-number c.args.bytes.now c.args.at (length rows) (flat_map (flat_map four_bytes) rows ++ rest)
    c.in_default.ensures.none is

pub returns-in_err-entry-clause-err : goal.returns-in_err-entry-clause-err
returns-in_err-entry-clause-err c =
    let inv = c.loop-index.invariant in
    let sets = map (λ s. arc_value s) c.args.sets.now in
    let payloads = map (λ p. arc_value p) c.args.payloads.now in
    let entries = map (λ e. arc_value e) c.loop-index.entries.items in
    let few : length sets ≡ length c.args.sets.now = length-map c.args.sets.now (λ s. arc_value s) in
    let less : length payloads ≡ length c.args.payloads.now = length-map c.args.payloads.now (λ p. arc_value p) in
    let long : length entries ≡ c.loop-index._index = length-map c.loop-index.entries.items (λ e. arc_value e)
    ∙ inv.count in
    let none = on_bad-weaker c.in_err-entry.field-0.0
    (no-entry-rows sets payloads c.args.bytes.now c.args.at c.in-Some.count c.loop-index.place inv.rows entries
    (omega (arith, c.requires.few_sets)) (omega (arith, c.requires.few_payloads)) c.in-Some.ensures.some (omega arith)
    inv.named (omega arith) inv.bytes)
    c.in_err-entry.ensures.err in
    let p = err_from_is_err_and c.from_residual.result c.from_residual.ensures.1 in
    rw (p.1, p.2) none

pub loop-index-preserved : goal.loop-index-preserved
loop-index-preserved c =
    let inv = c.loop-index.invariant in
    let sets = map (λ s. arc_value s) c.args.sets.now in
    let payloads = map (λ p. arc_value p) c.args.payloads.now in
    let items = c.loop-index.entries.items in
    let entries = map (λ x. arc_value x) items in
    let row = c.in_ok-entry.ensures.ok in
    let entry : Entry = c.in_ok-entry.entry in
    let all : map (λ x. arc_value x) c.push.new.self.items ≡ entries ++ entry ∷ [] =
    ap (map (λ x. arc_value x)) c.in_ok-push.ensures.items ∙ map_push (λ x. arc_value x) items c.in_ok-new.field-0
    ∙ ap (λ (e : Entry). entries ++ e ∷ []) c.in_ok-new.ensures.ok in
    record {
      count = omega (arith, ap length c.in_ok-push.ensures.items, length_push items c.in_ok-new.field-0, inv.count);
      rows = inv.rows ++ row.0 ∷ [];
      named = subst (AllZip (AreNamesOfEntry sets payloads) (inv.rows ++ row.0 ∷ [])) (sym all)
          (zip-append (AreNamesOfEntry sets payloads) inv.rows (row.0 ∷ []) entries (entry ∷ []) inv.named (row.1, tt));
      bytes = at-more (flat_map four_bytes) c.args.bytes.now (c.args.at + 4) c.loop-index.place (c.loop-index.place + 8)
          inv.rows row.0 inv.bytes row.2;
    }

pub returns-clause-ok : goal.returns-clause-ok
returns-clause-ok c =
    let inv = c.loop-index.invariant in
    let sets = map (λ s. arc_value s) c.args.sets.now in
    let payloads = map (λ p. arc_value p) c.args.payloads.now in
    let entries = map (λ x. arc_value x) c.loop-index.entries.items in
    let long : length inv.rows ≡ c.loop-index._index = zip-length (AreNamesOfEntry sets payloads) inv.rows entries
    inv.named
    ∙ length-map c.loop-index.entries.items (λ x. arc_value x) ∙ inv.count in
    let count : c.in-Some.count ≡ length inv.rows = omega arith in (
      inv.rows,
      inv.named,
      omega arith,
      subst (λ (n : ℕ). IsAt c.args.bytes.now c.args.at c.loop-index.place
          (four_bytes n ++ flat_map (flat_map four_bytes) inv.rows)) count
          (at-both c.args.bytes.now c.args.at (c.args.at + 4) c.loop-index.place (four_bytes c.in-Some.count)
          (flat_map (flat_map four_bytes) inv.rows) c.in-Some.ensures.some inv.bytes),
    )
