-- One more row is that of the names behind those before it.
use Rattle.std.proofs.Common.{◌≡◌, ℕ, ◌+◌, List, [], ◌∷◌, ◌++◌, length, ap, sym, subst, ◌∙◌, arith}
use Rattle.std.proofs.Common.{length-append}
use Rattle.std.specs.List.{AllZip, flat_map}
use Rattle.std.proofs.lemmas.Result.{err_from_is_err_and}
use Rattle.sz_cells.specs.Cells.{Cells}
use Rattle.sz_cells.specs.SetBytes.{four_bytes}
use Rattle.sz_region.specs.Counted.{IsAt, rows_bytes}
use Rattle.sz_region.specs.Stores.{AreEntriesNames, NoneAt, OnBad}
use Rattle.sz_region.proofs.Numbering.{zip-append, zip-length}
use Rattle.sz_region.proofs.Spans.{at-both, at-more, no-number, on_bad-weaker}
use Rattle.sz_tables.specs.Listed.{AreNamesOfRow}
use Rattle.sz_tables.proofs.Listed.{no-rows}
use Rattle.sz_tables.proofs.entry_reading.take_rows.Goals as goal

pub returns-in_default-clause-err : goal.returns-in_default-clause-err
returns-in_default-clause-err c sets payloads long too names rest few is =
    no-number c.args.bytes.now c.args.at (length names) (flat_map (flat_map four_bytes) names ++ rest)
    c.in_default.ensures.none is

pub returns-in_err-row-clause-err : goal.returns-in_err-row-clause-err
returns-in_err-row-clause-err c =
    let inv = c.loop-index.invariant in
    let outs = c.args.outs.now in
    let bodies = c.args.bodies.now in
    let none : (sets : List Cells) (payloads : List (List ℕ)) → length sets ≡ length outs
    → length payloads ≡ length bodies
    → OnBad c.in_err-row.field-0.0 (NoneAt (AreEntriesNames sets payloads) rows_bytes c.args.bytes.now c.args.at) =
    λ sets payloads long too.
    on_bad-weaker c.in_err-row.field-0.0
    (no-rows sets payloads outs bodies c.args.bytes.now c.args.at c.in-Some.count c.loop-index.place inv.names
    c.loop-index.rows.items long too c.requires.few_outs c.requires.few_bodies c.in-Some.ensures.some (omega arith)
    inv.named (omega (arith, inv.count)) inv.bytes)
    (c.in_err-row.ensures.err sets payloads long too) in
    let p = err_from_is_err_and c.from_residual-in_err-row.result c.from_residual-in_err-row.ensures.1 in
    rw (p.1, p.2) none

pub loop-index-preserved : goal.loop-index-preserved
loop-index-preserved c =
    let inv = c.loop-index.invariant in
    let rows = c.loop-index.rows.items in
    let row = c.in_ok-row.row in
    let ok = c.in_ok-row.ensures.ok in
    let names = AreNamesOfRow c.args.outs.now c.args.bodies.now in
    record {
      names = inv.names ++ ok.0 ∷ [];
      count = ap length c.in_ok-push.ensures.items ∙ length-append rows (row ∷ []) ∙ (omega (arith, inv.count));
      named = subst (AllZip names (inv.names ++ ok.0 ∷ [])) (sym c.in_ok-push.ensures.items)
          (zip-append names inv.names (ok.0 ∷ []) rows (row ∷ []) inv.named (ok.1, tt));
      bytes = at-more (flat_map four_bytes) c.args.bytes.now (c.args.at + 4) c.loop-index.place
          (c.loop-index.place + 8) inv.names ok.0 inv.bytes ok.2;
    }

pub returns-clause-ok : goal.returns-clause-ok
returns-clause-ok c =
    let inv = c.loop-index.invariant in
    let long = zip-length (AreNamesOfRow c.args.outs.now c.args.bodies.now) inv.names c.loop-index.rows.items inv.named
    in
    let count : c.in-Some.count ≡ length inv.names = omega (arith, long, inv.count) in (
      inv.names,
      inv.named,
      subst (λ (n : ℕ). IsAt c.args.bytes.now c.args.at c.loop-index.place
          (four_bytes n ++ flat_map (flat_map four_bytes) inv.names)) count
          (at-both c.args.bytes.now c.args.at (c.args.at + 4) c.loop-index.place (four_bytes c.in-Some.count)
          (flat_map (flat_map four_bytes) inv.names) c.in-Some.ensures.some inv.bytes),
    )
