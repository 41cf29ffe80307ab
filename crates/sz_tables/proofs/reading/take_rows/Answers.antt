-- One more row is that of the names behind those before it.
use Rattle.std.proofs.Common.{◌≡◌, ℕ, ◌+◌, List, [], ◌∷◌, ◌++◌, length, ap, sym, subst, ◌∙◌, arith}
use Rattle.std.proofs.Common.{length-append}
use Rattle.std.specs.List.{AllZip, flat_map}
use Rattle.std.proofs.lemmas.Result.{err_from_is_err_and}
use Rattle.sz_cells.specs.SetBytes.{four_bytes}
use Rattle.sz_region.specs.Counted.{IsAt, rows_bytes}
use Rattle.sz_region.specs.FullBytes.{Listed}
use Rattle.sz_region.specs.Stores.{NoneAt, AreStoreNames, OnBad}
use Rattle.sz_region.proofs.Names.{no-rows, no-rows-many}
use Rattle.sz_region.proofs.Numbering.{zip-append, zip-length}
use Rattle.sz_region.proofs.Spans.{at-nothing, at-more, at-both, on_bad-weaker, no-number}
use Rattle.sz_tables.specs.Rows.{rows_of}
use Rattle.sz_tables.specs.Placing.{IsOfArray, IsRowNamed}
use Rattle.sz_tables.proofs.Placing.{pairs-named}
use Rattle.sz_tables.proofs.Rows.{rows-more, rows-length}
use Rattle.sz_tables.proofs.reading.take_rows.Goals as goal

pub returns-in_default-clause-err : goal.returns-in_default-clause-err
returns-in_default-clause-err c listed same rows rest few is =
    no-number c.args.bytes.now c.args.at (length rows) (flat_map (flat_map four_bytes) rows ++ rest)
    c.in_default.ensures.none is

pub returns-then-count-gt-MOST_ROWS-clause-err : goal.returns-then-count-gt-MOST_ROWS-clause-err
returns-then-count-gt-MOST_ROWS-clause-err c listed same =
    no-rows-many listed c.args.inputs c.args.bytes.now c.args.at c.in-Some.count c.in-Some.ensures.some (omega arith)
    (omega arith)

pub loop-index-init : goal.loop-index-init
loop-index-init c = record {
  rows = [];
  whole = omega (arith, ap length (c.in_ok-reserve.ensures.items ∙ c.requires.names));
  named = tt;
  bytes = at-nothing c.args.bytes.now (c.args.at + 4) c.in-Some.ensures.some.within;
}

pub returns-in_err-place-clause-err : goal.returns-in_err-place-clause-err
returns-in_err-place-clause-err c =
    let inv = c.loop-index.invariant in
    let places = c.args.places.now in
    let made = rows_of c.args.inputs c.loop-index._index c.loop-index.names.items in
    let many = rows-length c.args.inputs c.loop-index._index c.loop-index.names.items in
    let none : (listed : List Listed) → AllZip IsOfArray places listed
    → OnBad c.in_err-place.field-0.0 (NoneAt (AreStoreNames listed c.args.inputs) rows_bytes c.args.bytes.now
    c.args.at) =
    λ listed same.
    let long = zip-length IsOfArray places listed same in
    let pairs = pairs-named places listed c.args.inputs same inv.rows made inv.named in
    on_bad-weaker c.in_err-place.field-0.0
    (no-rows listed c.args.inputs c.args.bytes.now c.args.at c.in-Some.count c.loop-index.place inv.rows pairs.0
    (omega (arith, long, c.requires.few)) c.in-Some.ensures.some (omega arith) pairs.2
    (omega (arith, pairs.1, many)) inv.bytes)
    (c.in_err-place.ensures.err listed same) in
    let p = err_from_is_err_and c.from_residual-in_err-place.result c.from_residual-in_err-place.ensures.1 in
    rw (p.1, p.2) none

pub loop-index-preserved : goal.loop-index-preserved
loop-index-preserved c =
    let inv = c.loop-index.invariant in
    let inputs = c.args.inputs in
    let index = c.loop-index._index in
    let names = c.loop-index.names.items in
    let ok = c.in_ok-place.ensures.ok in
    let row = ok.1 in
    let more = rows-more inputs index names row.out row.ins inv.whole ok.2.arity in
    let all : rows_of inputs (index + 1) c.take_row.new.names.items ≡ rows_of inputs index names ++ row ∷ [] =
    ap (rows_of inputs (index + 1)) ok.3 ∙ more in
    record {
      rows = inv.rows ++ ok.0 ∷ [];
      whole = ap length ok.3 ∙ length-append names (row.out ∷ row.ins)
          ∙ (omega (arith, inv.whole, ok.2.arity));
      named = subst (AllZip (IsRowNamed c.args.places.now inputs) (inv.rows ++ ok.0 ∷ [])) (sym all)
          (zip-append (IsRowNamed c.args.places.now inputs) inv.rows (ok.0 ∷ []) (rows_of inputs index names) (row ∷ [])
          inv.named (ok.2, tt));
      bytes = at-more (flat_map four_bytes) c.args.bytes.now (c.args.at + 4) c.loop-index.place
          c.in_ok-place.place inv.rows ok.0 inv.bytes ok.4;
    }

pub returns-clause-ok : goal.returns-clause-ok
returns-clause-ok c =
    let inv = c.loop-index.invariant in
    let made = rows_of c.args.inputs c.loop-index._index c.loop-index.names.items in
    let long : length inv.rows ≡ c.loop-index._index =
    zip-length (IsRowNamed c.args.places.now c.args.inputs) inv.rows made inv.named
    ∙ rows-length c.args.inputs c.loop-index._index c.loop-index.names.items in
    let count : c.in-Some.count ≡ length inv.rows = omega (arith, long) in (
      inv.rows,
      (let end : c.loop-index._index ≡ c.in-Some.count = omega arith in
          subst (λ (n : ℕ). AllZip (IsRowNamed c.args.places.now c.args.inputs) inv.rows
          (rows_of c.args.inputs n c.loop-index.names.items)) end inv.named),
      subst (λ (n : ℕ). IsAt c.args.bytes.now c.args.at c.loop-index.place
          (four_bytes n ++ flat_map (flat_map four_bytes) inv.rows)) count
          (at-both c.args.bytes.now c.args.at (c.args.at + 4) c.loop-index.place (four_bytes c.in-Some.count)
          (flat_map (flat_map four_bytes) inv.rows) c.in-Some.ensures.some inv.bytes),
    )
