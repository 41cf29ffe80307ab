-- One more set stands behind those before it, and was written behind them.
use Rattle.std.proofs.Common.{◌≡◌, ℕ, ◌+◌, List, [], ◌∷◌, ◌++◌, length, take, subst, arith, rules}
use Rattle.std.specs.List.{flat_map}
use Rattle.std.proofs.lemmas.List.{length_push}
use Rattle.std.proofs.lemmas.List.Elements.{All-push}
use Rattle.sz_cells.specs.SetBytes.{four_bytes}
use Rattle.sz_region.specs.FullBytes.{IsListed}
use Rattle.sz_region.proofs.Appending.{kept-first}
use Rattle.sz_region.proofs.Spans.{at-more, no-number, no-table}
use Rattle.sz_short.specs.ShortStores.{listed_by}
use Rattle.sz_short.specs.Ways.{read_bytes, written_bytes}
use Rattle.sz_short.proofs.Respelling.{passed, read-known, listed-known, grows, whole-so-far, whole-table, at-table}
use Rattle.sz_short.proofs.full.respell_table.Goals as goal

pub returns-in_default-clause-err : goal.returns-in_default-clause-err
returns-in_default-clause-err c table rest few is =
    no-number c.args.bytes.now c.args.at (length table) (flat_map (listed_by (read_bytes c.args.way)) table ++ rest)
    c.in_default.ensures.none is

pub returns-in_err-place-clause-err : goal.returns-in_err-place-clause-err
returns-in_err-place-clause-err c =
    let inv = c.loop-index.invariant in
    let spell = read_bytes c.args.way in
    passed c.from_residual-in_err-place.result c.in_err-place.field-0.0 c.from_residual-in_err-place.ensures.1
    (λ missing. no-table (IsListed c.args.out c.args.ins.now) (listed_by spell)
    (listed-known spell (read-known c.args.way) c.args.out c.args.ins.now c.requires) c.args.bytes.now c.args.at
    c.in-Some.count c.loop-index.place inv.table c.in-Some.ensures.some (omega arith) inv.each inv.bytes missing
    (omega (arith, inv.count)))
    c.in_err-place.ensures.err

pub returns-in_err-place-clause-kept : goal.returns-in_err-place-clause-kept
returns-in_err-place-clause-kept c =
    let inv = c.loop-index.invariant in
    let old = c.args.to.now.items in
    let spell = listed_by (written_bytes c.args.way) in
    let whole = whole-so-far spell old c.in-Some.count inv.table _ _
    (c.in_ok-copy_part.ensures.ok (four_bytes c.in-Some.count) c.in-Some.ensures.some) inv.items in
    let kept = kept-first old (four_bytes c.in-Some.count ++ flat_map spell inv.table) c.respell_listed.new.to.items
    (subst (λ (w : List ℕ). take (length w) c.respell_listed.new.to.items ≡ w) whole c.in_err-place.ensures.kept) in
    search rules

pub loop-index-preserved : goal.loop-index-preserved
loop-index-preserved c =
    let inv = c.loop-index.invariant in
    let more = c.in_ok-place.ensures.ok in
    record {
      table = inv.table ++ more.0 ∷ [];
      count = omega (arith, length_push inv.table more.0, inv.count);
      each = All-push (IsListed c.args.out c.args.ins.now) inv.table more.0 inv.each more.1;
      bytes = at-more (listed_by (read_bytes c.args.way)) c.args.bytes.now (c.args.at + 4) c.loop-index.place
          c.in_ok-place.place inv.table more.0 inv.bytes more.2;
      items = grows (listed_by (written_bytes c.args.way)) _ inv.table more.0 _ _ inv.items more.3;
    }

pub returns-clause-ok : goal.returns-clause-ok
returns-clause-ok c =
    let inv = c.loop-index.invariant in
    let count : c.in-Some.count ≡ length inv.table = omega (arith, inv.count) in (
      inv.table,
      (inv.each, omega (arith, inv.count)),
      at-table (listed_by (read_bytes c.args.way)) c.args.bytes.now c.args.at c.loop-index.place c.in-Some.count
          inv.table c.in-Some.ensures.some inv.bytes count,
      whole-table (listed_by (written_bytes c.args.way)) c.args.to.now.items c.in-Some.count inv.table _ _
          (c.in_ok-copy_part.ensures.ok (four_bytes c.in-Some.count) c.in-Some.ensures.some) inv.items count,
    )
