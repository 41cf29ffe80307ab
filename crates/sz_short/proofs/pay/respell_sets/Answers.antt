-- One more set stands behind those before it, and was written behind them.
use Rattle.std.proofs.Common.{◌≡◌, ◌+◌, [], ◌∷◌, ◌++◌, length, take, ◌∙◌, arith, rules}
use Rattle.std.specs.List.{flat_map}
use Rattle.std.proofs.lemmas.List.{length_push}
use Rattle.std.proofs.lemmas.List.Elements.{All-push}
use Rattle.sz_cells.specs.SetBytes.{four_bytes, IsSetOf}
use Rattle.sz_region.proofs.Spans.{at-more, no-number, no-table}
use Rattle.sz_short.specs.Ways.{read_bytes, written_bytes}
use Rattle.sz_short.proofs.Respelling.{passed, read-known, grows, whole-so-far, whole-table, at-table, kept-before}
use Rattle.sz_short.proofs.pay.respell_sets.Goals as goal

pub returns-in_default-clause-err : goal.returns-in_default-clause-err
returns-in_default-clause-err c sets rest few is =
    no-number c.args.bytes.now c.args.at (length sets) (flat_map (read_bytes c.args.way) sets ++ rest)
    c.in_default.ensures.none is

pub returns-in_err-place-clause-err : goal.returns-in_err-place-clause-err
returns-in_err-place-clause-err c =
    let inv = c.loop-index.invariant in
    let spell = read_bytes c.args.way in
    passed c.from_residual-in_err-place.result c.in_err-place.field-0.0 c.from_residual-in_err-place.ensures.1
    (λ missing. no-table (IsSetOf c.args.out) spell (read-known c.args.way c.args.out c.requires) c.args.bytes.now
    c.args.at c.in-Some.count c.loop-index.place inv.sets c.in-Some.ensures.some (omega arith) inv.each inv.bytes
    missing
    (omega (arith, inv.count)))
    c.in_err-place.ensures.err

pub returns-in_err-place-clause-kept : goal.returns-in_err-place-clause-kept
returns-in_err-place-clause-kept c =
    let inv = c.loop-index.invariant in
    let old = c.args.to.now.items in
    let spell = written_bytes c.args.way in
    let whole = whole-so-far spell old c.in-Some.count inv.sets _ _
    (c.in_ok-copy_part.ensures.ok (four_bytes c.in-Some.count) c.in-Some.ensures.some) inv.items in
    let kept : take (length old) c.respell_set.new.to.items ≡ old =
    kept-before old (four_bytes c.in-Some.count ++ flat_map spell inv.sets) c.respell_set.new.to.items
    (c.in_err-place.ensures.kept ∙ whole) in
    search rules

pub loop-index-preserved : goal.loop-index-preserved
loop-index-preserved c =
    let inv = c.loop-index.invariant in
    let more = c.in_ok-place.ensures.ok in
    record {
      sets = inv.sets ++ more.0 ∷ [];
      count = omega (arith, length_push inv.sets more.0, inv.count);
      each = All-push (IsSetOf c.args.out) inv.sets more.0 inv.each more.1;
      bytes = at-more (read_bytes c.args.way) c.args.bytes.now (c.args.at + 4) c.loop-index.place c.in_ok-place.place
          inv.sets more.0 inv.bytes more.2;
      items = grows (written_bytes c.args.way) _ inv.sets more.0 _ _ inv.items more.3;
    }

pub returns-clause-ok : goal.returns-clause-ok
returns-clause-ok c =
    let inv = c.loop-index.invariant in
    let count : c.in-Some.count ≡ length inv.sets = omega (arith, inv.count) in (
      inv.sets,
      (inv.each, omega (arith, inv.count)),
      at-table (read_bytes c.args.way) c.args.bytes.now c.args.at c.loop-index.place c.in-Some.count inv.sets
          c.in-Some.ensures.some inv.bytes count,
      whole-table (written_bytes c.args.way) c.args.to.now.items c.in-Some.count inv.sets _ _
          (c.in_ok-copy_part.ensures.ok (four_bytes c.in-Some.count) c.in-Some.ensures.some) inv.items count,
    )
