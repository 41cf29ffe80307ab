-- One more set stands behind those before it, and in the table under its number.
use Rattle.std.proofs.Common.{◌≡◌, ℕ, ◌+◌, List, [], ◌∷◌, ◌++◌, length, ap, sym, subst, ◌∙◌, arith, rules}
use Rattle.std.proofs.Common.{length-append}
use Rattle.std.specs.List.{AllZip, flat_map}
use Rattle.std.proofs.lemmas.List.Elements.{All-push}
use Rattle.sz_cells.specs.declared.Run.{Run}
use Rattle.sz_cells.specs.Cells.{Cells}
use Rattle.sz_cells.specs.Extent.{Extent}
use Rattle.sz_cells.specs.SetBytes.{IsSetOf, set_bytes}
use Rattle.sz_region.proofs.PayStores.{no-set, set-free}
use Rattle.sz_region.proofs.Spans.{at-more, at-set, no-number, no-table, on_bad-set, on_bad-weaker}
use Rattle.sz_tables.specs.Listed.{HasNumber}
use Rattle.sz_tables.specs.Tables.{HasAtMostOneMore, spelled}
use Rattle.sz_tables.proofs.Listed.{numbered-more}
use Rattle.sz_tables.proofs.Taking.{more-length}
use Rattle.sz_tables.proofs.entry_reading.take_sets.Goals as goal

pub returns-in_default-clause-err : goal.returns-in_default-clause-err
returns-in_default-clause-err c sets rest few is =
    no-number c.args.bytes.now c.args.at (length sets) (flat_map set_bytes sets ++ rest) c.in_default.ensures.none is

pub returns-in_err-next-clause-err : goal.returns-in_err-next-clause-err
returns-in_err-next-clause-err c =
    let inv = c.loop-index.invariant in
    let none = on_bad-weaker c.in_err-next.field-0.0
    (λ missing. no-table (IsSetOf c.args.out) set_bytes (set-free c.args.out c.requires.right) c.args.bytes.now
    c.args.at c.in-Some.count c.loop-index.place inv.listed c.in-Some.ensures.some (omega arith) inv.each inv.bytes
    (no-set c.args.out c.args.bytes.now c.loop-index.place missing) (omega (arith, inv.count)))
    (on_bad-set c.args.out c.args.bytes.now c.loop-index.place c.in_err-next.field-0.0 c.in_err-next.ensures.err) in
    search rules

pub loop-index-preserved : goal.loop-index-preserved
loop-index-preserved c =
    let inv = c.loop-index.invariant in
    let old = c.loop-index.table.sets in
    let new = c.add_read.new.table.sets in
    let runs = c.take_set_runs.new.to.items in
    let set : Cells = spelled c.args.out runs in
    let number = c.in_ok-number.number in
    let begins = c.in_ok-next.ensures.ok in
    let same : spelled c.loop-index.table.extent c.deref.result.now ≡ set =
    ap (λ (e : Extent). spelled e c.deref.result.now) inv.extent
    ∙ ap (λ (rs : List Run). spelled c.args.out rs) c.deref.ensures.value in
    let ok = c.in_ok-number.ensures.ok in
    let more : HasAtMostOneMore old new set = subst (HasAtMostOneMore old new) same ok.1 in
    record {
      listed = inv.listed ++ set ∷ [];
      count = length-append inv.listed (set ∷ []) ∙ (omega (arith, inv.count));
      each = All-push (IsSetOf c.args.out) inv.listed set inv.each begins.is_set;
      bytes = at-more set_bytes c.args.bytes.now (c.args.at + 4) c.loop-index.place c.in_ok-next.next inv.listed set
          inv.bytes (at-set c.args.out c.args.bytes.now c.loop-index.place c.in_ok-next.next set begins
          c.in_ok-next.ensures.within);
      numbered = subst (λ (ns : List ℕ). AllZip (HasNumber new) ns (inv.listed ++ set ∷ []))
          (sym c.in_ok-push.ensures.items)
          (numbered-more old new c.loop-index.numbers.items inv.listed set number more
          (subst (HasNumber new number) same ok.0) inv.numbered);
      extent = c.add_read.ensures.extent ∙ inv.extent;
      few = omega (arith, (more-length old new set more).1, inv.few);
    }
