-- One entry more.
use Rattle.std.proofs.Common.{◌≡◌, ℕ, List, length, refl, ap, ◌∙◌, arith}
use Rattle.std.specs.Arc.{arc_value}
use Rattle.sz_frame.specs.Parts.{Entry}
use Rattle.sz_tables.proofs.Counted.{item-made}
use Rattle.sz_tables.proofs.Taking.{read-sum}
use Rattle.sz_payload.proofs.counting.bytes_of_all.Goals as goal

pub loop-entry-preserved : goal.loop-entry-preserved
loop-entry-preserved c =
    let e = c.deref.result.now in
    let bytes = read-sum (λ (x : Entry). length x.payload) (λ a. arc_value a) c.args.entries.now
    c.loop-entry.entry-index c.entry-item.result e c.loop-entry-test.true c.entry-item.is c.deref.ensures in
    let there = item-made (λ a. arc_value a) c.args.entries.now _ c.loop-entry.entry-index c.entry-item.result e refl
    c.loop-entry-test.true c.entry-item.is c.deref.ensures in
    let same : c.bytes.result.now ≡ e.payload =
    c.bytes.ensures ∙ c.deref-in-loop-entry.ensures ∙ ap (λ (x : Entry). x.payload) c.behind-entry.view_is in
    let short = rw there.1 at (c.requires.short c.loop-entry.entry-index e there.0) in
    let long = ap (λ (xs : List ℕ). length xs) same in
    record {
      bytes = omega (arith, c.loop-entry.invariant.bytes, bytes, long);
      few = omega (arith, c.loop-entry.invariant.few, short, long);
    }
