-- The key idea: the bytes of the new payload stand behind all others, and it is filed under their key.
use Rattle.std.proofs.Common.{◌≡◌, ℕ, ◌+◌, ◌%◌, ◌∙◌, [], ◌∷◌, length, ap, refl, arith, length-append}
use Rattle.sz_tables.specs.Filed.{Files}
use Rattle.sz_tables.specs.Payloads.{PayloadsByNumber}
use Rattle.sz_tables.specs.declared.spans.Span.{Span}
use Rattle.sz_tables.proofs.Slices.{cuts-push}
use Rattle.sz_tables.proofs.Payloads.{kept-push}
use Rattle.sz_tables.proofs.payload_table.PayloadTable.append.Goals as goal

pub invariant_of-self : goal.invariant_of-self
invariant_of-self c =
    let was = c.self.invariant in
    let bytes = c.self.inside.bytes.items in
    let spans = c.self.inside.spans.items in
    let more = c.args.bytes.now in
    let s : Span = record { start = c.len-start.result; end = c.len-end.result } in
    let key = c.args.mix % c.keys.result in
    let own = ap (λ (k : ℕ). c.args.mix % k) c.keys.ensures in
    let long = ap length c.put_bytes.ensures.items ∙ length-append bytes more in
    let start : s.start ≡ length bytes = omega (arith, c.len-start.ensures) in
    let end : s.end ≡ length bytes + length more = omega (arith, c.len-end.ensures, long) in
    let new = rw (← c.self.view_is) at c.requires.new in
    let payloads = ap (λ (t : PayloadsByNumber). t.spare_payloads) c.self.view_is in
    let room = ap (λ (t : PayloadsByNumber). t.spare_bytes) c.self.view_is in
    let spans_long = ap length c.push_reserved.ensures.items ∙ length-append spans (s ∷ []) in (
      rw (c.put_bytes.ensures.items, c.push_reserved.ensures.items)
          (kept-push bytes more spans s c.self.inside.index c.add.new.self key c.args.mix was.0 new
          start end c.requires.mix own (ap (λ (f : Files). f.keys) c.add.ensures)
          (ap (λ (f : Files). f.entries) c.add.ensures)),
      record {
        few = omega (arith, was.1.few, spans_long, payloads, c.requires.payloads);
        room = omega (arith, was.1.room, spans_long, payloads, c.requires.payloads, c.push_reserved.ensures.capacity);
      },
      omega (arith, was.2, ap (λ (f : Files). f.spare) c.add.ensures),
      omega (arith, was.3, long, c.put_bytes.ensures.capacity, room, c.requires.bytes),
    )

pub returns-clause-table : goal.returns-clause-table
returns-clause-table c =
    let was = c.self.invariant in
    let bytes = c.self.inside.bytes.items in
    let spans = c.self.inside.spans.items in
    let more = c.args.bytes.now in
    let s : Span = record { start = c.len-start.result; end = c.len-end.result } in
    let long = ap length c.put_bytes.ensures.items ∙ length-append bytes more in
    let start : s.start ≡ length bytes = omega (arith, c.len-start.ensures) in
    let end : s.end ≡ length bytes + length more = omega (arith, c.len-end.ensures, long) in
    rw (
      ← c.self.view_is,
      c.put_bytes.ensures.items,
      c.push_reserved.ensures.items,
      cuts-push bytes more spans s was.0.within start end,
      c.put_bytes.ensures.capacity,
      c.push_reserved.ensures.capacity,
      ap (λ (f : Files). f.capacities) c.add.ensures,
    ) refl
