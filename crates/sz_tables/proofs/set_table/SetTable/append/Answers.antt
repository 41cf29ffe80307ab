-- The key idea: the runs of the new set stand behind all others, and it is filed under their key.
use Rattle.std.proofs.Common.{◌≡◌, ℕ, ◌+◌, ◌%◌, ◌∙◌, [], ◌∷◌, length, ap, sym, refl, arith, length-append}
use Rattle.std.proofs.lemmas.List.{map-append}
use Rattle.sz_tables.specs.Filed.{Files}
use Rattle.sz_tables.specs.Tables.{SetsByNumber, spelled, runs_by_number, spans_from, end_from}
use Rattle.sz_tables.specs.declared.spans.Span.{Span}
use Rattle.sz_tables.proofs.Numbered.{numbered-push, begin-push, sets-count}
use Rattle.sz_tables.proofs.Slices.{cuts-push, spans-push, spans-count, end-push}
use Rattle.sz_tables.proofs.set_table.SetTable.append.Goals as goal

pub invariant_of-self : goal.invariant_of-self
invariant_of-self c =
    let was = c.self.invariant in
    let runs = c.self.inside.runs.items in
    let ends = c.self.inside.ends.items in
    let spans = spans_from 0 ends in
    let more = c.args.runs.now in
    let s : Span = record { start = end_from 0 ends; end = c.len.result } in
    let key = c.args.mix % c.keys.result in
    let own = ap (λ (k : ℕ). c.args.mix % k) c.keys.ensures in
    let long = ap length c.put_runs.ensures.items ∙ length-append runs more in
    let start : s.start ≡ length runs = was.5 in
    let end : s.end ≡ length runs + length more = omega (arith, c.len.ensures, long) in
    let longest = rw (← c.self.view_is) at c.requires.longest in
    let new = rw (← c.self.view_is) at c.requires.new in
    let sets = ap (λ (t : SetsByNumber). t.spare_sets) c.self.view_is in
    let room = ap (λ (t : SetsByNumber). t.spare_runs) c.self.view_is in
    let more_ends = length-append ends (s.end ∷ []) in
    let ends_long = ap length c.push_reserved.ensures.items ∙ more_ends in (
      rw (c.put_runs.ensures.items, c.push_reserved.ensures.items, spans-push 0 ends s.end)
          (numbered-push c.self.inside.shape runs more spans s c.self.inside.index c.add.new.self key
          c.args.mix was.0 longest new start end c.requires.mix own (ap (λ (f : Files). f.keys) c.add.ensures)
          (ap (λ (f : Files). f.entries) c.add.ensures)),
      record {
        few = omega (arith, was.1.few, ends_long, sets, c.requires.sets);
        room = omega (arith, was.1.room, ends_long, sets, c.requires.sets, c.push_reserved.ensures.capacity);
      },
      omega (arith, was.2, ap (λ (f : Files). f.spare) c.add.ensures),
      omega (arith, was.3, long, c.put_runs.ensures.capacity, room, c.requires.runs),
      rw (c.put_runs.ensures.items, c.push_reserved.ensures.items, spans-push 0 ends s.end)
          (begin-push runs more spans s c.self.inside.latest c.max-self-inside.result
          (cuts-push runs more spans s was.0.within start end) was.4
          (omega (arith, c.max-self-inside.ensures)) (omega (arith, c.max-self-inside.ensures, c.first_of.ensures))),
      ap (end_from 0) c.push_reserved.ensures.items ∙ end-push 0 ends s.end ∙ end ∙ sym long,
    )

pub returns-clause-number : goal.returns-clause-number
returns-clause-number c =
    let ends = c.self.inside.ends.items in
    let spans = spans_from 0 ends in
    let seen = ap (λ (t : SetsByNumber). length t.sets) c.self.view_is in
    omega (
      arith,
      c.len-number.ensures,
      seen,
      sets-count c.self.inside.shape c.self.inside.runs.items spans,
      spans-count 0 ends,
      c.self.invariant.1.few,
    )

pub returns-clause-table : goal.returns-clause-table
returns-clause-table c =
    let was = c.self.invariant in
    let runs = c.self.inside.runs.items in
    let ends = c.self.inside.ends.items in
    let spans = spans_from 0 ends in
    let more = c.args.runs.now in
    let s : Span = record { start = end_from 0 ends; end = c.len.result } in
    let long = ap length c.put_runs.ensures.items ∙ length-append runs more in
    let start : s.start ≡ length runs = was.5 in
    let end : s.end ≡ length runs + length more = omega (arith, c.len.ensures, long) in
    rw (
      ← c.self.view_is,
      c.put_runs.ensures.items,
      c.push_reserved.ensures.items,
      spans-push 0 ends s.end,
      cuts-push runs more spans s was.0.within start end,
      map-append (spelled c.self.inside.shape) (runs_by_number runs spans) (more ∷ []),
      c.put_runs.ensures.capacity,
      c.push_reserved.ensures.capacity,
      ap (λ (f : Files). f.capacities) c.add.ensures,
    ) refl
