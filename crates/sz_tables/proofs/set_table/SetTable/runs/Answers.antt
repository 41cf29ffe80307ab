-- The key idea: the span of a number gives the longest runs of its set.
use Rattle.std.proofs.Common.{ℕ, List, ◌∙◌, ap, sym, refl, length, get_or, arith}
use Rattle.sz_cells.specs.Extent.{size_of}
use Rattle.sz_cells.specs.Cells.{Cells}
use Rattle.sz_cells.proofs.Runs.{runs_of-spelled}
use Rattle.sz_tables.specs.Tables.{SetsByNumber, spans_from}
use Rattle.sz_tables.proofs.Numbered.{IsSetAt, set-at, sets-count}
use Rattle.sz_tables.proofs.Slices.{spans-count}
use Rattle.sz_tables.proofs.set_table.SetTable.runs.Goals as goal
use Rattle.sz_tables.proofs.set_table.SetTable.runs.Goals.{After-span_at-span}

here : (c : After-span_at-span) → IsSetAt c.self.inside.shape c.self.inside.runs.items
    (spans_from 0 c.self.inside.ends.items) c.args.number c.span_at-span.result
here c =
    let spans = spans_from 0 c.self.inside.ends.items in
    let read = ap (λ (ends : List ℕ). get_or (spans_from 0 ends) c.args.number c.span_at-span.result)
    c.deref.ensures.value in
    set-at c.self.inside.shape c.self.inside.runs.items spans c.self.inside.index c.args.number c.span_at-span.result
    c.self.invariant.0 (rw (← c.self.view_is) at c.requires) (c.span_at-span.ensures.span ∙ read)

pub span_at-span-requires : goal.span_at-span-requires
span_at-span-requires c =
    let seen = ap (λ (t : SetsByNumber). length t.sets) c.self.view_is in
    let spans = spans_from 0 c.self.inside.ends.items in
    omega (
      arith,
      c.requires,
      seen,
      sets-count c.self.inside.shape c.self.inside.runs.items spans,
      spans-count 0 c.self.inside.ends.items,
      ap length c.deref.ensures.value,
    )

pub returns-clause-runs : goal.returns-clause-runs
returns-clause-runs c =
    let set = here (goal.at.returns-clause-runs c).After-span_at-span in
    rw (c.deref-2.ensures.value, ← c.self.view_is, set.0)
    (sym (runs_of-spelled 0 (size_of c.self.inside.shape) _ set.1))

pub returns-clause-longest : goal.returns-clause-longest
returns-clause-longest c =
    let set = here (goal.at.returns-clause-longest c).After-span_at-span in
    rw (c.deref-2.ensures.value, ← c.self.view_is) set.1

pub returns-clause-extent : goal.returns-clause-extent
returns-clause-extent c =
    let set = here (goal.at.returns-clause-extent c).After-span_at-span in
    rw (← c.self.view_is) (ap (λ (s : Cells). s.extent) set.0)

pub returns-clause-spelled : goal.returns-clause-spelled
returns-clause-spelled c =
    let set = here (goal.at.returns-clause-spelled c).After-span_at-span in
    rw (c.deref-2.ensures.value, ← c.self.view_is, set.0) (record { longest = set.1; spelled = refl })
