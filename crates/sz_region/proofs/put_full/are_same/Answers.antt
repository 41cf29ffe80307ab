-- Runs are equal where their ends are.
use Rattle.std.proofs.Common.{◌≡◌, true, ◌&&◌, ◌==◌, ap, ap₂, ℕ, refl, eqb-true, eq-eqb}
use Rattle.std.specs.Bool.{Decides}
use Rattle.std.proofs.lemmas.Bool.{and_parts}
use Rattle.std.proofs.lemmas.Slice.Eq.{slice_eq-Decides}
use Rattle.sz_cells.specs.declared.Run.{Run}
use Rattle.sz_region.proofs.put_full.are_same.Goals as goal

run-decides : (a b : Run) → Decides ((a.first == b.first) && (a.last == b.last)) (a ≡ b)
run-decides a b = (
  λ same.
      let ends = and_parts (a.first == b.first) (a.last == b.last) same in
      let make : ℕ → ℕ → Run = λ x y. record { first = x; last = y } in
      ap₂ make (eqb-true a.first b.first ends.0) (eqb-true a.last b.last ends.1),
  λ is. rw (eq-eqb a.first b.first (ap (λ (r : Run). r.first) is)) (eq-eqb a.last b.last (ap (λ (r : Run). r.last) is)),
)

pub returns : goal.returns
returns c = λ same. (slice_eq-Decides run-decides c.args.runs.now c.args.other.now c.eq.result c.eq.ensures).0 same
