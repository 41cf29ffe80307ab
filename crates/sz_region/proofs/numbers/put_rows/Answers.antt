-- There are as many rows as the numbers make, and their bytes are the numbers' bytes.
use Rattle.std.proofs.Common.{◌≡◌, ℕ, List, ◌++◌, length, take, ap, ap₂, sym, ◌∙◌, arith}
use Rattle.std.specs.List.{flat_map}
use Rattle.std.proofs.lemmas.List.{take_all}
use Rattle.sz_cells.specs.SetBytes.{four_bytes}
use Rattle.sz_region.proofs.Appending.{rows-number, rows-flat}
use Rattle.sz_region.proofs.numbers.put_rows.Goals as goal

pub overflow_cast-numbers : goal.overflow_cast-numbers
overflow_cast-numbers c =
    omega (
      arith,
      rows-number c.args.width c.args.numbers.now c.requires.whole.0 c.requires.width c.requires.whole.1,
      c.requires.whole.2,
    )

pub returns-clause-ok : goal.returns-clause-ok
returns-clause-ok c rows are =
    let old = c.args.to.now.items in
    let numbers = c.args.numbers.now in
    let all : take c.loop-number.number-index numbers ≡ numbers = take_all c.loop-number.number-index numbers
    (omega arith) in
    c.loop-number.invariant
    ∙ ap₂ (λ (n : ℕ) (xs : List ℕ). old ++ (four_bytes n ++ flat_map four_bytes xs))
    (rows-number c.args.width numbers rows c.requires.width are) (all ∙ sym are.flat)
    ∙ ap (λ (xs : List ℕ). old ++ (four_bytes (length rows) ++ xs)) (rows-flat four_bytes rows)
