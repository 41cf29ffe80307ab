-- What a table has for a number.
use Rattle.std.specs.Prelude.{ℕ, ℤ, List, Option, None, option_and_then, slice_index_or}
use Rattle.sz_spec.specs.Operators.Lookup.{column_of}

-- the value in the column that a number names, of so many: nothing where it names none
abbrev pub entry_of : ℕ → List (Option ℤ) → Option ℤ → Option ℤ
entry_of cols table number = option_and_then (λ k. slice_index_or table k None)
    (option_and_then (column_of cols) number)
