-- What a fold keeps of the numbers that it has seen.
use Rattle.std.specs.Prelude.{ℕ, ℤ, List, length, Option}
use Rattle.std.specs.List.{reduce, filter_map}
use Rattle.std.specs.Int.{int_min, int_max}
use Rattle.sz_spec.specs.Values.{total}

-- how many numbers there are, their whole sum, and the least and the greatest of them
pub record Summary : Type 0 where
  pub count : ℕ
  pub sum : ℤ
  pub least : Option ℤ
  pub greatest : Option ℤ

abbrev pub summary_of : List ℤ → Summary
summary_of zs = record {
  count = length zs;
  sum = total zs;
  least = reduce int_min zs;
  greatest = reduce int_max zs;
}

-- the numbers among values: an empty value is none
abbrev pub numbers_in : List (Option ℤ) → List ℤ
numbers_in values = filter_map (λ v. v) values
