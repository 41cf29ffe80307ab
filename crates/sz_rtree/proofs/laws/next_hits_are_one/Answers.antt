-- Of two different numbers the lower one is a hit, and for the higher one nothing below it is.
use Rattle.std.proofs.Common.{◌≡◌, ◌<◌, Some, None, refl, ap, arith, ⊎_elim}
use Rattle.std.proofs.lemmas.Bool.{cases_lt}
use Rattle.sz_rtree.specs.Laws.{NextHitsAreOne}
use Rattle.sz_rtree.proofs.laws.next_hits_are_one.Goals as goal

next_hits_are_one_law : NextHitsAreOne
next_hits_are_one_law rectangles bounds from None None one other = refl
next_hits_are_one_law rectangles bounds from None (Some m) one other =
    absurd (one m bounds other.0 other.1 (other.2 bounds))
next_hits_are_one_law rectangles bounds from (Some n) None one other =
    absurd (other n bounds one.0 one.1 (one.2 bounds))
next_hits_are_one_law rectangles bounds from (Some n) (Some m) one other =
    let not_below : n < m → ⊥ = λ lt. other.3 n bounds one.0 lt (one.2 bounds) in
    let not_above : m < n → ⊥ = λ lt. one.3 m bounds other.0 lt (other.2 bounds) in
    let same : n ≡ m =
    ⊎_elim (λ lt. absurd (not_below lt))
    (λ ge. ⊎_elim (λ lt. absurd (not_above lt)) (λ le. omega arith) (cases_lt m n))
    (cases_lt n m) in
    ap Some same

pub returns : goal.returns
returns c = next_hits_are_one_law
