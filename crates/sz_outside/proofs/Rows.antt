-- Small cases worked by hand, each the same as what the definitions compute, and cases that they must refuse.
--
-- The key idea: on written-out bytes every definition is a computation, so a row that holds is its own proof, and
-- a row that does not holds two different values equal.
use Rattle.std.proofs.Common.{◌≡◌, ℕ, zero, suc, ◌-◌, ◌^◌, true, false, List, [], ◌∷◌}
use Rattle.std.proofs.Common.{Some, None, refl, arith}
use Rattle.sz_outside.specs.Counts.{count_after}
use Rattle.sz_outside.specs.Memory.{fails_next, Supply, bytes_given, Tape, tape_after}
use Rattle.sz_outside.specs.Outside.{Rose, Gives, Keeps, Says, SaysPart}

-- a count goes up by one, and stands still at the end of its type
pub first_fault : count_after 0 ≡ 1
first_fault = refl

pub last_fault : count_after (2 ^ 64 - 2) ≡ 2 ^ 64 - 1
last_fault = refl

pub fault-past_last : count_after (2 ^ 64 - 1) ≡ 2 ^ 64 - 1
fault-past_last = refl

-- a count that stood still before its end did not rise
pub rose : Rose 3 4
rose = omega arith

pub rose-at_end : Rose (2 ^ 64 - 1) (2 ^ 64 - 1)
rose-at_end = omega arith

pub stood-before_end : Rose (2 ^ 64 - 2) (2 ^ 64 - 2) → ⊥
stood-before_end h = omega (arith, h)

-- calls are numbered from 1: of these the second and the third fail
pub first_call : fails_next (2 ∷ 3 ∷ []) 0 ≡ false
first_call = refl

pub second_call : fails_next (2 ∷ 3 ∷ []) 1 ≡ true
second_call = refl

pub third_call : fails_next (2 ∷ 3 ∷ []) 2 ≡ true
third_call = refl

pub fourth_call : fails_next (2 ∷ 3 ∷ []) 3 ≡ false
fourth_call = refl

-- three bytes, of which a read gives at most `chunk`
abbrev three : ℕ → Supply
three chunk = record { left = 7 ∷ 8 ∷ 9 ∷ []; chunk = chunk }

-- a read gives as many as are left, as there is room for, and as one read may give
pub given-by_chunk : bytes_given (three 2) 8 ≡ 2
given-by_chunk = refl

pub given-by_room : bytes_given (three 2) 1 ≡ 1
given-by_room = refl

pub given-by_rest : bytes_given (three 5) 8 ≡ 3
given-by_rest = refl

-- a tape of three bytes whose second read fails
abbrev tape : ℕ → ℕ → List ℕ → Tape
tape reads faults left = record {
  supply = record { left = left; chunk = 2 };
  fails = 2 ∷ [];
  reads = reads;
  faults = faults;
}

-- the first read gives two bytes, the second fails and gives none, the third gives the last
pub first_read : tape_after (tape 0 0 (7 ∷ 8 ∷ 9 ∷ [])) 8 ≡ tape 1 0 (9 ∷ [])
first_read = refl

pub second_read : tape_after (tape 1 0 (9 ∷ [])) 8 ≡ tape 2 1 (9 ∷ [])
second_read = refl

pub third_read : tape_after (tape 2 1 (9 ∷ [])) 8 ≡ tape 3 1 []
third_read = refl

-- two of three bytes, the next ones, and then one is left
pub gives_two : Gives (Some (7 ∷ 8 ∷ 9 ∷ [])) (Some (9 ∷ [])) (7 ∷ 8 ∷ 0 ∷ []) 2
gives_two = record { left = refl; fits = omega arith; bytes = refl; end = λ room none. absurd (omega (arith, none)) }

-- not other bytes, not more than are left, none lost, and none only at the end
pub gives_others : Gives (Some (7 ∷ 8 ∷ 9 ∷ [])) (Some (9 ∷ [])) (7 ∷ 7 ∷ 0 ∷ []) 2 → ⊥
gives_others h = let e = h.bytes in cc

pub gives_too_many : Gives (Some (7 ∷ [])) (Some []) (7 ∷ 8 ∷ []) 2 → ⊥
gives_too_many h = omega (arith, h.fits)

pub gives_and_loses : Gives (Some (7 ∷ 8 ∷ 9 ∷ [])) (Some (9 ∷ [])) (7 ∷ 0 ∷ []) 1 → ⊥
gives_and_loses h = let e = h.left in cc

pub gives_none_early : Gives (Some (7 ∷ [])) (Some (7 ∷ [])) (0 ∷ []) 0 → ⊥
gives_none_early h = let e = h.end (omega arith) refl in cc

pub gives_none_without_room : Gives (Some (7 ∷ [])) (Some (7 ∷ [])) [] 0
gives_none_without_room =
    record { left = refl; fits = omega arith; bytes = refl; end = λ room none. absurd (omega (arith, room)) }

-- bytes that are told are not lost, nor told no more
pub keeps_fewer : Keeps (Some (7 ∷ [])) (Some []) → ⊥
keeps_fewer h = let e = h in cc

pub keeps_untold : Keeps (Some (7 ∷ [])) None → ⊥
keeps_untold h = let e = h in cc

-- bytes are said behind the others, all of them
pub says_two : Says (Some (7 ∷ [])) (Some (7 ∷ 8 ∷ 9 ∷ [])) (8 ∷ 9 ∷ [])
says_two = refl

pub says_in_front : Says (Some (7 ∷ [])) (Some (8 ∷ 9 ∷ 7 ∷ [])) (8 ∷ 9 ∷ []) → ⊥
says_in_front h = let e = h in cc

pub says_one_of_two : Says (Some (7 ∷ [])) (Some (7 ∷ 8 ∷ [])) (8 ∷ 9 ∷ []) → ⊥
says_one_of_two h = let e = h in cc

-- a part is the first of them, from none to all
pub says_part_none : SaysPart (Some (7 ∷ [])) (Some (7 ∷ [])) (8 ∷ 9 ∷ [])
says_part_none = (0, omega arith, refl)

pub says_part_all : SaysPart (Some (7 ∷ [])) (Some (7 ∷ 8 ∷ 9 ∷ [])) (8 ∷ 9 ∷ [])
says_part_all = (2, omega arith, refl)

pub says_part_last : SaysPart (Some []) (Some (9 ∷ [])) (8 ∷ 9 ∷ []) → ⊥
says_part_last (zero, fits, e) = let f = e in cc
says_part_last (suc n, fits, e) = let f = e in cc
