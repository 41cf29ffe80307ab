-- Rows: short numbers and short sets as they are by hand, and bytes on the other side of each edge.
use Rattle.std.proofs.Common.{◌≡◌, ℕ, List, [], ◌∷◌, length, refl, arith}
use Rattle.sz_cells.specs.Extent.{flat}
use Rattle.sz_cells.specs.Cells.{Cells, no_cells}
use Rattle.sz_cells.specs.SetBytes.{set_bytes}
use Rattle.sz_region.specs.Stores.{NoneAt}
use Rattle.sz_short.specs.ShortNumber.{short_within, short_number, IsWithin, IsSmall, number_spelled, IsShortSpelling}
use Rattle.sz_short.specs.ShortSets.{short_run, short_set_bytes, BeginsShortSet, NoShortSetBegins, IsRunFrom}
use Rattle.sz_short.proofs.ShortNumbers.{fits-four, none-past, none-long, none-behind, none-other}
use Rattle.sz_short.specs.ShortStores.{full_word, pay_word}
use Rattle.sz_short.proofs.ShortRuns as runs

-- ---- numbers

one_byte : (short_number 0 ≡ 0 ∷ []) × (short_number 127 ≡ 127 ∷ [])
unfolding short_number short_within
one_byte = (refl, refl)

two_bytes : (short_number 128 ≡ 128 ∷ 1 ∷ []) × (short_number 300 ≡ 172 ∷ 2 ∷ [])
    × (short_number 16383 ≡ 255 ∷ 127 ∷ [])
unfolding short_number short_within
two_bytes = (refl, refl, refl)

more_bytes : (short_number 16384 ≡ 128 ∷ 128 ∷ 1 ∷ []) × (short_number 268435456 ≡ 128 ∷ 128 ∷ 128 ∷ 128 ∷ 1 ∷ [])
    × (short_number 4294967295 ≡ 255 ∷ 255 ∷ 255 ∷ 255 ∷ 15 ∷ [])
unfolding short_number short_within
more_bytes = (refl, refl, refl)

-- the bytes of 80 00 would spell 0 again
spelled_rows : (number_spelled (172 ∷ 2 ∷ []) ≡ 300) × (number_spelled (128 ∷ 0 ∷ []) ≡ 0)
    × (number_spelled (255 ∷ 255 ∷ 255 ∷ 255 ∷ 31 ∷ []) ≡ 8589934591)
spelled_rows = (refl, refl, refl)

are_spellings : IsShortSpelling (0 ∷ []) × IsShortSpelling (128 ∷ 1 ∷ [])
    × IsShortSpelling (255 ∷ 255 ∷ 255 ∷ 255 ∷ 15 ∷ [])
are_spellings = (
  omega arith,
  (omega arith, omega arith, (omega arith, omega arith)),
  (
    omega arith,
    omega arith,
    (omega arith, omega arith, (omega arith, omega arith, (omega arith, omega arith, (omega arith, omega arith)))),
  ),
)

is_no_spelling : IsShortSpelling (128 ∷ 0 ∷ []) → ⊥
is_no_spelling is = omega (arith, is.2.0)

-- of a number of at most five bytes
of-five : (bytes : List ℕ) → NoneAt (IsWithin 4) (short_within 4) bytes 0 → NoneAt IsSmall short_number bytes 0
unfolding short_number
of-five bytes none n rest small spelled = none n rest (fits-four n small) spelled

-- 80 00: the last byte is 0
last_byte_0 : NoneAt IsSmall short_number (128 ∷ 0 ∷ []) 0
unfolding short_within
last_byte_0 =
    of-five (128 ∷ 0 ∷ []) (none-other 3 (128 ∷ 0 ∷ []) 0 2 0 (omega arith) (omega arith)
    (record { small = omega arith; low = omega arith }) (record { spelled = refl; within = omega arith })
    (λ some. absurd (omega arith)))

-- ff ff ff ff 1f: above 2^32
too_large : NoneAt IsSmall short_number (255 ∷ 255 ∷ 255 ∷ 255 ∷ 31 ∷ []) 0
unfolding short_within
too_large =
    of-five (255 ∷ 255 ∷ 255 ∷ 255 ∷ 31 ∷ []) (none-other 3 (255 ∷ 255 ∷ 255 ∷ 255 ∷ 31 ∷ []) 0 5 67108863
    (omega arith) (omega arith) (record { small = omega arith; low = omega arith })
    (record { spelled = refl; within = omega arith }) (λ some. omega arith))

-- a sixth byte
six_bytes : NoneAt IsSmall short_number (128 ∷ 128 ∷ 128 ∷ 128 ∷ 128 ∷ 1 ∷ []) 0
six_bytes =
    let bytes : List ℕ = 128 ∷ 128 ∷ 128 ∷ 128 ∷ 128 ∷ 1 ∷ [] in
    of-five bytes (none-behind 3 bytes 0 (omega arith) (omega arith)
    (none-behind 2 bytes 1 (omega arith) (omega arith) (none-behind 1 bytes 2 (omega arith) (omega arith)
    (none-behind 0 bytes 3 (omega arith) (omega arith) (none-long bytes 4 (omega arith) (omega arith))))))

-- cut short
no_byte : NoneAt IsSmall short_number [] 0
no_byte = of-five [] (none-past 4 [] 0 (omega arith))

one_byte_of_two : NoneAt IsSmall short_number (128 ∷ []) 0
one_byte_of_two =
    of-five (128 ∷ []) (none-behind 3 (128 ∷ []) 0 (omega arith) (omega arith)
    (none-past 3 (128 ∷ []) 1 (omega arith)))

-- ---- sets

-- the runs 5 to 7 and 10 to 10
five_bytes : short_set_bytes (record { extent = flat 3 4; indexes = 5 ∷ 6 ∷ 7 ∷ 10 ∷ [] })
    ≡ 2 ∷ 5 ∷ 2 ∷ 1 ∷ 0 ∷ []
unfolding short_number short_within
five_bytes = refl

-- no run, and runs as near as two can be, from the first index on
few_runs : (short_set_bytes (no_cells (flat 3 4)) ≡ 0 ∷ [])
    × (short_set_bytes (record { extent = flat 3 4; indexes = 0 ∷ 2 ∷ [] }) ≡ 2 ∷ 0 ∷ 0 ∷ 0 ∷ 0 ∷ [])
unfolding short_number short_within
few_runs = (refl, refl)

-- behind another byte, and before one more
one_set_begins : BeginsShortSet (flat 3 4) (255 ∷ 2 ∷ 5 ∷ 2 ∷ 1 ∷ 0 ∷ 9 ∷ []) 1 6
    (record { extent = flat 3 4; indexes = 5 ∷ 6 ∷ 7 ∷ 10 ∷ [] })
unfolding short_number short_within
one_set_begins = record {
  is_set = record {
    extent = refl;
    rising = (
      omega arith,
      omega arith,
      (omega arith, omega arith, (omega arith, omega arith, (omega arith, omega arith, tt))),
    );
  };
  rest = 9 ∷ [];
  spelled = refl;
  ends = refl;
}

-- the last index of a shape of 12 cells
last_cell_begins : BeginsShortSet (flat 3 4) (1 ∷ 11 ∷ 0 ∷ []) 0 3 (record { extent = flat 3 4; indexes = 11 ∷ [] })
unfolding short_number short_within
last_cell_begins = record {
  is_set = record { extent = refl; rising = (omega arith, omega arith, tt) };
  rest = [];
  spelled = refl;
  ends = refl;
}

-- and one behind it
past_the_shape : NoShortSetBegins (flat 3 4) (1 ∷ 11 ∷ 1 ∷ []) 0
unfolding short_number short_within
past_the_shape =
    let bytes : List ℕ = 1 ∷ 11 ∷ 1 ∷ [] in
    let none : NoneAt (IsRunFrom 0 12) (short_run 0) bytes 1 = runs.none-far 0 12 bytes 1 2 3 11 1 (omega arith)
    (omega arith) (omega arith) (record { spelled = refl; within = omega arith })
    (record { spelled = refl; within = omega arith }) (omega arith) in
    runs.none-next (flat 3 4) bytes 0 1 1 1 [] (omega arith) (omega arith)
    (record { spelled = refl; within = omega arith }) tt (record { spelled = refl; within = omega arith }) (omega arith)
    none

-- cut short behind its gap
cut_short : NoShortSetBegins (flat 3 4) (1 ∷ 11 ∷ []) 0
unfolding short_number short_within
cut_short =
    let bytes : List ℕ = 1 ∷ 11 ∷ [] in
    let past : NoneAt IsSmall short_number bytes 2 = λ n rest small spelled.
    none-past 4 bytes 2 (omega arith) n rest (fits-four n small) spelled in
    let none : NoneAt (IsRunFrom 0 12) (short_run 0) bytes 1 = runs.none-behind 0 12 bytes 1 2 11 (omega arith)
    (omega arith) (record { spelled = refl; within = omega arith }) past in
    runs.none-next (flat 3 4) bytes 0 1 1 1 [] (omega arith) (omega arith)
    (record { spelled = refl; within = omega arith }) tt (record { spelled = refl; within = omega arith }) (omega arith)
    none

-- ---- stores

-- `neg` on one cell, one region pair, in both forms
abbrev one_cell : Cells
one_cell = record { extent = flat 1 1; indexes = 0 ∷ [] }

neg_store : (full_word short_set_bytes
    (record { array = 0; set = one_cell } ∷ record { array = 1; set = one_cell } ∷ []) ((0 ∷ 1 ∷ []) ∷ [])
    ≡ 0 ∷ 0 ∷ 0 ∷ 2 ∷ 0 ∷ 1 ∷ 0 ∷ 0 ∷ 1 ∷ 1 ∷ 0 ∷ 0 ∷ 0 ∷ 0 ∷ 0 ∷ 1 ∷ 0 ∷ 0 ∷ 0 ∷ 0 ∷ 0 ∷ 0 ∷ 0 ∷ 1 ∷ [])
    × (length (full_word set_bytes
    (record { array = 0; set = one_cell } ∷ record { array = 1; set = one_cell } ∷ []) ((0 ∷ 1 ∷ []) ∷ [])) ≡ 42)
unfolding short_number short_within
neg_store = (refl, refl)

-- one entry: the payload is the same bytes in both forms
pay_store : (pay_word short_set_bytes ((128 ∷ 0 ∷ []) ∷ []) (one_cell ∷ []) ((0 ∷ 0 ∷ []) ∷ [])
    ≡ 0 ∷ 0 ∷ 0 ∷ 1 ∷ 0 ∷ 0 ∷ 0 ∷ 2 ∷ 128 ∷ 0 ∷ 0 ∷ 0 ∷ 0 ∷ 1 ∷ 1 ∷ 0 ∷ 0 ∷ 0 ∷ 0 ∷ 0 ∷ 1 ∷ 0 ∷ 0 ∷ 0 ∷ 0 ∷ 0 ∷ 0 ∷ 0
    ∷ 0 ∷ [])
    × (pay_word set_bytes ((128 ∷ 0 ∷ []) ∷ []) (one_cell ∷ []) ((0 ∷ 0 ∷ []) ∷ [])
    ≡ 0 ∷ 0 ∷ 0 ∷ 1 ∷ 0 ∷ 0 ∷ 0 ∷ 2 ∷ 128 ∷ 0 ∷ 0 ∷ 0 ∷ 0 ∷ 1 ∷ 0 ∷ 0 ∷ 0 ∷ 1 ∷ 0 ∷ 0 ∷ 0 ∷ 0 ∷ 0 ∷ 0 ∷ 0 ∷ 0 ∷ 0 ∷ 0
    ∷ 0 ∷ 1 ∷ 0 ∷ 0 ∷ 0 ∷ 0 ∷ 0 ∷ 0 ∷ 0 ∷ 0 ∷ [])
unfolding short_number short_within
pay_store = (refl, refl)
