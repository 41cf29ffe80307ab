-- The longest runs of the bits that are 1 in a row of words.
--
-- The key idea: the runs so far cover the bits that are 1 below a number. The next bit that is 1 and the next after it
-- that is 0 are the ends of one more run, since no bit before the one is 1, and each from there to before the other is.
use Rattle.std.proofs.Common.{◌≡◌, ℕ, ◌+◌, ◌-◌, ◌<◌, ◌≤◌, Bool, true, false}
use Rattle.std.proofs.Common.{◌&&◌, ◌||◌, nat_lt, nat_le, List, [], Some, None, zero, suc}
use Rattle.std.proofs.Common.{refl, sym, ap, subst, ◌∙◌, arith, inl, inr, lt-ltb, le-ltb, le-leb, true≢false}
use Rattle.std.specs.List.{All, find, range_with_len}
use Rattle.std.proofs.lemmas.Bool.{cases_Bool, cases_eq, cases_lt, lt-leb}
use Rattle.std.proofs.Math.Bool.{or-false}
use Rattle.std.proofs.lemmas.Option.{same_Some}
use Rattle.std.proofs.lemmas.List.Elements.{All-nil, All-weaker}
use Rattle.sz_cells.specs.declared.Run.{Run}
use Rattle.sz_cells.specs.Runs.{covers, AreRunsFrom}
use Rattle.sz_cells.specs.Words.{has_bit}
use Rattle.sz_cells.proofs.Runs.{Added}
use Rattle.sz_cells.proofs.WordBits.{IsFirst, NonePasses}

-- the runs are those of the bits that are 1 below a number
pub record RunsTo (words : List ℕ) (runs : List Run) (from : ℕ) : Type 0 where
  pub longest : (bound : ℕ) → ((k : ℕ) → bound ≤ k → has_bit words k ≡ false) → AreRunsFrom 0 bound runs
  pub covered : (k : ℕ) → covers runs k ≡ (nat_lt k from && has_bit words k)
  pub begun : All (λ r. r.first ≤ from) runs

-- what is found in a range is the first number of it that passes
pub find-some : (test : ℕ → Bool) (n a i : ℕ) → find test (range_with_len a n) ≡ Some i → IsFirst test a i
    × (i < a + n)
find-some test zero a i found = cc
find-some test (suc n) a i found =
    elim (cases_Bool (test a)) [
      | inl passes ↦
          let same : a ≡ i = same_Some a i (rw passes at found) in (
            record {
              low = omega arith;
              passes = ap test (sym same) ∙ passes;
              before = λ k low below. absurd
                  (omega arith);
            },
            omega arith,
          )
      | inr fails ↦
          let later = find-some test n (a + 1) i (rw fails at found) in (
            record {
              low = omega (arith, later.0.low);
              passes = later.0.passes;
              before = λ k low below.
                  elim (cases_eq a k) [
                    | inl same ↦ ap test (sym same) ∙ fails
                    | inr other ↦ later.0.before k
                        (omega arith) below
                  ];
            },
            omega (arith, later.1),
          )
    ]

-- where nothing is found, no number of the range passes
pub find-nothing : (test : ℕ → Bool) (n a : ℕ) → find test (range_with_len a n) ≡ None
    → NonePasses test a (a + n)
find-nothing test zero a nothing k low high = absurd (omega arith)
find-nothing test (suc n) a nothing k low high =
    elim (cases_Bool (test a)) [
      | inl passes ↦ let never : Some a ≡ None = rw passes at nothing in cc
      | inr fails ↦
          elim (cases_eq a k) [
            | inl same ↦ ap test (sym same) ∙ fails
            | inr other ↦ find-nothing test n (a + 1) (rw fails at nothing) k (omega arith) (omega arith)
          ]
    ]

-- no bit before the first word that may have one
pub runs-none : (words : List ℕ) (runs : List Run) (from : ℕ) → runs ≡ []
    → ((k : ℕ) → k < from → has_bit words k ≡ false) → RunsTo words runs from
runs-none words runs from none before =
    subst (λ (rs : List Run). RunsTo words rs from) (sym none)
    (record {
      longest = λ bound nothing. tt;
      covered = λ k.
          elim (cases_lt k from) [
            | inl under ↦ sym (rw (before k under) (elim (cases_Bool (nat_lt k from))
                [ inl t ↦ rw t refl | inr f ↦ rw f refl ]))
            | inr over ↦ sym (rw (le-ltb k from over) refl)
          ];
      begun = All-nil (λ r. r.first ≤ from);
    })

-- the numbers that pass below a number, and those of the run from the first of the others on
run-more : (test : ℕ → Bool) (from start gap k : ℕ) → IsFirst test from start → start < gap
    → ((j : ℕ) → start ≤ j → j < gap → test j ≡ true)
    → ((nat_lt k from && test k) || (nat_le start k && nat_le k (gap - 1))) ≡ (nat_lt k gap && test k)
run-more test from start gap k first more ones =
    elim (cases_lt k from) [
      | inl under ↦
          rw (lt-ltb k from under, lt-leb start k (omega (arith, first.low)), lt-ltb k gap (omega (arith, first.low)))
          (or-false (test k))
      | inr over ↦
          elim (cases_lt k start) [
            | inl before ↦ rw (le-ltb k from over, lt-leb start k before, lt-ltb k gap (omega arith))
                (sym (first.before k over before))
            | inr after ↦
                elim (cases_lt k gap) [
                  | inl inside ↦ rw (
                    le-ltb k from over,
                    le-leb start k after,
                    le-leb k (gap - 1) (omega arith),
                    lt-ltb k gap inside,
                  ) (sym (ones k after inside))
                  | inr past ↦ rw (
                    le-ltb k from over,
                    le-leb start k after,
                    lt-leb k (gap - 1) (omega arith),
                    le-ltb k gap past,
                  ) refl
                ]
          ]
    ]

-- the next bits that are 1 are one more run
pub runs-next : (words : List ℕ) (runs new : List Run) (from start gap : ℕ) → RunsTo words runs from
    → IsFirst (has_bit words) from start → start < gap
    → ((k : ℕ) → start ≤ k → k < gap → has_bit words k ≡ true)
    → Added runs new (record { first = start; last = gap - 1 }) → RunsTo words new gap
runs-next words runs new from start gap m first more ones added = record {
  longest = λ bound nothing.
      added.longest bound (m.longest bound nothing)
      (elim (cases_lt (gap - 1) bound) [
        | inl under ↦ under
        | inr over ↦ absurd (true≢false (sym (ones (gap - 1) (omega arith) (omega arith))
            ∙ nothing (gap - 1) over))
      ]);
  covered = λ k. added.added k ∙ ap (λ b. b || (nat_le start k && nat_le k (gap - 1))) (m.covered k)
      ∙ run-more (has_bit words) from start gap k first more ones;
  begun = All-weaker (λ r. r.first ≤ start) (λ r. r.first ≤ gap) (λ r low. omega arith) new added.begun;
}

-- when no bit is left, the runs are those of all bits
pub runs-all : (words : List ℕ) (runs : List Run) (from end : ℕ) → RunsTo words runs from
    → find (has_bit words) (range_with_len from (end - from)) ≡ None
    → ((k : ℕ) → end ≤ k → has_bit words k ≡ false) → (k : ℕ) → covers runs k ≡ has_bit words k
runs-all words runs from end m nothing after k =
    let none = find-nothing (has_bit words) (end - from) from nothing in
    m.covered k
    ∙ (elim (cases_lt k from) [
      | inl under ↦ rw (lt-ltb k from under) refl
      | inr over ↦
          let off : has_bit words k ≡ false =
          elim (cases_lt k end) [ inl inside ↦ none k over (omega arith) | inr past ↦ after k past ] in
          rw (le-ltb k from over) (sym off)
    ])
