-- Rows of splits, joins and turns: what each counts, and that a turn in which a pass was split off is none.
use Rattle.std.proofs.Common.{◌≡◌, ℕ, zero, suc, List, [], ◌∷◌, true, false, refl, ap, sym, arith, None}
use mathlib.Core.Bool.{true≢false}
use mathlib.Core.Option.{Option, none, some}
use lib.ListN.{get_elem?}
use Rattle.atomic_table.specs.Seated.{TableId}
use Rattle.sz_shelf.specs.declared.rule.View.{View}
use Rattle.sz_shelf.specs.Rule.{Table, spent_view}
use Rattle.sz_shelf.specs.Changes.{IsSplit, IsJoined}
use Rattle.sz_shelf.specs.Passes.{TookTurn, onlooker, with_split, split_off}
use Rattle.sz_shelf.proofs.RowsSteps.{idle, done, placed, table, one-piece}

-- the table in which one piece is placed and nobody is in a turn, with these seats
abbrev seats : List View → Table
seats views = table 0 1 (some placed) views

-- a split is counted, and the new seat knows the same and made no step
splits-off : IsSplit 0 done (seats (done ∷ []))
    (seats (record done { splits = 1 } ∷ record done { turns = 0 } ∷ []))
splits-off = record { words = refl; homes = refl; before = refl; views = refl }

-- a seat more that nobody counts is no split
splits-unseen : IsSplit 0 done (seats (done ∷ [])) (seats (done ∷ record done { turns = 0 } ∷ [])) → ⊥
splits-unseen is = absurd (omega (arith, ap first is.views)) where
  first : List View → ℕ
  first [] = 0
  first (v ∷ views) = v.splits

-- a join adds up what both counted, and a kept seat that leaves out a turn of the other is none
abbrev other : View
other = record done { turns = 2; loads = 3; splits = 4 }

elsewhere : (joined : View) (n : ℕ) → ¬ (n ≡ 0) → ¬ (n ≡ 1)
    → get_elem? (joined ∷ spent_view ∷ []) n ≡ get_elem? (done ∷ other ∷ []) n
elsewhere joined zero not_kept not_spent = absurd (not_kept refl)
elsewhere joined (suc zero) not_kept not_spent = absurd (not_spent refl)
elsewhere joined (suc (suc n)) not_kept not_spent = refl

joins-up : IsJoined 0 1 done other (seats (done ∷ other ∷ []))
    (seats (record done { turns = 3; loads = 3; splits = 4 } ∷ spent_view ∷ []))
joins-up = record {
  words = refl;
  homes = refl;
  kept_before = refl;
  spent_before = refl;
  kept_after = refl;
  spent_after = (spent_view, refl, refl);
  others = elsewhere record done { turns = 3; loads = 3; splits = 4 };
}

joins-forget : IsJoined 0 1 done other (seats (done ∷ other ∷ [])) (seats (done ∷ spent_view ∷ [])) → ⊥
joins-forget is = absurd (omega (arith, ap turns is.kept_after)) where
  turns : Option View → ℕ
  turns none = 0
  turns (some v) = v.turns

-- a pass takes a turn, in which it places the one piece
takes-turn : (z : TableId) → TookTurn (onlooker z idle None) (onlooker z done None)
takes-turn z = record {
  place = refl;
  turns = refl;
  loads = refl;
  splits = refl;
  found = ([], refl);
  grown = (0 ∷ [], refl);
  begins = (0 ∷ [], refl);
  pieces = one-piece;
  sealed = λ e. absurd (true≢false (sym e));
  saw = λ e. absurd (true≢false (sym e));
  whole = λ e. absurd (true≢false (sym e));
}

-- one off which another was split meanwhile took none, and neither did one that takes two
takes-hidden : (z : TableId) → TookTurn (onlooker z idle None) (with_split (onlooker z done None)) → ⊥
takes-hidden z took = absurd (omega (arith, took.splits))

takes-two : (z : TableId) → TookTurn (onlooker z idle None) (onlooker z record done { turns = 2 } None) → ⊥
takes-two z took = absurd (omega (arith, took.turns))

-- a pass that is split off has made no step, however many the other one made
parts-new : (z : TableId) → split_off (onlooker z other None) ≡ onlooker z record done { turns = 0 } None
parts-new z = refl
