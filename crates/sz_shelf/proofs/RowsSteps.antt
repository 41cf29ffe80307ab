-- Rows of steps: each kind of step is one that some seat can take in a table in which the rule holds. A seat takes a
-- whole turn, in which it places the one piece of a lookup, and one more, in which it seals; and another one tries
-- while it is in its turn.
--
-- The key idea: on written-out tables each field of a step is a computation, and the rule is checked once, for one or
-- two seats.
use Rattle.std.proofs.Common.{◌≡◌, ℕ, zero, suc, ◌≤◌, List, [], ◌∷◌, true, false, refl, sym}
use Rattle.std.proofs.Common.{subst, arith, Some, pos, inl, inr}
use mathlib.Core.Bool.{true≢false}
use mathlib.Core.Option.{Option, none, some, some-injective, some-ne-none}
use lib.ListN.{get_elem?}
use Rattle.atomic_table.specs.Table.{step, keeps, takes, gives}
use Rattle.sz_cells.specs.Extent.{flat}
use Rattle.sz_spec.specs.declared.op.Op.TheVariants.{Lookup}
use Rattle.sz_shelf.specs.Tags.{Tag}
use Rattle.sz_shelf.specs.Contents.{Contents}
use Rattle.sz_shelf.specs.declared.rule.View.{View}
use Rattle.sz_shelf.specs.declared.rule.Stage.TheVariants.{InTurn}
use Rattle.sz_shelf.specs.Rule.{Table, IsKept, Knows, ArePieces}
use Rattle.sz_shelf.specs.Rule.{contents, first_view}
use Rattle.sz_shelf.specs.Steps.{IsTry, IsTaking, IsCounting, IsGiving, IsReleasing, IsLoad, after_win}
use Rattle.sz_shelf.specs.Steps.{after_release, after_take, after_count, after_load}
use Rattle.sz_shelf.specs.Changes.{IsStep}
use Rattle.sz_shelf.proofs.Lists.{begins-all, pieces-push}
use Rattle.sz_shelf.proofs.Moves.{first-keeps, only-keeps, knows-idle, counting}

-- the values 1 and 0 looked up in the table 10 20: one piece of two cells
abbrev pub looked : Tag
looked = record {
  site = record { op = Lookup; ins = flat 1 2 ∷ flat 1 2 ∷ []; out = flat 1 2 };
  inputs = record { extent = flat 1 2; values = Some (pos 1) ∷ Some (pos 0) ∷ [] } ∷ record {
    extent = flat 1 2;
    values = Some (pos 10) ∷ Some (pos 20) ∷ [];
  } ∷ [];
  list = [];
}

-- nothing is placed; the piece is; and it is, with the seal
abbrev empty : Contents
empty = contents looked [] false

abbrev pub placed : Contents
placed = contents looked (0 ∷ []) false

abbrev sealed : Contents
sealed = contents looked (0 ∷ []) true

no-pieces : ArePieces looked []
no-pieces = (tt, λ k d h. absurd (omega (arith, h)))

pub one-piece : ArePieces looked (0 ∷ [])
one-piece = pieces-push looked [] 0 no-pieces refl (omega arith)

-- what a seat knows from step to step of the first turn, and of the second
abbrev pub idle : View
idle = first_view looked

abbrev won : View
won = after_win idle

abbrev has_empty : View
has_empty = after_take empty won

abbrev has_placed : View
has_placed = after_count placed has_empty

abbrev gave : View
gave = after_win has_placed

abbrev pub done : View
done = after_release gave

abbrev again : View
again = after_take placed (after_win done)

abbrev has_sealed : View
has_sealed = after_count sealed again

-- a table with one slot and these seats
abbrev pub table : ℕ → ℕ → Option Contents → List View → Table
table flag count slot views = record { words = flag ∷ count ∷ []; homes = slot ∷ []; views = views }

-- ---- the rule holds

never : {X : Type 0} → true ≡ false → X
never e = absurd (true≢false e)

unsealed : {X : Type 0} → false ≡ true → X
unsealed e = never (sym e)

few-none : 0 ≤ 1
few-none = omega arith

few-one : 1 ≤ 1
few-one = omega arith

-- the store is in its slot
idle-kept : IsKept looked (table 0 0 (some empty) (idle ∷ []))
idle-kept = only-keeps idle no-pieces few-none unsealed

won-kept : IsKept looked (table 1 0 (some empty) (won ∷ []))
won-kept = only-keeps won no-pieces few-none unsealed

gave-kept : IsKept looked (table 1 1 (some placed) (gave ∷ []))
gave-kept = only-keeps gave one-piece few-one unsealed

done-kept : IsKept looked (table 0 1 (some placed) (done ∷ []))
done-kept = only-keeps done one-piece few-one unsealed

-- the seat has it
has-kept : IsKept looked (table 1 0 none (has_empty ∷ []))
has-kept = only-keeps has_empty no-pieces few-none unsealed

counted-kept : IsKept looked (table 1 1 none (has_placed ∷ []))
counted-kept = only-keeps has_placed one-piece few-one unsealed

again-kept : IsKept looked (table 1 1 none (again ∷ []))
again-kept = only-keeps again one-piece few-one unsealed

-- a second seat is idle, and knows nothing yet
second-knows : (n : ℕ) (u : View) → get_elem? (idle ∷ []) n ≡ some u → Knows looked [] false 0 InTurn (suc n) u
second-knows zero u at =
    subst (Knows looked [] false 0 InTurn 1) (some-injective idle u at)
    (knows-idle looked [] false 0 InTurn 1 idle refl refl (begins-all []) (λ e. e))
second-knows (suc n) u at = absurd (some-ne-none u (sym at))

pair-kept : IsKept looked (table 1 0 (some empty) (won ∷ idle ∷ []))
pair-kept = first-keeps won (idle ∷ []) no-pieces few-none unsealed second-knows

-- ---- one step of each kind

-- an idle seat wins the turn, and another one, which tries then, does not
pub wins : IsStep looked 0 1 0 (idle, []) (won, []) (table 0 0 (some empty) (idle ∷ []))
    (table 1 0 (some empty) (won ∷ []))
    × IsTry (step 1 0 0 1 none) (idle, []) 0 (won, [])
wins = (
  record { kept = idle-kept; one = refl; seat = refl; act = keeps; valid = tt; carried = refl; after = refl },
  record { word = (refl, refl, refl); idle = refl; win = λ _. refl; loss = λ other. absurd (other refl) },
)

pub loses : IsStep looked 0 1 1 (idle, []) (idle, []) (table 1 0 (some empty) (won ∷ idle ∷ []))
    (table 1 0 (some empty) (won ∷ idle ∷ []))
    × IsTry (step 1 0 0 1 none) (idle, []) 1 (idle, [])
loses = (
  record { kept = pair-kept; one = refl; seat = refl; act = keeps; valid = tt; carried = refl; after = refl },
  record {
    word = (refl, refl, refl);
    idle = refl;
    win = λ free. absurd (omega (arith, free));
    loss = λ _. (refl, refl);
  },
)

-- the seat in its turn takes the store
pub takes-store : IsStep looked 1 0 0 (won, []) (has_empty, (0, empty) ∷ [])
    (table 1 0 (some empty) (won ∷ [])) (table 1 0 none (has_empty ∷ []))
    × IsTaking (step 1 1 0 0 none) (won, []) 0 (has_empty, (0, empty) ∷ [])
takes-store = (
  record { kept = won-kept; one = refl; seat = refl; act = takes 0 empty; valid = refl; carried = refl; after = refl },
  record {
    word = (refl, refl, refl);
    turn = refl;
    store = empty;
    is = record {
      tag = refl;
      begins = ([], refl);
      pieces = no-pieces;
      last = refl;
      whole = λ e. never (sym e);
      saw = λ e. never (sym e);
    };
    after = refl;
  },
)

-- it counts the piece
pub counts-piece : IsStep looked 1 1 0 (has_empty, (0, placed) ∷ []) (has_placed, (0, placed) ∷ [])
    (table 1 0 none (has_empty ∷ [])) (table 1 1 none (has_placed ∷ []))
    × IsCounting (step 1 1 1 0 none) (has_empty, (0, placed) ∷ []) (has_placed, (0, placed) ∷ [])
counts-piece = (
  record { kept = has-kept; one = refl; seat = refl; act = keeps; valid = tt; carried = refl; after = refl },
  counting 1 1 (has_empty, (0, placed) ∷ []) placed refl refl refl
      (inl (0, record { placed = refl; sealed = refl; new = refl; inside = omega arith; few = omega arith })) refl,
)

-- it gives the store back, and ends its turn
pub gives-back : IsStep looked 1 1 0 (has_placed, (0, placed) ∷ []) (gave, []) (table 1 1 none (has_placed ∷ []))
    (table 1 1 (some placed) (gave ∷ []))
    × IsGiving (step 1 1 0 0 none) (has_placed, (0, placed) ∷ []) (gave, [])
gives-back = (
  record { kept = counted-kept; one = refl; seat = refl; act = gives; valid = tt; carried = refl; after = refl },
  record { word = (refl, refl, refl); turn = refl; store = refl; after = refl },
)

pub releases : IsStep looked 0 0 0 (gave, []) (done, []) (table 1 1 (some placed) (gave ∷ []))
    (table 0 1 (some placed) (done ∷ []))
    × IsReleasing (step 1 0 0 0 none) (gave, []) (done, [])
releases = (
  record { kept = gave-kept; one = refl; seat = refl; act = keeps; valid = tt; carried = refl; after = refl },
  record { word = (refl, refl); turn = refl; after = refl },
)

-- out of turn it loads the count, which is not the last one
pub loads : IsStep looked 1 1 0 (done, []) (after_load 1 done, []) (table 0 1 (some placed) (done ∷ []))
    (table 0 1 (some placed) (after_load 1 done ∷ []))
    × IsLoad (step 1 1 0 0 none) (done, []) 1 (after_load 1 done, [])
loads = (
  record { kept = done-kept; one = refl; seat = refl; act = keeps; valid = tt; carried = refl; after = refl },
  record { word = (refl, refl, refl); idle = refl; saw = λ e. never (sym e); after = refl },
)

-- and in its next turn it counts the seal
pub counts-seal : IsStep looked 1 2 0 (again, (0, sealed) ∷ []) (has_sealed, (0, sealed) ∷ [])
    (table 1 1 none (again ∷ [])) (table 1 2 none (has_sealed ∷ []))
    × IsCounting (step 1 1 2 0 none) (again, (0, sealed) ∷ []) (has_sealed, (0, sealed) ∷ [])
counts-seal = (
  record { kept = again-kept; one = refl; seat = refl; act = keeps; valid = tt; carried = refl; after = refl },
  counting 1 2 (again, (0, sealed) ∷ []) sealed refl refl refl
      (inr (record { placed = refl; sealed = refl; whole = refl })) refl,
)
