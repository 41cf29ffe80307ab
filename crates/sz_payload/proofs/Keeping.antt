-- A store's entries, index and room, when an entry more comes behind the others.
use Rattle.std.proofs.Common.{◌≡◌, ℕ, zero, suc, ◌*◌, ◌<◌, ◌≤◌}
use Rattle.std.proofs.Common.{List, [], ◌∷◌, ◌++◌, length, take, drop, ◌+◌, get_or, append_assoc, length-append}
use Rattle.std.proofs.Common.{refl, sym, ap, subst, ◌∙◌, arith, inl, inr}
use Rattle.std.specs.Prelude.{All, sum_by}
use Rattle.std.proofs.lemmas.List.{take_more, take-append-drop}
use Rattle.std.proofs.lemmas.List.Elements.{All-nil, All-cons, All-head, All-tail}
use Rattle.sz_frame.specs.Fits.{AreApart}
use Rattle.sz_frame.specs.Parts.{Entry}
use Rattle.sz_spec.specs.Shapes.{Site}
use Rattle.sz_tables.specs.Tables.{HasAtMostOneMore}
use Rattle.sz_tables.proofs.Counted.{rest-more}
use Rattle.sz_tables.proofs.Counting.{apart-front}
use Rattle.sz_payload.specs.declared.owner.Owner.{Owner}
use Rattle.sz_payload.specs.declared.owner.Owner.TheVariants.{One, Few, Many}
use Rattle.sz_tables.specs.Rows.{runs_in}
use Rattle.sz_tables.specs.Stores.{cells_in, most_given}
use Rattle.sz_payload.specs.Kept.{IsEntryOf}
use Rattle.sz_payload.specs.Owned.{HasCellRoom, cell_room, room_in}

-- ---- one payload more at most

pub all-end : {X : Type 0} (P : X → Type 0) (xs : List X) (x : X) → All P xs → P x → All P (xs ++ x ∷ [])
all-end P [] x all here = All-cons P x [] here (All-nil P)
all-end P (y ∷ xs) x all here = All-cons P y (xs ++ x ∷ []) (All-head P y xs all) (all-end P xs x (All-tail P y xs all)
    here)

pub all-more : {X : Type 0} (P : X → Type 0) (old new : List X) (x : X) → All P old → HasAtMostOneMore old new x → P x
    → All P new
all-more P old new x all more here =
    elim more [
      | inl same ↦ subst (All P) (sym same) all
      | inr one ↦ subst (All P) (sym one) (all-end P old x all here)
    ]

-- ---- room

pub room-rows : (rows : ℕ) (w : Owner) → room_in rows w ≤ rows
room-rows rows (One slots) = omega arith
room-rows rows (Few files) = omega arith
room-rows rows (Many tree) = omega arith

pub room-one : (rows : ℕ) (w : Owner) → 0 < room_in rows w → 0 < room_in 1 w
room-one rows (One slots) some = omega arith
room-one rows (Few files) some = omega arith
room-one rows (Many tree) some = omega arith

-- room for so many cells in the index, and that for the cells that are left where there is room for their runs
pub room-cells : (runs cells : ℕ) (w : Owner) → cells ≤ cell_room runs w → HasCellRoom cells w
room-cells runs cells (One slots) room = tt
room-cells runs cells (Few files) room = room
room-cells runs cells (Many tree) room = tt

pub cells-left : (runs cells : ℕ) (w : Owner) → cells ≤ runs * 1048576 → HasCellRoom cells w
    → cells ≤ cell_room runs w
cells-left runs cells (One slots) few room = few
cells-left runs cells (Few files) few room = room
cells-left runs cells (Many tree) few room = few

-- entries none of whose sets has more cells than its runs can
few-head : (es : List Entry) (e : Entry) → All (λ x. cells_in x.out ≤ runs_in x.out * 1048576) (e ∷ es)
    → sum_by (λ x. cells_in x.out) es ≤ sum_by (λ x. runs_in x.out) es * 1048576
    → sum_by (λ x. cells_in x.out) (e ∷ es) ≤ sum_by (λ x. runs_in x.out) (e ∷ es) * 1048576
few-head es e all rest =
    omega (
      arith,
      All-head (λ (x : Entry). cells_in x.out ≤ runs_in x.out * 1048576) e es all,
      rest,
      rest-more (λ (x : Entry). cells_in x.out) (e ∷ es) 0 e (omega arith, refl),
      rest-more (λ (x : Entry). runs_in x.out) (e ∷ es) 0 e (omega arith, refl),
    )

pub few-cells : (i : ℕ) (es : List Entry) → All (λ x. cells_in x.out ≤ runs_in x.out * 1048576) es
    → sum_by (λ x. cells_in x.out) (drop i es) ≤ sum_by (λ x. runs_in x.out) (drop i es) * 1048576
few-cells zero [] all = omega arith
few-cells zero (e ∷ es) all =
    few-head es e all (few-cells zero es (All-tail (λ (x : Entry). cells_in x.out ≤ runs_in x.out * 1048576) e es all))
few-cells (suc i) [] all = omega arith
few-cells (suc i) (e ∷ es) all =
    few-cells i es (All-tail (λ (x : Entry). cells_in x.out ≤ runs_in x.out * 1048576) e es all)

-- a front part is no longer than it was asked
pub front-long : {X : Type 0} (n : ℕ) (xs : List X) → length (take n xs) ≤ n
front-long zero xs = omega arith
front-long (suc n) [] = omega arith
front-long (suc n) (x ∷ xs) = omega (arith, front-long n xs)

-- ---- one entry after another

-- an entry that comes next behind those given so far
pub record IsNext (s : Site) (front es given : List Entry) (i : ℕ) (e : Entry) : Type 0 where
  pub few : length given < most_given
  pub entry : IsEntryOf s e
  pub apart : AreApart (given ++ e ∷ [])
  pub onward : given ++ e ∷ [] ≡ front ++ take (i + 1) es

pub next-entry : (s now : Site) (front es given : List Entry) (i : ℕ) (e : Entry)
    → (i < length es) × (get_or es i e ≡ e) → length front + length es ≤ most_given → All (IsEntryOf s) es
    → AreApart (front ++ es) → now ≡ s → given ≡ front ++ take i es → IsNext now front es given i e
next-entry s now front es given i e there few entries apart site so_far =
    let more : take (i + 1) es ≡ take i es ++ e ∷ [] =
    take_more es i e there.0 ∙ ap (λ (x : Entry). take i es ++ x ∷ []) there.1 in
    let onward : given ++ e ∷ [] ≡ front ++ take (i + 1) es =
    ap (λ (xs : List Entry). xs ++ e ∷ []) so_far ∙ append_assoc front (take i es) (e ∷ [])
    ∙ ap (λ (xs : List Entry). front ++ xs) (sym more) in
    let whole : front ++ es ≡ (front ++ take (i + 1) es) ++ drop (i + 1) es =
    ap (λ (xs : List Entry). front ++ xs) (sym (take-append-drop (i + 1) es))
    ∙ sym (append_assoc front (take (i + 1) es) (drop (i + 1) es)) in
    record {
      few = omega (arith, there.0, few, ap length so_far, length-append front (take i es), front-long i es);
      entry = subst (λ (t : Site). IsEntryOf t e) (sym site) (subst (IsEntryOf s) there.1 (entries i e there.0));
      apart = subst AreApart (sym onward)
          (apart-front (front ++ take (i + 1) es) (drop (i + 1) es) (subst AreApart whole apart));
      onward = onward;
    }
