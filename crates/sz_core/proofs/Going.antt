-- What follows of asks that can go on, and of shelves that events change.
--
-- The key idea: whether a path can be taken is told by the shapes of the shelves alone, and no event changes those.
use Rattle.std.proofs.Common.{◌≡◌, ℕ, ◌+◌, ◌<◌, ◌≤◌, ◌≢◌}
use Rattle.std.proofs.Common.{not, inl, inr, ◌&&◌, ◌==◌, nat_lt, List, [], ◌∷◌, length, length-set}
use Rattle.std.proofs.Common.{drop, get_or, set, refl, sym, ap, ap₂, ◌∙◌, true≢false}
use Rattle.std.proofs.Common.{eqb-true, eq-eqb, add-one, drop-cons, get_or-set_other, Option, Some}
use Rattle.std.proofs.Common.{None, is_none, All, if◌then◌else◌, Result, Ok, Err, OnOk, OnErr}
use Rattle.std.proofs.lemmas.Bool.{cases_Bool, cases_lt}
use Rattle.std.proofs.lemmas.Grind.{get_or-set_at}
use Rattle.std.proofs.lemmas.Option.{slice_get-get_or, slice_get_past, slice_get_within}
use Rattle.std.proofs.lemmas.Option.{get_or_from_slice_get}
use Rattle.std.proofs.lemmas.List.{get_or_default}
use Rattle.std.specs.List.{slice_get}
use Rattle.std.specs.Option.{option_map}
use Rattle.sz_cells.specs.Extent.{Extent}
use Rattle.sz_cells.specs.Cells.{Cells}
use Rattle.sz_spec.specs.declared.modes.Dir.{Dir}
use Rattle.sz_spec.specs.declared.modes.Dir.TheVariants.{Back, Forward}
use Rattle.sz_spec.specs.Paths.{Step}
use Rattle.sz_core.specs.declared.pairs.Pair.{Pair}
use Rattle.sz_core.specs.Events.{change_at, after_place, after_seal, next_step, step_on, look_reply}
use Rattle.sz_core.specs.Events.{after_look}
use Rattle.sz_core.specs.declared.events.Told.TheVariants.{FromStore, FromTrace, Ended}
use Rattle.sz_core.specs.Steps.{step_of}
use Rattle.sz_spec.specs.Sides.{extent_before, extent_after}
use Rattle.sz_core.specs.Images.{image_by}
use Rattle.sz_core.specs.Invariants.{IsStepFrom, LiesAlong, CanGoOn, extent_beyond}
use Rattle.sz_core.specs.States.{Shelf, Ask, shelf_at, no_shelf, is_placed, missing_piece}
use Rattle.sz_core.specs.States.{pairs_taken}

-- ---- a list that is changed at one place

pub change-in : {A : Type 0} (n : ℕ) (f : A → A) (xs : List A) (d : A) → n < length xs
    → change_at n f xs ≡ set xs n (f (get_or xs n d))
change-in n f xs d within = rw (slice_get-get_or xs n d within) refl

pub change-past : {A : Type 0} (n : ℕ) (f : A → A) (xs : List A) → length xs ≤ n → change_at n f xs ≡ xs
change-past n f xs past = rw (slice_get_past xs n past) refl

-- it is as long as before
pub length-change : {A : Type 0} (n : ℕ) (f : A → A) (xs : List A) (d : A)
    → length (change_at n f xs) ≡ length xs
length-change n f xs d =
    elim (cases_lt n (length xs)) [
      | inr past ↦ ap length (change-past n f xs past)
      | inl within ↦ ap length (change-in n f xs d within) ∙ length-set xs n (f (get_or xs n d))
    ]

-- what the change keeps of the element at its place is as before of each
pub change-keeps-at : {A B : Type 0} (g : A → B) (n m : ℕ) (f : A → A) (xs : List A) (d : A)
    → g (f (get_or xs n d)) ≡ g (get_or xs n d)
    → g (get_or (change_at n f xs) m d) ≡ g (get_or xs m d)
change-keeps-at g n m f xs d keeps =
    elim (cases_lt n (length xs)) [
      | inr past ↦ ap (λ ys. g (get_or ys m d)) (change-past n f xs past)
      | inl within ↦
          let y = f (get_or xs n d) in
          ap (λ ys. g (get_or ys m d)) (change-in n f xs d within) ∙ elim (cases_Bool (m == n)) [
            | inl same ↦
                let e : m ≡ n = eqb-true m n same in
                ap g (get_or-set_at xs n m y d e within) ∙ keeps ∙ ap (λ (j : ℕ). g (get_or xs j d)) (sym e)
            | inr other ↦
                let apart : m ≢ n = λ e. absurd (true≢false (sym (eq-eqb m n e) ∙ other)) in
                ap g (get_or-set_other xs n m y d apart)
          ]
    ]

-- the same of a change that keeps it of every element
pub change-keeps : {A B : Type 0} (g : A → B) (n m : ℕ) (f : A → A) (xs : List A) (d : A)
    → ((x : A) → g (f x) ≡ g x)
    → g (get_or (change_at n f xs) m d) ≡ g (get_or xs m d)
change-keeps g n m f xs d keeps = change-keeps-at g n m f xs d (keeps (get_or xs n d))

-- ---- shelves keep their shapes

-- the shapes of the shelf
abbrev pub shapes_of : Shelf → Extent × List Extent
shapes_of s = (s.out, s.ins)

pub place-shapes : (k : ℕ) (s : Shelf) → shapes_of (after_place k s) ≡ shapes_of s
place-shapes k s = elim (cases_Bool (nat_lt k (length s.pieces) && (not s.sealed && not (is_placed s k)))) [
  | inl t ↦
      rw t refl
  | inr f ↦ rw f refl
]

pub seal-shapes : (s : Shelf) → shapes_of (after_seal s) ≡ shapes_of s
seal-shapes s = elim (cases_Bool (is_none (missing_piece s))) [ inl t ↦ rw t refl | inr f ↦ rw f refl ]

-- a path that can be taken over shelves can be taken over others of the same shapes
pub along-same : (dir : Dir) (shelves others : List Shelf) (e : Extent) (path : List Step)
    → length others ≡ length shelves
    → ((n : ℕ) → shapes_of (shelf_at others n) ≡ shapes_of (shelf_at shelves n))
    → LiesAlong dir shelves e path → LiesAlong dir others e path
along-same dir shelves others e [] long same along = tt
along-same dir shelves others e (s ∷ path) long same along =
    let out : (shelf_at others s.node).out ≡ (shelf_at shelves s.node).out =
    ap (λ (x : Extent × List Extent). x.0) (same s.node) in
    let ins : (shelf_at others s.node).ins ≡ (shelf_at shelves s.node).ins =
    ap (λ (x : Extent × List Extent). x.1) (same s.node) in
    let beyond : extent_beyond dir others s ≡ extent_beyond dir shelves s =
    ap₂ (λ (o : Extent) (is : List Extent). extent_after dir o is s.input) out ins in (
      record {
        node = rw long along.0.node;
        input = rw ins along.0.input;
        shape = along.0.shape ∙ sym (ap₂ (λ (o : Extent) (is : List Extent). extent_before dir o is s.input) out
            ins);
      },
      rw beyond (along-same dir shelves others (extent_beyond dir shelves s) path long same along.1),
    )

-- so asks that can go on still can, after a change of a shelf that keeps its shapes
pub ready-changed : (shelves : List Shelf) (asks : List Ask) (n : ℕ) (f : Shelf → Shelf)
    → ((s : Shelf) → shapes_of (f s) ≡ shapes_of s)
    → All (CanGoOn shelves) asks → All (CanGoOn (change_at n f shelves)) asks
ready-changed shelves asks n f keeps ready k d within =
    let a = get_or asks k d in
    along-same a.dir shelves (change_at n f shelves) a.cells.extent (drop a.made a.path)
    (length-change n f shelves no_shelf)
    (λ m. change-keeps shapes_of n m f shelves no_shelf keeps) (ready k d within)

-- ---- an ask takes a step

-- the steps that are left, where one is
pub steps-left : (path : List Step) (n : ℕ) (s : Step) → slice_get path n ≡ Some s
    → drop n path ≡ s ∷ drop (n + 1) path
steps-left path n s at =
    let within = slice_get_within path n s at in
    drop-cons path n s within ∙ ap₂ (λ (x : Step) (j : ℕ). x ∷ drop j path)
    (get_or_from_slice_get path n s s at) (sym (add-one n))

-- what holds of the next step
pub ready-step : (shelves : List Shelf) (a : Ask) (s : Step) → CanGoOn shelves a → next_step a ≡ Some s
    → IsStepFrom a.dir shelves a.cells.extent s
ready-step shelves a s ready at = let h = rw (steps-left a.path a.made s at) at ready in h.0

-- an image has the shape beyond the step
pub image-extent : (pairs : List Pair) (dir : Dir) (out : Extent) (ins : List Extent) (i : ℕ) (set : Cells)
    → (image_by pairs dir out ins i set).extent ≡ extent_after dir out ins i
image-extent pairs Back out ins i set = refl
image-extent pairs Forward out ins i set = refl

-- an ask that took a step can go on
pub ready-after : (shelves : List Shelf) (a : Ask) (s : Step) → CanGoOn shelves a → next_step a ≡ Some s
    → CanGoOn shelves (step_on (shelf_at shelves s.node) s.input a)
ready-after shelves a s ready at =
    let x = shelf_at shelves s.node in
    let rest = rw (steps-left a.path a.made s at) at ready in
    rw (image-extent (pairs_taken x) a.dir x.out x.ins s.input a.cells) rest.1

-- the next step, as a pair of numbers
pub step-some : (a : Ask) (p : ℕ × ℕ) (o : Option (ℕ × ℕ)) → o ≡ Some p
    → option_map step_of o ≡ next_step a → next_step a ≡ Some (step_of p)
step-some a p o at same = sym same ∙ ap (option_map step_of) at

-- a shelf that is there
pub shelf-there : (shelves : List Shelf) (n : ℕ) (s : Shelf) → n < length shelves → s ≡ get_or shelves n s
    → s ≡ shelf_at shelves n
shelf-there shelves n s within at = at ∙ get_or_default shelves n s no_shelf within

-- what look is told, and the ask after it, where a step is left
pub look-told : (shelves : List Shelf) (a : Ask) (s : Step) → next_step a ≡ Some s
    → look_reply shelves a ≡ (if (shelf_at shelves s.node).sealed then FromStore else FromTrace)
look-told shelves a s at = rw at refl

pub look-after : (shelves : List Shelf) (a : Ask) (s : Step) → next_step a ≡ Some s
    → after_look shelves a ≡ step_on (shelf_at shelves s.node) s.input a
look-after shelves a s at = rw at refl

-- nothing left
pub look-none : (shelves : List Shelf) (a : Ask) → next_step a ≡ None → (look_reply shelves a ≡ Ended)
    × (after_look shelves a ≡ a)
look-none shelves a at = rw at (refl, refl)

-- an ask that looked can go on
pub ready-looked : (shelves : List Shelf) (a : Ask) → CanGoOn shelves a → CanGoOn shelves (after_look shelves a)
ready-looked shelves a ready = at (next_step a) refl where
  at : (o : Option Step) → next_step a ≡ o → CanGoOn shelves (after_look shelves a)
  at None e = rw (look-none shelves a e).1 ready
  at (Some s) e = rw (look-after shelves a s e) (ready-after shelves a s ready e)

-- what follows both from the one outcome and from the other
pub either-way : {A B X : Type 0} {P Q : Type 0} (r : Result A B) → OnOk r P → OnErr r Q → (P → X)
    → (Q → X) → X
either-way (Ok x) p q one other = one p
either-way (Err e) p q one other = other q

-- asks of which one was changed to one that can go on
pub ready-set : (shelves : List Shelf) (asks : List Ask) (n : ℕ) (a : Ask) → CanGoOn shelves a
    → All (CanGoOn shelves) asks → All (CanGoOn shelves) (set asks n a)
ready-set shelves asks n a ready all k d within =
    let inside : k < length asks = rw (← length-set asks n a) within in
    elim (cases_Bool (k == n)) [
      | inl same ↦
          let e : k ≡ n = eqb-true k n same in
          rw (get_or-set_at asks n k a d e (rw e at inside)) ready
      | inr other ↦
          let apart : k ≢ n = λ e. absurd (true≢false (sym (eq-eqb k n e) ∙ other)) in
          rw (get_or-set_other asks n k a d apart) (all k d inside)
    ]
