-- The laws of asks that end.
--
-- The key idea: what an ask will come to, by all pairs of the shelves on its way, is the same after each event: a
-- place and
-- a seal change no pairs, and a look goes one step of that way. An ask that has ended is where it will come to.
use Rattle.std.proofs.Common.{◌≡◌, ℕ, ◌+◌, ◌≢◌, true}
use Rattle.std.proofs.Common.{not, inl, inr, ◌&&◌, ◌==◌, nat_lt, eqb-true, eq-eqb, get_or-set_other}
use Rattle.std.proofs.Common.{List, [], ◌∷◌, length, drop, map, refl, sym, ap}
use Rattle.std.proofs.Common.{◌∙◌, true≢false, Option, Some, None, is_none}
use Rattle.std.proofs.lemmas.Bool.{cases_Bool, cases_lt}
use Rattle.std.proofs.lemmas.List.{drop_all}
use Rattle.std.proofs.lemmas.Option.{slice_get-map, slice_get-get_or, get_or_from_slice_get}
use Rattle.std.proofs.lemmas.Option.{same_Some}
use Rattle.std.proofs.Math.Seq.{map-set_same}
use Rattle.std.specs.List.{slice_get, flat_map}
use Rattle.std.proofs.lemmas.Grind.{get_or-set_at}
use Rattle.std.proofs.lemmas.List.FromFn.{length-map-range_with_len}
use Rattle.std.proofs.Math.ListN.{get_or-eq_default}
use mathlib.Core.Path.{fun_ext}
use Rattle.sz_spec.specs.Flows.{Graph}
use Rattle.std.specs.Option.{option_map}
use Rattle.sz_cells.specs.Extent.{Extent}
use Rattle.sz_cells.specs.Cells.{Cells}
use Rattle.sz_spec.specs.declared.modes.Dir.{Dir}
use Rattle.sz_spec.specs.Paths.{Step}
use Rattle.sz_core.specs.declared.events.Event.{Event}
use Rattle.sz_core.specs.declared.events.Event.TheVariants.{Place, Seal, Look}
use Rattle.sz_core.specs.declared.events.Told.TheVariants.{FromStore, FromTrace, Ended}
use Rattle.sz_core.specs.declared.pairs.Pair.{Pair}
use Rattle.sz_core.specs.Events.{change_at, after_place, after_seal, after_look, look_reply}
use Rattle.sz_core.specs.Events.{next_step, next_state, last_state}
use Rattle.sz_core.specs.Images.{image_by, image_on, compose_pairs}
use Rattle.sz_core.specs.Laws.{IsSound, StatesAreSound, to_come, NoEventChangesWhatIsToCome}
use Rattle.sz_core.specs.Laws.{EndedAsksHoldTheComposition, OrderDoesNotMatter}
use Rattle.sz_core.specs.Invariants.{AreAllPlaced}
use Rattle.sz_core.specs.Starts.{first_shelf, first_shelves}
use Rattle.sz_core.specs.States.{State, Shelf, Ask, shelf_at, no_shelf, is_placed}
use Rattle.sz_core.specs.States.{missing_piece}
use Rattle.sz_core.proofs.Going.{change-keeps, change-in, change-past, look-after, look-told}
use Rattle.sz_core.proofs.Going.{look-none, steps-left}
use Rattle.sz_core.proofs.Placing.{all-placed, taken-image}
use Rattle.sz_core.proofs.Starting.{shelf-of-node}

-- ---- lists

-- a change that a function does not see leaves what it makes of a list
pub map-change : {A B : Type 0} (g : A → B) (n : ℕ) (f : A → A) (xs : List A) → ((x : A) → g (f x) ≡ g x)
    → map g (change_at n f xs) ≡ map g xs
map-change {A = A} {B = B} g n f xs same = at (slice_get xs n) refl where
  at : (o : Option A) → slice_get xs n ≡ o → map g (change_at n f xs) ≡ map g xs
  at None none = rw none refl
  at (Some x) some =
      rw some (map-set_same g xs n (f x) x (same x ∙ ap g (sym (get_or_from_slice_get xs n x x some))))

-- ---- what the shelves hold

-- the shapes and the pairs of a shelf
abbrev holding_of : Shelf → Extent × List Extent × List (List Pair)
holding_of s = (s.out, s.ins, s.pieces)

place-holding : (k : ℕ) (s : Shelf) → holding_of (after_place k s) ≡ holding_of s
place-holding k s = elim (cases_Bool (nat_lt k (length s.pieces) && (not s.sealed && not (is_placed s k)))) [
  | inl
      t ↦ rw t refl
  | inr f ↦ rw f refl
]

seal-holding : (s : Shelf) → holding_of (after_seal s) ≡ holding_of s
seal-holding s = elim (cases_Bool (is_none (missing_piece s))) [ inl t ↦ rw t refl | inr f ↦ rw f refl ]

-- shelves that hold the same lead to the same cells
compose-same : (dir : Dir) (shelves others : List Shelf) (path : List Step) (cells : Cells)
    → ((n : ℕ) → holding_of (shelf_at others n) ≡ holding_of (shelf_at shelves n))
    → compose_pairs dir others path cells ≡ compose_pairs dir shelves path cells
compose-same dir shelves others [] cells same = refl
compose-same dir shelves others (s ∷ path) cells same =
    let image : Extent × List Extent × List (List Pair)
    → Cells = λ h. image_by (flat_map (λ pairs. pairs) h.2) dir h.0 h.1 s.input cells in
    ap (compose_pairs dir others path) (ap image (same s.node))
    ∙ compose-same dir shelves others path (image_on dir (shelf_at shelves s.node) s.input cells) same

-- ---- sound states

-- a shelf that is sealed has every piece placed
abbrev IsWhole : Shelf → Type 0
IsWhole s = s.sealed ≡ true → AreAllPlaced (length s.pieces) s.placed

place-whole : (k : ℕ) (s : Shelf) → IsWhole s → IsWhole (after_place k s)
place-whole k s whole =
    elim (cases_Bool s.sealed) [
      | inl t ↦
          let same : after_place k s ≡ s =
          rw t (elim (cases_Bool (nat_lt k (length s.pieces))) [ inl u ↦ rw u refl | inr v ↦ rw v refl ]) in
          rw same whole
      | inr f ↦
          let kept : (after_place k s).sealed ≡ s.sealed =
          elim (cases_Bool (nat_lt k (length s.pieces) && (not s.sealed && not (is_placed s k)))) [
            | inl t ↦
                rw t refl
            | inr u ↦ rw u refl
          ] in
          λ sealed. absurd (true≢false (sym sealed ∙ kept ∙ f))
    ]

seal-whole : (s : Shelf) → IsWhole s → IsWhole (after_seal s)
seal-whole s whole = at (missing_piece s) refl where
  at : (o : Option ℕ) → missing_piece s ≡ o → IsWhole (after_seal s)
  at None none = rw none (λ _. all-placed s none)
  at (Some k) some = rw some whole

-- what each shelf keeps, each shelf of a changed list keeps
kept-by-change : (P : Shelf → Type 0) (n m : ℕ) (f : Shelf → Shelf) (xs : List Shelf)
    → ((x : Shelf) → P x → P (f x))
    → ((k : ℕ) → P (shelf_at xs k)) → P (shelf_at (change_at n f xs) m)
kept-by-change P n m f xs keeps all =
    elim (cases_lt n (length xs)) [
      | inr past ↦ rw (change-past n f xs past) (all m)
      | inl within ↦
          let y = f (shelf_at xs n) in
          rw (change-in n f xs no_shelf within) (elim (cases_Bool (m == n)) [
            | inl same ↦ rw (get_or-set_at xs n m y no_shelf (eqb-true m n same) within)
                (keeps (shelf_at xs n) (all n))
            | inr other ↦
                let apart : m ≢ n = λ e. absurd (true≢false (sym (eq-eqb m n e) ∙ other)) in
                rw (get_or-set_other xs n m y no_shelf apart) (all m)
          ])
    ]

sound-next : (s : State) (e : Event) → IsSound s → IsSound (next_state s e)
sound-next s (Place n k) sound = λ m. kept-by-change IsWhole n m (after_place k) s.shelves (place-whole k) sound
sound-next s (Seal n) sound = λ m. kept-by-change IsWhole n m after_seal s.shelves seal-whole sound
sound-next s (Look n) sound = sound

sound-last : (s : State) (events : List Event) → IsSound s → IsSound (last_state s events)
sound-last s [] sound = sound
sound-last s (e ∷ events) sound = sound-last (next_state s e) events (sound-next s e sound)

-- no shelf is sealed before any event
fresh : (g : Graph) (base : List Extent) (pairs : List (List (List Pair))) (n : ℕ)
    → IsWhole (shelf_at (first_shelves g base pairs) n)
fresh g base pairs n =
    elim (cases_lt n (length pairs)) [
      | inl within ↦ rw (shelf-of-node g base pairs n within) (λ sealed. absurd (true≢false (sym sealed)))
      | inr past ↦
          let f = first_shelf g base pairs in
          let none : shelf_at (first_shelves g base pairs) n ≡ no_shelf =
          get_or-eq_default (first_shelves g base pairs) no_shelf
          (rw (length-map-range_with_len f 0 (length pairs)) past) in
          rw none (λ sealed. absurd (true≢false (sym sealed)))
    ]

pub states_lemma : StatesAreSound
states_lemma = (λ flow base pairs queries n. fresh flow base pairs n, λ s events sound. sound-last s events sound)

-- ---- what an ask will come to

-- a look goes one step of the way
look-coming : (shelves : List Shelf) (a : Ask) → ((n : ℕ) → IsWhole (shelf_at shelves n))
    → to_come shelves (after_look shelves a) ≡ to_come shelves a
look-coming shelves a whole = at (next_step a) refl where
  at : (o : Option Step) → next_step a ≡ o → to_come shelves (after_look shelves a) ≡ to_come shelves a
  at None none = ap (to_come shelves) (look-none shelves a none).1
  at (Some p) some =
      let x = shelf_at shelves p.node in
      let path = drop (a.made + 1) a.path in
      ap (to_come shelves) (look-after shelves a p some)
      ∙ ap (compose_pairs a.dir shelves path) (taken-image x a.dir p.input a.cells (whole p.node))
      ∙ sym (ap (λ (steps : List Step). compose_pairs a.dir shelves steps a.cells)
      (steps-left a.path a.made p some))

-- no event changes it
coming-next : (s : State) (e : Event) → IsSound s
    → map (to_come (next_state s e).shelves) (next_state s e).asks ≡ map (to_come s.shelves) s.asks
coming-next s (Place n k) sound =
    ap (λ (g : Ask → Cells). map g s.asks)
    (fun_ext (λ a. compose-same a.dir s.shelves (change_at n (after_place k) s.shelves) (drop a.made a.path) a.cells
    (λ m. change-keeps holding_of n m (after_place k) s.shelves no_shelf (place-holding k))))
coming-next s (Seal n) sound =
    ap (λ (g : Ask → Cells). map g s.asks)
    (fun_ext (λ a. compose-same a.dir s.shelves (change_at n after_seal s.shelves) (drop a.made a.path) a.cells
    (λ m. change-keeps holding_of n m after_seal s.shelves no_shelf seal-holding)))
coming-next s (Look n) sound = map-change (to_come s.shelves) n (after_look s.shelves) s.asks
    (λ a. look-coming s.shelves a sound)

pub coming_lemma : NoEventChangesWhatIsToCome
coming_lemma s [] sound = refl
coming_lemma s (e ∷ events) sound = coming_lemma (next_state s e) events (sound-next s e sound)
    ∙ coming-next s e sound

-- ---- asks that have ended

-- one that is told so has no step left
ended-none : (shelves : List Shelf) (b : Ask) → look_reply shelves b ≡ Ended → next_step b ≡ None
ended-none shelves b told = at (next_step b) refl where
  at : (o : Option Step) → next_step b ≡ o → next_step b ≡ None
  at None none = none
  at (Some p) some =
      elim (cases_Bool (shelf_at shelves p.node).sealed) [
        | inl t ↦ let h : FromStore ≡ Ended = sym (look-told shelves b p some ∙ (rw t refl))
            ∙ told in absurd (cc)
        | inr f ↦ let h : FromTrace ≡ Ended = sym (look-told shelves b p some ∙ (rw f refl))
            ∙ told in absurd (cc)
      ]

-- and is where it will come to
none-left : (path : List Step) (n : ℕ) → slice_get path n ≡ None → drop n path ≡ []
none-left path n none =
    elim (cases_lt n (length path)) [
      | inl within ↦ let d : Step = record { node = 0; input = 0 } in let h = sym none
          ∙ slice_get-get_or path n d within in absurd (cc)
      | inr past ↦ drop_all n path past
    ]

pub ended_lemma : EndedAsksHoldTheComposition
ended_lemma s events n a b sound first last told =
    let s' = last_state s events in
    let none = ended-none s'.shelves b (rw last at told) in
    let same : Some (to_come s'.shelves b) ≡ Some (to_come s.shelves a) =
    sym (slice_get-map (to_come s'.shelves) s'.asks n ∙ ap (option_map (to_come s'.shelves)) last)
    ∙ ap (λ (cs : List Cells). slice_get cs n) (coming_lemma s events sound)
    ∙ slice_get-map (to_come s.shelves) s.asks n ∙ ap (option_map (to_come s.shelves)) first in
    let there : to_come s'.shelves b ≡ b.cells =
    ap (λ (steps : List Step). compose_pairs b.dir s'.shelves steps b.cells) (none-left b.path b.made none) in
    sym there ∙ same_Some (to_come s'.shelves b) (to_come s.shelves a) same

pub order_lemma : OrderDoesNotMatter
order_lemma s events others n a b sound last other told too =
    at (slice_get s.asks n) refl where
      at : (o : Option Ask) → slice_get s.asks n ≡ o → a.cells ≡ b.cells
      at None absent =
          let h = sym (slice_get-map (to_come (last_state s events).shelves) (last_state s events).asks n
          ∙ ap (option_map (to_come (last_state s events).shelves)) last)
          ∙ ap (λ (cs : List Cells). slice_get cs n) (coming_lemma s events sound)
          ∙ slice_get-map (to_come s.shelves) s.asks n ∙ ap (option_map (to_come s.shelves)) absent in
          absurd (cc)
      at (Some first) there = ended_lemma s events n first a sound there last told
          ∙ sym (ended_lemma s others n first b sound there other too)
