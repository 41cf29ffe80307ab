-- The laws of seals: which looks are from a store, and what is not read before the seal.
--
-- The key idea: a look reads of a shelf its shapes, whether it is sealed, and the pairs that a look takes; on a
-- shelf that is
-- not sealed none of these names the placed pieces. And only a seal that is told Sealed seals a shelf.
use Rattle.std.proofs.Common.{◌≡◌, ℕ, ◌+◌, ◌<◌, ◌≢◌, Bool, true, false, not, inl, inr, ◌&&◌}
use Rattle.std.proofs.Common.{◌||◌, ◌==◌, nat_lt, if◌then◌else◌, List, [], ◌∷◌, length, get_or}
use Rattle.std.proofs.Common.{refl, sym, ap, ◌∙◌, true≢false, eqb-true, eq-eqb}
use Rattle.std.proofs.Common.{get_or-set_other, Option, Some, None}
use mathlib.Core.Path.{fun_ext}
use Rattle.std.proofs.lemmas.Bool.{cases_Bool, cases_lt}
use Rattle.std.proofs.lemmas.Grind.{get_or-set_at}
use Rattle.std.proofs.lemmas.Option.{slice_get-get_or}
use Rattle.std.specs.List.{slice_get}
use Rattle.std.specs.Option.{option_map_or}
use Rattle.sz_cells.specs.Extent.{Extent}
use Rattle.sz_spec.specs.Paths.{Step}
use Rattle.sz_core.specs.declared.events.Event.{Event}
use Rattle.sz_core.specs.declared.events.Event.TheVariants.{Place, Seal, Look}
use Rattle.sz_core.specs.declared.events.Told.{Told}
use Rattle.sz_core.specs.declared.events.Told.TheVariants.{FromStore, FromTrace}
use Rattle.sz_core.specs.declared.events.Told.TheVariants.{NoSuch, Ended}
use Rattle.sz_core.specs.declared.pairs.Pair.{Pair}
use Rattle.sz_core.specs.Events.{change_at, after_place, after_seal, seal_reply, after_look}
use Rattle.sz_core.specs.Events.{look_reply, next_step, reply, next_state, last_state}
use Rattle.sz_core.specs.Images.{image_by}
use Rattle.sz_core.specs.Laws.{is_sealed_told, is_seal_of, is_sealed_by, LooksAreFromStoresThatWereSealed}
use Rattle.sz_core.specs.Laws.{PlacedPiecesAreNotReadBeforeTheSeal}
use Rattle.sz_core.specs.States.{State, Shelf, Ask, shelf_at, no_shelf, is_placed, missing_piece}
use Rattle.sz_core.specs.States.{pairs_taken}
use Rattle.sz_core.proofs.Going.{change-in, change-past, change-keeps, change-keeps-at}
use Rattle.sz_core.proofs.Going.{length-change, look-told, look-after, look-none}
use Rattle.sz_core.proofs.Groups.{or-false, or-assoc}

-- ---- what a look reads

-- what a look reads of a shelf
abbrev read_of : Shelf → Extent × List Extent × List Pair × Bool
read_of s = (s.out, s.ins, pairs_taken s, s.sealed)

-- shelves of which it reads the same lead to the same, where that is told by the step and by what is read
look-same : {T : Type 0} (look : List Shelf → T) (ended : T) (step : Step → Extent × List Extent × List Pair × Bool → T)
    (shelves others : List Shelf) (a : Ask)
    → ((l : List Shelf) → next_step a ≡ None → look l ≡ ended)
    → ((l : List Shelf) (p : Step) → next_step a ≡ Some p → look l ≡ step p (read_of (shelf_at l p.node)))
    → ((k : ℕ) → read_of (shelf_at others k) ≡ read_of (shelf_at shelves k))
    → look others ≡ look shelves
look-same {T} look ended step shelves others a ends steps same = at (next_step a) refl where
  at : (o : Option Step) → next_step a ≡ o → look others ≡ look shelves
  at None none = ends others none ∙ sym (ends shelves none)
  at (Some p) some = steps others p some ∙ ap (step p) (same p.node) ∙ sym (steps shelves p some)

-- so to one reply and to one ask
reply-same : (shelves others : List Shelf) (a : Ask)
    → ((k : ℕ) → read_of (shelf_at others k) ≡ read_of (shelf_at shelves k))
    → look_reply others a ≡ look_reply shelves a
reply-same shelves others a =
    look-same (λ l. look_reply l a) Ended (λ p r. if r.3 then FromStore else FromTrace) shelves others a
    (λ l none. (look-none l a none).0) (λ l p some. look-told l a p some)

after-same : (shelves others : List Shelf) (a : Ask)
    → ((k : ℕ) → read_of (shelf_at others k) ≡ read_of (shelf_at shelves k))
    → after_look others a ≡ after_look shelves a
after-same shelves others a =
    look-same (λ l. after_look l a) a
    (λ p r. record a { made = a.made + 1; cells = image_by r.2 a.dir r.0 r.1 p.input a.cells }) shelves others a
    (λ l none. (look-none l a none).1) (λ l p some. look-after l a p some)

pub placed_lemma : PlacedPiecesAreNotReadBeforeTheSeal
placed_lemma s m n placed unsealed =
    let f : Shelf → Shelf = λ x. record x { placed = placed } in
    let others = change_at m f s.shelves in
    let same : (k : ℕ) → read_of (shelf_at others k) ≡ read_of (shelf_at s.shelves k) =
    λ k. change-keeps-at read_of m k f s.shelves no_shelf (rw unsealed refl) in (
      ap (λ (g : Ask → Told). option_map_or g (slice_get s.asks n) NoSuch)
          (fun_ext (λ a. reply-same s.shelves others a same)),
      ap (λ (g : Ask → Ask). change_at n g s.asks) (fun_ext (λ a. after-same s.shelves others a same)),
    )

-- ---- seals

-- a seal of another shelf is none of this one
seal-other : (n m : ℕ) (t : Told) → (m == n) ≡ false → is_seal_of n (Seal m, t) ≡ false
seal-other n m t other = ap (λ (b : Bool). b && is_sealed_told t) other

-- a place seals nothing
place-sealed : (k : ℕ) (s : Shelf) → (after_place k s).sealed ≡ s.sealed
place-sealed k s = elim (cases_Bool (nat_lt k (length s.pieces) && (not s.sealed && not (is_placed s k)))) [
  | inl t ↦
      rw t refl
  | inr f ↦ rw f refl
]

-- a seal seals where it is told so
or-true : (b : Bool) → (b || true) ≡ true
or-true true = refl
or-true false = refl

seal-sealed : (n : ℕ) (s : Shelf) → (n == n) ≡ true
    → (after_seal s).sealed ≡ (s.sealed || is_seal_of n (Seal n, seal_reply s))
seal-sealed n s same = at (missing_piece s) refl where
  at : (o : Option ℕ) → missing_piece s ≡ o
      → (after_seal s).sealed ≡ (s.sealed || is_seal_of n (Seal n, seal_reply s))
  at None none = rw (none, same) (sym (or-true s.sealed))
  at (Some k) some = rw (some, same) (sym (or-false s.sealed))

-- a shelf is sealed after an event where it was, or where the event sealed it
sealed-next : (s : State) (e : Event) (n : ℕ) → n < length s.shelves
    → (shelf_at (next_state s e).shelves n).sealed ≡
    ((shelf_at s.shelves n).sealed || is_seal_of n (e, reply s e))
sealed-next s (Place m k) n within =
    change-keeps (λ x. x.sealed) m n (after_place k) s.shelves no_shelf (place-sealed k)
    ∙ sym (or-false (shelf_at s.shelves n).sealed)
sealed-next s (Look m) n within = sym (or-false (shelf_at s.shelves n).sealed)
sealed-next s (Seal m) n within =
    let x = shelf_at s.shelves n in
    elim (cases_Bool (m == n)) [
      | inl same ↦
          let e : n ≡ m = sym (eqb-true m n same) in
          let here : slice_get s.shelves m ≡ Some x = rw (← e) (slice_get-get_or s.shelves n no_shelf within) in
          let told : reply s (Seal m) ≡ seal_reply x = rw here refl in
          let changed : shelf_at (change_at m after_seal s.shelves) n ≡ after_seal x =
          rw (here, ← e) (get_or-set_at s.shelves n n (after_seal x) no_shelf refl within) in
          ap (λ (y : Shelf). y.sealed) changed ∙ seal-sealed n x (eq-eqb n n refl)
          ∙ ap (λ (t : Told). x.sealed || is_seal_of n (Seal n, t)) (sym told)
          ∙ ap (λ (j : ℕ). x.sealed || is_seal_of n (Seal j, reply s (Seal m))) e
      | inr other ↦
          let apart : n ≢ m = λ e. absurd (true≢false (sym (eq-eqb m n (sym e)) ∙ other)) in
          let kept : shelf_at (change_at m after_seal s.shelves) n ≡ x = elim (cases_lt m (length s.shelves)) [
            | inl inside ↦ ap (λ (xs : List Shelf). get_or xs n no_shelf)
                (change-in m after_seal s.shelves no_shelf inside)
                ∙ get_or-set_other s.shelves m n (after_seal (get_or s.shelves m no_shelf)) no_shelf apart
            | inr past ↦ ap (λ (xs : List Shelf). get_or xs n no_shelf) (change-past m after_seal s.shelves past)
          ] in
          ap (λ (y : Shelf). y.sealed) kept
          ∙ sym (ap (λ b. x.sealed || b) (seal-other n m (reply s (Seal m)) other) ∙ or-false x.sealed)
    ]

-- there are as many shelves after an event
shelves-next : (s : State) (e : Event) → length (next_state s e).shelves ≡ length s.shelves
shelves-next s (Place m k) = length-change m (after_place k) s.shelves no_shelf
shelves-next s (Seal m) = length-change m after_seal s.shelves no_shelf
shelves-next s (Look m) = refl

-- the same of events
sealed-last : (s : State) (events : List Event) (n : ℕ) → n < length s.shelves
    → (shelf_at (last_state s events).shelves n).sealed ≡
    ((shelf_at s.shelves n).sealed || is_sealed_by s events n)
sealed-last s [] n within = sym (or-false (shelf_at s.shelves n).sealed)
sealed-last s (e ∷ events) n within =
    let next = next_state s e in
    sealed-last next events n (rw (shelves-next s e) within)
    ∙ ap (λ b. b || is_sealed_by next events n) (sealed-next s e n within)
    ∙ or-assoc (shelf_at s.shelves n).sealed (is_seal_of n (e, reply s e)) (is_sealed_by next events n)

pub looks_lemma : LooksAreFromStoresThatWereSealed
looks_lemma s events n a p here next within =
    let shelves = (last_state s events).shelves in
    let told : reply (last_state s events) (Look n) ≡ look_reply shelves a = rw here refl in
    told ∙ look-told shelves a p next
    ∙ ap (λ b. if b then FromStore else FromTrace) (sealed-last s events p.node within)
