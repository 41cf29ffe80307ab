-- The key idea: a table that takes a set has its old sets at their numbers, so what was named stays named.
use Rattle.std.proofs.Common.{◌≡◌, ℕ, ◌+◌, ◌<◌, ◌≤◌, List, [], ◌∷◌, ◌++◌, Some, None, map, length, get_or, take}
use Rattle.std.proofs.Common.{drop, set}
use Rattle.std.proofs.Common.{refl, sym, ap, ◌∙◌, inl, inr, arith, length-append, All, ◌-◌, ◌≢◌}
use Rattle.std.proofs.Common.{get_or-set_other, length-set, length-drop}
use Rattle.std.specs.List.{slice_get, sum_by, concat}
use Rattle.std.proofs.lemmas.Bool.{cases_lt}
use Rattle.std.proofs.lemmas.Option.{slice_get_within, unwrap_or-slice_get}
use Rattle.std.proofs.lemmas.List.{get_or-map, get_or_past, same_lists, length-map}
use Rattle.std.proofs.lemmas.List.{take_all, take-append-le, get_or_append_left, get_or-set_same, get_or_push}
use Rattle.std.proofs.lemmas.List.{get_or_default, get_or-drop}
use Rattle.std.proofs.lemmas.List.Sums.{get_or-le-sum_by, sum_by_more}
use Rattle.sz_spec.proofs.FlowOutputs.{slice_get-left}
use Rattle.sz_spec.specs.Values.{no_extent, extent_at}
use Rattle.sz_cells.specs.Cells.{Cells, no_cells}
use Rattle.sz_cells.specs.Extent.{Extent}
use Rattle.sz_tables.specs.Tables.{SetsByNumber, HasAtMostOneMore}
use Rattle.sz_tables.specs.Rows.{set_at, sets_of, runs_in, empty_sets, HasRoomFor, Takes, TakeEach}
use Rattle.sz_tables.specs.Rows.{set_capacities}

-- ---- a list with perhaps one more

-- what stood at a place stands there
pub more-keeps : {X : Type 0} (old new : List X) (x : X) → HasAtMostOneMore old new x → (n : ℕ) (y : X)
    → slice_get old n ≡ Some y → slice_get new n ≡ Some y
more-keeps old new x (inl same) n y here = rw same here
more-keeps old new x (inr more) n y here =
    rw more (slice_get-left old (x ∷ []) n (slice_get_within old n y here) ∙ here)

-- it is no shorter, and longer by one at most
pub more-length : {X : Type 0} (old new : List X) (x : X) → HasAtMostOneMore old new x
    → (length old ≤ length new) × (length new ≤ length old + 1)
more-length old new x (inl same) = rw same (omega arith, omega arith)
more-length old new x (inr more) =
    rw (more, length-append old (x ∷ [])) (omega arith, omega arith)

-- ---- elements that are read

-- what is made of the element at a place
pub read-map : {X Y : Type 0} (f : X → Y) (xs : List X) (i : ℕ) (x : X) (y d : Y) → i < length xs → x ≡ get_or xs i x
    → y ≡ f x → get_or (map f xs) i d ≡ y
read-map f xs i x y d inside read is = get_or-map f xs i x d inside ∙ (ap f (sym read) ∙ sym is)

pub read-set : {X : Type 0} (f : X → Cells) (xs : List X) (i : ℕ) (x : X) (s : Cells) → i < length xs
    → x ≡ get_or xs i x → s ≡ f x → set_at (map f xs) i ≡ s
read-set f xs i x s inside read is =
    unwrap_or-slice_get (map f xs) i (no_cells no_extent) ∙ read-map f xs i x s (no_cells no_extent) inside read is

-- the sum so far, and a term
pub read-sum : {X Y : Type 0} (g : Y → ℕ) (f : X → Y) (xs : List X) (i : ℕ) (x : X) (y : Y) → i < length xs
    → x ≡ get_or xs i x → y ≡ f x
    → sum_by g (take (i + 1) (map f xs)) ≡ sum_by g (take i (map f xs)) + g y
read-sum g f xs i x y inside read is =
    sum_by_more g (map f xs) i y (omega (arith, length-map xs f))
    ∙ ap (λ (z : _). sum_by g (take i (map f xs)) + g z) (read-map f xs i x y y inside read is)

-- ---- the sets of each table

pub no_sets : SetsByNumber
no_sets = empty_sets no_extent

pub sets-at : (ts : List SetsByNumber) (i : ℕ) (d : SetsByNumber) → i < length ts
    → sets_of (map (λ (t : SetsByNumber). t.sets) ts) i ≡ (get_or ts i d).sets
sets-at ts i d inside =
    unwrap_or-slice_get (map (λ (t : SetsByNumber). t.sets) ts) i [] ∙ get_or-map (λ (t : SetsByNumber). t.sets) ts i d
    [] inside

pub sets-past : (ts : List SetsByNumber) (i : ℕ) → length ts ≤ i
    → sets_of (map (λ (t : SetsByNumber). t.sets) ts) i ≡ []
sets-past ts i past =
    let sets = map (λ (t : SetsByNumber). t.sets) ts in
    unwrap_or-slice_get sets i [] ∙ get_or_past sets i [] (omega (arith, length-map ts (λ (t : SetsByNumber). t.sets)))

-- the shape and the sets of a table that is read
pub read-extent : (ts : List SetsByNumber) (i : ℕ) (t : SetsByNumber) → i < length ts → t ≡ get_or ts i t
    → extent_at (map (λ (t : SetsByNumber). t.extent) ts) i ≡ t.extent
read-extent ts i t inside read =
    unwrap_or-slice_get (map (λ (t : SetsByNumber). t.extent) ts) i no_extent
    ∙ read-map (λ (t : SetsByNumber). t.extent) ts i t t.extent no_extent inside read refl

pub read-sets : (ts : List SetsByNumber) (i : ℕ) (t : SetsByNumber) → i < length ts → t ≡ get_or ts i t
    → sets_of (map (λ (t : SetsByNumber). t.sets) ts) i ≡ t.sets
read-sets ts i t inside read =
    unwrap_or-slice_get (map (λ (t : SetsByNumber). t.sets) ts) i []
    ∙ read-map (λ (t : SetsByNumber). t.sets) ts i t t.sets [] inside read refl

-- tables that take sets keep what has a number
pub each-keeps : (old new : List SetsByNumber) (xs : List Cells) (ns : List ℕ) → TakeEach old new xs ns
    → (i n : ℕ) (s : Cells) → slice_get (sets_of (map (λ (t : SetsByNumber). t.sets) old) i) n ≡ Some s
    → slice_get (sets_of (map (λ (t : SetsByNumber). t.sets) new) i) n ≡ Some s
each-keeps old new xs ns taken i n s here =
    elim (cases_lt i (length old)) [
      | inl inside ↦
          let t = taken.each i no_sets inside in
          let before : slice_get (get_or old i no_sets).sets n ≡ Some s =
          rw (sets-at old i no_sets inside) at here in
          rw (sets-at new i no_sets (omega (arith, taken.as_many)))
          (more-keeps (get_or old i no_sets).sets (get_or new i no_sets).sets (set_at xs i) t.sets n s before)
      | inr past ↦
          let none : None ≡ Some s = rw (sets-past old i past) at here in (cc)
    ]

-- the number that a table gave is that of the set
pub each-named : (old new : List SetsByNumber) (xs : List Cells) (ns : List ℕ) → TakeEach old new xs ns
    → (i : ℕ) → i < length old
    → slice_get (sets_of (map (λ (t : SetsByNumber). t.sets) new) i) (get_or ns i 0) ≡ Some (set_at xs i)
each-named old new xs ns taken i inside =
    rw (sets-at new i no_sets (omega (arith, taken.as_many))) (taken.each i no_sets inside).number

-- no table has fewer sets
pub each-longer : (old new : List SetsByNumber) (xs : List Cells) (ns : List ℕ) → TakeEach old new xs ns
    → (i : ℕ) → i < length old
    → length (sets_of (map (λ (t : SetsByNumber). t.sets) old) i)
    ≤ length (sets_of (map (λ (t : SetsByNumber). t.sets) new) i)
each-longer old new xs ns taken i inside =
    rw (sets-at old i no_sets inside, sets-at new i no_sets (omega (arith, taken.as_many)))
    (more-length (get_or old i no_sets).sets (get_or new i no_sets).sets (set_at xs i)
    (taken.each i no_sets inside).sets).0

-- the shapes are as before
pub each-extent : (old new : List SetsByNumber) (xs : List Cells) (ns : List ℕ) → TakeEach old new xs ns
    → map (λ (t : SetsByNumber). t.extent) new ≡ map (λ (t : SetsByNumber). t.extent) old
each-extent old new xs ns taken =
    same_lists _ _
    (length-map new (λ (t : SetsByNumber). t.extent) ∙ (taken.as_many
    ∙ sym (length-map old (λ (t : SetsByNumber). t.extent))))
    (λ k d below.
    let long = length-map new (λ (t : SetsByNumber). t.extent) in
    let inside : k < length old = omega (arith, taken.as_many) in
    get_or-map (λ (t : SetsByNumber). t.extent) new k no_sets d (omega arith)
    ∙ ((taken.each k no_sets inside).extent
    ∙ sym (get_or-map (λ (t : SetsByNumber). t.extent) old k no_sets d inside)))

-- no table has taken memory
pub each-capacities : (old new : List SetsByNumber) (xs : List Cells) (ns : List ℕ) → TakeEach old new xs ns
    → set_capacities new ≡ set_capacities old
each-capacities old new xs ns taken =
    let own = λ (t : SetsByNumber). t.capacities in
    let same : map own new ≡ map own old =
    same_lists _ _
    (length-map new own ∙ (taken.as_many ∙ sym (length-map old own)))
    (λ k d below.
    let long = length-map new own in
    let inside : k < length old = omega (arith, taken.as_many) in
    get_or-map own new k no_sets d (omega arith)
    ∙ ((taken.each k no_sets inside).capacities ∙ sym (get_or-map own old k no_sets d inside))) in
    ap concat same

-- ---- room

-- a table that took a set has room for one set less, and for so many runs less
pub room-after : (old new : SetsByNumber) (set : Cells) (n rows runs weight : ℕ) → Takes old new set n
    → HasRoomFor rows runs old → runs_in set ≤ weight → HasRoomFor (rows - 1) (runs - weight) new
room-after old new set n rows runs weight taken room light = record {
  for_sets = omega (arith, taken.room, room.for_sets);
  for_runs = omega (arith, taken.runs, room.for_runs);
}

-- a set has no more runs than all of them together
pub set-light : (xs : List Cells) (i weight : ℕ) → i < length xs → sum_by runs_in xs ≤ weight
    → runs_in (set_at xs i) ≤ weight
set-light xs i weight inside light =
    let d = no_cells no_extent in
    let one = get_or-le-sum_by runs_in xs i d inside in
    rw (unwrap_or-slice_get xs i d) (omega arith)

pub each-room : (old new : List SetsByNumber) (xs : List Cells) (ns : List ℕ) (rows runs weight : ℕ)
    → TakeEach old new xs ns → length xs ≡ length old → All (HasRoomFor rows runs) old → sum_by runs_in xs ≤ weight
    → All (HasRoomFor (rows - 1) (runs - weight)) new
each-room old new xs ns rows runs weight taken as_many room light k d below =
    let inside : k < length old = omega (arith, taken.as_many) in
    room-after (get_or old k d) (get_or new k d) (set_at xs k) (get_or ns k 0) rows runs weight
    (taken.each k d inside) (room k d inside) (set-light xs k weight (omega arith) light)

-- the tables have no more sets than before, but for one each
pub each-few : (old new : List SetsByNumber) (xs : List Cells) (ns : List ℕ) (count : ℕ) → TakeEach old new xs ns
    → All (λ (t : SetsByNumber). length t.sets ≤ count) old
    → All (λ (t : SetsByNumber). length t.sets ≤ count + 1) new
each-few old new xs ns count taken few k d below =
    let inside : k < length old = omega (arith, taken.as_many) in
    let longer = more-length (get_or old k d).sets (get_or new k d).sets (set_at xs k) (taken.each k d inside).sets in
    omega (arith, few k d inside)

-- ---- sets and their tables

-- there are as many sets as tables
pub as-many : (xs : List Cells) (ts : List SetsByNumber) → map (λ (s : Cells). s.extent) xs
    ≡ map (λ (t : SetsByNumber). t.extent) ts → length xs ≡ length ts
as-many xs ts same =
    sym (length-map xs (λ (s : Cells). s.extent))
    ∙ (ap length same ∙ length-map ts (λ (t : SetsByNumber). t.extent))

pub read-many : {X : Type 0} (f : X → Cells) (xs : List X) (ts : List SetsByNumber)
    → map (λ (s : Cells). s.extent) (map f xs) ≡ map (λ (t : SetsByNumber). t.extent) ts → length xs ≡ length ts
read-many f xs ts same = sym (length-map xs f) ∙ as-many (map f xs) ts same

-- a set has the shape of its table
pub same-extent : (xs : List Cells) (ts : List SetsByNumber) (i : ℕ) (d : SetsByNumber)
    → map (λ (x : Cells). x.extent) xs ≡ map (λ (t : SetsByNumber). t.extent) ts → i < length ts
    → (set_at xs i).extent ≡ (get_or ts i d).extent
same-extent xs ts i d same inside =
    let long = as-many xs ts same in
    let none = no_cells no_extent in
    ap (λ (x : Cells). x.extent) (unwrap_or-slice_get xs i none)
    ∙ (sym (get_or-map (λ (x : Cells). x.extent) xs i none d.extent (omega arith))
    ∙ (ap (λ (es : List Extent). get_or es i d.extent) same
    ∙ get_or-map (λ (t : SetsByNumber). t.extent) ts i d d.extent inside))

-- ---- one table after another

-- the tables before a place have taken their sets, by the numbers that were appended, and those from there on
-- are as they were
pub record TakenTo (old new : List SetsByNumber) (xs : List Cells) (before names : List ℕ) (i : ℕ) : Type 0 where
  pub as_many : length new ≡ length old
  pub long : length names ≡ length before + i
  pub kept : take (length before) names ≡ before
  pub done : (j : ℕ) (d : SetsByNumber) → j < i
      → Takes (get_or old j d) (get_or new j d) (set_at xs j) (get_or names (length before + j) 0)
  pub ahead : (j : ℕ) (d : SetsByNumber) → i ≤ j → get_or new j d ≡ get_or old j d

pub taken-none : (old : List SetsByNumber) (xs : List Cells) (names : List ℕ) → TakenTo old old xs names names 0
taken-none old xs names = record {
  as_many = refl;
  long = omega arith;
  kept = take_all (length names) names (omega arith);
  done = λ j d none. absurd (omega arith);
  ahead = λ j d h. refl;
}

pub taken-more : (old new : List SetsByNumber) (xs : List Cells) (before names : List ℕ) (i number : ℕ)
    (t d : SetsByNumber) → TakenTo old new xs before names i → i < length old
    → Takes (get_or new i d) t (set_at xs i) number
    → TakenTo old (set new i t) xs before (names ++ number ∷ []) (i + 1)
taken-more old new xs before names i number t d so_far inside takes =
    let long = so_far.long in
    record {
      as_many = length-set new i t ∙ so_far.as_many;
      long = length-append names (number ∷ []) ∙ (omega arith);
      kept = take-append-le (length before) names (number ∷ []) (omega arith) ∙ so_far.kept;
      done =
          λ j e below. elim (cases_lt j i) [
            | inl lower ↦
                let other : j ≢ i = omega arith in
                rw (
                  get_or-set_other new i j t e other,
                  get_or_append_left names (number ∷ []) 0 (length before + j)
                      (omega arith),
                ) (so_far.done j e lower)
            | inr no_lower ↦
                let here : j ≡ i = omega arith in
                let first : get_or old i e ≡ get_or new i d =
                sym (so_far.ahead i e (omega arith)) ∙ get_or_default new i e d (omega (arith, so_far.as_many)) in
                rw (
                  here,
                  get_or-set_same new i t e (omega (arith, so_far.as_many)),
                  get_or_push names number 0 (length before + i) long,
                  first,
                ) takes
          ];
      ahead =
          λ j e h. let other : j ≢ i = omega arith in get_or-set_other new i j t e other
          ∙ so_far.ahead j e (omega arith);
    }

pub taken-all : (old new : List SetsByNumber) (xs : List Cells) (before names : List ℕ)
    → TakenTo old new xs before names (length old) → TakeEach old new xs (drop (length before) names)
taken-all old new xs before names all = record {
  as_many = all.as_many;
  numbers = omega (arith, length-drop (length before) names, all.long);
  each =
      λ i d inside. rw (get_or-drop (length before) names i 0) (all.done i d inside);
}
