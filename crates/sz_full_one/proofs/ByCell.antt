-- Entries by cells: what filing adds, and what a walk along the entries of one key finds.
use Rattle.std.proofs.Common.{inl, inr, true≢false, ◌≡◌, ◌≢◌, ℕ, zero, suc, ◌+◌, ◌-◌, ◌<◌, ◌≤◌, ◌==◌}
use Rattle.std.proofs.Common.{Bool, true, false, ◌&&◌, ◌||◌, List, [], ◌∷◌, ◌++◌, map, Some, None, Option}
use Rattle.std.proofs.Common.{length, take, drop, get_or, refl, sym, ap, ap₂, subst, ◌∙◌, arith, append-nil}
use Rattle.std.proofs.Common.{append_assoc, length-append}
use Rattle.std.specs.List.{list_any, range_with_len, flat_map}
use Rattle.std.proofs.lemmas.List.FromFn.{map-range_with_len_more, length-range_with_len}
use Rattle.std.proofs.lemmas.List.Concat.{flat_map-append}
use Rattle.std.proofs.lemmas.List.{take_more}
use Rattle.sz_cells.specs.declared.Run.{Run}
use Rattle.sz_cells.specs.Runs.{indexes_of}
use Rattle.sz_tables.specs.Filed.{Filed, Files}
use Rattle.sz_full_one.specs.ByCells.{under, by_cells, by_numbers, with_filed}

-- ---- entries filed one after another

-- no key more changes nothing
pub filed-none : (f : Files) (item : ℕ) → f ≡ with_filed f [] item
filed-none f item =
    let make : List Filed → ℕ → Files = λ es room. record f { entries = es; spare = room } in
    let same : f.spare ≡ f.spare - 0 = omega arith in
    ap₂ make (sym (append-nil f.entries)) same

-- keys filed after keys
under-append : (ks more : List ℕ) (item : ℕ) → under (ks ++ more) item ≡ under ks item ++ under more item
under-append [] more item = refl
under-append (k ∷ ks) more item = ap (λ (es : List Filed). record { key = k; item = item } ∷ es)
    (under-append ks more item)

pub filed-more : (f : Files) (ks more : List ℕ) (item : ℕ) → with_filed (with_filed f ks item) more item
    ≡ with_filed f (ks ++ more) item
filed-more f ks more item =
    let make : List Filed → ℕ → Files = λ es room. record f { entries = es; spare = room } in
    let room : f.spare - length ks - length more ≡ f.spare - length (ks ++ more) =
    omega (arith, length-append ks more) in
    ap₂ make (append_assoc f.entries (under ks item) (under more item) ∙ ap (λ (es : List Filed). f.entries ++ es)
    (sym (under-append ks more item))) room

-- a range with one number more
range-more : (a n j : ℕ) → a + n ≡ j → range_with_len a (n + 1) ≡ range_with_len a n ++ j ∷ []
range-more a zero j at = let same : a ≡ j = omega arith in ap (λ (k : ℕ). k ∷ []) same
range-more a (suc n) j at =
    let more : suc n + 1 ≡ suc (n + 1) = omega arith in
    rw more (ap (λ (ks : List ℕ). a ∷ ks) (range-more (a + 1) n j (omega arith)))

-- one key more
pub filed-next : (f so_far new : Files) (a n i item : ℕ) → so_far ≡ with_filed f (range_with_len a n) item
    → new ≡ with_filed so_far (i ∷ []) item → a + n ≡ i → new ≡ with_filed f (range_with_len a (n + 1)) item
filed-next f so_far new a n i item before more at =
    more
    ∙ ap (λ (g : Files). with_filed g (i ∷ []) item) before
    ∙ filed-more f (range_with_len a n) (i ∷ []) item
    ∙ ap (λ (ks : List ℕ). with_filed f ks item) (sym (range-more a n i at))

-- room is left while fewer keys are filed than there was room for
pub room-left : (f so_far : Files) (keys : List ℕ) (item n : ℕ) → so_far ≡ with_filed f keys item
    → length keys + n ≤ f.spare → n ≤ so_far.spare
room-left f so_far keys item n before room = let spare = ap (λ (g : Files). g.spare) before in omega arith

-- one run more
pub filed-run : (f so_far new : Files) (runs : List Run) (i item : ℕ) (d : Run) → i < length runs
    → so_far ≡ with_filed f (flat_map indexes_of (take i runs)) item
    → new ≡ with_filed so_far (indexes_of (get_or runs i d)) item
    → new ≡ with_filed f (flat_map indexes_of (take (i + 1) runs)) item
filed-run f so_far new runs i item d inside before more =
    let all : flat_map indexes_of (take (i + 1) runs) ≡ flat_map indexes_of (take i runs) ++ indexes_of
    (get_or runs i d) =
    rw (take_more runs i d inside, flat_map-append indexes_of (take i runs) (get_or runs i d ∷ []))
    (ap (λ (ks : List ℕ). flat_map indexes_of (take i runs) ++ ks) (append-nil (indexes_of (get_or runs i d)))) in
    more
    ∙ ap (λ (g : Files). with_filed g (indexes_of (get_or runs i d)) item) before
    ∙ filed-more f (flat_map indexes_of (take i runs)) (indexes_of (get_or runs i d)) item
    ∙ ap (λ (ks : List ℕ). with_filed f ks item) (sym all)
