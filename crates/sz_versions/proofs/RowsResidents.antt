-- What a session carries, worked by hand on both sides of what the definitions say.
--
-- The key idea: a list that carries too much or too little has another count under some number, and a trail that is not
-- that of its version has another kind of keeping.
use Rattle.std.proofs.Common.{◌≡◌, ℕ, List, [], ◌∷◌, Bool, true, false, refl, sym, ap, arith, true≢false, Some, None}
use Rattle.std.proofs.Common.{◌∙◌}
use Rattle.std.proofs.lemmas.List.Elements.{All-nil}
use Rattle.sz_store.specs.Kept.{NodeLineage}
use Rattle.sz_shelf.specs.Places.{ShelfPlace}
use Rattle.sz_shelf.specs.Passes.{Onlooker}
use Rattle.sz_catalogue.specs.Holdings.{Version, Holdings, no_holdings}
use Rattle.sz_catalogue.specs.Rules.{has_no_version}
use Rattle.sz_versions.specs.Stores.{Keeping, nothing, growing, whole, read, Trail}
use Rattle.sz_versions.specs.Residents.{Resident, IsReadTrail, IsResident, residents_under, AreResidents, logged_in}
use Rattle.sz_versions.specs.Residents.{logged_under, on_shelf, built, given, stored_in, replaced_in, IsStill}
use Rattle.sz_versions.proofs.Residents.{residents-few, residents-one}

-- a trail of one node
abbrev trail_of : Keeping → Trail
trail_of k = record { executions = []; kept = k ∷ [] }

abbrev resident_of : ℕ → Bool → Keeping → Resident
resident_of n b k = record { number = n; logged = b; trail = trail_of k }

-- ---- of each version that is held there is one

-- where nothing is held nothing is carried
pub none-held : AreResidents no_holdings []
none-held = record { each = All-nil (IsResident no_holdings); once = λ n. refl }

-- one under a number that is not held
pub not-held : (n : ℕ) (b : Bool) (k : Keeping) → IsResident no_holdings (resident_of n b k) → ⊥
not-held n b k h = true≢false h.held

-- two under one number
pub two-under : (c : Holdings) (k l : Keeping)
    → AreResidents c (resident_of 1 false k ∷ resident_of 1 false l ∷ []) → ⊥
two-under c k l h =
    let few = residents-few c (resident_of 1 false k ∷ resident_of 1 false l ∷ []) 1 h in
    let two : residents_under 1 (resident_of 1 false k ∷ resident_of 1 false l ∷ []) ≡ 2 = refl in
    absurd (omega (arith, few, two))

-- none of a version that is held
pub none-under : (c : Holdings) (n : ℕ) → has_no_version c n ≡ false → AreResidents c [] → ⊥
none-under c n held h =
    let one : 0 ≡ 1 = residents-one c [] n h held in
    absurd (omega (arith, one))

-- ---- a version that a log gave

abbrev is_read : List Keeping → Bool
is_read (nothing ∷ ks) = true
is_read (read k ∷ ks) = true
is_read ks = false

-- a shelf that grows is no store that was read
pub read-growing : (v : Version) (z : ShelfPlace) (p : Onlooker) → IsReadTrail v (trail_of (growing z p)) → ⊥
read-growing v z p h = true≢false (sym (ap is_read h.kept))

-- nor is one that was made
pub read-built : (v : Version) (k : NodeLineage) → IsReadTrail v (trail_of (whole k)) → ⊥
read-built v k h = true≢false (sym (ap is_read h.kept))

-- nor has a version that is not awaited any
pub read-first : (v : Version) (t : Trail) → v.awaited ≡ false → IsReadTrail v t → ⊥
read-first v t first h = true≢false (sym h.awaited ∙ first)

-- ---- what is seen

abbrev both : NodeLineage → ShelfPlace → Onlooker → List Resident
both k z p = resident_of 1 true (read k) ∷ resident_of 2 false (growing z p) ∷ []

pub logged-both : (k : NodeLineage) (z : ShelfPlace) (p : Onlooker)
    → logged_in (both k z p) ≡ record { number = 1; stores = Some k ∷ [] } ∷ []
logged-both k z p = refl

pub logged-one : (k : NodeLineage) (z : ShelfPlace) (p : Onlooker)
    → logged_under 1 (logged_in (both k z p)) ≡ Some (Some k ∷ [])
logged-one k z p = refl

pub logged-two : (k : NodeLineage) (z : ShelfPlace) (p : Onlooker) → logged_under 2 (logged_in (both k z p)) ≡ None
logged-two k z p = refl

pub stored-both : (k : NodeLineage) (z : ShelfPlace) (p : Onlooker)
    → stored_in (both k z p) ≡ (1, given k ∷ []) ∷ (2, on_shelf z ∷ []) ∷ []
stored-both k z p = refl

-- another run of the second one
pub replaced-both : (k l : NodeLineage) (z : ShelfPlace) (p : Onlooker)
    → stored_in (replaced_in 2 (trail_of (whole l)) (both k z p)) ≡ (1, given k ∷ []) ∷ (2, built l ∷ []) ∷ []
replaced-both k l z p = refl

-- of a number that none has
pub replaced-none : (k l : NodeLineage) (z : ShelfPlace) (p : Onlooker)
    → replaced_in 3 (trail_of (whole l)) (both k z p) ≡ both k z p
replaced-none k l z p = refl

-- ---- one that stays but for its passes

-- has the number that it had
pub still-number : (k : Keeping) → IsStill (resident_of 1 false k) (resident_of 2 false k) → ⊥
still-number k h = let same : 2 ≡ 1 = h.number in absurd (omega (arith, same))

-- and a log gave it if one did
pub still-logged : (k : Keeping) → IsStill (resident_of 1 false k) (resident_of 1 true k) → ⊥
still-logged k h = true≢false h.logged
