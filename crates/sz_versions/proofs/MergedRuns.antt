-- What is carried once the version of a number was merged.
--
-- The key idea: one stands under the number, and it is carried as it was but for its stores; so each that is carried is
-- carried of its version still, and the others are the same.
use Rattle.std.proofs.Common.{◌≡◌, ℕ, zero, suc, ◌≤◌, ◌==◌, List, [], ◌∷◌, map, set, get_or, Bool, true}
use Rattle.std.proofs.Common.{cond, if◌then◌else◌, refl, sym, ap, ap₂, ◌∙◌, subst, arith, Option, Some}
use Rattle.std.proofs.Common.{true≢false}
use Rattle.std.specs.Prelude.{All}
use Rattle.std.specs.List.{AllZip, slice_get}
use Rattle.std.proofs.lemmas.List.Elements.{All-head, All-tail, All-cons}
use Rattle.sz_store.specs.Kept.{NodeLineage}
use Rattle.sz_catalogue.specs.Holdings.{Version, Holdings}
use Rattle.sz_catalogue.specs.Rules.{has_no_version, version_of}
use Rattle.sz_recover.specs.Logs.{Kept}
use Rattle.sz_versions.specs.Residents.{Resident, IsTrailBy, IsResident, residents_under, IsInService}
use Rattle.sz_versions.specs.Residents.{kept_of, logged_in, Stored, stored_of, stored_in}
use Rattle.sz_versions.specs.Merging.{IsMergedStored, IsMergedIn, IsKeptUp}
use Rattle.sz_versions.specs.Stores.{Trail}
use Rattle.sz_versions.proofs.MergedNodes.{IsTrailMerged}
use Rattle.sz_versions.proofs.Residents.{under-cons, some-under, logged-cons, residents-few}
use Rattle.sz_versions.proofs.Service.{IsFoundAt}
use Rattle.sz_versions.proofs.Stays.{is-equal}

abbrev weight : Bool → ℕ
weight b = cond b 1 0

-- ---- one at a place is kept up

under-set : (n m : ℕ) (rs : List Resident) (i : ℕ) (r s : Resident) → slice_get rs i ≡ Some r → s.number ≡ r.number
    → residents_under m (set rs i s) ≡ residents_under m rs
under-set n m [] i r s at same = cc
under-set n m (x ∷ rs) zero r s at same =
    let is : r ≡ x = cc in
    let step : weight (s.number == m) ≡ weight (x.number == m) =
    ap (λ (q : ℕ). weight (q == m)) (same ∙ ap (λ (y : Resident). y.number) is) in
    omega (arith, under-cons m s rs, under-cons m x rs, step)
under-set n m (x ∷ rs) (suc i) r s at same =
    omega (arith, under-cons m x (set rs i s), under-cons m x rs, under-set n m rs i r s at same)

each-set : (c : Holdings) (rs : List Resident) (i : ℕ) (s : Resident) → All (IsResident c) rs → IsResident c s
    → All (IsResident c) (set rs i s)
each-set c [] i s all own = all
each-set c (x ∷ rs) zero s all own = All-cons (IsResident c) s rs own (All-tail (IsResident c) x rs all)
each-set c (x ∷ rs) (suc i) s all own =
    All-cons (IsResident c) x (set rs i s) (All-head (IsResident c) x rs all)
    (each-set c rs i s (All-tail (IsResident c) x rs all) own)

logged-set : (rs : List Resident) (i : ℕ) (r s : Resident) → slice_get rs i ≡ Some r → s.logged ≡ r.logged
    → kept_of s ≡ kept_of r → logged_in (set rs i s) ≡ logged_in rs
logged-set [] i r s at logged kept = cc
logged-set (x ∷ rs) zero r s at logged kept =
    let is : r ≡ x = cc in
    logged-cons s rs
    ∙ ap₂ (λ (b : Bool) (k : Kept). if b then k ∷ logged_in rs else logged_in rs)
    (logged ∙ ap (λ (y : Resident). y.logged) is) (kept ∙ ap kept_of is)
    ∙ sym (logged-cons x rs)
logged-set (x ∷ rs) (suc i) r s at logged kept =
    logged-cons x (set rs i s)
    ∙ ap (λ (ks : List Kept). if x.logged then kept_of x ∷ ks else ks) (logged-set rs i r s at logged kept)
    ∙ sym (logged-cons x rs)

-- ---- what stands of all

stays-in : (n : ℕ) (rs : List Resident) → residents_under n rs ≡ 0
    → AllZip (IsMergedIn n) (stored_in rs) (stored_in rs)
stays-in n [] none = tt
stays-in n (r ∷ rs) none =
    (one, stays-in n rs (omega (arith, none, under-cons n r rs))) where
      here : ℕ × List Stored
      here = (r.number, map stored_of r.trail.kept)

      one : IsMergedIn n here here
      one = record {
        number = refl;
        other = λ not. refl;
        own = λ is. let step : weight (r.number == n) ≡ 1 = ap weight is in
            absurd (omega (arith, none, under-cons n r rs, step));
      }

merged-at : (n : ℕ) (rs : List Resident) (i : ℕ) (r s : Resident) → slice_get rs i ≡ Some r → r.number ≡ n
    → residents_under n rs ≤ 1 → s.number ≡ r.number
    → AllZip IsMergedStored (map stored_of r.trail.kept) (map stored_of s.trail.kept)
    → AllZip (IsMergedIn n) (stored_in rs) (stored_in (set rs i s))
merged-at n [] i r s at is few same merged = cc
merged-at n (x ∷ rs) zero r s at is few same merged =
    let own : r ≡ x = cc in
    let here : (x.number == n) ≡ true = is-equal x.number n (sym (ap (λ (y : Resident). y.number) own) ∙ is) in
    let step : weight (x.number == n) ≡ 1 = ap weight here in (
      record {
        number = same ∙ ap (λ (y : Resident). y.number) own;
        other = λ not. absurd (true≢false (sym here ∙ not));
        own = λ _. subst (λ (y : Resident). AllZip IsMergedStored (map stored_of y.trail.kept)
            (map stored_of s.trail.kept)) own merged;
      },
      stays-in n rs (omega (arith, few, under-cons n x rs, step)),
    )
merged-at n (x ∷ rs) (suc i) r s at is few same merged =
    let there = some-under n rs i r at is in (
      record {
        number = refl;
        other = λ not. refl;
        own = λ own. let step : weight (x.number == n) ≡ 1 = ap weight own in
            absurd (omega (arith, few, under-cons n x rs, step, there));
      },
      merged-at n rs i r s at is (omega (arith, few, under-cons n x rs)) same merged,
    )

-- ---- the list with one kept up

-- what is carried is carried still
pub record StaysCarried (c : Holdings) (rs ss : List Resident) : Type 0 where
  pub service : IsInService c ss
  pub logged : logged_in ss ≡ logged_in rs

pub carried-set : {c : Holdings} {n i : ℕ} {rs ss : List Resident} {v : Version} {x : Resident} (y : Resident)
    → IsFoundAt c n rs ss i v x → IsKeptUp v x y → StaysCarried c ss (set rs i y)
carried-set {c} {n} {i} {rs} {ss} {v} {x} y h up =
    let new : y.number ≡ n = up.number ∙ h.number in
    let by = subst (λ (w : Version). IsTrailBy y.logged w y.trail) h.version up.own in
    let own : IsResident c y = record {
      held = ap (has_no_version c) new ∙ h.held;
      own = subst (λ (m : ℕ). IsTrailBy y.logged (version_of c m) y.trail) (sym new) by;
    } in
    record {
      service = record {
        sound = h.service.sound;
        asked = h.service.asked;
        residents = record {
          each = each-set c rs i y h.service.residents.each own;
          once = λ m. under-set n m rs i x y h.at up.number ∙ h.service.residents.once m;
        };
      };
      logged = logged-set rs i x y h.at up.logged (ap₂ made up.number up.stores) ∙ ap logged_in h.same;
    } where
      made : ℕ → List (Option NodeLineage) → Kept
      made m ks = record { number = m; stores = ks }

-- and what stands of it is merged
pub merged-set : {c : Holdings} {n i : ℕ} {rs ss : List Resident} {v : Version} {x : Resident} (y : Resident)
    → IsFoundAt c n rs ss i v x → y.number ≡ x.number
    → AllZip IsMergedStored (map stored_of x.trail.kept) (map stored_of y.trail.kept)
    → AllZip (IsMergedIn n) (stored_in ss) (stored_in (set rs i y))
merged-set {c} {n} {i} {rs} {ss} {v} {x} y h number merged =
    subst (λ (xs : List Resident). AllZip (IsMergedIn n) (stored_in xs) (stored_in (set rs i y))) h.same
    (merged-at n rs i x y h.at h.number (residents-few c rs n h.service.residents) number merged)

-- where it is the same, so is the list
pub same-set : (rs : List Resident) (i : ℕ) (x y : Resident) → x ≡ get_or rs i x → y ≡ x → set rs i y ≡ rs
same-set [] i x y is same = refl
same-set (z ∷ rs) zero x y is same = ap (λ (r : Resident). r ∷ rs) (same ∙ is)
same-set (z ∷ rs) (suc i) x y is same = ap (λ (ys : List Resident). z ∷ ys) (same-set rs i x y is same)

-- ---- one with another trail

pub up-made : (v : Version) (n : ℕ) (b : Bool) (t u : Trail) (r : Resident)
    → record { number = n; logged = b; trail = t } ≡ r → IsTrailMerged b v t u
    → IsKeptUp v r (record { number = n; logged = b; trail = u })
up-made v n b t u r is merged =
    subst (λ (x : Resident). IsKeptUp v x (record { number = n; logged = b; trail = u })) is
    (record { number = refl; logged = refl; own = merged.own; stores = merged.stores })
