-- What a session carries is looked up, asked, made whole and put in another's place.
--
-- The key idea: the one that stands at the place that was found is the one of the version, so what is known of it is
-- known of the version, and the list with it changed is the list but for it.
use Rattle.std.proofs.Common.{◌≡◌, ℕ, zero, suc, ◌≤◌, ◌<◌, List, [], ◌∷◌, ◌++◌, length, set, get_or}
use Rattle.std.proofs.Common.{Bool, true, false, refl, sym, ap, ◌∙◌, subst, arith, Option, Some, None, take, true≢false}
use Rattle.std.proofs.Common.{is_none}
use Rattle.std.proofs.Common.{length-append}
use Rattle.std.specs.Prelude.{find, IsSome, option_to_list}
use Rattle.std.specs.List.{slice_get}
use Rattle.std.proofs.Math.Seq.{take-append_seam}
use Rattle.sz_spec.specs.declared.modes.Strategy.{Strategy}
use Rattle.sz_flow.specs.Executions.{Execution}
use Rattle.sz_catalogue.specs.Holdings.{Version, Holdings, version_numbered, arrays_of}
use Rattle.sz_catalogue.specs.Rules.{has_no_version, version_of}
use Rattle.sz_versions.specs.Runs.{executions_of, IsSoundVersion}
use Rattle.sz_versions.specs.Stores.{Trail, IsTrailOf, AreKeptOf, AreListed}
use Rattle.sz_versions.specs.Lending.{IsTrailStill}
use Rattle.sz_versions.specs.Residents.{Resident, IsTrailBy, IsInService, residents_under, logged_in}
use Rattle.sz_versions.specs.Residents.{logged_under, logged_of, replaced_in, stored_in, IsStill}
use Rattle.sz_versions.proofs.Keeping.{lists-listed}
use Rattle.sz_versions.proofs.Keeps.{version-found, version-sound, some-same}
use Rattle.sz_versions.proofs.Residents.{made_here, has_number, found-in, set-replaced, stills-set, service-still}
use Rattle.sz_versions.proofs.Residents.{logged-still, stored-in-still, found-number}

-- ---- the one at a place

-- a place at which one stands that is the first of a number
abbrev pub IsPlaceOf : ℕ → List Resident → ℕ → Type 0
IsPlaceOf n rs i = (r : Resident) × (slice_get rs i ≡ Some r) × (find (has_number n) rs ≡ Some r)

pub read-there : (rs : List Resident) (i : ℕ) (r x : Resident) → slice_get rs i ≡ Some r → x ≡ get_or rs i x → x ≡ r
read-there [] i r x at is = cc
read-there (y ∷ rs) zero r x at is = cc
read-there (y ∷ rs) (suc i) r x at is = read-there rs i r x at is

-- It is that of the version that is held under the number. What is carried is seen as `ss`, and stands as `rs`.
pub record IsFoundAt (c : Holdings) (n : ℕ) (rs ss : List Resident) (i : ℕ) (v : Version) (x : Resident) : Type 0 where
  pub same : rs ≡ ss
  pub service : IsInService c rs
  pub at : slice_get rs i ≡ Some x
  pub number : x.number ≡ n
  pub held : has_no_version c n ≡ false
  pub version : v ≡ version_of c n
  pub sound : IsSoundVersion v
  pub own : IsTrailBy x.logged v x.trail
  pub logged : logged_under n (logged_in ss) ≡ logged_of x

pub is-found : {c : Holdings} {rs ss : List Resident} {v : Version} {x : Resident} (n i : ℕ) → rs ≡ ss
    → IsInService c ss → Some v ≡ version_numbered c n → IsPlaceOf n ss i → x ≡ get_or rs i x
    → IsFoundAt c n rs ss i v x
is-found {c} {rs} {ss} {v} {x} n i same service found place is =
    let k = subst (IsInService c) (sym same) service in
    let there = subst (λ (xs : List Resident). IsPlaceOf n xs i) (sym same) place in
    let held : has_no_version c n ≡ false = ap (λ (o : Option Version). is_none o) (sym found) in
    let version : v ≡ version_of c n = some-same v (version_of c n) (found ∙ version-found c n held) in
    let own : x ≡ there.0 = read-there rs i there.0 x there.1 is in
    let here = found-in c n rs there.0 k.residents there.2 in
    record {
      same = same;
      service = k;
      at = there.1 ∙ ap (λ (r : Resident). Some r) (sym own);
      number = ap (λ (r : Resident). r.number) own ∙ here.number;
      held = held;
      version = version;
      sound = subst IsSoundVersion (sym version) (version-sound c n k.sound.versions held);
      own = subst (λ (w : Version). IsTrailBy x.logged w x.trail) (sym version)
          (subst (λ (r : Resident). IsTrailBy r.logged (version_of c n) r.trail) (sym own) here.own);
      logged = ap (λ (xs : List Resident). logged_under n (logged_in xs)) (sym same) ∙ here.logged
          ∙ ap logged_of (sym own);
    }

-- ---- the list with it changed

-- where nothing changed of it but passes
pub record StaysInService (c : Holdings) (rs ss : List Resident) : Type 0 where
  pub service : IsInService c ss
  pub logged : logged_in ss ≡ logged_in rs
  pub stored : stored_in ss ≡ stored_in rs

pub stays-set : {c : Holdings} {n i : ℕ} {rs ss : List Resident} {v : Version} {x : Resident} (y : Resident)
    → IsFoundAt c n rs ss i v x → IsStill x y → StaysInService c ss (set rs i y)
stays-set {c} {n} {i} {rs} {ss} {v} {x} y h still =
    let zip = stills-set rs i x y h.at still in
    record {
      service = service-still c rs (set rs i y) zip h.service;
      logged = logged-still rs (set rs i y) zip ∙ ap logged_in h.same;
      stored = stored-in-still rs (set rs i y) zip ∙ ap stored_in h.same;
    }

-- where another trail was put in its place
pub replaced-set : (n : ℕ) (t : Trail) (rs : List Resident) (i : ℕ) (x y : Resident) → residents_under n rs ≤ 1
    → IsPlaceOf n rs i → x ≡ get_or rs i x → y ≡ made_here x.number t → set rs i y ≡ replaced_in n t rs
replaced-set n t rs i x y few place is new =
    let same : x ≡ place.0 = read-there rs i place.0 x place.1 is in
    let number : place.0.number ≡ n = found-number n rs place.0 place.2 in
    let here : y ≡ made_here n t =
    new ∙ ap (λ (m : ℕ). made_here m t) (ap (λ (r : Resident). r.number) same ∙ number) in
    ap (set rs i) here ∙ set-replaced n t rs i place.0 place.1 number few

-- ---- what it has

-- no log gave a version that is not awaited
pub first-made : (b : Bool) (v : Version) (t : Trail) → v.awaited ≡ false → IsTrailBy b v t → IsTrailOf v t
first-made true v t first own = absurd (true≢false (sym own.awaited ∙ first))
first-made false v t first own = own

-- the lists of a sound version are lists for its executions
pub sound-listed : (v : Version) (es : List Execution) (lists : List (List Strategy)) → IsSoundVersion v
    → es ≡ executions_of v → lists ≡ v.lists → AreListed es lists
sound-listed v es lists sound runs same =
    subst (λ (ls : List (List Strategy)). AreListed es ls) (sym same)
    (subst (λ (ds : List Execution). AreListed ds v.lists) (sym runs)
    (lists-listed (arrays_of v.base) [] v.flow.nodes v.lists sound.run.1.lists))

pub first-kept : (b : Bool) (v : Version) (t : Trail) (lists : List (List Strategy)) → v.awaited ≡ false
    → IsTrailBy b v t → lists ≡ v.lists → AreKeptOf false t.executions lists t.kept
first-kept b v t lists first by same =
    let own = first-made b v t first by in
    subst (λ (ls : List (List Strategy)). AreKeptOf false t.executions ls t.kept) (sym same)
    (subst (λ (es : List Execution). AreKeptOf false es v.lists t.kept) (sym own.0)
    (subst (λ (a : Bool). AreKeptOf a (executions_of v) v.lists t.kept) first own.1))

-- what is kept whole of the same executions is the trail of the version once it is awaited
pub ended-own : (b : Bool) (v : Version) (t u : Trail) (lists : List (List Strategy)) → v.awaited ≡ false
    → IsTrailBy b v t → lists ≡ v.lists → u.executions ≡ t.executions → AreKeptOf true t.executions lists u.kept
    → IsTrailOf (record v { awaited = true }) u
ended-own b v t u lists first by same runs kept =
    let own = first-made b v t first by in (
      runs ∙ own.0,
      subst (λ (ls : List (List Strategy)). AreKeptOf true (executions_of v) ls u.kept) same
          (subst (λ (es : List Execution). AreKeptOf true es lists u.kept) own.0 kept),
    )

-- ---- the last one goes

pub last-gone : (o : Option Resident) (xs rs : List Resident) (r : Resident)
    → rs ++ r ∷ [] ≡ xs ++ option_to_list o → IsSome o → xs ≡ rs
last-gone None xs rs r is some = absurd (true≢false (sym some))
last-gone (Some q) xs rs r is some =
    let counts : length (rs ++ r ∷ []) ≡ length (xs ++ q ∷ []) = ap (λ (ys : List Resident). length ys) is in
    let long : length xs ≡ length rs =
    omega (arith, counts, length-append rs (r ∷ []), length-append xs (q ∷ [])) in
    sym (take-append_seam xs (q ∷ [])) ∙ ap (take (length xs)) (sym is)
    ∙ ap (λ (n : ℕ). take n (rs ++ r ∷ [])) long ∙ take-append_seam rs (r ∷ [])

pub last-counts : (xs rs : List Resident) (r : Resident) → xs ≡ rs ++ r ∷ [] → 0 < length xs
last-counts xs rs r is =
    let counts : length xs ≡ length (rs ++ r ∷ []) = ap (λ (ys : List Resident). length ys) is in
    omega (arith, counts, length-append rs (r ∷ []))

-- ---- what is inside of one

-- what it carries is carried of the version
pub inside-own : {n : ℕ} {b : Bool} {t : Trail} {r : Resident} (v : Version)
    → record { number = n; logged = b; trail = t } ≡ r → IsTrailBy r.logged v r.trail → IsTrailBy b v t
inside-own {n} {b} {t} {r} v is own = subst (λ (x : Resident). IsTrailBy x.logged v x.trail) (sym is) own

-- and with another trail it is one still
pub still-made : (n : ℕ) (b : Bool) (t u : Trail) (r : Resident)
    → record { number = n; logged = b; trail = t } ≡ r → IsTrailStill t u
    → IsStill r (record { number = n; logged = b; trail = u })
still-made n b t u r is still =
    subst (λ (x : Resident). IsStill x (record { number = n; logged = b; trail = u })) is
    (record { number = refl; logged = refl; trail = still })
