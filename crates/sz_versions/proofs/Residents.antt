-- What a session carries stays what it is, whatever a command does.
--
-- The key idea: each resident speaks of the version of its number alone, and a command changes at most one version. So
-- one is added for the version that is started, one is replaced for the version that is awaited, and the others are as
-- they were. How many there are under a number is one exactly where a version is held.
use Rattle.std.proofs.Common.{◌≡◌, ℕ, zero, suc, ◌+◌, ◌≤◌, ◌==◌, List, [], ◌∷◌, ◌++◌, map, set, Bool, true}
use Rattle.std.proofs.Common.{false, cond, if◌then◌else◌, refl, sym, ap, ap₂, ◌∙◌, subst, arith, Option, Some, None}
use Rattle.std.proofs.Common.{is_none, unwrap_or, eqb-true, true≢false}
use Rattle.std.specs.Prelude.{All, filter, find, option_map}
use Rattle.std.specs.List.{slice_get}
use Rattle.std.proofs.lemmas.List.Elements.{All-head, All-tail, All-nil, All-cons, All-append, All-weaker}
use Rattle.std.proofs.lemmas.List.Sums.{sum_by-cons, sum_by-append}
use Rattle.sz_store.specs.Kept.{NodeLineage}
use Rattle.sz_script.specs.declared.command.BaseName.{BaseName}
use Rattle.sz_script.specs.declared.command.Command.{Command}
use Rattle.sz_script.specs.declared.command.Command.TheVariants as order
use Rattle.sz_catalogue.specs.Holdings.{Version, Holdings, version_numbered, no_version, next_number}
use Rattle.sz_catalogue.specs.Starts.{version_started}
use Rattle.sz_catalogue.specs.Rules.{judged, has_no_version, version_of}
use Rattle.sz_catalogue.specs.Changes.{accepted, with_version, with_await, changes_no_version}
use Rattle.sz_recover.specs.Logs.{Kept}
use Rattle.sz_recover.specs.Opened.{entries_under, versions_under, AreOfVersions}
use Rattle.sz_recover.proofs.Entries.{held-new}
use Rattle.sz_versions.specs.Runs.{AreSound}
use Rattle.sz_versions.specs.Stores.{Trail, IsTrailOf}
use Rattle.sz_versions.specs.Residents.{Resident, stores_read, IsTrailBy, IsResident, residents_under}
use Rattle.sz_versions.specs.Residents.{AreResidents, AskedWereAwaited, IsInService, kept_of, logged_in}
use Rattle.sz_versions.specs.Residents.{logged_under, logged_of}
use Rattle.sz_versions.specs.Residents.{Stored, stored_in, replaced_in, IsStill, AreStill}
use Rattle.sz_versions.proofs.Keeps.{can-start, keeps-start, keeps-awaited}
use Rattle.sz_versions.proofs.Stays.{SameStay, accepted-stay, awaited-stay, insert-other, started-new}
use Rattle.sz_versions.proofs.Stays.{await-here, await-other, find-passes, found-all, is-equal}
use Rattle.sz_versions.proofs.Asked.{asked-accepted, asked-more, asked-awaited}
use Rattle.sz_versions.proofs.Still.{trail-same, by-still, stores-still, stored-still}

-- what is carried of a version that was started here
abbrev pub made_here : ℕ → Trail → Resident
made_here n t = record { number = n; logged = false; trail = t }

-- ---- how many there are under a number

abbrev weight : Bool → ℕ
weight b = cond b 1 0

pub under-cons : (n : ℕ) (r : Resident) (rs : List Resident)
    → residents_under n (r ∷ rs) ≡ weight (r.number == n) + residents_under n rs
under-cons n r rs = sum_by-cons (λ (x : Resident). weight (x.number == n)) r rs

under-more : (n : ℕ) (rs : List Resident) (r : Resident)
    → residents_under n (rs ++ r ∷ []) ≡ residents_under n rs + weight (r.number == n)
under-more n rs r =
    sum_by-append (λ (x : Resident). weight (x.number == n)) rs (r ∷ [])
    ∙ omega arith

entries-cons : (n : ℕ) (k : Kept) (ks : List Kept)
    → entries_under n (k ∷ ks) ≡ weight (k.number == n) + entries_under n ks
entries-cons n k ks = sum_by-cons (λ (x : Kept). weight (x.number == n)) k ks

-- one at the most
pub residents-few : (c : Holdings) (rs : List Resident) (n : ℕ) → AreResidents c rs → residents_under n rs ≤ 1
residents-few c rs n own = omega (arith, own.once n, few (has_no_version c n)) where
  few : (b : Bool) → (if b then 0 else 1) ≤ 1
  few true = omega arith
  few false = omega arith

-- and one where the version is held
pub residents-one : (c : Holdings) (rs : List Resident) (n : ℕ) → AreResidents c rs → has_no_version c n ≡ false
    → residents_under n rs ≡ 1
residents-one c rs n own held = own.once n ∙ ap (λ (b : Bool). if b then 0 else 1) held

-- the test by which one is looked for
abbrev pub has_number : ℕ → Resident → Bool
has_number n r = r.number == n

-- none is found where there is none
pub none-under : (n : ℕ) (rs : List Resident) → find (has_number n) rs ≡ None → residents_under n rs ≡ 0
none-under n [] h = refl
none-under n (r ∷ rs) h = at (r.number == n) refl (none-under n rs) h where
  at : (b : Bool) → (r.number == n) ≡ b → (find (has_number n) rs ≡ None → residents_under n rs ≡ 0)
      → cond b (Some r) (find (has_number n) rs) ≡ None → residents_under n (r ∷ rs) ≡ 0
  at true is rest none = cc
  at false is rest none =
      let step : weight (r.number == n) ≡ 0 = ap weight is in
      omega (arith, under-cons n r rs, step, rest none)

-- so one is found where a version is held
pub found-under : (c : Holdings) (rs : List Resident) (n : ℕ) → AreResidents c rs → has_no_version c n ≡ false
    → find (has_number n) rs ≡ None → ⊥
found-under c rs n own held none =
    let one = residents-one c rs n own held in
    let no = none-under n rs none in
    absurd (omega (arith, one, no))

-- one that stands at a place counts
pub some-under : (n : ℕ) (rs : List Resident) (i : ℕ) (r : Resident) → slice_get rs i ≡ Some r → r.number ≡ n
    → 1 ≤ residents_under n rs
some-under n [] i r at is = cc
some-under n (x ∷ rs) zero r at is =
    let same : x ≡ r = cc in
    let step : weight (x.number == n) ≡ 1 =
    ap weight (is-equal x.number n (ap (λ (y : Resident). y.number) same ∙ is)) in
    omega (arith, under-cons n x rs, step)
some-under n (x ∷ rs) (suc i) r at is =
    omega (arith, under-cons n x rs, some-under n rs i r at is)

-- ---- those that a log gave

pub logged-cons : (r : Resident) (rs : List Resident)
    → logged_in (r ∷ rs) ≡ (if r.logged then kept_of r ∷ logged_in rs else logged_in rs)
logged-cons r rs = at r.logged where
  others : List Resident
  others = filter (λ (x : Resident). x.logged) rs

  at : (b : Bool) → map kept_of (cond b (r ∷ others) others) ≡ (if b then kept_of r ∷ logged_in rs else logged_in rs)
  at true = refl
  at false = refl

abbrev Given : Type 0
Given = Option (List (Option NodeLineage))

-- what is given under a number, with one more before the others
under-one : (n : ℕ) (x : Resident) (rs : List Resident) → logged_under n (logged_in (x ∷ rs))
    ≡ (if x.logged then (if x.number == n then Some (stores_read x.trail) else logged_under n (logged_in rs))
    else logged_under n (logged_in rs))
under-one n x rs = ap (logged_under n) (logged-cons x rs) ∙ at x.logged where
  rest : Given
  rest = logged_under n (logged_in rs)

  step : (b : Bool)
      → option_map (λ (k : Kept). k.stores)
      (cond b (Some (kept_of x)) (find (λ (k : Kept). k.number == n) (logged_in rs)))
      ≡ (if b then Some (stores_read x.trail) else rest)
  step true = refl
  step false = refl

  at : (b : Bool) → logged_under n (if b then kept_of x ∷ logged_in rs else logged_in rs)
      ≡ (if b then (if x.number == n then Some (stores_read x.trail) else rest) else rest)
  at true = step (x.number == n)
  at false = refl

either : (b : Bool) (o : Given) → (if b then o else o) ≡ o
either true o = refl
either false o = refl

none-logged : (n : ℕ) (rs : List Resident) → residents_under n rs ≡ 0 → logged_under n (logged_in rs) ≡ None
none-logged n [] none = refl
none-logged n (x ∷ rs) none =
    under-one n x rs
    ∙ at (x.number == n) refl (none-logged n rs (omega (arith, none, under-cons n x rs))) where
      rest : Given
      rest = logged_under n (logged_in rs)

      at : (b : Bool) → (x.number == n) ≡ b → rest ≡ None
          → (if x.logged then (if b then Some (stores_read x.trail) else rest) else rest) ≡ None
      at true is h =
          let step : weight (x.number == n) ≡ 1 = ap weight is in
          absurd (omega (arith, none, under-cons n x rs, step))
      at false is h = either x.logged rest ∙ h

-- what is given of the one that is found, where there is no other
pub logged-found : (n : ℕ) (rs : List Resident) (r : Resident) → residents_under n rs ≤ 1
    → find (has_number n) rs ≡ Some r → logged_under n (logged_in rs) ≡ logged_of r
logged-found n [] r few h = cc
logged-found n (x ∷ rs) r few h =
    under-one n x rs
    ∙ at (x.number == n) refl (λ found. logged-found n rs r (omega (arith, few, under-cons n x rs)) found) h where
      rest : Given
      rest = logged_under n (logged_in rs)

      at : (b : Bool) → (x.number == n) ≡ b → (find (has_number n) rs ≡ Some r → rest ≡ logged_of r)
          → cond b (Some x) (find (has_number n) rs) ≡ Some r
          → (if x.logged then (if b then Some (stores_read x.trail) else rest) else rest) ≡ logged_of r
      at true is more found =
          let same : x ≡ r = cc in
          let step : weight (x.number == n) ≡ 1 = ap weight is in
          let none : rest ≡ None = none-logged n rs (omega (arith, few, under-cons n x rs, step)) in
          ap (λ (o : Given). if x.logged then Some (stores_read x.trail) else o) none ∙ ap logged_of same
      at false is more found = either x.logged rest ∙ more found

-- ---- the one that is found

pub record IsFoundIn (c : Holdings) (n : ℕ) (rs : List Resident) (r : Resident) : Type 0 where
  pub number : r.number ≡ n
  pub own : IsTrailBy r.logged (version_of c n) r.trail
  pub logged : logged_under n (logged_in rs) ≡ logged_of r

pub found-number : (n : ℕ) (rs : List Resident) (r : Resident) → find (has_number n) rs ≡ Some r → r.number ≡ n
found-number n rs r found = eqb-true r.number n (find-passes (has_number n) rs r found)

pub found-in : (c : Holdings) (n : ℕ) (rs : List Resident) (r : Resident) → AreResidents c rs
    → find (has_number n) rs ≡ Some r → IsFoundIn c n rs r
found-in c n rs r own found =
    let number = found-number n rs r found in
    let is = found-all (IsResident c) (has_number n) rs r own.each found in
    record {
      number = number;
      own = subst (λ (m : ℕ). IsTrailBy r.logged (version_of c m) r.trail) number is.own;
      logged = logged-found n rs r (residents-few c rs n own) found;
    }

-- ---- where nothing changes but passes

pub still-self : (r : Resident) → IsStill r r
still-self r = record { number = refl; logged = refl; trail = trail-same r.trail }

pub stills-self : (rs : List Resident) → AreStill rs rs
stills-self [] = tt
stills-self (r ∷ rs) = (still-self r, stills-self rs)

-- one at a place
pub stills-set : (rs : List Resident) (i : ℕ) (r s : Resident) → slice_get rs i ≡ Some r → IsStill r s
    → AreStill rs (set rs i s)
stills-set [] i r s at h = cc
stills-set (x ∷ rs) zero r s at h =
    let same : r ≡ x = cc in
    (subst (λ (y : Resident). IsStill y s) same h, stills-self rs)
stills-set (x ∷ rs) (suc i) r s at h = (still-self x, stills-set rs i r s at h)

under-still : (n : ℕ) (rs ss : List Resident) → AreStill rs ss → residents_under n ss ≡ residents_under n rs
under-still n [] [] zip = refl
under-still n (r ∷ rs) (s ∷ ss) zip =
    let step : weight (s.number == n) ≡ weight (r.number == n) =
    ap (λ (m : ℕ). weight (m == n)) zip.0.number in
    omega (arith, under-cons n s ss, under-cons n r rs, step, under-still n rs ss zip.1)
under-still n _ _ zip = absurd zip

resident-still : (c : Holdings) (r s : Resident) → IsStill r s → IsResident c r → IsResident c s
resident-still c r s h own =
    let trail = by-still r.logged (version_of c r.number) r.trail s.trail h.trail own.own in
    record {
      held = ap (has_no_version c) h.number ∙ own.held;
      own = subst (λ (n : ℕ). IsTrailBy s.logged (version_of c n) s.trail) (sym h.number)
          (subst (λ (b : Bool). IsTrailBy b (version_of c r.number) s.trail) (sym h.logged) trail);
    }

residents-still : (c : Holdings) (rs ss : List Resident) → AreStill rs ss → All (IsResident c) rs
    → All (IsResident c) ss
residents-still c [] [] zip all = all
residents-still c (r ∷ rs) (s ∷ ss) zip all =
    All-cons (IsResident c) s ss (resident-still c r s zip.0 (All-head (IsResident c) r rs all))
    (residents-still c rs ss zip.1 (All-tail (IsResident c) r rs all))
residents-still c _ _ zip all = absurd zip

pub service-still : (c : Holdings) (rs ss : List Resident) → AreStill rs ss → IsInService c rs → IsInService c ss
service-still c rs ss zip k = record {
  sound = k.sound;
  asked = k.asked;
  residents = record {
    each = residents-still c rs ss zip k.residents.each;
    once = λ n. under-still n rs ss zip ∙ k.residents.once n;
  };
}

kept-still : (r s : Resident) → IsStill r s → kept_of s ≡ kept_of r
kept-still r s h =
    ap₂ made h.number (stores-still r.trail.kept s.trail.kept h.trail.kept) where
      made : ℕ → List (Option NodeLineage) → Kept
      made n ks = record { number = n; stores = ks }

pub logged-still : (rs ss : List Resident) → AreStill rs ss → logged_in ss ≡ logged_in rs
logged-still [] [] zip = refl
logged-still (r ∷ rs) (s ∷ ss) zip =
    logged-cons s ss
    ∙ ap (λ (b : Bool). if b then kept_of s ∷ logged_in ss else logged_in ss) zip.0.logged
    ∙ ap₂ (λ (k : Kept) (ks : List Kept). if r.logged then k ∷ ks else ks) (kept-still r s zip.0)
    (logged-still rs ss zip.1)
    ∙ sym (logged-cons r rs)
logged-still _ _ zip = absurd zip

abbrev entry : ℕ → List Stored → ℕ × List Stored
entry n ks = (n, ks)

pub stored-in-still : (rs ss : List Resident) → AreStill rs ss → stored_in ss ≡ stored_in rs
stored-in-still [] [] zip = refl
stored-in-still (r ∷ rs) (s ∷ ss) zip =
    ap₂ (λ (x : ℕ × List Stored) (xs : List (ℕ × List Stored)). x ∷ xs)
    (ap₂ entry zip.0.number (stored-still r.trail.kept s.trail.kept zip.0.trail.kept))
    (stored-in-still rs ss zip.1)
stored-in-still _ _ zip = absurd zip

-- ---- another run of a version

none-replaced : (n : ℕ) (t : Trail) (rs : List Resident) → residents_under n rs ≡ 0 → replaced_in n t rs ≡ rs
none-replaced n t [] none = refl
none-replaced n t (r ∷ rs) none =
    ap₂ (λ (x : Resident) (xs : List Resident). x ∷ xs) (one (r.number == n) refl)
    (none-replaced n t rs (omega (arith, none, under-cons n r rs))) where
      one : (b : Bool) → (r.number == n) ≡ b → (if b then made_here n t else r) ≡ r
      one true is =
          let step : weight (r.number == n) ≡ 1 = ap weight is in
          absurd (omega (arith, none, under-cons n r rs, step))
      one false is = refl

pub not-replaced : (n : ℕ) (t : Trail) (rs : List Resident) → find (has_number n) rs ≡ None
    → replaced_in n t rs ≡ rs
not-replaced n t rs none = none-replaced n t rs (none-under n rs none)

pub set-replaced : (n : ℕ) (t : Trail) (rs : List Resident) (i : ℕ) (r : Resident) → slice_get rs i ≡ Some r
    → r.number ≡ n → residents_under n rs ≤ 1
    → set rs i (made_here n t) ≡ replaced_in n t rs
set-replaced n t [] i r at is few = cc
set-replaced n t (x ∷ rs) zero r at is few =
    let same : x ≡ r = cc in
    let here : (x.number == n) ≡ true = is-equal x.number n (ap (λ (y : Resident). y.number) same ∙ is) in
    let step : weight (x.number == n) ≡ 1 = ap weight here in
    let new : Resident = made_here n t in
    ap₂ (λ (y : Resident) (ys : List Resident). y ∷ ys) (sym (ap (λ (b : Bool). if b then new else x) here))
    (sym (none-replaced n t rs (omega (arith, few, under-cons n x rs, step))))
set-replaced n t (x ∷ rs) (suc i) r at is few =
    ap₂ (λ (y : Resident) (ys : List Resident). y ∷ ys) (one (x.number == n) refl)
    (set-replaced n t rs i r at is (omega (arith, few, under-cons n x rs))) where
      one : (b : Bool) → (x.number == n) ≡ b → x ≡ (if b then made_here n t else x)
      one true here =
          let step : weight (x.number == n) ≡ 1 = ap weight here in
          absurd (omega (arith, few, under-cons n x rs, step, some-under n rs i r at is))
      one false here = refl

-- ---- a version that is held under its number

resident-same : (c d : Holdings) (r : Resident) → version_numbered d r.number ≡ version_numbered c r.number
    → IsResident c r → IsResident d r
resident-same c d r same own =
    let version : version_of d r.number ≡ version_of c r.number =
    ap (λ (o : Option Version). unwrap_or o no_version) same in
    record {
      held = ap (λ (o : Option Version). is_none o) same ∙ own.held;
      own = subst (λ (v : Version). IsTrailBy r.logged v r.trail) (sym version) own.own;
    }

resident-new : (d : Holdings) (n : ℕ) (v : Version) (t : Trail) → version_numbered d n ≡ Some v → IsTrailOf v t
    → IsResident d (made_here n t)
resident-new d n v t found own =
    let version : version_of d n ≡ v = ap (λ (o : Option Version). unwrap_or o no_version) found in
    record {
      held = ap (λ (o : Option Version). is_none o) found;
      own = subst (λ (w : Version). IsTrailOf w t) (sym version) own;
    }

versions-same : (c d : Holdings) (n : ℕ) → version_numbered d n ≡ version_numbered c n
    → versions_under d n ≡ versions_under c n
versions-same c d n same = ap (λ (o : Option Version). if is_none o then 0 else 1) same

-- ---- commands

-- where under each number the same version is held
pub service-same : (c d : Holdings) (rs : List Resident) → AreSound d → AskedWereAwaited d → SameStay c d
    → IsInService c rs → IsInService d rs
service-same c d rs sound asked same k = record {
  sound = sound;
  asked = asked;
  residents = record {
    each = All-weaker (IsResident c) (IsResident d) (λ r own. resident-same c d r (same r.number) own) rs
        k.residents.each;
    once = λ n. k.residents.once n ∙ sym (versions-same c d n (same n));
  };
}

-- a command that changes no version
pub service-stays : (c : Holdings) (command : Command) (rs : List Resident) → changes_no_version command ≡ true
    → judged c command ≡ None → AreSound (accepted c command).0 → IsInService c rs
    → IsInService (accepted c command).0 rs
service-stays c command rs kind free sound k =
    service-same c (accepted c command).0 rs sound (asked-accepted c command kind free k.asked)
    (accepted-stay c command kind) k

-- one version more
pub service-more : (c : Holdings) (rs : List Resident) (v : Version) (t : Trail)
    → IsInService c rs → AreSound (with_version c (next_number c) v) → IsTrailOf v t
    → IsInService (with_version c (next_number c) v) (rs ++ made_here (next_number c) t ∷ [])
service-more c rs v t k sound own =
    let n = next_number c in
    let d = with_version c n v in
    let new : Resident = made_here n t in
    record {
      sound = sound;
      asked = asked-more c v k.asked;
      residents = record {
        each = All-append (IsResident d) rs (new ∷ [])
            (All-weaker (IsResident c) (IsResident d) stays rs k.residents.each)
            (All-cons (IsResident d) new []
            (resident-new d n v t (held-new c.versions n v) own) (All-nil (IsResident d)));
        once = λ m. count m (n == m) refl;
      };
    } where
      stays : (r : Resident) → IsResident c r
          → IsResident (with_version c (next_number c) v) r
      stays r is =
          let n = next_number c in
          let other : r.number ≡ n → ⊥ = λ h.
          true≢false (sym (started-new c) ∙ ap (has_no_version c) (sym h) ∙ is.held) in
          resident-same c (with_version c n v) r
          (insert-other c.versions n r.number v other) is

      count : (m : ℕ) (b : Bool) → (next_number c == m) ≡ b
          → residents_under m (rs ++ made_here (next_number c) t ∷ [])
          ≡ versions_under (with_version c (next_number c) v) m
      count m true is =
          let n = next_number c in
          let new : Resident = made_here n t in
          let same : n ≡ m = eqb-true n m is in
          let no : residents_under m rs ≡ 0 =
          k.residents.once m
          ∙ ap (λ (b : Bool). if b then 0 else 1) (ap (has_no_version c) (sym same) ∙ started-new c) in
          let there : versions_under (with_version c n v) m ≡ 1 =
          subst (λ (q : ℕ). versions_under (with_version c n v) q ≡ 1) same
          (ap (λ (o : Option Version). if is_none o then 0 else 1) (held-new c.versions n v)) in
          let step : weight (n == m) ≡ 1 = ap weight is in
          omega (arith, under-more m rs new, no, there, step)
      count m false is =
          let n = next_number c in
          let new : Resident = made_here n t in
          let other : m ≡ n → ⊥ = λ h. true≢false (sym (is-equal n m (sym h)) ∙ is) in
          let stay = versions-same c (with_version c n v) m (insert-other c.versions n m v other) in
          let step : weight (n == m) ≡ 0 = ap weight is in
          omega (arith, under-more m rs new, k.residents.once m, stay, step)

-- a start
pub service-started : (c : Holdings) (rs : List Resident) (name : List ℕ) (base : List BaseName) (t : Trail)
    → IsInService c rs → judged c (order.Start name base) ≡ None → IsTrailOf (version_started c name base) t
    → IsInService (with_version c (next_number c) (version_started c name base))
    (rs ++ made_here (next_number c) t ∷ [])
service-started c rs name base t k none own =
    service-more c rs (version_started c name base) t k
    (keeps-start c name base k.sound (can-start c name base none)) own

-- an await of a version that is not awaited
number-replaced : (n : ℕ) (t : Trail) (r : Resident) (b : Bool) → (r.number == n) ≡ b
    → (if b then made_here n t else r).number ≡ r.number
number-replaced n t r true is = sym (eqb-true r.number n is)
number-replaced n t r false is = refl

under-replaced : (m n : ℕ) (t : Trail) (rs : List Resident)
    → residents_under m (replaced_in n t rs) ≡ residents_under m rs
under-replaced m n t [] = refl
under-replaced m n t (r ∷ rs) =
    let new : Resident = if r.number == n then made_here n t else r in
    let step : weight (new.number == m) ≡ weight (r.number == m) =
    ap (λ (q : ℕ). weight (q == m)) (number-replaced n t r (r.number == n) refl) in
    omega (
      arith,
      under-cons m new (replaced_in n t rs),
      under-cons m r rs,
      step,
      under-replaced m n t rs,
    )

pub service-awaited : (c : Holdings) (rs : List Resident) (n : ℕ) (t : Trail) → IsInService c rs
    → has_no_version c n ≡ false → IsTrailOf (record (version_of c n) { awaited = true }) t
    → IsInService (with_await c n) (replaced_in n t rs)
service-awaited c rs n t k held own = record {
  sound = keeps-awaited c n k.sound held;
  asked = asked-awaited c n held k.asked;
  residents = record {
    each = all rs k.residents.each;
    once = λ m. under-replaced m n t rs ∙ k.residents.once m ∙ sym (under m (m == n) refl);
  };
} where
  d : Holdings
  d = with_await c n

  one : (r : Resident) → IsResident c r → (b : Bool) → (r.number == n) ≡ b
      → IsResident d (if b then made_here n t else r)
  one r is true here = resident-new d n (record (version_of c n) { awaited = true }) t (await-here c n held) own
  one r is false here = resident-same c d r (await-other c n r.number here) is

  all : (rs : List Resident) → All (IsResident c) rs → All (IsResident d) (replaced_in n t rs)
  all [] each = All-nil (IsResident d)
  all (r ∷ rs) each =
      All-cons (IsResident d) (if r.number == n then made_here n t else r)
      (replaced_in n t rs) (one r (All-head (IsResident c) r rs each) (r.number == n) refl)
      (all rs (All-tail (IsResident c) r rs each))

  under : (m : ℕ) (b : Bool) → (m == n) ≡ b → versions_under d m ≡ versions_under c m
  under m true is =
      let same : m ≡ n = eqb-true m n is in
      let found = ap (λ (o : Option Version). if is_none o then 0 else 1) (await-here c n held) in
      let before : versions_under c n ≡ 1 = ap (λ (b : Bool). if b then 0 else 1) held in
      subst (λ (q : ℕ). versions_under d q ≡ versions_under c q) (sym same) (found ∙ sym before)
  under m false is = versions-same c d m (await-other c n m is)

-- and of one that is awaited
pub service-again : (c : Holdings) (rs : List Resident) (n : ℕ) → IsInService c rs → has_no_version c n ≡ false
    → (version_of c n).awaited ≡ true → IsInService (with_await c n) rs
service-again c rs n k held awaited =
    service-same c (with_await c n) rs (keeps-awaited c n k.sound held) (asked-awaited c n held k.asked)
    (awaited-stay c n held awaited) k

-- ---- what a log gave stays

-- with one more that was started here
pub logged-more : (rs : List Resident) (r : Resident) → r.logged ≡ false → logged_in (rs ++ r ∷ []) ≡ logged_in rs
logged-more [] r none =
    logged-cons r [] ∙ ap (λ (b : Bool). if b then kept_of r ∷ [] else []) none
logged-more (x ∷ rs) r none =
    logged-cons x (rs ++ r ∷ [])
    ∙ ap (λ (ks : List Kept). if x.logged then kept_of x ∷ ks else ks) (logged-more rs r none)
    ∙ sym (logged-cons x rs)

-- with another run of a version that was not awaited, so that no log gave it
pub logged-replaced : (c : Holdings) (rs : List Resident) (n : ℕ) (t : Trail) → AreResidents c rs
    → (version_of c n).awaited ≡ false → logged_in (replaced_in n t rs) ≡ logged_in rs
logged-replaced c rs n t own first = all rs own.each where
  here : (r : Resident) → IsResident c r → r.number ≡ n → r.logged ≡ false
  here r is same = at r.logged is.own where
    at : (b : Bool) → IsTrailBy b (version_of c r.number) r.trail → b ≡ false
    at true read =
        absurd (true≢false (sym read.awaited ∙ ap (λ (m : ℕ). (version_of c m).awaited) same ∙ first))
    at false trail = refl

  one : (r : Resident) (ks : List Kept) → IsResident c r → (b : Bool) → (r.number == n) ≡ b
      → (if (if b then made_here n t else r).logged
      then kept_of (if b then made_here n t else r) ∷ ks else ks)
      ≡ (if r.logged then kept_of r ∷ ks else ks)
  one r ks is true same =
      sym (ap (λ (b : Bool). if b then kept_of r ∷ ks else ks) (here r is (eqb-true r.number n same)))
  one r ks is false other = refl

  all : (rs : List Resident) → All (IsResident c) rs → logged_in (replaced_in n t rs) ≡ logged_in rs
  all [] each = refl
  all (r ∷ rs) each =
      logged-cons (if r.number == n then made_here n t else r) (replaced_in n t rs)
      ∙ one r (logged_in (replaced_in n t rs)) (All-head (IsResident c) r rs each) (r.number == n) refl
      ∙ ap (λ (ks : List Kept). if r.logged then kept_of r ∷ ks else ks)
      (all rs (All-tail (IsResident c) r rs each))
      ∙ sym (logged-cons r rs)

-- ---- what was read of a log

-- where a log gave all of them
pub logged-all : (rs : List Resident) → All (λ (r : Resident). r.logged ≡ true) rs → logged_in rs ≡ map kept_of rs
logged-all [] all = refl
logged-all (r ∷ rs) all =
    let is = All-head (λ (x : Resident). x.logged ≡ true) r rs all in
    let rest = logged-all rs (All-tail (λ (x : Resident). x.logged ≡ true) r rs all) in
    logged-cons r rs ∙ ap (λ (b : Bool). if b then kept_of r ∷ logged_in rs else logged_in rs) is
    ∙ ap (λ (ks : List Kept). kept_of r ∷ ks) rest

under-kept : (n : ℕ) (rs : List Resident) → entries_under n (map kept_of rs) ≡ residents_under n rs
under-kept n [] = refl
under-kept n (r ∷ rs) =
    omega (
      arith,
      entries-cons n (kept_of r) (map kept_of rs),
      under-cons n r rs,
      under-kept n rs,
    )

pub residents-read : (c : Holdings) (rs : List Resident) (ks : List Kept) → All (IsResident c) rs
    → map kept_of rs ≡ ks → AreOfVersions c ks → AreResidents c rs
residents-read c rs ks each same own = record {
  each = each;
  once = λ n. sym (under-kept n rs) ∙ ap (entries_under n) same ∙ own.once n;
}
