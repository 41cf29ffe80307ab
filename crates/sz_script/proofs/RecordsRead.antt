-- The records of a text. The key idea: records that were taken one after another are the first of all that a text has,
-- so a record that is none makes the text bad, and after the last one they are all.
use Rattle.std.proofs.Common.{◌≡◌, ◌≤◌, ◌+◌, ◌-◌, ◌⊎◌, inl, inr, ℕ, zero, suc, List, [], ◌∷◌, ◌++◌, length}
use Rattle.std.proofs.Common.{Bool, true, false, if◌then◌else◌, Option, Some, None, ap, ap₂, ◌∙◌, refl, sym, arith}
use Rattle.std.proofs.Common.{append-nil}
use Rattle.std.proofs.lemmas.Option.{none-some, same_Some}
use Rattle.csv.specs.Machine.{Read, next_record, is_end, step, ends_at_end, fields_after, field_after}
use Rattle.csv.specs.Reading.{Reached, default_config, records_from, records_next, strip_bom}
use Rattle.csv.specs.declared.parser.Config.{Config}
use Rattle.csv.specs.declared.parser.State.{State}
use Rattle.csv.specs.declared.parser.State.TheVariants as st
use Rattle.sz_script.specs.Records.{records_in}

-- ---- how many records there are at most

ended : {A : Type 0} (b : Bool) (q p : A) → ◌≡◌ {A = Option A} (if b then Some q else None) (Some p) → q ≡ p
ended true q p e = same_Some q p e
ended false q p e = absurd (none-some p e)

ended-or : {A : Type 0} (b : Bool) (q : A) (o : Option A) (p : A) → (if b then Some q else o) ≡ Some p
    → (q ≡ p) ⊎ (o ≡ Some p)
ended-or true q o p e = inl (same_Some q p e)
ended-or false q o p e = inr e

-- a record takes a byte of the text, where there is one
shorter : (cfg : Config) (s : State) (fields : List (List ℕ)) (field xs : List ℕ) (p : Read)
    → next_record cfg s fields field xs ≡ Some p → length p.2 ≤ length xs - 1
unfolding next_record
shorter cfg s fields field [] p e =
    let q : Read = (fields ++ (field ∷ []), st.StartRecord, []) in
    let none : 0 ≡ length p.2 = ap (λ (r : Read). length r.2) (ended (ends_at_end s) q p e) in
    omega (arith, none)
shorter cfg s fields field (c ∷ rest) p e =
    let a = (step cfg s c).1 in
    let q : Read = (fields_after a fields field, (step cfg s c).0, rest) in
    elim (ended-or (is_end a) q _ p e) [
      | inl same ↦
          let left : length rest ≡ length p.2 = ap (λ (r : Read). length r.2) same in
          omega (arith, left)
      | inr more ↦
          let left = shorter cfg (step cfg s c).0 (fields_after a fields field) (field_after a c field) rest p more in
          omega (arith, left)
    ]

last : (cfg : Config) (s : State) (p : Read) → next_record cfg s [] [] [] ≡ Some p
    → (st.StartRecord ≡ p.1) × ([] ≡ p.2)
unfolding next_record
last cfg s p e =
    let q : Read = ([] ∷ [], st.StartRecord, []) in
    let same = ended (ends_at_end s) q p e in
    (ap (λ (r : Read). r.1) same, ap (λ (r : Read). r.2) same)

after_last : (cfg : Config) (rs : List (List (List ℕ))) (s s2 : State) (xs ys : List ℕ) → st.StartRecord ≡ s
    → [] ≡ xs → Reached cfg s xs rs s2 ys → length rs ≡ 0
unfolding Reached next_record
after_last cfg [] s s2 xs ys start end h = refl
after_last cfg (r ∷ rs) s s2 xs ys start end h =
    absurd (none-some h.0 (ap₂ (λ (t : State) (l : List ℕ). next_record cfg t [] [] l) start end ∙ h.1))

counted : (cfg : Config) (s s2 : State) (xs ys : List ℕ) (rs : List (List (List ℕ))) → Reached cfg s xs rs s2 ys
    → length rs ≤ length xs + 1
unfolding Reached
counted cfg s s2 xs ys [] h = omega arith
counted cfg s s2 [] ys (r ∷ rs) h =
    let end = last cfg s h.0 h.1 in
    let none = after_last cfg rs h.0.1 s2 h.0.2 ys end.0 end.1 h.3 in
    omega (arith, none)
counted cfg s s2 (c ∷ rest) ys (r ∷ rs) h =
    let less = shorter cfg s [] [] (c ∷ rest) h.0 h.1 in
    let more = counted cfg h.0.1 s2 h.0.2 ys rs h.3 in
    omega (arith, less, more)

-- ---- all records of a text

going : (cfg : Config) (n : ℕ) (s s2 : State) (xs ys : List ℕ) (rs : List (List (List ℕ))) → Reached cfg s xs rs s2 ys
    → length rs ≤ n → (m : ℕ) × (records_from cfg n s xs ≡ rs ++ records_from cfg m s2 ys)
unfolding Reached records_from
going cfg n s s2 xs ys [] h le = (n, ap₂ (records_from cfg n) h.0 h.1)
going cfg zero s s2 xs ys (r ∷ rs) h le = absurd (omega (arith, le))
going cfg (suc n) s s2 xs ys (r ∷ rs) h le =
    let rest = going cfg n h.0.1 s2 h.0.2 ys rs h.3 (omega (arith, le)) in (
      rest.0,
      ap (records_next (records_from cfg n)) h.1
          ∙ ap₂ (λ (x : List (List ℕ)) (l : List (List (List ℕ))). x ∷ l) (sym h.2) rest.1,
    )

nothing : (cfg : Config) (m : ℕ) (s : State) (ys : List ℕ) → next_record cfg s [] [] ys ≡ None
    → records_from cfg m s ys ≡ []
unfolding records_from
nothing cfg zero s ys e = refl
nothing cfg (suc m) s ys e = ap (records_next (records_from cfg m)) e

reaching : (text : List ℕ) (rs : List (List (List ℕ))) (s : State) (ys : List ℕ)
    → Reached default_config st.StartRecord (strip_bom text) rs s ys
    → (m : ℕ) × (records_in text ≡ rs ++ records_from default_config m s ys)
reaching text rs s ys h =
    going default_config (length (strip_bom text) + 1) st.StartRecord s (strip_bom text) ys rs h
    (counted default_config st.StartRecord s (strip_bom text) ys rs h)

-- records that were taken are the first ones
pub begins : (text : List ℕ) (rs : List (List (List ℕ))) (s : State) (ys : List ℕ)
    → Reached default_config st.StartRecord (strip_bom text) rs s ys
    → (more : List (List (List ℕ))) × (records_in text ≡ rs ++ more)
begins text rs s ys h = let r = reaching text rs s ys h in (records_from default_config r.0 s ys, r.1)

-- and all of them where there is no next one
pub ends : (text : List ℕ) (rs : List (List (List ℕ))) (s : State) (ys : List ℕ)
    → Reached default_config st.StartRecord (strip_bom text) rs s ys → next_record default_config s [] [] ys ≡ None
    → records_in text ≡ rs
ends text rs s ys h none =
    let r = reaching text rs s ys h in
    r.1 ∙ ap (λ (l : List (List (List ℕ))). rs ++ l) (nothing default_config r.0 s ys none) ∙ append-nil rs
