-- How the calls that make a log join. The key idea: each of them is synced before the next, so a stop within one tears
-- one image alone, and as long as the header's gate is closed what is left is no log.
use Rattle.std.proofs.Common.{◌≡◌, ◌≢◌, inl, inr, ℕ, ◌≤◌, Bool, false, List, Option, None, Some, [], ◌∷◌, refl, sym, ap}
use Rattle.std.proofs.Common.{◌∙◌, subst, length, get_or, take, drop, arith}
use Rattle.std.proofs.lemmas.Bool.{cases_eq, le-ltb}
use Rattle.std.proofs.lemmas.Bool.Decides.{nat_tests}
use Rattle.sz_outside.specs.Disk.{Passes, Follows, Said, Same, Torn, Cut, HasImage}
use Rattle.sz_log.specs.Log.{begins_as_log, empty_log, bar_to}
use Rattle.sz_log.specs.Places.{SaysWhether}
use Rattle.sz_log.specs.Steps.{IsShort, Makes, MakesIfFree}
use Rattle.sz_log.proofs.Moments.{joined_by, seen_as}

-- the empty log behind its header's gate
abbrev pub title : List ℕ
title = drop 1 empty_log

-- fewer than 16 bytes are no log
few : (image : List ℕ) → length image ≤ 1 → begins_as_log image ≡ false
few [] le = refl
few (x ∷ []) le = grind (arith, nat_tests)
few (x ∷ y ∷ l) le = absurd (omega (arith, le))

-- and neither are those that begin with a closed gate
shut : (gate : ℕ) (l : List ℕ) → gate ≢ 1 → begins_as_log (gate ∷ l) ≡ false
shut gate l closed = grind (arith, nat_tests)

pub cut_is_short : (old image : List ℕ) → Cut 0 old image → Makes old image
cut_is_short old image (inl same) = inl same
cut_is_short old image (inr none) = inr (inl (subst IsShort (sym none) (omega arith, refl)))

pub torn_first : (old image : List ℕ) → Torn 0 1 [] image → Makes old image
torn_first old image torn =
    let le : length image ≤ 1 = omega (arith, torn.no_longer) in
    inr (inl (omega (arith, le), few image le))

torn_second-by : (image : List ℕ) → length image ≤ 17 → take 1 image ≡ 0 ∷ [] → IsShort image
torn_second-by [] le is = (omega arith, refl)
torn_second-by (x ∷ l) le is = (
  le,
  shut x l (omega (arith, ap (λ (r : List ℕ). get_or r 0 0) is)),
)

pub torn_second : (old image : List ℕ) → Torn 1 16 (0 ∷ []) image → Makes old image
torn_second old image torn = inr (inl (torn_second-by image (omega (arith, torn.no_longer)) torn.before))

torn_third-by : (old : List ℕ) (gate : ℕ) (l : List ℕ) → l ≡ title → Makes old (gate ∷ l)
torn_third-by old gate l is = elim (cases_eq gate 1) [
  | inl one ↦ inr (inr (ap (λ (n : ℕ). n ∷ l) one ∙ ap (λ (r : List ℕ). 1 ∷ r) is))
  | inr other ↦ inr (inl (omega (arith, ap length is), shut gate l other))
]

pub torn_third : (old image : List ℕ) → Torn 0 1 (0 ∷ title) image → Makes old image
torn_third old [] torn = absurd (omega (arith, torn.no_shorter))
torn_third old (x ∷ l) torn = torn_third-by old x l torn.after

pub cleared : {before now : ℕ} {past since : ℕ → List ℕ → List ℕ → Type 0} {A C : List ℕ → Type 0}
    {F : List ℕ → Type 0}
    → Passes before now past since A C (Cut 0) F
    → Passes before now past since A C Makes F
cleared {before} {now} {past} {since} {A} {C} {F} one =
    seen_as one (λ image (old, was, cut). (old, was, cut_is_short old image cut))

-- a write to a disk of which a stop leaves what is read
pub puts : {before mid now : ℕ} {past half since : ℕ → List ℕ → List ℕ → Type 0} {A B C : List ℕ → Type 0}
    (found then : Option (List ℕ)) (at n : ℕ) (d : List ℕ)
    → ((image : List ℕ) → B image → image ≡ d)
    → ((old image : List ℕ) → Torn at n d image → Makes old image)
    → Passes before mid past half A B Makes (Said found)
    → Passes mid now half since B C (Torn at n) (Said then)
    → then ≡ found
    → Passes before now past since A C Makes (Said found)
puts {before} {mid} {now} {past} {half} {since} {A} {B} {C} found then at n d only makes one two same =
    joined_by found then one two same (λ image was. was)
    (λ image (old, was, torn). (
      (one.images old was).0,
      (one.images old was).1,
      makes (one.images old was).0 image (subst (λ (l : List ℕ). Torn at n l image) (only old was) torn),
    ))

pub image_of : (o : Option (List ℕ)) (d : List ℕ) (images : List ℕ → Type 0) → o ≡ Some d → HasImage o images → images d
image_of o d images is has = subst (λ (p : Option (List ℕ)). HasImage p images) is has

-- where the disk is free to be made a log
pub free : (d old image : List ℕ) → (images : List ℕ → Type 0) → bar_to d ≡ None → images d → images old
    → Makes old image
    → Follows MakesIfFree images image
free d old image images is_free has was (inl same) = (old, was, inl same)
free d old image images is_free has was (inr made) = (d, has, inr (is_free, made))

pub bar_none : (d : List ℕ) → begins_as_log d ≡ false → length d ≤ 17 → bar_to d ≡ None
bar_none d no_log small = rw (no_log, le-ltb 17 (length d) small) refl

pub looks_twice : {before mid now : ℕ} {past half since : ℕ → List ℕ → List ℕ → Type 0} {A B C : List ℕ → Type 0}
    (found then : Option (List ℕ))
    → Passes before mid past half A B Same (Said found)
    → Passes mid now half since B C Same (Said then)
    → then ≡ found
    → Passes before now past since A C Same (Said found)
looks_twice {before} {mid} {now} {past} {half} {since} {A} {B} {C} found then one two same =
    joined_by found then one two same (λ image was. was)
    (λ image (old, was, is). ((one.images old was).0, (one.images old was).1, is ∙ (one.images old was).2))

pub makes_free : {before mid now : ℕ} {past half since : ℕ → List ℕ → List ℕ → Type 0} {A B C : List ℕ → Type 0}
    (found then : Option (List ℕ)) (d : List ℕ) → bar_to d ≡ None → A d
    → Passes before mid past half A B Same (Said found)
    → Passes mid now half since B C Makes (Said then)
    → then ≡ found
    → Passes before now past since A C MakesIfFree (Said found)
makes_free {before} {mid} {now} {past} {half} {since} {A} {B} {C} found then d is_free has one two same =
    joined_by found then one two same (λ image (old, was, is). (old, was, inl is))
    (λ image (old, was, makes). free d (one.images old was).0 image A is_free has (one.images old was).1
    (subst (λ (l : List ℕ). Makes l image) (one.images old was).2 makes))

pub whether_of : (o : Option (List ℕ)) (d : List ℕ) (says : Bool) → o ≡ Some d → SaysWhether o says
    → says ≡ begins_as_log d
whether_of o d says is whether = subst (λ (p : Option (List ℕ)). SaysWhether p says) is whether
