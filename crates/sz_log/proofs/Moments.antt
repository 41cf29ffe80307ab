-- How calls join. The key idea: what a stop leaves in the second of two calls follows from what may be left between
-- them, so it is enough to say once what both steps together make of an image.
use Rattle.std.proofs.Common.{◌≡◌, inl, inr, ⊎_elim, ℕ, ◌≤◌, List, Option, None, Some, refl, ◌∙◌, subst, arith}
use Rattle.sz_outside.specs.Disk.{Told, Only, Passes, Follows, Said, Torn, Writes, written}
use Rattle.sz_log.specs.Steps.{KeepsFront}
use Rattle.sz_log.proofs.Tears.{torn_keeps}

abbrev pub Images : Type 1
Images = List ℕ → Type 0

-- what is told of a disk holds of the bytes that it tells
pub told : (o : Option (List ℕ)) (d : List ℕ) (C : Type 0) → o ≡ Some d → Told o C → C
told o d C is here = subst (λ (p : Option (List ℕ)). Told p C) is here

-- and what holds of the bytes that it tells is told
pub all_told : (o : Option (List ℕ)) (C : Type 0) → ((d : List ℕ) → o ≡ Some d → C) → Told o C
all_told None C here = tt
all_told (Some d) C here = here d refl

pub only_of : (o : Option (List ℕ)) (d : List ℕ) (images : List ℕ → Type 0) → o ≡ Some d → Only o images
    → (image : List ℕ) → images image → image ≡ d
only_of o d images is only = subst (λ (p : Option (List ℕ)). Only p images) is only

pub writes_of : (o new : Option (List ℕ)) (d : List ℕ) (at : ℕ) (x : List ℕ) → o ≡ Some d → Writes o new at x
    → new ≡ Some (written d at x)
writes_of o new d at x is wrote = subst (λ (p : Option (List ℕ)). Writes p new at x) is wrote

-- one call behind another
pub joined_by : {before mid now : ℕ} {past half since : ℕ → List ℕ → List ℕ → Type 0} {A B C : List ℕ → Type 0}
    {S T U : List ℕ → List ℕ → Type 0} (found then : Option (List ℕ))
    → Passes before mid past half A B S (Said found)
    → Passes mid now half since B C T (Said then)
    → then ≡ found
    → ((image : List ℕ) → Follows S A image → Follows U A image)
    → ((image : List ℕ) → Follows T B image → Follows U A image)
    → Passes before now past since A C U (Said found)
joined_by {before} {mid} {now} {past} {half} {since} {A} {B} {C} {S} {T} {U} found then one two same first second =
    record {
      later = omega (arith, one.later, two.later);
      joined = λ t image said le left. ⊎_elim
          (λ was. ⊎_elim inl (λ in_first. inr (two.kept before image said one.later in_first))
          (one.joined t image said le was))
          (λ in_second. inr (two.earlier before image said one.later in_second))
          (two.joined t image said (omega (arith, le, one.later)) left);
      kept = λ t image said le was. two.kept t image said (omega (arith, le, one.later)) (one.kept t image said le was);
      earlier = λ t image said le left. ⊎_elim
          (λ in_first. two.kept t image said (omega (arith, le, one.later)) (one.earlier t image said le in_first))
          (λ in_second. two.earlier t image said (omega (arith, le, one.later)) in_second)
          (two.joined before image said one.later left);
      within = λ image said left. ⊎_elim
          (λ in_first. (first image (one.within image said in_first).0, (one.within image said in_first).1))
          (λ in_second. (
            second image (two.within image said in_second).0,
            subst (λ (o : Option (List ℕ)). Said o said) same (two.within image said in_second).1,
          ))
          (two.joined before image said one.later left);
      images = λ image left. second image (two.images image left);
    }

-- a call whose images are seen otherwise
pub seen_as : {before now : ℕ} {past since : ℕ → List ℕ → List ℕ → Type 0} {A C : List ℕ → Type 0}
    {S U : List ℕ → List ℕ → Type 0} {F : List ℕ → Type 0}
    → Passes before now past since A C S F
    → ((image : List ℕ) → Follows S A image → Follows U A image)
    → Passes before now past since A C U F
seen_as {before} {now} {past} {since} {A} {C} {S} {U} {F} one first = record {
  later = one.later;
  joined = one.joined;
  kept = one.kept;
  earlier = one.earlier;
  within = λ image said left. (first image (one.within image said left).0, (one.within image said left).1);
  images = λ image left. first image (one.images image left);
}

-- ---- calls that keep the front

pub keeps_first : {before now : ℕ} {past since : ℕ → List ℕ → List ℕ → Type 0} {A C : List ℕ → Type 0}
    {F : List ℕ → Type 0} (k at n : ℕ)
    → Passes before now past since A C (Torn at n) F → k ≤ at
    → Passes before now past since A C (KeepsFront k) F
keeps_first {before} {now} {past} {since} {A} {C} {F} k at n one le =
    seen_as one (λ image (old, was, torn). (old, was, torn_keeps k at n old image le torn))

pub keeps_write : {before mid now : ℕ} {past half since : ℕ → List ℕ → List ℕ → Type 0} {A B C : List ℕ → Type 0}
    (found then : Option (List ℕ)) (k at n : ℕ)
    → Passes before mid past half A B (KeepsFront k) (Said found)
    → Passes mid now half since B C (Torn at n) (Said then)
    → then ≡ found → k ≤ at
    → Passes before now past since A C (KeepsFront k) (Said found)
keeps_write {before} {mid} {now} {past} {half} {since} {A} {B} {C} found then k at n one two same le =
    joined_by found then one two same (λ image was. was) (λ image (old, was, torn). (
      (one.images old was).0,
      (one.images old was).1,
      torn_keeps k at n old image le torn ∙ (one.images old was).2,
    ))
