-- Passes of a station, one behind another.
--
-- The key idea: of two passes, what a stop leaves in the second follows from what might have been left between them,
-- and so from what might have been left before the first. What holds of images and of what is found said apart holds
-- of both together.
use Rattle.std.proofs.Common.{ℕ, ◌≤◌, List, Option, None, Some, sym, subst, inl, inr, ⊎_elim, arith}
use Rattle.sz_outside.specs.Disk.{Told, Passes, Follows, Same, Said}
use Rattle.sz_outside.specs.declared.stations.Station.{Ghosts}
use Rattle.sz_feed.specs.Running.{PassesAmong}

abbrev pub Since : Type 1
Since = ℕ → List ℕ → List ℕ → Type 0

abbrev pub Images : Type 1
Images = List ℕ → Type 0

abbrev pub Finding : Type 1
Finding = List ℕ → List ℕ → Type 0

-- ---- now

-- what a stop finds of a station now is what is pending there
abbrev pub FindsNow : {X : Type 0} → Ghosts X → X → Type 0
FindsNow T a = (image found : List ℕ) → Told (T.disk a)
    (T.left_since a (T.moment a) image found → T.may_leave a image × Said (T.said a) found)

-- and each such thing is found
abbrev pub CountsNow : {X : Type 0} → Ghosts X → X → Type 0
CountsNow T a = (t : ℕ) (image found : List ℕ) → Told (T.disk a)
    (t ≤ T.moment a → T.may_leave a image → Said (T.said a) found → T.left_since a t image found)

-- ---- told together

-- a pass among more
pub among-more : {n m : ℕ} {past since : Since} (A B : Finding)
    → ((image found : List ℕ) → A image found → B image found)
    → PassesAmong n m past since A → PassesAmong n m past since B
among-more {n} {m} {past} {since} A B more p = record {
  later = p.later;
  joined = p.joined;
  kept = p.kept;
  earlier = p.earlier;
  within = λ image found left. more image found (p.within image found left);
}

-- one pass behind another
pub among-then : {n m k : ℕ} {past half since : Since} (A B C : Finding)
    → ((image found : List ℕ) → A image found → C image found) → ((image found : List ℕ) → B image found
    → C image found)
    → PassesAmong n m past half A → PassesAmong m k half since B → PassesAmong n k past since C
among-then {n} {m} {k} {past} {half} {since} A B C first second one two = record {
  later = omega (arith, one.later, two.later);
  joined = λ t image said le left. ⊎_elim
      (λ was. ⊎_elim inl (λ in_first. inr (two.kept n image said one.later in_first))
      (one.joined t image said le was))
      (λ in_second. inr (two.earlier n image said one.later in_second))
      (two.joined t image said (omega (arith, le, one.later)) left);
  kept = λ t image said le was. two.kept t image said (omega (arith, le, one.later)) (one.kept t image said le was);
  earlier = λ t image said le left. ⊎_elim
      (λ in_first. two.kept t image said (omega (arith, le, one.later)) (one.earlier t image said le in_first))
      (λ in_second. two.earlier t image said (omega (arith, le, one.later)) in_second)
      (two.joined n image said one.later left);
  within = λ image said left. ⊎_elim
      (λ in_first. first image said (one.within image said in_first))
      (λ in_second. second image said (two.within image said in_second))
      (two.joined n image said one.later left);
}

-- a pass that is told apart is one that is told together
pub among-apart : {n m : ℕ} {past since : Since} {A B : List ℕ → Type 0} {step : Finding} {F : List ℕ → Type 0}
    (C : Finding)
    → ((image found : List ℕ) → Follows step A image → F found → C image found)
    → Passes n m past since A B step F → PassesAmong n m past since C
among-apart {n} {m} {past} {since} {A} {B} {step} {F} C both p = record {
  later = p.later;
  joined = p.joined;
  kept = p.kept;
  earlier = p.earlier;
  within = λ image found left. both image found (p.within image found left).0 (p.within image found left).1;
}

-- ---- told apart

pub told-both : (o : Option (List ℕ)) (A B C : Type 0) → (A → B → C) → Told o A → Told o B → Told o C
told-both None A B C f p q = tt
told-both (Some d) A B C f p q = f p q

-- an image that stays as it is is one of those before
pub same-follows : (A : Images) (image : List ℕ) → Follows Same A image → A image
same-follows A image (old, was, is) = subst A (sym is) was

-- a pass that finds what follows of what it found
pub pass-finds : {n m : ℕ} {past since : Since} {A B : Images} {S : Finding} {F H : Images}
    → ((found : List ℕ) → F found → H found) → Passes n m past since A B S F → Passes n m past since A B S H
pass-finds {n} {m} {past} {since} {A} {B} {S} {F} {H} more one = record {
  later = one.later;
  joined = one.joined;
  kept = one.kept;
  earlier = one.earlier;
  within = λ image found left. ((one.within image found left).0, more found (one.within image found left).1);
  images = one.images;
}

-- one pass behind another, where it is told what both make of an image and find said
pub pass-behind : {n m k : ℕ} {past half since : Since} {A B C : Images} {S R U : Finding} {F G H : Images}
    → Passes n m past half A B S F → Passes m k half since B C R G
    → ((image : List ℕ) → Follows S A image → Follows U A image)
    → ((image : List ℕ) → Follows R B image → Follows U A image)
    → ((found : List ℕ) → F found → H found) → ((found : List ℕ) → G found → H found)
    → Passes n k past since A C U H
pass-behind {n} {m} {k} {past} {half} {since} {A} {B} {C} {S} {R} {U} {F} {G} {H} one two first second more then =
    let Found : Finding = λ image found. Follows U A image × H found in
    let both : PassesAmong n k past since Found =
    among-then Found Found Found (λ image found f. f) (λ image found f. f)
    (among-apart Found (λ image found left said. (first image left, more found said)) one)
    (among-apart Found (λ image found left said. (second image left, then found said)) two) in
    record {
      images = λ image left. second image (two.images image left);
      later = both.later;
      joined = both.joined;
      kept = both.kept;
      earlier = both.earlier;
      within = both.within;
    }

-- where both leave each image as it is
pub pass-then : {n m k : ℕ} {past half since : Since} {A B C : Images} (F : Images)
    → Passes n m past half A B Same F → Passes m k half since B C Same F → Passes n k past since A C Same F
pass-then {n} {m} {k} {past} {half} {since} {A} {B} {C} F one two =
    pass-behind {U = Same} {H = F} one two (λ image left. left)
    (λ image left. one.images image (same-follows B image left)) (λ found was. was) (λ found was. was)
