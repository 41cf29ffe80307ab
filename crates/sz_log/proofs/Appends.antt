-- How the calls of an append join. The key idea: until the gate is written all that stands up to it stays, and then
-- the whole group stands behind it, whatever the gate's byte is.
use Rattle.std.proofs.Common.{◌≡◌, ℕ, ◌+◌, ◌-◌, ◌≤◌, ◌<◌, ◌^◌, min, inl, List, Option, None, Some, [], ◌∷◌, ◌++◌, refl}
use Rattle.std.proofs.Common.{ap, ◌∙◌, sym, subst, length, take, arith}
use Rattle.sz_outside.specs.Disk.{Passes, Said, Same, Told, Torn, Writes, HasSize, written}
use Rattle.sz_log.specs.Log.{LogGroup, EndsAt, IsLogGroup, IsLog, group_bytes}
use Rattle.sz_log.specs.Steps.{KeepsFront, AddsOrKeeps, Added, place_behind}
use Rattle.sz_log.proofs.Moments.{joined_by, seen_as}
use Rattle.sz_log.proofs.Tears.{place-inside, kept_log, torn_gate, opened_gate, staged}

pub log_of : (o : Option (List ℕ)) (d : List ℕ) (at : ℕ) → o ≡ Some d → EndsAt o at
    → (es : List LogGroup) × IsLog d es at
log_of o d at is ends = subst (λ (p : Option (List ℕ)). EndsAt p at) is ends

pub size_of : (o : Option (List ℕ)) (d : List ℕ) (n : ℕ) → o ≡ Some d → HasSize o n → n ≡ length d
size_of o d n is has = subst (λ (p : Option (List ℕ)). HasSize p n) is has

pub inside : (o : Option (List ℕ)) (d : List ℕ) (at : ℕ) → o ≡ Some d → EndsAt o at → at + 1 ≤ length d
inside o d at is ends = let held = log_of o d at is ends in place-inside d held.0 at held.1

-- the place behind the gate is a number of the type
pub place_is : (o : Option (List ℕ)) (d : List ℕ) (at size next : ℕ) → o ≡ Some d → EndsAt o at → HasSize o size
    → size < 2 ^ 64 → next ≡ min (at + 1) (2 ^ 64 - 1) → next ≡ at + 1
place_is o d at size next is ends has small sum =
    omega (arith, inside o d at is ends, size_of o d size is has, small, sum)

pub looks_first : {before mid now : ℕ} {past half since : ℕ → List ℕ → List ℕ → Type 0} {A B C : List ℕ → Type 0}
    (found then : Option (List ℕ)) (k : ℕ)
    → Passes before mid past half A B Same (Said found)
    → Passes mid now half since B C (KeepsFront k) (Said then)
    → then ≡ found
    → Passes before now past since A C (KeepsFront k) (Said found)
looks_first {before} {mid} {now} {past} {half} {since} {A} {B} {C} found then k one two same =
    joined_by found then one two same
    (λ image (old, was, is). (old, was, ap (λ (l : List ℕ). take k l) is))
    (λ image (old, was, keeps). (
      (one.images old was).0,
      (one.images old was).1,
      keeps ∙ ap (λ (l : List ℕ). take k l) (one.images old was).2,
    ))

pub as_log : {before now : ℕ} {past since : ℕ → List ℕ → List ℕ → Type 0} {A C : List ℕ → Type 0}
    {F : List ℕ → Type 0} (at : ℕ) (e : LogGroup)
    → Passes before now past since A C (KeepsFront (at + 1)) F
    → Passes before now past since A C (AddsOrKeeps at e) F
as_log {before} {now} {past} {since} {A} {C} {F} at e one =
    seen_as one (λ image (old, was, keeps). (old, was, λ es held. inl (kept_log old es at held image keeps)))

pub opens : {before mid now : ℕ} {past half since : ℕ → List ℕ → List ℕ → Type 0} {A B C : List ℕ → Type 0}
    (found then : Option (List ℕ)) (at : ℕ) (e : LogGroup) (d : List ℕ) → IsLogGroup e
    → ((image : List ℕ) → A image → image ≡ d)
    → ((image : List ℕ) → B image → image ≡ staged d at e)
    → Passes before mid past half A B (AddsOrKeeps at e) (Said found)
    → Passes mid now half since B C (Torn at 1) (Said then)
    → then ≡ found
    → Passes before now past since A C (AddsOrKeeps at e) (Said found)
opens {before} {mid} {now} {past} {half} {since} {A} {B} {C} found then at e d is only_old only_staged one two same =
    joined_by found then one two same (λ image was. was)
    (λ image (old, was, torn). (
      (one.images old was).0,
      (one.images old was).1,
      λ es held. torn_gate d es at
          (subst (λ (l : List ℕ). IsLog l es at) (only_old (one.images old was).0 (one.images old was).1) held)
          e is image (subst (λ (l : List ℕ). Torn at 1 l image) (only_staged old was) torn),
    ))

-- ---- what is told of the disk

pub writes_told : (o new : Option (List ℕ)) (at : ℕ) (x : List ℕ)
    → ((d : List ℕ) → o ≡ Some d → new ≡ Some (written d at x)) → (o ≡ None → new ≡ None) → Writes o new at x
writes_told None new at x here untold = untold refl
writes_told (Some d) new at x here untold = here d refl

-- a write leaves a disk that is not told as it is
pub untold_by : (o new : Option (List ℕ)) (at : ℕ) (x : List ℕ) → o ≡ None → Writes o new at x → new ≡ None
untold_by o new at x is wrote = subst (λ (p : Option (List ℕ)). Writes p new at x) is wrote

pub added_told : (o new : Option (List ℕ)) (at : ℕ) (e : LogGroup) → IsLogGroup e
    → ((d : List ℕ) → o ≡ Some d → new ≡ Some (written d at (group_bytes e ++ 0 ∷ []))) → (o ≡ None → new ≡ None)
    → Added o new at e
added_told None new at e is here untold = untold refl
added_told (Some d) new at e is here untold = (
  written d at (group_bytes e ++ 0 ∷ []),
  here d refl,
  λ es held. opened_gate d es at held e is,
)

-- what an append leaves is what the next one wants
pub ends_behind : (o new : Option (List ℕ)) (at next : ℕ) (e : LogGroup) → EndsAt o at → Added o new at e
    → Told o (next ≡ place_behind at e) → EndsAt new next
ends_behind None new at next e ends added told =
    subst (λ (p : Option (List ℕ)). EndsAt p next) (sym added) tt
ends_behind (Some d) new at next e (es, held) (image, is, adds) told =
    subst (λ (p : Option (List ℕ)). EndsAt p next) (sym is)
    (es ++ e ∷ [], subst (λ (n : ℕ). IsLog image (es ++ e ∷ []) n) (sym told) (adds es held))
