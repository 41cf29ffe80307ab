-- One call more. The key idea: what there is after some calls and one more is what that call makes of what there is
-- after them, so each fact on a call is one on a scene and its next.
use Rattle.std.proofs.Common.{◌≡◌, ◌⊎◌, inl, inr, ⊎_elim, ℕ, zero, suc, ◌+◌, ◌-◌, ◌≤◌, min}
use Rattle.std.proofs.Common.{List, [], ◌∷◌, ◌++◌, Result, Ok, Err, OnOk, OnErr, is_err, Bool, true, false}
use Rattle.std.proofs.Common.{refl, sym, ap, ◌∙◌, subst, length, take, drop, replicate, arith}
use Rattle.std.proofs.Common.{length-append, length-drop}
use Rattle.std.proofs.Math.Seq.{take-length}
use Rattle.std.proofs.lemmas.List.{append-nil, append_assoc, take_at, drop_at, length-take, length-take-le}
use Rattle.std.proofs.lemmas.List.{length-replicate, drop_all, take_all}
use Rattle.std.proofs.lemmas.Bool.{cases_lt}
use Rattle.sz_outside.specs.Disk.{Passes, Follows, Torn, written}
use Rattle.sz_outside.specs.History.{Event, Scene, Shows, scene_before, scene_at, scene_after, with_ones, step_of}
use Rattle.sz_outside.specs.History.{MayLeave, images_after, LeavesNow, LeavesIn, LeftSince, left_now}
use Rattle.sz_outside.specs.Memory.{Past, now, noted, past_after, Fits, IsOfDisk, KeepsDisk, event, Found}
use Rattle.sz_outside.specs.declared.history.Act.{Act}
use Rattle.sz_outside.specs.declared.history.Act.TheVariants as act

pub scene_last : (s : Scene) (es : List Event) (e : Event)
    → scene_at s (es ++ e ∷ []) ≡ scene_after (scene_at s es) e
scene_last s [] e = refl
scene_last s (x ∷ es) e = scene_last (scene_after s x) es e

-- bytes that show a scene show it after a call that was not noted
pub shows_kept : {d a y o : List ℕ} (s : Scene) (es later : List Event) → later ≡ es
    → Shows d a y o (scene_at s es) → Shows d a y o (scene_at s later)
shows_kept {d} {a} {y} {o} s es later same shown =
    subst (λ (l : List Event). Shows d a y o (scene_at s l)) (sym same) shown

-- and after one that was
pub shows_next : {d a y o : List ℕ} (s : Scene) (es later : List Event) (e : Event) → later ≡ es ++ e ∷ []
    → Shows d a y o (scene_after (scene_at s es) e) → Shows d a y o (scene_at s later)
shows_next {d} {a} {y} {o} s es later e is shown =
    subst (λ (l : List Event). Shows d a y o (scene_at s l)) (sym is)
    (subst (λ (t : Scene). Shows d a y o t) (sym (scene_last s es e)) shown)

-- ---- images

length_written : (disk : List ℕ) (at : ℕ) (bytes : List ℕ)
    → length (written disk at bytes) ≡ min at (length disk) + (length bytes + (length disk - (at + length bytes)))
length_written disk at bytes =
    let all : length (written disk at bytes) ≡ length (take at disk ++ bytes) + length (drop (at + length bytes) disk) =
    length-append (take at disk ++ bytes) (drop (at + length bytes) disk) in
    omega (
      arith,
      all,
      length-append (take at disk) bytes,
      length-drop (at + length bytes) disk,
      length-take at disk,
    )

torn_self : (at n : ℕ) (image : List ℕ) → Torn at n image image
torn_self at n image =
    record { before = refl; after = refl; no_shorter = omega arith; no_longer = omega arith }

torn_written : (disk : List ℕ) (at : ℕ) (bytes : List ℕ) → at ≤ length disk
    → Torn at (length bytes) disk (written disk at bytes)
torn_written disk at bytes place =
    let front : length (take at disk) ≡ at = length-take-le at disk place in
    let size = length_written disk at bytes in
    record {
      before = ap (λ (l : List ℕ). take at l)
          (append_assoc (take at disk) bytes (drop (at + length bytes) disk))
          ∙ take_at (take at disk) (bytes ++ drop (at + length bytes) disk) at front;
      after = drop_at (take at disk ++ bytes) (drop (at + length bytes) disk) (at + length bytes)
          (length-append (take at disk) bytes ∙ ap (λ (n : ℕ). n + length bytes) front);
      no_shorter = omega (arith, size, place);
      no_longer = omega (arith, size, place);
    }

take_take : (i j : ℕ) (l : List ℕ) → i ≤ j → take i (take j l) ≡ take i l
take_take zero j l le = refl
take_take (suc i) zero l le = absurd (omega (arith, le))
take_take (suc i) (suc j) [] le = refl
take_take (suc i) (suc j) (x ∷ l) le = ap (λ (m : List ℕ). x ∷ m) (take_take i j l (omega (arith, le)))

-- the marks of a write are one of the ways in which it may be torn, also where they do not make the disk longer
pub torn_ones : (disk : List ℕ) (at n : ℕ) → at ≤ length disk → Torn at n disk (written disk at (replicate n 1))
torn_ones disk at n place =
    subst (λ (k : ℕ). Torn at k disk (written disk at (replicate n 1))) (length-replicate n 1)
    (torn_written disk at (replicate n 1) place)

pub torn_marked : (disk : List ℕ) (at n : ℕ) → at ≤ length disk → Torn at n disk (with_ones disk at n)
torn_marked disk at n place =
    let over = written disk at (replicate n 1) in
    let torn = torn_ones disk at n place in
    let size : length over ≡ min at (length disk) + (n + (length disk - (at + n))) =
    length_written disk at (replicate n 1)
    ∙ ap (λ (k : ℕ). min at (length disk) + (k + (length disk - (at + k)))) (length-replicate n 1) in
    let cut = length-take (length disk) over in
    record {
      before = take_take at (length disk) over place ∙ torn.before;
      after = ⊎_elim
          (λ past. drop_all (at + n) (with_ones disk at n) (omega (arith, cut, past))
          ∙ sym (drop_all (at + n) disk (omega (arith, past))))
          (λ within. ap (λ (l : List ℕ). drop (at + n) l)
          (take_all (length disk) over (omega (arith, size, within, place))) ∙ torn.after)
          (cases_lt (length disk) (at + n));
      no_shorter = omega (arith, cut, size, place);
      no_longer = omega (arith, cut);
    }

-- the disk as at the last sync is one of the images, whatever is not synced
step_self : (e : Event) (a : Act) (image : List ℕ) → step_of e a image image
step_self e act.Look image = refl
step_self e (act.Write at) image = torn_self at (length e.bytes) image
step_self e (act.Cut size) image = inl refl
step_self e act.Sync image = refl
step_self e act.Say image = refl

pub synced_left : (es : List Event) (synced : List ℕ) → images_after es synced synced
synced_left [] synced = refl
synced_left (e ∷ es) synced = (synced, synced_left es synced, step_self e e.act synced)

-- an image may stay as it was in each call
pub still : (s : Scene) (a : Act) (bytes : List ℕ) (d : Bool) (image : List ℕ) → MayLeave s image
    → Follows (step_of (event a bytes d) a) (MayLeave s) image
still s act.Look bytes d image was = (image, was, refl)
still s (act.Write at) bytes d image was = (image, was, torn_self at (length bytes) image)
still s (act.Cut size) bytes d image was = (image, was, inl refl)
still s act.Sync bytes d image was = (image, was, refl)
still s act.Say bytes d image was = (image, was, refl)

-- each image after a call comes from one before it
pub steps : (s : Scene) (a : Act) (bytes : List ℕ) (d : Bool) → Fits a s → (image : List ℕ)
    → MayLeave (scene_after s (event a bytes d)) image → Follows (step_of (event a bytes d) a) (MayLeave s) image
steps s act.Look bytes true fits image left = (image, left, refl)
steps s act.Look bytes false fits image left = (image, left, refl)
steps s (act.Write at) bytes true fits image (inl read) = (
  s.disk,
  inl refl,
  subst (λ (l : List ℕ). Torn at (length bytes) s.disk l) (sym read)
      (torn_written s.disk at bytes fits),
)
steps s (act.Write at) bytes true fits image (inr (old, was, torn)) = (old, inr was, torn)
steps s (act.Write at) bytes false fits image (inl read) = (image, inl read, torn_self at (length bytes) image)
steps s (act.Write at) bytes false fits image (inr (old, was, torn)) = (old, inr was, torn)
steps s (act.Cut size) bytes true fits image (inl read) = (s.disk, inl refl, inr read)
steps s (act.Cut size) bytes true fits image (inr (old, was, cut)) = (old, inr was, cut)
steps s (act.Cut size) bytes false fits image (inl read) = (image, inl read, inl refl)
steps s (act.Cut size) bytes false fits image (inr (old, was, cut)) = (old, inr was, cut)
steps s act.Sync bytes true fits image (inl read) = (image, inl read, refl)
steps s act.Sync bytes true fits image (inr read) = (image, inl read, refl)
steps s act.Sync bytes false fits image left = (image, left, refl)
steps s act.Say bytes true fits image left = (image, left, refl)
steps s act.Say bytes false fits image left = (image, left, refl)

-- ---- what is found said

found_still : (s : Scene) (a : Act) (bytes said : List ℕ) → said ≡ s.said → Found s bytes a said
found_still s act.Look bytes said is = is
found_still s (act.Write at) bytes said is = is
found_still s (act.Cut size) bytes said is = is
found_still s act.Sync bytes said is = is
found_still s act.Say bytes said is = (0, omega arith, is ∙ sym (append-nil s.said))

found_after : (s : Scene) (a : Act) (bytes : List ℕ) (d : Bool) (said : List ℕ)
    → said ≡ (scene_after s (event a bytes d)).said → Found s bytes a said
found_after s act.Look bytes true said is = is
found_after s act.Look bytes false said is = is
found_after s (act.Write at) bytes true said is = is
found_after s (act.Write at) bytes false said is = is
found_after s (act.Cut size) bytes true said is = is
found_after s (act.Cut size) bytes false said is = is
found_after s act.Sync bytes true said is = is
found_after s act.Sync bytes false said is = is
found_after s act.Say bytes true said is =
    (length bytes, omega arith, is ∙ ap (λ (l : List ℕ). s.said ++ l) (sym (take-length bytes)))
found_after s act.Say bytes false said is = (0, omega arith, is ∙ sym (append-nil s.said))

-- ---- time

now_is_in : (s : Scene) (e : Event) (a : Act) (image said : List ℕ) → LeavesNow s image said
    → LeavesIn s e a image said
now_is_in s e act.Look image said now = now
now_is_in s e (act.Write at) image said now = now
now_is_in s e (act.Cut size) image said now = now
now_is_in s e act.Sync image said now = now
now_is_in s e act.Say image said now = (now.0, found_still s act.Say e.bytes said now.1)

in_finds : (s : Scene) (a : Act) (bytes : List ℕ) (d : Bool) (image said : List ℕ)
    → LeavesIn s (event a bytes d) a image said → MayLeave s image × Found s bytes a said
in_finds s act.Look bytes d image said left = left
in_finds s (act.Write at) bytes d image said left = left
in_finds s (act.Cut size) bytes d image said left = left
in_finds s act.Sync bytes d image said left = left
in_finds s act.Say bytes d image said left = left

left_kept : (s : Scene) (es : List Event) (e : Event) (t : ℕ) (image said : List ℕ) → t ≤ length es
    → LeftSince s es t image said → LeftSince s (es ++ e ∷ []) t image said
left_kept s [] e zero image said le left = inl (now_is_in s e e.act image said left)
left_kept s [] e (suc t) image said le left = absurd (omega (arith, le))
left_kept s (x ∷ es) e zero image said le (inl here) = inl here
left_kept s (x ∷ es) e zero image said le (inr later) =
    inr (left_kept (scene_after s x) es e zero image said (omega arith) later)
left_kept s (x ∷ es) e (suc t) image said le left =
    left_kept (scene_after s x) es e t image said (omega (arith, le)) left

left_joined : (s : Scene) (es : List Event) (e : Event) (t : ℕ) (image said : List ℕ) → t ≤ length es
    → LeftSince s (es ++ e ∷ []) t image said
    → LeftSince s es t image said ⊎ LeftSince s (es ++ e ∷ []) (length es) image said
left_joined s [] e zero image said le left = inr left
left_joined s [] e (suc t) image said le left = absurd (omega (arith, le))
left_joined s (x ∷ es) e zero image said le (inl here) = inl (inl here)
left_joined s (x ∷ es) e zero image said le (inr later) =
    ⊎_elim (λ old. inl (inr old)) (λ new. inr new)
    (left_joined (scene_after s x) es e zero image said (omega arith) later)
left_joined s (x ∷ es) e (suc t) image said le left =
    left_joined (scene_after s x) es e t image said (omega (arith, le)) left

left_earlier : (s : Scene) (es : List Event) (t u : ℕ) (image said : List ℕ) → t ≤ u
    → LeftSince s es u image said → LeftSince s es t image said
left_earlier s [] t u image said le left = left
left_earlier s (x ∷ es) zero zero image said le left = left
left_earlier s (x ∷ es) zero (suc u) image said le left =
    inr (left_earlier (scene_after s x) es zero u image said (omega arith) left)
left_earlier s (x ∷ es) (suc t) zero image said le left = absurd (omega (arith, le))
left_earlier s (x ∷ es) (suc t) (suc u) image said le left =
    left_earlier (scene_after s x) es t u image said (omega (arith, le)) left

left_within : (s : Scene) (es : List Event) (e : Event) (image said : List ℕ)
    → LeftSince s (es ++ e ∷ []) (length es) image said
    → LeavesIn (scene_at s es) e e.act image said ⊎ LeavesNow (scene_after (scene_at s es) e) image said
left_within s [] e image said left = left
left_within s (x ∷ es) e image said left = left_within (scene_after s x) es e image said left

-- time passes from one past to another
abbrev pub From : Past → Past → Act → List ℕ → Bool → Type 0
From p q a bytes d = Passes (length p.events) (length q.events)
    (LeftSince (scene_before p.start) p.events) (LeftSince (scene_before q.start) q.events)
    (MayLeave (now p)) (MayLeave (now q)) (step_of (event a bytes d) a) (Found (now p) bytes a)

-- in a call that was noted
from_noted : (p : Past) (a : Act) (bytes : List ℕ) (d : Bool) → Fits a (now p)
    → From p (noted p a bytes d) a bytes d
from_noted p a bytes d fits =
    let s = scene_before p.start in
    let e = event a bytes d in
    let last = scene_last s p.events e in
    record {
      later = omega (arith, length-append p.events (e ∷ []));
      joined = left_joined s p.events e;
      kept = left_kept s p.events e;
      earlier = λ t image said. left_earlier s (p.events ++ e ∷ []) t (length p.events) image said;
      within = λ image said left. ⊎_elim
          (λ inside. let found = in_finds (now p) a bytes d image said inside in
          (still (now p) a bytes d image found.0, found.1))
          (λ after. (steps (now p) a bytes d fits image after.0, found_after (now p) a bytes d said after.1))
          (left_within s p.events e image said left);
      images = λ image left. steps (now p) a bytes d fits image
          (subst (λ (t : Scene). MayLeave t image) last left);
    }

-- and in one that was not
from_same : (p : Past) (a : Act) (bytes : List ℕ) (d : Bool) → From p p a bytes d
from_same p a bytes d =
    let s = scene_before p.start in
    record {
      later = omega arith;
      joined = λ t image said le left. inl left;
      kept = λ t image said le left. left;
      earlier = λ t image said. left_earlier s p.events t (length p.events) image said;
      within = λ image said left. let here = left_now s p.events image said left in
          (still (now p) a bytes d image here.0, found_still (now p) a bytes said here.1);
      images = λ image left. still (now p) a bytes d image left;
    }

-- so in each call of a history
pub from_call : (p q : Past) (a : Act) (bytes : List ℕ) (d k : Bool) → Fits a (now p) → q ≡ past_after p a bytes d k
    → From p q a bytes d
from_call p q a bytes d true fits is =
    subst (λ (t : Past). From p t a bytes d) (sym is) (from_noted p a bytes d fits)
from_call p q a bytes d false fits is = subst (λ (t : Past). From p t a bytes d) (sym is) (from_same p a bytes d)

-- ---- what is read and said after a call

pub said_after : (s : Scene) (a : Act) (bytes : List ℕ) (d : Bool) → IsOfDisk a
    → (scene_after s (event a bytes d)).said ≡ s.said
said_after s act.Look bytes true not_say = refl
said_after s act.Look bytes false not_say = refl
said_after s (act.Write at) bytes true not_say = refl
said_after s (act.Write at) bytes false not_say = refl
said_after s (act.Cut size) bytes true not_say = refl
said_after s (act.Cut size) bytes false not_say = refl
said_after s act.Sync bytes true not_say = refl
said_after s act.Sync bytes false not_say = refl
said_after s act.Say bytes d not_say = absurd not_say

pub disk_after : (s : Scene) (a : Act) (bytes : List ℕ) (d : Bool) → KeepsDisk a
    → (scene_after s (event a bytes d)).disk ≡ s.disk
disk_after s act.Look bytes true same = refl
disk_after s act.Look bytes false same = refl
disk_after s act.Sync bytes true same = refl
disk_after s act.Sync bytes false same = refl
disk_after s act.Say bytes true same = refl
disk_after s act.Say bytes false same = refl
disk_after s (act.Write at) bytes d same = absurd same
disk_after s (act.Cut size) bytes d same = absurd same

-- what there is after a call that was noted
pub now_noted : (p q : Past) (a : Act) (bytes : List ℕ) (d : Bool) → q ≡ noted p a bytes d
    → now q ≡ scene_after (now p) (event a bytes d)
now_noted p q a bytes d is = ap now is ∙ scene_last (scene_before p.start) p.events (event a bytes d)

-- what such a call leaves stays, whether it was noted or not
pub stays : {T : Type 0} (part : Scene → T) (p q : Past) (a : Act) (bytes : List ℕ) (d k : Bool)
    → part (scene_after (now p) (event a bytes d)) ≡ part (now p) → q ≡ past_after p a bytes d k
    → part (now q) ≡ part (now p)
stays part p q a bytes d true same is = ap part (now_noted p q a bytes d is) ∙ same
stays part p q a bytes d false same is = ap (λ (t : Past). part (now t)) is

even_written : (ones disk : List ℕ) (at : ℕ) (marks bytes : List ℕ) → length ones ≡ length disk
    → length marks ≡ length bytes → length (written ones at marks) ≡ length (written disk at bytes)
even_written ones disk at marks bytes even same =
    omega (arith, length_written ones at marks, length_written disk at bytes, even, same)

even_marked : (ones : List ℕ) (at n : ℕ) → length (with_ones ones at n) ≡ length ones
even_marked ones at n = omega (
  arith,
  length-take (length ones) (written ones at (replicate n 1)),
  length_written ones at (replicate n 1),
)

even_cut : (ones disk : List ℕ) (size : ℕ) → length ones ≡ length disk
    → length (take size ones) ≡ length (take size disk)
even_cut ones disk size even = omega (arith, length-take size ones, length-take size disk, even)

-- the marked disk is as long as the disk
even_after : (s : Scene) (a : Act) (bytes : List ℕ) (d : Bool) → length s.ones ≡ length s.disk
    → length (scene_after s (event a bytes d)).ones ≡ length (scene_after s (event a bytes d)).disk
even_after s act.Look bytes true even = even
even_after s act.Look bytes false even = even
even_after s (act.Write at) bytes true even = even_written s.ones s.disk at (replicate (length bytes) 1) bytes even
    (length-replicate (length bytes) 1)
even_after s (act.Write at) bytes false even = even_marked s.ones at (length bytes) ∙ even
even_after s (act.Cut size) bytes true even = even_cut s.ones s.disk size even
even_after s (act.Cut size) bytes false even = even
even_after s act.Sync bytes true even = refl
even_after s act.Sync bytes false even = even
even_after s act.Say bytes true even = even
even_after s act.Say bytes false even = even

even_at : (s : Scene) (es : List Event) → length s.ones ≡ length s.disk
    → length (scene_at s es).ones ≡ length (scene_at s es).disk
even_at s [] even = even
even_at s (e ∷ es) even = even_at (scene_after s e) es (even_after s e.act e.bytes e.is_done even)

pub even_now : (p : Past) → length (now p).ones ≡ length (now p).disk
even_now p = even_at (scene_before p.start) p.events refl

-- bytes that show what there is show it after a call that may have been noted
pub shows_call : {T E : Type 0} {d a y o : List ℕ} (r : Result T E) (s : Scene) (es later : List Event) (e : Event)
    → OnOk r (later ≡ es ++ e ∷ []) → OnErr r (later ≡ es) → Shows d a y o (scene_at s es)
    → Shows d a y o (scene_after (scene_at s es) e) → Shows d a y o (scene_at s later)
shows_call (Ok x) s es later e ok err before after = shows_next s es later e ok after
shows_call (Err x) s es later e ok err before after = shows_kept s es later err before

-- what holds where a call was done, and it was
pub of_done : {T E P : Type 0} (r : Result T E) → is_err r ≡ false → OnOk r P → P
of_done (Ok x) done ok = ok
of_done (Err x) done ok = absurd (cc done)
