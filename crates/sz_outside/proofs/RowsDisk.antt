-- Small disks worked by hand: what a call makes of them, and which images a stop may leave and which it may not.
--
-- The key idea: on written-out bytes each definition computes, so an image that is refused would hold two different
-- bytes, or two different sizes, equal.
use Rattle.std.proofs.Common.{◌≡◌, ℕ, zero, suc, ◌-◌, ◌^◌, true, false, List, [], ◌∷◌, Bool}
use Rattle.std.proofs.Common.{Some, None, refl, arith, subst, inl, inr}
use Rattle.sz_outside.specs.Counts.{faults_after}
use Rattle.sz_outside.specs.Disk.{bytes_at, written, HasSize, HasPlace, GivesAt, Holds, Writes, Cuts, Torn, Cut}
use Rattle.sz_outside.specs.Disk.{SaidPart, WritesPart, CutsOrNot, Follows}
use Rattle.sz_outside.specs.History.{Event, Scene, scene_before, scene_at, with_ones, MayLeave, LeftSince}
use Rattle.sz_outside.specs.Memory.{ledger_before, is_stopped, is_next_done, is_write_done, image_by}
use Rattle.sz_outside.specs.declared.history.Act.{Act}
use Rattle.sz_outside.specs.declared.history.Act.TheVariants as act
use Rattle.sz_outside.specs.declared.stations.Torn.TheVariants as torn

-- ---- bytes

-- bytes are written in the middle, over the end, at the end and not at all
pub written-middle : written (5 ∷ 6 ∷ 7 ∷ 8 ∷ []) 1 (20 ∷ 21 ∷ []) ≡ 5 ∷ 20 ∷ 21 ∷ 8 ∷ []
written-middle = refl

pub written-over_end : written (5 ∷ 6 ∷ []) 1 (8 ∷ 9 ∷ []) ≡ 5 ∷ 8 ∷ 9 ∷ []
written-over_end = refl

pub written-at_end : written (5 ∷ 6 ∷ []) 2 (9 ∷ []) ≡ 5 ∷ 6 ∷ 9 ∷ []
written-at_end = refl

pub written-none : written (5 ∷ 6 ∷ []) 1 [] ≡ 5 ∷ 6 ∷ []
written-none = refl

-- marks make no disk longer
pub with_ones-over_end : with_ones (5 ∷ 6 ∷ []) 1 3 ≡ 5 ∷ 1 ∷ []
with_ones-over_end = refl

pub with_ones-middle : with_ones (5 ∷ 6 ∷ 7 ∷ []) 1 1 ≡ 5 ∷ 1 ∷ 7 ∷ []
with_ones-middle = refl

-- a read gives as many as there is room for, and as there are
pub bytes_at-room : bytes_at (5 ∷ 6 ∷ 7 ∷ []) 1 1 ≡ 6 ∷ []
bytes_at-room = refl

pub bytes_at-rest : bytes_at (5 ∷ 6 ∷ 7 ∷ []) 2 8 ≡ 7 ∷ []
bytes_at-rest = refl

pub bytes_at-end : bytes_at (5 ∷ 6 ∷ 7 ∷ []) 3 8 ≡ []
bytes_at-end = refl

pub gives_at : GivesAt (Some (5 ∷ 6 ∷ 7 ∷ [])) 1 4 (6 ∷ 7 ∷ 0 ∷ 0 ∷ []) 2
gives_at = (refl, refl)

pub gives_at-too_few : GivesAt (Some (5 ∷ 6 ∷ 7 ∷ [])) 1 4 (6 ∷ 0 ∷ 0 ∷ 0 ∷ []) 1 → ⊥
gives_at-too_few h = let e = h.0 in cc

pub gives_at-other_place : GivesAt (Some (5 ∷ 6 ∷ 7 ∷ [])) 1 2 (5 ∷ 6 ∷ []) 2 → ⊥
gives_at-other_place h = let e = h.1 in cc

pub holds : Holds (Some (5 ∷ 6 ∷ 7 ∷ [])) 1 (6 ∷ 7 ∷ [])
holds = refl

pub holds-past_end : Holds (Some (5 ∷ 6 ∷ [])) 1 (6 ∷ 7 ∷ []) → ⊥
holds-past_end h = let e = h in cc

pub has_size-other : HasSize (Some (5 ∷ 6 ∷ [])) 3 → ⊥
has_size-other h = let e = h in cc

-- the end of the disk is a place, and what lies behind it is none
pub has_place-end : HasPlace (Some (5 ∷ 6 ∷ [])) 2
has_place-end = omega arith

pub has_place-past_end : HasPlace (Some (5 ∷ 6 ∷ [])) 3 → ⊥
has_place-past_end h = omega (arith, h)

-- a write and a cut leave the disk told, and as they say
pub writes-untold : Writes (Some (5 ∷ 6 ∷ [])) None 1 (9 ∷ []) → ⊥
writes-untold h = let e = h in cc

pub writes-one_too_many : Writes (Some (5 ∷ 6 ∷ [])) (Some (5 ∷ 9 ∷ 0 ∷ [])) 1 (9 ∷ []) → ⊥
writes-one_too_many h = let e = h in cc

pub cuts : Cuts (Some (5 ∷ 6 ∷ 7 ∷ [])) (Some (5 ∷ [])) 1
cuts = refl

pub cuts-nothing : Cuts (Some (5 ∷ 6 ∷ 7 ∷ [])) (Some (5 ∷ 6 ∷ 7 ∷ [])) 1 → ⊥
cuts-nothing h = let e = h in cc

-- ---- what a step leaves of one image

-- a write of two bytes in the middle may leave any two bytes there
pub torn-both : Torn 1 2 (5 ∷ 6 ∷ 7 ∷ 8 ∷ []) (5 ∷ 0 ∷ 255 ∷ 8 ∷ [])
torn-both = record { before = refl; after = refl; no_shorter = omega arith; no_longer = omega arith }

pub torn-neither : Torn 1 2 (5 ∷ 6 ∷ 7 ∷ 8 ∷ []) (5 ∷ 6 ∷ 7 ∷ 8 ∷ [])
torn-neither = record { before = refl; after = refl; no_shorter = omega arith; no_longer = omega arith }

-- not another byte before them or behind, and no other size
pub torn-before : Torn 1 2 (5 ∷ 6 ∷ 7 ∷ 8 ∷ []) (4 ∷ 6 ∷ 7 ∷ 8 ∷ []) → ⊥
torn-before h = let e = h.before in cc

pub torn-after : Torn 1 2 (5 ∷ 6 ∷ 7 ∷ 8 ∷ []) (5 ∷ 6 ∷ 7 ∷ 9 ∷ []) → ⊥
torn-after h = let e = h.after in cc

pub torn-shorter : Torn 1 2 (5 ∷ 6 ∷ 7 ∷ 8 ∷ []) (5 ∷ 6 ∷ 7 ∷ []) → ⊥
torn-shorter h = omega (arith, h.no_shorter)

pub torn-longer : Torn 1 2 (5 ∷ 6 ∷ 7 ∷ 8 ∷ []) (5 ∷ 6 ∷ 7 ∷ 8 ∷ 9 ∷ []) → ⊥
torn-longer h = omega (arith, h.no_longer)

-- a write of two bytes that goes past the end by one may leave the old size or the new one
pub torn-new_size : Torn 2 2 (5 ∷ 6 ∷ 7 ∷ []) (5 ∷ 6 ∷ 1 ∷ 1 ∷ [])
torn-new_size = record { before = refl; after = refl; no_shorter = omega arith; no_longer = omega arith }

pub torn-old_size : Torn 2 2 (5 ∷ 6 ∷ 7 ∷ []) (5 ∷ 6 ∷ 1 ∷ [])
torn-old_size = record { before = refl; after = refl; no_shorter = omega arith; no_longer = omega arith }

-- and one that goes past it by two any size between them
pub torn-size_between : Torn 2 2 (5 ∷ 6 ∷ []) (5 ∷ 6 ∷ 1 ∷ [])
torn-size_between = record { before = refl; after = refl; no_shorter = omega arith; no_longer = omega arith }

pub torn-below_old_size : Torn 2 2 (5 ∷ 6 ∷ 7 ∷ []) (5 ∷ 6 ∷ []) → ⊥
torn-below_old_size h = omega (arith, h.no_shorter)

pub torn-above_new_size : Torn 2 2 (5 ∷ 6 ∷ 7 ∷ []) (5 ∷ 6 ∷ 7 ∷ 8 ∷ 9 ∷ []) → ⊥
torn-above_new_size h = omega (arith, h.no_longer)

-- a cut leaves the old size or the new one, and the bytes as they were
pub cut-old : Cut 1 (5 ∷ 6 ∷ 7 ∷ []) (5 ∷ 6 ∷ 7 ∷ [])
cut-old = inl refl

pub cut-new : Cut 1 (5 ∷ 6 ∷ 7 ∷ []) (5 ∷ [])
cut-new = inr refl

pub cut-between : Cut 1 (5 ∷ 6 ∷ 7 ∷ []) (5 ∷ 6 ∷ []) → ⊥
cut-between (inl e) = let f = e in cc
cut-between (inr e) = let f = e in cc

pub cut-other_byte : Cut 1 (5 ∷ 6 ∷ 7 ∷ []) (0 ∷ []) → ⊥
cut-other_byte (inl e) = let f = e in cc
cut-other_byte (inr e) = let f = e in cc

-- ---- what a call that failed may have changed

-- a write that failed: any byte in its range and any size up to its end, and nothing else
pub writes_part : WritesPart (Some (5 ∷ 6 ∷ 7 ∷ [])) (Some (5 ∷ 9 ∷ 7 ∷ [])) 1 1
writes_part = (
  5 ∷ 9 ∷ 7 ∷ [],
  refl,
  record {
    before = refl;
    after = refl;
    no_shorter = omega arith;
    no_longer = omega arith;
  },
)

pub writes_part-outside : WritesPart (Some (5 ∷ 6 ∷ 7 ∷ [])) (Some (0 ∷ 6 ∷ 7 ∷ [])) 1 1 → ⊥
writes_part-outside (after, e, torn) = let b = torn.before in let f = e in cc

pub writes_part-emptied : WritesPart (Some (5 ∷ 6 ∷ [])) (Some []) 1 1 → ⊥
writes_part-emptied (after, e, torn) = let b = torn.before in let f = e in cc

pub writes_part-untold : WritesPart (Some (5 ∷ 6 ∷ [])) None 1 1 → ⊥
writes_part-untold (after, e, torn) = let f = e in cc

pub writes_part-told : WritesPart None (Some []) 1 1 → ⊥
writes_part-told e = let f = e in cc

-- a cut that failed: the old bytes or the first of them
pub cuts_or_not-old : CutsOrNot (Some (5 ∷ 6 ∷ 7 ∷ [])) (Some (5 ∷ 6 ∷ 7 ∷ [])) 1
cuts_or_not-old = (5 ∷ 6 ∷ 7 ∷ [], refl, inl refl)

pub cuts_or_not-new : CutsOrNot (Some (5 ∷ 6 ∷ 7 ∷ [])) (Some (5 ∷ [])) 1
cuts_or_not-new = (5 ∷ [], refl, inr refl)

pub cuts_or_not-emptied : CutsOrNot (Some (5 ∷ 6 ∷ 7 ∷ [])) (Some []) 1 → ⊥
cuts_or_not-emptied (after, e, inl same) = let f = e in let g = same in cc
cuts_or_not-emptied (after, e, inr cut) = let f = e in let g = cut in cc

pub cuts_or_not-told : CutsOrNot None (Some []) 1 → ⊥
cuts_or_not-told e = let f = e in cc

-- ---- what a stop may leave after some calls

abbrev call : Act → List ℕ → Bool → Event
call a bytes is_done = record { act = a; bytes = bytes; is_done = is_done }

abbrev after : List ℕ → List Event → Scene
after disk calls = scene_at (scene_before disk) calls

-- a byte is written over the second of three, by a write that is done or fails
abbrev one_write : Bool → Scene
one_write is_done = after (5 ∷ 6 ∷ 7 ∷ []) (call (act.Write 1) (9 ∷ []) is_done ∷ [])

-- the second of three bytes is torn
torn_middle : Follows (Torn 1 1) (λ image. image ≡ 5 ∷ 6 ∷ 7 ∷ []) (5 ∷ 77 ∷ 7 ∷ [])
torn_middle = (
  5 ∷ 6 ∷ 7 ∷ [],
  refl,
  record { before = refl; after = refl; no_shorter = omega arith; no_longer = omega arith },
)

pub write-images : (image_by torn.New (one_write true) ≡ 5 ∷ 9 ∷ 7 ∷ [])
    × (image_by torn.Old (one_write true) ≡ 5 ∷ 6 ∷ 7 ∷ [])
    × (image_by torn.Ones (one_write true) ≡ 5 ∷ 1 ∷ 7 ∷ [])
write-images = (refl, refl, refl)

pub write-any : MayLeave (one_write true) (5 ∷ 77 ∷ 7 ∷ [])
write-any = inr torn_middle

pub write-outside : MayLeave (one_write true) (5 ∷ 9 ∷ 8 ∷ []) → ⊥
write-outside (inl e) = let f = e in cc
write-outside (inr (old, was, step)) =
    let e = (subst (λ (l : List ℕ). Torn 1 1 l (5 ∷ 9 ∷ 8 ∷ [])) was step).after in cc

pub write-shorter : MayLeave (one_write true) (5 ∷ 9 ∷ []) → ⊥
write-shorter (inl e) = let f = e in cc
write-shorter (inr (old, was, step)) =
    omega (arith, (subst (λ (l : List ℕ). Torn 1 1 l (5 ∷ 9 ∷ [])) was step).no_shorter)

-- one that fails reads as before, and may be torn
pub failed_write-images : (image_by torn.New (one_write false) ≡ 5 ∷ 6 ∷ 7 ∷ [])
    × (image_by torn.Ones (one_write false) ≡ 5 ∷ 1 ∷ 7 ∷ [])
failed_write-images = (refl, refl)

pub failed_write-any : MayLeave (one_write false) (5 ∷ 77 ∷ 7 ∷ [])
failed_write-any = inr torn_middle

-- behind a sync there is only what is read, and behind one that failed also what was before
abbrev write_and_sync : Bool → Scene
write_and_sync is_synced = after (5 ∷ 6 ∷ 7 ∷ [])
    (call (act.Write 1) (9 ∷ []) true ∷ call act.Sync [] is_synced ∷ [])

pub synced-old : image_by torn.Old (write_and_sync true) ≡ 5 ∷ 9 ∷ 7 ∷ []
synced-old = refl

pub synced-ones : image_by torn.Ones (write_and_sync true) ≡ 5 ∷ 9 ∷ 7 ∷ []
synced-ones = refl

pub synced-lost : MayLeave (write_and_sync true) (5 ∷ 6 ∷ 7 ∷ []) → ⊥
synced-lost (inl e) = let f = e in cc
synced-lost (inr e) = let f = e in cc

pub unsynced-old : image_by torn.Old (write_and_sync false) ≡ 5 ∷ 6 ∷ 7 ∷ []
unsynced-old = refl

pub unsynced-lost : MayLeave (write_and_sync false) (5 ∷ 6 ∷ 7 ∷ [])
unsynced-lost = inr (
  5 ∷ 6 ∷ 7 ∷ [],
  refl,
  record { before = refl; after = refl; no_shorter = omega arith; no_longer = omega arith },
)

-- a write past the end
abbrev longer : Scene
longer = after (5 ∷ 6 ∷ []) (call (act.Write 1) (8 ∷ 9 ∷ []) true ∷ [])

pub longer-new : image_by torn.New longer ≡ 5 ∷ 8 ∷ 9 ∷ []
longer-new = refl

pub longer-ones : image_by torn.Ones longer ≡ 5 ∷ 1 ∷ 1 ∷ []
longer-ones = refl

pub longer-old_size : MayLeave longer (5 ∷ 8 ∷ [])
longer-old_size = inr (
  5 ∷ 6 ∷ [],
  refl,
  record { before = refl; after = refl; no_shorter = omega arith; no_longer = omega arith },
)

pub longer-other_size : MayLeave longer (5 ∷ 8 ∷ 9 ∷ 0 ∷ []) → ⊥
longer-other_size (inl e) = let f = e in cc
longer-other_size (inr (old, was, step)) =
    omega (arith, (subst (λ (l : List ℕ). Torn 1 2 l (5 ∷ 8 ∷ 9 ∷ 0 ∷ [])) was step).no_longer)

-- a cut to one byte, done or not
abbrev one_cut : Bool → Scene
one_cut is_done = after (5 ∷ 6 ∷ 7 ∷ []) (call (act.Cut 1) [] is_done ∷ [])

pub cut-images : image_by torn.New (one_cut true) ≡ 5 ∷ []
cut-images = refl

pub cut-old_image : image_by torn.Old (one_cut true) ≡ 5 ∷ 6 ∷ 7 ∷ []
cut-old_image = refl

pub cut-ones : image_by torn.Ones (one_cut true) ≡ 5 ∷ []
cut-ones = refl

pub failed_cut-new : image_by torn.New (one_cut false) ≡ 5 ∷ 6 ∷ 7 ∷ []
failed_cut-new = refl

pub failed_cut-short : MayLeave (one_cut false) (5 ∷ [])
failed_cut-short = inr (5 ∷ 6 ∷ 7 ∷ [], refl, inr refl)

pub cut-size_between : MayLeave (one_cut true) (5 ∷ 6 ∷ []) → ⊥
cut-size_between (inl e) = let f = e in cc
cut-size_between (inr (old, was, step)) =
    cut-between (subst (λ (l : List ℕ). Cut 1 l (5 ∷ 6 ∷ [])) was step)

-- a cut and then a write behind it: where the cut was lost, the old byte behind the write is still there
abbrev cut_and_write : Scene
cut_and_write = after (5 ∷ 6 ∷ 7 ∷ []) (call (act.Cut 1) [] true ∷ call (act.Write 1) (9 ∷ []) true ∷ [])

pub cut_and_write-new : image_by torn.New cut_and_write ≡ 5 ∷ 9 ∷ []
cut_and_write-new = refl

pub cut_and_write-lost_cut : MayLeave cut_and_write (5 ∷ 9 ∷ 7 ∷ [])
cut_and_write-lost_cut = inr (
  5 ∷ 6 ∷ 7 ∷ [],
  (5 ∷ 6 ∷ 7 ∷ [], refl, inl refl),
  record { before = refl; after = refl; no_shorter = omega arith; no_longer = omega arith },
)

pub cut_and_write-lost_write : MayLeave cut_and_write (5 ∷ [])
cut_and_write-lost_write = inr (
  5 ∷ [],
  (5 ∷ 6 ∷ 7 ∷ [], refl, inr refl),
  record { before = refl; after = refl; no_shorter = omega arith; no_longer = omega arith },
)

-- ---- what a stop since some moment could have left

-- a byte is written over the first, and then synced
abbrev two_calls : List Event
two_calls = call (act.Write 0) (9 ∷ []) true ∷ call act.Sync [] true ∷ []

-- before the write and before the sync the old byte may be left, and now it is not
pub since_start : LeftSince (scene_before (5 ∷ [])) two_calls 0 (5 ∷ []) []
since_start = inl (inl refl, refl)

pub since_write : LeftSince (scene_before (5 ∷ [])) two_calls 1 (5 ∷ []) []
since_write = inl (
  inr (
    5 ∷ [],
    refl,
    record { before = refl; after = refl; no_shorter = omega arith; no_longer = omega arith },
  ),
  refl,
)

pub since_sync : LeftSince (scene_before (5 ∷ [])) two_calls 2 (5 ∷ []) [] → ⊥
since_sync (inl e, said) = let f = e in cc
since_sync (inr e, said) = let f = e in cc

-- within a say a first part of its bytes is said, and behind it all of them
abbrev one_say : List Event
one_say = call act.Say (1 ∷ 2 ∷ []) true ∷ []

pub within_say : LeftSince (scene_before []) one_say 0 [] (1 ∷ [])
within_say = inl (inl refl, (1, omega arith, refl))

pub after_say-part : LeftSince (scene_before []) one_say 1 [] (1 ∷ []) → ⊥
after_say-part (left, said) = let f = said in cc

pub after_say-all : LeftSince (scene_before []) one_say 1 [] (1 ∷ 2 ∷ [])
after_say-all = (inl refl, refl)

pub said_part-last : SaidPart (Some []) (8 ∷ 9 ∷ []) (9 ∷ []) → ⊥
said_part-last (zero, fits, e) = let f = e in cc
said_part-last (suc n, fits, e) = let f = e in cc

-- ---- which calls are done

pub fault_counted : faults_after 3 false ≡ 4
fault_counted = refl

pub fault_none : faults_after 3 true ≡ 3
fault_none = refl

-- where two calls pass, the second is done and the third is not
pub stop-second : is_stopped (Some 2) 1 ≡ false
stop-second = refl

pub stop-third : is_stopped (Some 2) 2 ≡ true
stop-third = refl

pub stop-never : is_stopped None 99 ≡ false
stop-never = refl

pub stop-at_once : is_next_done (ledger_before [] [] [] (Some 0)) ≡ false
stop-at_once = refl

pub next_fails : is_next_done (ledger_before [] (1 ∷ []) (2 ∷ []) None) ≡ false
next_fails = refl

pub next_say_fails : is_next_done (ledger_before [] (2 ∷ []) (1 ∷ []) None) ≡ true
next_say_fails = refl

-- a write may end at the last byte below 2^62, and not behind
pub write-below_limit : is_write_done (ledger_before [] [] [] None) (2 ^ 62 - 2) 1 ≡ true
write-below_limit = refl

pub write-at_limit : is_write_done (ledger_before [] [] [] None) (2 ^ 62 - 1) 1 ≡ false
write-at_limit = refl
