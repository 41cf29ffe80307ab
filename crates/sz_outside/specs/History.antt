-- What a station in memory was asked for, and what its disk and its output were after each call.
use Rattle.std.specs.Prelude.{◌≡◌, ◌⊎◌, ℕ, zero, suc, ◌≤◌, Bool}
use Rattle.std.specs.Prelude.{if◌then◌else◌, List, [], ◌∷◌, ◌++◌, length, take, replicate}
use mathlib.Core.Logic.{inr}
use Rattle.std.proofs.Common.{arith}
use Rattle.sz_outside.specs.Disk.{written, Torn, Cut, Same, Follows}
use Rattle.sz_outside.specs.declared.history.Act.{Act}
use Rattle.sz_outside.specs.declared.history.Act.TheVariants as act

-- A call: what was asked for, the bytes that came with it, and whether it was done.
pub record Event : Type 0 where
  pub act : Act
  pub bytes : List ℕ
  pub is_done : Bool

-- What there is after some calls: the disk as read, the bytes said, the disk as at the last sync,
-- the disk as read with a byte 1 wherever one is not synced, and the calls since the last sync that
-- changed the disk, the newest first.
pub record Scene : Type 0 where
  pub disk : List ℕ
  pub said : List ℕ
  pub synced : List ℕ
  pub ones : List ℕ
  pub unsynced : List Event

-- A disk that is synced, with nothing said.
abbrev pub scene_before : List ℕ → Scene
scene_before disk = record { disk = disk; said = []; synced = disk; ones = disk; unsynced = [] }

-- A disk with bytes 1 in a range, as far as it goes.
abbrev pub with_ones : List ℕ → ℕ → ℕ → List ℕ
with_ones disk at n = take (length disk) (written disk at (replicate n 1))

-- The scene after a call that was done.
abbrev pub scene_done : Scene → Event → Act → Scene
scene_done s e act.Look = s
scene_done s e (act.Write at) = record s {
  disk = written s.disk at e.bytes;
  ones = written s.ones at (replicate (length e.bytes) 1);
  unsynced = e ∷ s.unsynced;
}
scene_done s e (act.Cut size) = record s {
  disk = take size s.disk;
  ones = take size s.ones;
  unsynced = e ∷ s.unsynced;
}
scene_done s e act.Sync = record s { synced = s.disk; ones = s.disk; unsynced = [] }
scene_done s e act.Say = record s { said = s.said ++ e.bytes }

-- The scene after a call that failed: a write or a cut that failed is as one that is not synced.
abbrev pub scene_failed : Scene → Event → Act → Scene
scene_failed s e act.Look = s
scene_failed s e (act.Write at) = record s {
  ones = with_ones s.ones at (length e.bytes);
  unsynced = e ∷ s.unsynced;
}
scene_failed s e (act.Cut size) = record s { unsynced = e ∷ s.unsynced }
scene_failed s e act.Sync = s
scene_failed s e act.Say = s

abbrev pub scene_after : Scene → Event → Scene
scene_after s e = if e.is_done then scene_done s e e.act else scene_failed s e e.act

-- The scene after all of these calls.
abbrev pub scene_at : Scene → List Event → Scene
scene_at s [] = s
scene_at s (e ∷ es) = scene_at (scene_after s e) es

-- What a call that is not synced leaves of an image.
abbrev pub step_of : Event → Act → List ℕ → List ℕ → Type 0
step_of e (act.Write at) = Torn at (length e.bytes)
step_of e (act.Cut size) = Cut size
step_of e _ = Same

-- The images of a disk after calls that are not synced, the newest first.
abbrev pub images_after : List Event → List ℕ → List ℕ → Type 0
images_after [] synced image = image ≡ synced
images_after (e ∷ es) synced image = Follows (step_of e e.act) (images_after es synced) image

-- These are the bytes of a scene, whose marked disk is one of the images of what is not synced.
pub record Shows (d a y o : List ℕ) (s : Scene) : Type 0 where
  pub disk : d ≡ s.disk
  pub said : a ≡ s.said
  pub synced : y ≡ s.synced
  pub ones : o ≡ s.ones
  pub torn : images_after s.unsynced s.synced s.ones

-- What a stop leaves of the disk: what a read gives, or an image of what is not synced.
abbrev pub MayLeave : Scene → List ℕ → Type 0
MayLeave s image = (image ≡ s.disk) ⊎ images_after s.unsynced s.synced image

-- What a stop leaves between two calls.
abbrev pub LeavesNow : Scene → List ℕ → List ℕ → Type 0
LeavesNow s image said = MayLeave s image × (said ≡ s.said)

-- What a stop leaves within a call: within a say, a part of its bytes is said.
abbrev pub LeavesIn : Scene → Event → Act → List ℕ → List ℕ → Type 0
LeavesIn s e act.Say image said =
    MayLeave s image × ((n : ℕ) × (n ≤ length e.bytes) × (said ≡ s.said ++ take n e.bytes))
LeavesIn s e _ image said = LeavesNow s image said

-- What a stop could have left since the first t of these calls, within one of the others, between
-- two of them or now.
abbrev pub LeftSince : Scene → List Event → ℕ → List ℕ → List ℕ → Type 0
LeftSince s [] t image said = LeavesNow s image said
LeftSince s (e ∷ es) zero image said =
    LeavesIn s e e.act image said ⊎ LeftSince (scene_after s e) es zero image said
LeftSince s (e ∷ es) (suc t) image said = LeftSince (scene_after s e) es t image said

-- Since now there is what there is now.
pub left_now : (s : Scene) (es : List Event) (image said : List ℕ)
    → LeftSince s es (length es) image said → LeavesNow (scene_at s es) image said
left_now s [] image said left = left
left_now s (e ∷ es) image said left = left_now (scene_after s e) es image said left

-- Now is one of the moments since any other.
pub now_counts : (s : Scene) (es : List Event) (t : ℕ) (image said : List ℕ) → t ≤ length es
    → LeavesNow (scene_at s es) image said → LeftSince s es t image said
now_counts s [] t image said le now = now
now_counts s (e ∷ es) zero image said le now =
    inr (now_counts (scene_after s e) es zero image said (omega arith) now)
now_counts s (e ∷ es) (suc t) image said le now =
    now_counts (scene_after s e) es t image said (omega arith) now
