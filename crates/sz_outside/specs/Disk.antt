-- What a disk call makes of the disk's bytes, and what a stop of the machine leaves of a disk and
-- of what was said. A station that tells nothing of its disk has `None`, and then nothing is
-- claimed of its bytes or of a stop.
use Rattle.std.specs.Prelude.{◌≡◌, ◌⊎◌, ℕ, ◌+◌, ◌≤◌, max, ⊤}
use Rattle.std.specs.Prelude.{Option, None, Some, List, ◌++◌, length, take, drop}

-- The bytes of the disk from a place on, at most n of them.
abbrev pub bytes_at : List ℕ → ℕ → ℕ → List ℕ
bytes_at disk at n = take n (drop at disk)

-- The disk with these bytes at a place, over what was there and past its end.
abbrev pub written : List ℕ → ℕ → List ℕ → List ℕ
written disk at bytes = take at disk ++ bytes ++ drop (at + length bytes) disk

-- Something is claimed where the bytes are told.
abbrev pub Told : Option (List ℕ) → Type 0 → Type 0
Told None Claim = ⊤
Told (Some bytes) Claim = Claim

-- So many bytes are on the disk.
abbrev pub HasSize : Option (List ℕ) → ℕ → Type 0
HasSize None n = ⊤
HasSize (Some disk) n = n ≡ length disk

-- A place or a size is not behind the end of the disk.
abbrev pub HasPlace : Option (List ℕ) → ℕ → Type 0
HasPlace None at = ⊤
HasPlace (Some disk) at = at ≤ length disk

-- A read at a place gave n bytes into a buffer with so much room: the bytes of the disk there, as
-- many as there are and there is room for.
abbrev pub GivesAt : Option (List ℕ) → ℕ → ℕ → List ℕ → ℕ → Type 0
GivesAt None at room into n = ⊤
GivesAt (Some disk) at room into n =
    (n ≡ length (bytes_at disk at room)) × (take n into ≡ bytes_at disk at room)

-- These bytes stand on the disk from a place on.
abbrev pub Holds : Option (List ℕ) → ℕ → List ℕ → Type 0
Holds None at bytes = ⊤
Holds (Some disk) at bytes = bytes ≡ bytes_at disk at (length bytes)

-- These bytes were written at a place of the disk, which else is as before. A disk that is not told
-- stays so.
abbrev pub Writes : Option (List ℕ) → Option (List ℕ) → ℕ → List ℕ → Type 0
Writes None new at bytes = new ≡ None
Writes (Some disk) new at bytes = new ≡ Some (written disk at bytes)

-- The disk is cut to a size. A disk that is not told stays so.
abbrev pub Cuts : Option (List ℕ) → Option (List ℕ) → ℕ → Type 0
Cuts None new size = new ≡ None
Cuts (Some disk) new size = new ≡ Some (take size disk)

-- A stop leaves what a read gives, and nothing else.
abbrev pub Only : Option (List ℕ) → (List ℕ → Type 0) → Type 0
Only None images = ⊤
Only (Some disk) images = (image : List ℕ) → images image → image ≡ disk

-- The disk as it reads is one of the images.
abbrev pub HasImage : Option (List ℕ) → (List ℕ → Type 0) → Type 0
HasImage None images = ⊤
HasImage (Some disk) images = images disk

-- These bytes were said.
abbrev pub Said : Option (List ℕ) → List ℕ → Type 0
Said None said = ⊤
Said (Some all) said = said ≡ all

-- The first of these bytes were said, however many, behind what was said before.
abbrev pub SaidPart : Option (List ℕ) → List ℕ → List ℕ → Type 0
SaidPart None bytes said = ⊤
SaidPart (Some all) bytes said = (n : ℕ) × (n ≤ length bytes) × (said ≡ all ++ take n bytes)

-- A write of n bytes that is not synced leaves any bytes in its range and past the old end, any
-- size from the old to the new one, and the same bytes elsewhere.
pub record Torn (at n : ℕ) (old new : List ℕ) : Type 0 where
  pub before : take at new ≡ take at old
  pub after : drop (at + n) new ≡ drop (at + n) old
  pub no_shorter : length old ≤ length new
  pub no_longer : length new ≤ max (length old) (at + n)

-- A cut that is not synced leaves the old size or the new one.
abbrev pub Cut : ℕ → List ℕ → List ℕ → Type 0
Cut size old new = (new ≡ old) ⊎ (new ≡ take size old)

-- A write of n bytes at a place that failed: it may have changed those bytes, and no others. A disk
-- that is not told stays so.
abbrev pub WritesPart : Option (List ℕ) → Option (List ℕ) → ℕ → ℕ → Type 0
WritesPart None new at n = new ≡ None
WritesPart (Some disk) new at n = (after : List ℕ) × (new ≡ Some after) × Torn at n disk after

-- A cut to a size that failed: the disk is as before, or is cut. A disk that is not told stays so.
abbrev pub CutsOrNot : Option (List ℕ) → Option (List ℕ) → ℕ → Type 0
CutsOrNot None new size = new ≡ None
CutsOrNot (Some disk) new size = (after : List ℕ) × (new ≡ Some after) × Cut size disk after

-- Any other call leaves the same bytes.
abbrev pub Same : List ℕ → List ℕ → Type 0
Same old new = new ≡ old

-- What a step leaves of an image that might have been left before it.
abbrev pub Follows : (List ℕ → List ℕ → Type 0) → (List ℕ → Type 0) → List ℕ → Type 0
Follows step images image = (old : List ℕ) × images old × step old image

-- How time passes in a call. What a stop since t could have left, as seen after it, is what it
-- could have left as seen before, or what a stop since the start of the call could have left: there
-- the step leads to the image from one that might have been left before the call, and so much is
-- found said. And what may be left after the call is of that kind.
pub record Passes (before now : ℕ) (past since : ℕ → List ℕ → List ℕ → Type 0)
    (old new : List ℕ → Type 0) (step : List ℕ → List ℕ → Type 0) (Finds : List ℕ → Type 0)
    : Type 0 where
  pub later : before ≤ now
  pub joined : (t : ℕ) (image said : List ℕ) → t ≤ before → since t image said
      → past t image said ⊎ since before image said
  pub kept : (t : ℕ) (image said : List ℕ) → t ≤ before → past t image said → since t image said
  pub earlier : (t : ℕ) (image said : List ℕ) → t ≤ before → since before image said
      → since t image said
  pub within : (image said : List ℕ) → since before image said
      → Follows step old image × Finds said
  pub images : (image : List ℕ) → new image → Follows step old image
