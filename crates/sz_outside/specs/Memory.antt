-- What the sources and the station in memory are, for contracts, and what one call makes of them.
use Rattle.std.specs.Prelude.{◌≡◌, ◌≤◌, ⊤}
use Rattle.std.specs.Prelude.{ℕ, ◌+◌, ◌^◌, ◌==◌, nat_lt, min, Bool, false, not, ◌&&◌, ◌||◌}
use Rattle.std.specs.Prelude.{if◌then◌else◌}
use Rattle.std.specs.Prelude.{Option, None, Some, List, [], ◌∷◌, ◌++◌, length, take, drop}
use Rattle.std.specs.List.{list_any}
use Rattle.sz_outside.specs.Counts.{count_after, faults_after}
use Rattle.sz_outside.specs.History.{Event, Scene, scene_before, scene_at, MayLeave, LeftSince}
use Rattle.sz_outside.specs.Disk.{Passes}
use Rattle.sz_outside.specs.declared.history.Act.{Act}
use Rattle.sz_outside.specs.declared.history.Act.TheVariants as act
use Rattle.sz_outside.specs.declared.stations.Torn.{Torn}
use Rattle.sz_outside.specs.declared.stations.Torn.TheVariants as torn

-- Whether the call after `made` calls is one of those that fail, which are numbered from 1.
abbrev pub fails_next : List ℕ → ℕ → Bool
fails_next fails made = list_any (λ number. number == count_after made) fails

-- A supply of bytes, as which `SteadySource` is seen: those that are left, and the most that one
-- read gives.
pub record Supply : Type 0 where
  pub left : List ℕ
  pub chunk : ℕ

-- How many bytes the next read gives into a buffer with so much room.
abbrev pub bytes_given : Supply → ℕ → ℕ
bytes_given s room = min (min (length s.left) room) s.chunk

-- The bytes after a read that gave n of them.
abbrev pub supply_after : Supply → ℕ → Supply
supply_after s n = record s { left = drop n s.left }

-- A tape, as which `MemSource` is seen: a supply of bytes, the numbers of the reads that fail, how
-- many reads were made, and how many of them failed.
pub record Tape : Type 0 where
  pub supply : Supply
  pub fails : List ℕ
  pub reads : ℕ
  pub faults : ℕ

-- The tape after a read into a buffer with so much room: a read that fails takes no byte and is
-- counted.
abbrev pub tape_after : Tape → ℕ → Tape
tape_after t room = if fails_next t.fails t.reads
    then record t { reads = count_after t.reads; faults = count_after t.faults }
    else record t {
      supply = supply_after t.supply (bytes_given t.supply room);
      reads = count_after t.reads;
    }

-- What a station in memory was asked for, as which its history is seen: the disk at the start, and
-- the calls since, the first of them first.
pub record Past : Type 0 where
  pub start : List ℕ
  pub events : List Event

-- What there is now.
abbrev pub now : Past → Scene
now p = scene_at (scene_before p.start) p.events

-- The past with one call more.
abbrev pub noted : Past → Act → List ℕ → Bool → Past
noted p act bytes is_done = record p {
  events = p.events ++ record { act = act; bytes = bytes; is_done = is_done } ∷ [];
}

-- A ledger, as which `MemStation` is seen: its past; the numbers of the says and of the disk calls
-- that fail, and how many disk calls pass before all fail, where it is to stop; how many says and
-- disk calls there were, and how many of each failed; and how many calls found no memory.
pub record Ledger : Type 0 where
  pub past : Past
  pub say_fails : List ℕ
  pub disk_fails : List ℕ
  pub passes : Option ℕ
  pub says : ℕ
  pub disk_calls : ℕ
  pub say_faults : ℕ
  pub disk_faults : ℕ
  pub unkept : ℕ

-- A ledger of a synced disk, at which nothing was said and nothing failed.
abbrev pub ledger_before : List ℕ → List ℕ → List ℕ → Option ℕ → Ledger
ledger_before disk disk_fails say_fails passes = record {
  past = record { start = disk; events = [] };
  say_fails = say_fails;
  disk_fails = disk_fails;
  passes = passes;
  says = 0;
  disk_calls = 0;
  say_faults = 0;
  disk_faults = 0;
  unkept = 0;
}

-- The disk as read, and the bytes said.
abbrev pub disk_of : Ledger → List ℕ
disk_of s = (now s.past).disk

abbrev pub said_of : Ledger → List ℕ
said_of s = (now s.past).said

-- Whether the next say fails by its number.
abbrev pub say_fails_next : Ledger → Bool
say_fails_next s = fails_next s.say_fails s.says

-- Whether all disk calls past these have failed.
abbrev pub is_stopped : Option ℕ → ℕ → Bool
is_stopped None made = false
is_stopped (Some passes) made = nat_lt passes (count_after made)

-- Whether the next disk call is done, if it finds memory.
abbrev pub is_next_done : Ledger → Bool
is_next_done s = not (fails_next s.disk_fails s.disk_calls || is_stopped s.passes s.disk_calls)

-- A write is done only where its bytes end below 2^62.
abbrev pub is_write_done : Ledger → ℕ → ℕ → Bool
is_write_done s at n = is_next_done s && nat_lt (at + n) (2 ^ 62)

-- What a call asks of what there is: a write begins within the disk.
abbrev pub Fits : Act → Scene → Type 0
Fits (act.Write at) s = at ≤ length s.disk
Fits _ s = ⊤

-- The call is one of the disk.
abbrev pub IsOfDisk : Act → Type 0
IsOfDisk act.Say = ⊥
IsOfDisk _ = ⊤

-- The call leaves the disk as it reads.
abbrev pub KeepsDisk : Act → Type 0
KeepsDisk act.Look = ⊤
KeepsDisk act.Sync = ⊤
KeepsDisk act.Say = ⊤
KeepsDisk _ = ⊥

-- A call with these bytes that is done or fails.
abbrev pub event : Act → List ℕ → Bool → Event
event a bytes d = record { act = a; bytes = bytes; is_done = d }

-- What a stop in a call finds said.
abbrev pub Found : Scene → List ℕ → Act → List ℕ → Type 0
Found s bytes act.Say said = (n : ℕ) × (n ≤ length bytes) × (said ≡ s.said ++ take n bytes)
Found s bytes _ said = said ≡ s.said

-- Whether a disk call with so many bytes is done, if it finds memory.
abbrev pub is_call_done : Ledger → Act → ℕ → Bool
is_call_done s (act.Write at) n = is_write_done s at n
is_call_done s _ n = is_next_done s

-- The past after a call that found memory for its record, or did not.
abbrev pub past_after : Past → Act → List ℕ → Bool → Bool → Past
past_after p act bytes is_done is_kept = if is_kept then noted p act bytes is_done else p

-- The ledger after a say.
abbrev pub after_say : Ledger → List ℕ → Bool → Ledger
after_say s bytes is_kept = record s {
  past = past_after s.past act.Say bytes (not (say_fails_next s)) is_kept;
  says = count_after s.says;
  say_faults = faults_after s.say_faults (not (say_fails_next s) && is_kept);
  unkept = faults_after s.unkept is_kept;
}

-- The ledger after a disk call that fails or not.
abbrev pub after_disk_call : Ledger → Act → List ℕ → Bool → Bool → Ledger
after_disk_call s act bytes is_done is_kept = record s {
  past = past_after s.past act bytes is_done is_kept;
  disk_calls = count_after s.disk_calls;
  disk_faults = faults_after s.disk_faults (is_done && is_kept);
  unkept = faults_after s.unkept is_kept;
}

-- How time passes from one ledger to another.
abbrev pub PassesIn : Ledger → Ledger → (List ℕ → List ℕ → Type 0) → (List ℕ → Type 0) → Type 0
PassesIn old new step Finds = Passes (length old.past.events) (length new.past.events)
    (LeftSince (scene_before old.past.start) old.past.events)
    (LeftSince (scene_before new.past.start) new.past.events)
    (MayLeave (now old.past)) (MayLeave (now new.past)) step Finds

-- The three ways in which a stop may tear a disk in memory: what is not synced is as before, is as
-- it is read, or has bytes 1.
abbrev pub image_by : Torn → Scene → List ℕ
image_by torn.Old s = s.synced
image_by torn.New s = s.disk
image_by torn.Ones s = s.ones
