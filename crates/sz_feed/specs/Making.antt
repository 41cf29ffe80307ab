-- What the making of a log says, and what it leaves of the disk. Nothing is claimed of a disk that
-- the station does not tell.
use Rattle.std.specs.Prelude.{◌≡◌, ℕ, List, [], ◌∷◌, ◌++◌, codes, Option, None, Some, ⊤}
use Rattle.sz_outside.specs.Outside.{Stood}
use Rattle.sz_outside.specs.Disk.{Only}
use Rattle.sz_outside.specs.declared.stations.Station.{Ghosts}
use Rattle.sz_log.specs.Log.{bar_to}
use Rattle.sz_log.specs.Steps.{IsMade}
use Rattle.sz_log.specs.declared.LogFault.{LogFault}

-- The line that says that a log was made.
abbrev pub ready_line : List ℕ
ready_line = codes "log ready" ++ 10 ∷ []

-- What keeps the disk from being made a log is this, or nothing, where the disk is told.
abbrev pub HasBar : Option (List ℕ) → Option LogFault → Type 0
HasBar None bar = ⊤
HasBar (Some disk) bar = bar_to disk ≡ bar

-- The disk is told, and nothing keeps it from being made a log.
abbrev pub IsFree : Option (List ℕ) → Type 0
IsFree None = ⊥
IsFree (Some disk) = bar_to disk ≡ None

-- Whatever keeps the disk from being made a log, where it is told, is such a thing.
abbrev pub IfBarred : Option (List ℕ) → (LogFault → Type 0) → Type 0
IfBarred None IsSuch = ⊤
IfBarred (Some disk) IsSuch = (fault : LogFault) → bar_to disk ≡ Some fault → IsSuch fault

-- The disk was made the empty log, since nothing kept it from that: it reads so, a stop leaves
-- nothing else, and no fault of it was counted.
pub record HasMade {X : Type 0} (T : Ghosts X) (old new : X) : Type 0 where
  pub free : HasBar (T.disk old) None
  pub made : IsMade (T.disk old) (T.disk new)
  pub synced : Only (T.disk new) (T.may_leave new)
  pub quiet : Stood (T.disk_faults old) (T.disk_faults new)

-- This kept the disk from being made a log: it is as it was, and no fault of it was counted.
pub record IsSpared {X : Type 0} (T : Ghosts X) (fault : LogFault) (old new : X) : Type 0 where
  pub bar : HasBar (T.disk old) (Some fault)
  pub disk : T.disk new ≡ T.disk old
  pub quiet : Stood (T.disk_faults old) (T.disk_faults new)

-- Nothing was said, and no fault in saying was counted.
pub record IsSilent {X : Type 0} (T : Ghosts X) (old new : X) : Type 0 where
  pub said : T.said new ≡ T.said old
  pub quiet : Stood (T.say_faults old) (T.say_faults new)
