-- What a session leaves of the disk: one that keeps no log all of it, as it was, and the making of
-- a log the images that a making may leave.
use Rattle.std.specs.Prelude.{◌≡◌, ℕ, List, Option, Some, ⊤}
use Rattle.sz_outside.specs.Outside.{Stood, SaysPart}
use Rattle.sz_outside.specs.Disk.{Same}
use Rattle.sz_outside.specs.declared.stations.Station.{Ghosts}
use Rattle.sz_log.specs.Steps.{MakesIfFree}
use Rattle.sz_commands.specs.Stops.{StopsFinding}
use Rattle.sz_commands.specs.States.{SessionState}
use Rattle.sz_feed.specs.Serving.{SaidInPart}
use Rattle.sz_feed.specs.Making.{ready_line}

-- The disk of a station is as before: it reads alike, and no fault of it was counted. What a stop
-- leaves of it now, or left at a moment since, is an image that a stop might have left before; and
-- at each moment since so much was found said.
pub record StaysFinding {X : Type 0} (T : Ghosts X) (Finds : List ℕ → Type 0) (old new : X)
    : Type 0 where
  pub reads : T.disk new ≡ T.disk old
  pub quiet : Stood (T.disk_faults old) (T.disk_faults new)
  pub stops : StopsFinding T Same Finds old new

-- The disk of a station is as before.
abbrev pub DiskStays : {X : Type 0} → Ghosts X → X → X → Type 0
DiskStays T old new = StaysFinding T (λ _. ⊤) old new

-- The disk of a station is as before, and at each moment since a first part of these bytes was
-- found said, behind what was said before.
abbrev pub OnlySays : {X : Type 0} → Ghosts X → List ℕ → X → X → Type 0
OnlySays T bytes old new =
    StaysFinding T (λ found. SaysPart (T.said old) (Some found) bytes) old new

-- A first part of the transcript of a source's bytes was found said.
abbrev pub FoundInPart : SessionState → Option (List ℕ) → Option (List ℕ) → List ℕ → Type 0
FoundInPart c left said_before found = SaidInPart c left said_before (Some found)

-- At each moment a stop leaves of an image itself, or, where nothing keeps it from being made a
-- log, at most 17 bytes that are no log, or the empty log; and a first part of the line that a log
-- was made was found said, behind what was said before.
abbrev pub StopsMaking : {X : Type 0} → Ghosts X → X → X → Type 0
StopsMaking T old new =
    StopsFinding T MakesIfFree (λ found. SaysPart (T.said old) (Some found) ready_line) old new
