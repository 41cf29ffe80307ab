-- Mode upgrade: a log of format 1 is raised to format 2 in place, by one group more, and a line
-- says which format it has then. A log of format 2 stays as it is, and the same line is said.
--
-- What is held and kept of the log stays. At each moment of the call a stop leaves it as it was, or
-- with that group whole, and a first part of the line was said.
use Rattle.std.specs.Prelude.{◌≡◌, ◌⊎◌, ℕ, List, [], ◌∷◌, ◌++◌, codes, Some}
use Rattle.sz_outside.specs.Outside.{Says, SaysPart}
use Rattle.sz_outside.specs.Disk.{Only}
use Rattle.sz_outside.specs.declared.stations.Station.{Ghosts}
use Rattle.sz_log.specs.Log.{LogGroup}
use Rattle.sz_log.specs.Steps.{Added, AddsOrKeeps, place_behind}
use Rattle.sz_catalogue.specs.Holdings.{Holdings}
use Rattle.sz_recover.specs.Logs.{Kept, IsWellMade, IsMade}
use Rattle.sz_commands.specs.States.{LogPlace}
use Rattle.sz_commands.specs.Stops.{StopsFinding}
use Rattle.sz_feed.specs.Making.{IsSilent}
use Rattle.sz_session.specs.Checking.{IsUnlike, IsBadLog}
use Rattle.sz_session.specs.declared.serving.Status.{Status}
use Rattle.sz_session.specs.declared.serving.Status.TheVariants as status

-- the line that says which format a log has
abbrev pub raised_line : List ℕ
raised_line = codes "log 2" ++ 10 ∷ []

-- the group that raises a log: of kind 5, and of no byte
abbrev pub upgrade_group : LogGroup
upgrade_group = record { kind = 5; body = [] }

-- ---- what a stop leaves

-- What a stop leaves of a log of format 1 that is raised: its groups, or these and the one of kind
-- 5. It is a well-made log of format 1 or 2, that holds and keeps the same.
pub record IsRaising (old image : List ℕ) : Type 0 where
  pub at : ℕ
  pub c : Holdings
  pub kept : List Kept
  pub made : IsWellMade old at 1 c kept
  pub groups : AddsOrKeeps at upgrade_group old image
  pub left : IsWellMade image at 1 c kept
      ⊎ IsWellMade image (place_behind at upgrade_group) 2 c kept

-- An image is as it was, or is what a stop leaves of one that is raised.
abbrev pub RaisesOrStays : List ℕ → List ℕ → Type 0
RaisesOrStays old image = (image ≡ old) ⊎ IsRaising old image

-- At each moment a stop leaves such an image, and a first part of the line was found said, behind
-- what was said before.
abbrev pub StopsRaising : {X : Type 0} → Ghosts X → X → X → Type 0
StopsRaising T old new =
    StopsFinding T RaisesOrStays (λ found. SaysPart (T.said old) (Some found) raised_line) old new

-- ---- what is made of the disk

-- The log was of format 2, and reads as before; or it was of format 1, and has one group more, that
-- of kind 5. So it is one of format 2 that holds and keeps the same, and no write is pending.
pub record HasRaised {X : Type 0} (T : Ghosts X) (old new : X) : Type 0 where
  pub at : LogPlace
  pub c : Holdings
  pub kept : List Kept
  pub made : IsMade (T.disk old) at.gate at.format c kept
  pub next : ℕ
  pub raised : IsMade (T.disk new) next 2 c kept
  pub groups : ((at.format ≡ 2) × (T.disk new ≡ T.disk old))
      ⊎ ((at.format ≡ 1) × Added (T.disk old) (T.disk new) at.gate upgrade_group)
  pub synced : Only (T.disk new) (T.may_leave new)

-- Nothing was said, and the disk reads as before.
pub record IsLeftAlone {X : Type 0} (T : Ghosts X) (old new : X) : Type 0 where
  pub silent : IsSilent T old new
  pub reads : T.disk new ≡ T.disk old

-- What was said by then, and what the disk is, for each status that the raising of a log ends with.
abbrev pub RaisesLog : {X : Type 0} → Ghosts X → Status → X → X → Type 0
RaisesLog T status.Done old new = HasRaised T old new × Says (T.said old) (T.said new) raised_line
RaisesLog T status.SayFault old new = HasRaised T old new
    × SaysPart (T.said old) (T.said new) raised_line
RaisesLog T status.DiskFault old new = IsSilent T old new
RaisesLog T status.NotALog old new = IsLeftAlone T old new × IsUnlike T old new
RaisesLog T (status.BadLog at) old new = IsLeftAlone T old new × IsBadLog T at old new
RaisesLog T status.NoMemory old new = IsLeftAlone T old new
RaisesLog T _ old new = ⊥
