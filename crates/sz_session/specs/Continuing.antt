-- Mode run: the log of the station is opened, and a session goes on from it.
--
-- Whatever the status, either no log was opened, and then nothing was said and the disk reads as
-- before; or a log was, and what was said is of the transcript from what it holds. At each moment
-- of the call a stop finds the replies of so many lines said, and perhaps a part of the next one,
-- and leaves a well-made log of what is durable behind those lines, or behind one more.
use Rattle.std.specs.Prelude.{◌≡◌, ◌⊎◌, ℕ, List, Option, Some, ⊤}
use Rattle.sz_outside.specs.Disk.{Only, Same, Said}
use Rattle.sz_outside.specs.declared.stations.Station.{Ghosts}
use Rattle.sz_catalogue.specs.Holdings.{Holdings}
use Rattle.sz_recover.specs.Logs.{Kept, IsMade, IsNoLog, IsBroken}
use Rattle.sz_feed.specs.Making.{IsSilent}
use Rattle.sz_commands.specs.States.{LogPlace}
use Rattle.sz_commands.specs.Stops.{StopsFinding}
use Rattle.sz_feed.specs.Running.{FindsAll, StandsBehind, state_of_log}
use Rattle.sz_session.specs.Statuses.{EndsLines}
use Rattle.sz_session.specs.declared.serving.Status.{Status}
use Rattle.sz_session.specs.declared.serving.Status.TheVariants as status

-- why no log was opened: the disk does not begin as one; its first bad group stands at a place; or
-- a call of the disk failed, or there was no memory
abbrev pub IsUnopened : Option (List ℕ) → Status → Type 0
IsUnopened disk status.DiskFault = ⊤
IsUnopened disk status.NotALog = IsNoLog disk
IsUnopened disk (status.BadLog at) = IsBroken disk at
IsUnopened disk status.NoMemory = ⊤
IsUnopened disk _ = ⊥

-- No log was opened: nothing was said, the disk reads as before, and a stop leaves of it what it
-- might have left before.
pub record EndsUnopened {X : Type 0} (T : Ghosts X) (s : Status) (old new : X) : Type 0 where
  pub why : IsUnopened (T.disk old) s
  pub silent : IsSilent T old new
  pub reads : T.disk new ≡ T.disk old
  pub stops : StopsFinding T Same (Said (T.said old)) old new

-- A log was opened, that ends at a place, has a format, holds this and has kept these stores. What
-- was read and said by then is as the status says, from what it holds; where the session is done,
-- the log is one of all its lines; and where no write was pending at first, a stop at any moment
-- finds so many lines answered, and a log of them.
pub record EndsOpened {X : Type 0} (T : Ghosts X) (s : Status) (limit : ℕ)
    (left rest : Option (List ℕ)) (old new : X) : Type 0 where
  pub at : LogPlace
  pub c : Holdings
  pub kept : List Kept
  pub made : IsMade (T.disk old) at.gate at.format c kept
  pub ends : EndsLines (state_of_log c kept) s limit left rest (T.said old) (T.said new)
  pub behind : s ≡ status.Done → StandsBehind T (state_of_log c kept) (Some at) left old new
  pub found : Only (T.disk old) (T.may_leave old)
      → FindsAll T (state_of_log c kept) (Some at) left old new

-- one or the other
abbrev pub EndsOnLog : {X : Type 0} → Ghosts X → Status → ℕ → Option (List ℕ) → Option (List ℕ)
    → X → X → Type 0
EndsOnLog T s limit left rest old new =
    EndsUnopened T s old new ⊎ EndsOpened T s limit left rest old new
