-- A session of lines, from turn to turn: what a turn that goes on leaves, and what is told of a
-- status by which a turn or the end of the source ends the session.
--
-- It is told from the opening of the session on. A session of no log is one whose log stays: its
-- disk is as before.
use Rattle.std.specs.Prelude.{◌≡◌, ℕ, ◌+◌, Option, Some, None, List, drop}
use Rattle.sz_outside.specs.declared.stations.Station.{Ghosts}
use Rattle.sz_commands.specs.States.{SessionState, LogPlace}
use Rattle.sz_commands.specs.Lines.{lines_of}
use Rattle.sz_feed.specs.Moments.{Moment, cut_after}
use Rattle.sz_feed.specs.Serving.{Opening, Answered}
use Rattle.sz_feed.specs.Calls.{WritesOne}
use Rattle.sz_feed.specs.Disks.{StaysFinding, FoundInPart}
use Rattle.sz_feed.specs.Running.{IfSome, IsBeside, StaysBeside, FindsRest, FindsNext, FindsAll}
use Rattle.sz_feed.specs.Running.{StandsBehind}
use Rattle.sz_session.specs.Statuses.{EndsLines, NoneRose, AreCounted}
use Rattle.sz_session.specs.declared.serving.Status.{Status}
use Rattle.sz_session.specs.declared.serving.Status.TheVariants as status

-- a session that opens with this
abbrev pub opening_of : SessionState → Option (List ℕ) → Option (List ℕ) → Opening
opening_of held left said = record { held = held; left = left; said = said }

-- What a stop finds: of a session of no log a first part of the transcript said, over the disk as
-- it was; and of one of a log this.
abbrev pub FindsOf : {X : Type 0} → Ghosts X → Option LogPlace → Opening → Type 0 → X → X → Type 0
FindsOf T None o Claim old new = StaysFinding T (FoundInPart o.held o.left o.said) old new
FindsOf T (Some at) o Claim old new = Claim

-- Where the source tells its bytes, one of the lines that end in those from a place on is written
-- to a log.
abbrev pub WritesRest : Moment → Option (List ℕ) → ℕ → Type 0
WritesRest m left total =
    IfSome left (λ bytes. WritesOne m.held (cut_after m (drop total bytes)).whole)

-- one of all lines of its bytes, from what was held as the session began
abbrev pub WritesLine : SessionState → Option (List ℕ) → Type 0
WritesLine s left = IfSome left (λ bytes. WritesOne s (lines_of bytes))

-- A turn took in the next so many bytes behind those that were read before, and the lines that end
-- in them have their replies said; no count of faults rose.
pub record TurnsOn {X : Type 0} (T : Ghosts X) (o : Opening) (total count : ℕ)
    (left : Option (List ℕ)) (reads_before reads : ℕ) (before now : Moment) (old new : X)
    : Type 0 where
  pub answered : Answered o.held o.left left o.said (T.said new) now (total + count)
  pub counted : NoneRose T reads_before reads old new
  pub log : StaysBeside T before now old new
  pub again : IsBeside T now new
  pub found : FindsOf T before.end o (FindsNext T before o.left total count old new) old new

-- A turn ended the session with a status, other than that it is done. No disk fails where there is
-- no log, nor where no line is written to it.
pub record EndsTurn {X : Type 0} (T : Ghosts X) (s : Status) (limit : ℕ) (o : Opening) (total : ℕ)
    (left : Option (List ℕ)) (reads_before reads : ℕ) (before : Moment) (old new : X)
    : Type 0 where
  pub ends : EndsLines o.held s limit o.left left o.said (T.said new)
  pub counted : AreCounted T s reads_before reads old new
  pub plain : before.end ≡ None → s ≡ status.DiskFault → ⊥
  pub written : s ≡ status.DiskFault → WritesRest before o.left total
  pub not_done : s ≡ status.Done → ⊥
  pub found : FindsOf T before.end o (FindsRest T before o.left total old new) old new

-- A session that opened so, beside a log that ended at a place or none, ended with a status. Where
-- it is done, the log is one of all its lines; and no disk fails where there is no log, nor where
-- no line is written to it.
pub record EndsSession {X : Type 0} (T : Ghosts X) (s : Status) (limit : ℕ) (o : Opening)
    (end : Option LogPlace) (left : Option (List ℕ)) (reads_before reads : ℕ) (old new : X)
    : Type 0 where
  pub ends : EndsLines o.held s limit o.left left o.said (T.said new)
  pub counted : AreCounted T s reads_before reads old new
  pub plain : end ≡ None → s ≡ status.DiskFault → ⊥
  pub written : s ≡ status.DiskFault → WritesLine o.held o.left
  pub behind : s ≡ status.Done → StandsBehind T o.held end o.left old new
  pub found : FindsOf T end o (FindsAll T o.held end o.left old new) old new
