-- What a call of a feed does to its station: what the counts of faults tell of how it ended, what
-- was said, what became of the log, and what a stop at any moment finds. A session of no log is one
-- whose log stays: its station's disk is as before.
use Rattle.std.specs.Prelude.{◌≡◌, ◌⊎◌, ℕ, ◌≤◌, List, [], ◌∷◌, ◌++◌, length}
use Rattle.std.specs.Prelude.{Option, Some, None, Result, Ok, Err, OnOk, true}
use Rattle.std.specs.List.{AllByRecursion}
use Rattle.sz_outside.specs.Outside.{Rose, Stood, Says, SaysPart}
use Rattle.sz_outside.specs.declared.stations.Station.{Ghosts}
use Rattle.sz_commands.specs.Asks.{IsAskLine}
use Rattle.sz_commands.specs.Logged.{KeepsLog, makes_durable}
use Rattle.sz_commands.specs.States.{SessionState, LogPlace}
use Rattle.sz_commands.specs.Transcript.{replies_to, after_lines}
use Rattle.sz_commands.specs.declared.asking.AskLine.{AskLine}
use Rattle.sz_feed.specs.Moments.{Moment}
use Rattle.sz_feed.specs.Serving.{SaysFirst}
use Rattle.sz_feed.specs.Making.{IsSilent}
use Rattle.sz_feed.specs.Disks.{OnlySays}
use Rattle.sz_feed.specs.Running.{IfSome, FindsLines, FindsIn, StaysBeside}
use Rattle.sz_feed.specs.declared.feed.Halt.{Halt}
use Rattle.sz_feed.specs.declared.feed.Halt.TheVariants as halt

-- ---- faults

-- No count of faults rose.
abbrev pub CountsStand : {X : Type 0} → Ghosts X → X → X → Type 0
CountsStand T old new = Stood (T.say_faults old) (T.say_faults new)
    × Stood (T.disk_faults old) (T.disk_faults new)

-- What the counts of faults tell of how a call ended: that of its fault rose, and no other. So want
-- of memory hides no fault.
abbrev pub CountsTell : {X U : Type 0} → Ghosts X → Result U Halt → X → X → Type 0
CountsTell T (Ok u) old new = CountsStand T old new
CountsTell T (Err halt.SayFault) old new = Rose (T.say_faults old) (T.say_faults new)
    × Stood (T.disk_faults old) (T.disk_faults new)
CountsTell T (Err halt.DiskFault) old new = Stood (T.say_faults old) (T.say_faults new)
    × Rose (T.disk_faults old) (T.disk_faults new)
CountsTell T (Err halt.NoMemory) old new = CountsStand T old new

-- ---- what was said

-- All of a text was said, a first part of it where a say failed, and else nothing.
abbrev pub SaysText : {U : Type 0} → Result U Halt → Option (List ℕ) → Option (List ℕ) → List ℕ
    → Type 0
SaysText (Ok u) said_before said text = Says said_before said text
SaysText (Err halt.SayFault) said_before said text = SaysPart said_before said text
SaysText (Err halt.DiskFault) said_before said text = Says said_before said []
SaysText (Err halt.NoMemory) said_before said text = Says said_before said []

-- The replies of all of these lines were said, a first part of them where a say failed, and else
-- those of the first so many, whole.
abbrev pub SaysReplies : {U : Type 0} → Result U Halt → Option (List ℕ) → Option (List ℕ)
    → SessionState
    → ℕ → List (List ℕ) → Type 0
SaysReplies (Ok u) said_before said s n lines = Says said_before said (replies_to s n lines)
SaysReplies (Err halt.SayFault) said_before said s n lines =
    SaysPart said_before said (replies_to s n lines)
SaysReplies (Err halt.DiskFault) said_before said s n lines = SaysFirst said_before said s n lines
SaysReplies (Err halt.NoMemory) said_before said s n lines = SaysFirst said_before said s n lines

-- A call that makes no other call of the station than one say of this text: a stop finds a first
-- part of it said, and the disk is as before.
pub record IsSaid {X U : Type 0} (T : Ghosts X) (r : Result U Halt) (text : List ℕ) (old new : X)
    : Type 0 where
  pub counted : CountsTell T r old new
  pub plain : r ≡ Err halt.DiskFault → ⊥
  pub found : OnlySays T text old new

-- ---- one line

-- The line that has not ended was taken, or not, and nothing was said. Its disk fails only where
-- the line is written to a log.
pub record IsTaken {X U : Type 0} (T : Ghosts X) (r : Result U Halt) (before now : Moment)
    (old new : X) : Type 0 where
  pub counted : CountsTell T r old new
  pub output : IsSilent T old new
  pub silent : r ≡ Err halt.SayFault → ⊥
  pub still : before.end ≡ None → new ≡ old
  pub plain : before.end ≡ None → r ≡ Err halt.DiskFault → ⊥
  pub written : r ≡ Err halt.DiskFault → makes_durable before.held.held before.pending ≡ true
  pub log : OnOk r (KeepsLog T before.held.held before.end now.held.held now.end old new)
  pub found : FindsIn T before (10 ∷ []) old new

-- ---- lines

-- One of these lines, each taken from what those before it left, is written to a log.
abbrev pub WritesOne : SessionState → List (List ℕ) → Type 0
WritesOne s [] = ⊥
WritesOne s (line ∷ lines) =
    (makes_durable s.held line ≡ true) ⊎ WritesOne (after_lines s (line ∷ [])) lines

-- What a stop finds while lines are answered, before which a text is said: of a session of no log a
-- first part of all that is said, over the disk as it was; and of one of a log, where nothing is
-- said before them, so many of the lines answered, and a log of these.
abbrev pub FindsBehind : {X : Type 0} → Ghosts X → Option LogPlace → List ℕ → SessionState → ℕ
    → List (List ℕ) → X → X → Type 0
FindsBehind T None first s n lines old new = OnlySays T (first ++ replies_to s n lines) old new
FindsBehind T (Some at) first s n lines old new = FindsLines T at s n lines old new

-- These lines were answered, behind a text that was said before, or so many of them where the call
-- stopped. No disk fails where there is no log, nor where no line is written to it.
pub record IsAnswered {X U : Type 0} (T : Ghosts X) (r : Result U Halt) (before now : Moment)
    (first : List ℕ) (lines : List (List ℕ)) (old new : X) : Type 0 where
  pub counted : CountsTell T r old new
  pub plain : before.end ≡ None → r ≡ Err halt.DiskFault → ⊥
  pub written : r ≡ Err halt.DiskFault → WritesOne before.held lines
  pub log : OnOk r (StaysBeside T before now old new)
  pub found : FindsBehind T before.end first before.held before.number lines old new

-- Asks wait, no more than there may be askers; behind a log none do.
pub record AreWaiting (end : Option LogPlace) (waiting : List AskLine) : Type 0 where
  pub asks : AllByRecursion IsAskLine waiting
  pub few : length waiting ≤ 64
  pub idle : IfSome end (λ at. waiting ≡ [])
