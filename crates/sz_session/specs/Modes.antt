-- How a call of `serve` ends, mode by mode: what it is asked for, a record for each mode with a
-- field for each fact, and all that the call owes.
--
-- Each record tells, of the status that the call ended with, what was read and said by then (its
-- field `ends`), what the counts of faults say (`counted`), and what a stop at any moment of the
-- call finds (`found`). A mode that reads no lines counts no read.
use Rattle.std.specs.Prelude.{◌≡◌, ◌⊎◌, ℕ, ◌^◌, List, Bool, true, false, Option, Some, None, ⊤}
use Rattle.std.specs.Prelude.{option_map}
use Rattle.std.specs.Option.{option_map_or}
use Rattle.sz_outside.specs.declared.sources.Source as source
use Rattle.sz_outside.specs.declared.stations.Station.{Ghosts}
use Rattle.sz_commands.specs.States.{nothing_held}
use Rattle.sz_feed.specs.Serving.{load_line}
use Rattle.sz_feed.specs.Disks.{StaysFinding, OnlySays, FoundInPart, StopsMaking}
use Rattle.sz_session.specs.Statuses.{Ends, AreCounted, SaysSummary, MakesLog, ChecksLog}
use Rattle.sz_session.specs.Checking.{StopsChecking}
use Rattle.sz_session.specs.Raising.{RaisesLog, StopsRaising}
use Rattle.sz_session.specs.Continuing.{EndsOnLog}
use Rattle.sz_session.specs.declared.serving.Status.{Status}
use Rattle.sz_session.specs.declared.serving.Status.TheVariants as status
use Rattle.sz_words.specs.declared.Job.{Job}
use Rattle.sz_words.specs.declared.arguments.JobMode.{JobMode}
use Rattle.sz_words.specs.declared.arguments.JobMode.TheVariants.{Play, Init, Run, Check}
use Rattle.sz_words.specs.declared.arguments.JobMode.TheVariants.{Upgrade, Load}

-- ---- what is asked for

-- the mode of a job
abbrev pub mode_in : Job → JobMode
mode_in job = job.mode

-- A job, where there is one, is of this mode. The job of words that are refused is none.
abbrev pub AsksFor : JobMode → Option Job → Type 0
AsksFor mode job = option_map mode_in job ≡ Some mode

-- Where it asks for the generated session, this is so of the line that sums it up.
abbrev pub IfLoad : Option Job → (List ℕ → Type 0) → Type 0
IfLoad None IsSuch = ⊤
IfLoad (Some job) IsSuch = job.mode ≡ Load → IsSuch (load_line job)

-- the modes that read lines
abbrev pub is_of_lines : JobMode → Bool
is_of_lines Play = true
is_of_lines Run = true
is_of_lines _ = false

-- the modes that open a log
abbrev pub is_opened : JobMode → Bool
is_opened Run = true
is_opened Check = true
is_opened Upgrade = true
is_opened _ = false

-- There is a job, and its mode passes a test, as these or `is_on_log` of `sz_words`.
abbrev pub is_for : (JobMode → Bool) → Option Job → Bool
is_for test job = option_map_or test (option_map mode_in job) false

-- ---- the modes

-- Play: what was said is of the transcript of the source's bytes, as the status says; the counts of
-- faults tell the status; the disk is as before, and a stop finds a first part said.
pub record EndsPlay {X : Type 0} (T : Ghosts X) (s : Status) (limit reads_before reads : ℕ)
    (left rest : Option (List ℕ)) (old new : X) : Type 0 where
  pub ends : Ends nothing_held s limit left rest (T.said old) (T.said new)
  pub counted : AreCounted T s reads_before reads old new
  pub found : StaysFinding T (FoundInPart nothing_held left (T.said old)) old new

-- Load: what was said is of this line, as the status says; the counts of faults tell the status;
-- the disk is as before, and a stop finds a first part of the line said.
pub record EndsLoad {X : Type 0} (T : Ghosts X) (s : Status) (line : List ℕ) (old new : X)
    : Type 0 where
  pub ends : SaysSummary s line (T.said old) (T.said new)
  pub counted : AreCounted T s 0 0 old new
  pub found : OnlySays T line old new

-- Init: the disk was made the empty log or spared, and what was said is as the status says; the
-- counts of faults tell the status; a stop leaves the old bytes, at most 17 bytes that are no log,
-- or the empty log.
pub record EndsInit {X : Type 0} (T : Ghosts X) (s : Status) (old new : X) : Type 0 where
  pub ends : MakesLog T s old new
  pub counted : AreCounted T s 0 0 old new
  pub found : StopsMaking T old new

-- Check: the line of the log was said, or the disk is no log or a bad one; the counts of faults
-- tell the status; the disk is as before, and a stop finds a first part of the line said.
pub record EndsCheck {X : Type 0} (T : Ghosts X) (s : Status) (old new : X) : Type 0 where
  pub ends : ChecksLog T s old new
  pub counted : AreCounted T s 0 0 old new
  pub found : StopsChecking T old new

-- Upgrade: the log is one of format 2, and its line was said, or the disk is no log or a bad one
-- and reads as before; the counts of faults tell the status; a stop leaves the log as it was or
-- with the group that raises it, and finds a first part of the line said.
pub record EndsUpgrade {X : Type 0} (T : Ghosts X) (s : Status) (old new : X) : Type 0 where
  pub ends : RaisesLog T s old new
  pub counted : AreCounted T s 0 0 old new
  pub found : StopsRaising T old new

-- Run: no log was opened, or one was and its session went on, with what a stop finds of both; the
-- counts of faults tell the status.
pub record EndsRun {X : Type 0} (T : Ghosts X) (s : Status) (limit reads_before reads : ℕ)
    (left rest : Option (List ℕ)) (old new : X) : Type 0 where
  pub ends : EndsOnLog T s limit left rest old new
  pub counted : AreCounted T s reads_before reads old new

-- ---- a call

-- All that a call of `serve` owes, whose words ask for a job or are refused, and which ends with a
-- status: the clauses of its contract. Words that are refused end with Usage or want of memory, and
-- nothing is touched; a mode that reads no lines leaves the source as it was; and each mode ends as
-- its record says.
pub record Serves {Y X : Type 0} (S : source.Ghosts Y) (T : Ghosts X) (job : Option Job)
    (s : Status) (before after : Y) (old new : X) : Type 0 where
  pub refused : job ≡ None → (s ≡ status.Usage) ⊎ (s ≡ status.NoMemory)
  pub untouched : job ≡ None → (after ≡ before) × (new ≡ old)
  pub unread : is_for is_of_lines job ≡ false → after ≡ before
  pub play : AsksFor Play job → EndsPlay T s (2 ^ 62) (S.faults before) (S.faults after)
      (S.left before) (S.left after) old new
  pub load : IfLoad job (λ line. EndsLoad T s line old new)
  pub init : AsksFor Init job → EndsInit T s old new
  pub check : AsksFor Check job → EndsCheck T s old new
  pub upgrade : AsksFor Upgrade job → EndsUpgrade T s old new
  pub run : AsksFor Run job → EndsRun T s (2 ^ 62) (S.faults before) (S.faults after)
      (S.left before) (S.left after) old new

-- What is so of each call that owes this, whatever it is asked for, its source and its station.
abbrev pub OfEachCall : {Y X : Type 0} → source.Ghosts Y → Ghosts X
    → (Option Job → Status → Y → Y → X → X → Type 0) → Type 0
OfEachCall {Y} {X} S T IsSo = (job : Option Job) (s : Status) (before after : Y) (old new : X)
    → Serves S T job s before after old new → IsSo job s before after old new
