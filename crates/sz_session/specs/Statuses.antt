-- The status that a session ends with, and what it tells.
use Rattle.std.specs.Prelude.{◌≡◌, ℕ, Bool, true, false, List, [], Option, Result, Ok, Err}
use Rattle.sz_outside.specs.Outside.{Rose, Stood, Says, SaysPart}
use Rattle.sz_outside.specs.declared.stations.Station.{Ghosts}
use Rattle.sz_log.specs.declared.LogFault.{LogFault}
use Rattle.sz_log.specs.declared.LogFault.TheVariants as log
use Rattle.sz_commands.specs.States.{SessionState}
use Rattle.sz_feed.specs.Serving.{Done, SaidOfRead, SaidInPart, SaidInLines, SaidToLimit}
use Rattle.sz_feed.specs.Making.{ready_line, HasMade, IsSpared, IsSilent}
use Rattle.sz_session.specs.Checking.{SaysLine, SaysPartOfLine, IsUnlike, IsBadLog}
use Rattle.sz_feed.specs.declared.feed.Halt.{Halt}
use Rattle.sz_feed.specs.declared.feed.Halt.TheVariants as halt
use Rattle.sz_session.specs.declared.serving.Status.{Status}
use Rattle.sz_session.specs.declared.serving.Status.TheVariants as status
use Rattle.sz_recover.specs.declared.opening.RecoverFault.{RecoverFault}
use Rattle.sz_recover.specs.declared.opening.RecoverFault.TheVariants as recover
use Rattle.sz_words.specs.declared.WordsFault.{WordsFault}
use Rattle.sz_words.specs.declared.WordsFault.TheVariants as fault

abbrev pub halt_status : Halt → Status
halt_status halt.SayFault = status.SayFault
halt_status halt.DiskFault = status.DiskFault
halt_status halt.NoMemory = status.NoMemory

abbrev pub end_status : Result (Unit {0}) Halt → Status
end_status (Ok u) = status.Done
end_status (Err s) = halt_status s

-- words that ask for no job
abbrev pub words_status : WordsFault → Status
words_status fault.Usage = status.Usage
words_status fault.NoMemory = status.NoMemory

-- a disk that was not made a log
abbrev pub log_status : LogFault → Status
log_status log.Failed = status.DiskFault
log_status log.NotALog = status.NotALog
log_status log.AlreadyALog = status.AlreadyALog

-- a log that was not opened
abbrev pub recover_status : RecoverFault → Status
recover_status recover.Failed = status.DiskFault
recover_status recover.NotALog = status.NotALog
recover_status (recover.BadLog at) = status.BadLog at
recover_status recover.NoMemory = status.NoMemory

-- the number of a status, which is the program's exit status
abbrev pub status_number : Status → ℕ
status_number status.Done = 0
status_number status.Usage = 1
status_number status.ReadFault = 2
status_number status.SayFault = 3
status_number status.DiskFault = 4
status_number status.NotALog = 5
status_number status.AlreadyALog = 6
status_number (status.BadLog at) = 7
status_number status.NoMemory = 8
status_number status.InputLimit = 9

-- the statuses that come of the disk alone
abbrev pub is_of_disk : Status → Bool
is_of_disk status.DiskFault = true
is_of_disk status.NotALog = true
is_of_disk status.AlreadyALog = true
is_of_disk (status.BadLog at) = true
is_of_disk _ = false

-- What was read and said by then, for each status that a session of lines ends with.
abbrev pub Ends :
    SessionState → Status → ℕ → Option (List ℕ) → Option (List ℕ) → Option (List ℕ)
    → Option (List ℕ)
    → Type 0
Ends c status.Done limit before left said_before said = Done c limit before left said_before said
Ends c status.ReadFault limit before left said_before said =
    SaidOfRead c before left said_before said
Ends c status.SayFault limit before left said_before said = SaidInPart c before said_before said
Ends c status.NoMemory limit before left said_before said =
    SaidInLines c before said_before said
Ends c status.InputLimit limit before left said_before said =
    SaidToLimit c limit before left said_before said
Ends c _ limit before left said_before said = ⊥

-- No count of faults rose: of reads, of says and of the disk.
abbrev pub NoneRose : {X : Type 0} → Ghosts X → ℕ → ℕ → X → X → Type 0
NoneRose T reads_before reads old new = Stood reads_before reads
    × Stood (T.say_faults old) (T.say_faults new) × Stood (T.disk_faults old) (T.disk_faults new)

-- What the counts of faults, of reads, of says and of the disk, tell of a status, in each mode: a
-- status that is a fault's comes only where its count rose, and then no other did; and by any other
-- none rose, want of memory among them.
abbrev pub AreCounted : {X : Type 0} → Ghosts X → Status → ℕ → ℕ → X → X → Type 0
AreCounted T status.Usage reads_before reads old new = ⊥
AreCounted T status.ReadFault reads_before reads old new = Rose reads_before reads
    × Stood (T.say_faults old) (T.say_faults new) × Stood (T.disk_faults old) (T.disk_faults new)
AreCounted T status.SayFault reads_before reads old new = Stood reads_before reads
    × Rose (T.say_faults old) (T.say_faults new) × Stood (T.disk_faults old) (T.disk_faults new)
AreCounted T status.DiskFault reads_before reads old new = Stood reads_before reads
    × Stood (T.say_faults old) (T.say_faults new) × Rose (T.disk_faults old) (T.disk_faults new)
AreCounted T _ reads_before reads old new = NoneRose T reads_before reads old new

-- The same of a session of a log: where its disk failed, what was said is whole replies.
abbrev pub EndsLines : SessionState → Status → ℕ → Option (List ℕ) → Option (List ℕ)
    → Option (List ℕ) → Option (List ℕ) → Type 0
EndsLines c status.DiskFault limit before left said_before said =
    SaidInLines c before said_before said
EndsLines c s limit before left said_before said = Ends c s limit before left said_before said

-- What was said by then of its line, for each status that the generated session ends with.
abbrev pub SaysSummary : Status → List ℕ → Option (List ℕ) → Option (List ℕ) → Type 0
SaysSummary status.Done line said_before said = Says said_before said line
SaysSummary status.SayFault line said_before said = SaysPart said_before said line
SaysSummary status.NoMemory line said_before said = Says said_before said []
SaysSummary _ line said_before said = ⊥

-- What was said by then, and what the disk was made, for each status that the making of a log ends
-- with. It takes no memory but for its words, which are read before anything is done.
abbrev pub MakesLog : {X : Type 0} → Ghosts X → Status → X → X → Type 0
MakesLog T status.Done old new = HasMade T old new × Says (T.said old) (T.said new) ready_line
MakesLog T status.SayFault old new = HasMade T old new
    × SaysPart (T.said old) (T.said new) ready_line
MakesLog T status.DiskFault old new = IsSilent T old new
MakesLog T status.NotALog old new = IsSilent T old new × IsSpared T log.NotALog old new
MakesLog T status.AlreadyALog old new = IsSilent T old new × IsSpared T log.AlreadyALog old new
MakesLog T status.NoMemory old new = new ≡ old
MakesLog T _ old new = ⊥

-- What was said by then, and what is known of the log, for each status that the check of one ends
-- with.
abbrev pub ChecksLog : {X : Type 0} → Ghosts X → Status → X → X → Type 0
ChecksLog T status.Done old new = SaysLine T old new
ChecksLog T status.SayFault old new = SaysPartOfLine T old new
ChecksLog T status.DiskFault old new = IsSilent T old new
ChecksLog T status.NotALog old new = IsSilent T old new × IsUnlike T old new
ChecksLog T (status.BadLog at) old new = IsSilent T old new × IsBadLog T at old new
ChecksLog T status.NoMemory old new = IsSilent T old new
ChecksLog T _ old new = ⊥
