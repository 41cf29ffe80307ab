-- Which job words ask for.
use Rattle.std.specs.Prelude.{◌≤◌, Bool, true, false, List, [], ◌∷◌, Option, Some, None, codes, not}
use Rattle.std.specs.Prelude.{is_some, if◌then◌else◌, option_and_then, option_map}
use Rattle.std.specs.Str.{bytes_eq}
use Rattle.clap.specs.Words.{Kinds, Row, Text, first_of, one_of}
use Rattle.sz_words.specs.Command.{faults_of, matches_in}
use Rattle.sz_words.specs.Numbers.{number_of}
use Rattle.sz_words.specs.declared.Job.{Job}
use Rattle.sz_words.specs.declared.arguments.JobMode.{JobMode}
use Rattle.sz_words.specs.declared.arguments.JobMode.TheVariants.{Play, Init, Run, Check, Load}
use Rattle.sz_words.specs.declared.arguments.JobMode.TheVariants.{Upgrade}

-- the mode of this name
abbrev pub mode_named : Text → Option JobMode
mode_named name =
    if bytes_eq name (codes "play") then Some Play
    else (if bytes_eq name (codes "init") then Some Init
    else (if bytes_eq name (codes "run") then Some Run
    else (if bytes_eq name (codes "check") then Some Check
    else (if bytes_eq name (codes "upgrade") then Some Upgrade
    else (if bytes_eq name (codes "load") then Some Load else None)))))

-- the mode works on a log, whose file PLACE names
abbrev pub is_on_log : JobMode → Bool
is_on_log Play = false
is_on_log Init = true
is_on_log Run = true
is_on_log Check = true
is_on_log Upgrade = true
is_on_log Load = false

-- PLACE is given exactly in the modes on a log
abbrev pub fits : JobMode → Bool → Bool
fits mode is_given = if is_on_log mode then is_given else not is_given

-- the mode that MODE names, where PLACE fits it
abbrev pub fitting_mode : List Row → Option JobMode
fitting_mode found = option_and_then
    (λ mode. if fits mode (is_some (first_of (codes "PLACE") found)) then Some mode else None)
    (option_and_then mode_named (first_of (codes "MODE") found))

-- this mode, where clap finds no fault
abbrev pub mode_if_taken : Kinds → Option JobMode → Option JobMode
mode_if_taken [] mode = mode
mode_if_taken (kind ∷ more) mode = None

-- the mode of words that are accepted: clap takes them, MODE names a mode, and PLACE fits it
unfoldable pub mode_of : List Text → Option JobMode
mode_of words = mode_if_taken (faults_of words) (fitting_mode (matches_in words))

-- the job in this mode, with the numbers that clap's typed getter gives
abbrev pub job_in : JobMode → List Row → Job
job_in mode found = record {
  mode = mode;
  workers = number_of (one_of (codes "workers") found);
  askers = number_of (one_of (codes "askers") found);
  seed = number_of (one_of (codes "seed") found);
  side = number_of (one_of (codes "side") found);
}

-- the job of the words; none where they are refused
unfoldable pub job_of : List Text → Option Job
job_of words = option_map (λ mode. job_in mode (matches_in words)) (mode_of words)

-- each number is in the range of its option
pub record IsInRange (job : Job) : Type 0 where
  pub workers : (1 ≤ job.workers) × (job.workers ≤ 64)
  pub askers : (1 ≤ job.askers) × (job.askers ≤ 64)
  pub seed : job.seed ≤ 4294967295
  pub side : (1 ≤ job.side) × (job.side ≤ 512)
