-- Words worked by hand, each with the job or the place that the definitions compute.
-- The key idea: on written-out words all that clap is defined to do is a computation, so each row is
-- its own proof. Each limit has a row on both its sides.
use Rattle.std.proofs.Common.{◌≡◌, ℕ, List, [], ◌∷◌, Some, None, Option, codes, map, true}
use Rattle.std.proofs.Common.{false, refl, arith}
use Rattle.clap.specs.Words.{Text}
use Rattle.clap.proofs.OnLiterals.{clap_on_literals}
use Rattle.sz_words.specs.Command.{faults_of, matches_in}
use Rattle.sz_words.specs.Job.{IsInRange, job_of, mode_of}
use Rattle.sz_words.specs.Numbers.{IsNumberIn, number_of}
use Rattle.sz_words.specs.Place.{place_of}
use Rattle.sz_words.specs.declared.Job.{Job}
use Rattle.sz_words.specs.declared.arguments.JobMode.{JobMode}
use Rattle.sz_words.specs.declared.arguments.JobMode.TheVariants.{Play, Init, Run, Check, Upgrade, Load}

-- the job of this mode and these numbers
abbrev job : JobMode → ℕ → ℕ → ℕ → ℕ → Option Job
job mode workers askers seed side =
    Some (record { mode = mode; workers = workers; askers = askers; seed = seed; side = side })

-- `load`, with this option and number
abbrev load_with : Text → Text → List Text
load_with option number = codes "load" ∷ option ∷ number ∷ []

-- the jobs of these with one option and each of some numbers
abbrev loads : Text → List Text → List (Option Job)
loads option numbers = map (λ number. job_of (load_with option number)) numbers

-- a mode and a PLACE
abbrev with_place : Text → List Text
with_place mode = mode ∷ codes "x" ∷ []

-- ---- modes

-- play and load stand alone
pub modes_without_a_place : map (λ mode. job_of (mode ∷ []))
    (codes "play" ∷ codes "init" ∷ codes "run" ∷ codes "check" ∷ codes "upgrade" ∷ codes "load" ∷ [])
    ≡ job Play 4 1 1 64 ∷ None ∷ None ∷ None ∷ None ∷ job Load 4 1 1 64 ∷ []
unfolding clap_on_literals job_of mode_of faults_of matches_in
modes_without_a_place = refl

-- init, run, check and upgrade want the file of the log
pub modes_with_a_place : map (λ mode. job_of (with_place mode))
    (codes "play" ∷ codes "init" ∷ codes "run" ∷ codes "check" ∷ codes "upgrade" ∷ codes "load" ∷ [])
    ≡ None ∷ job Init 4 1 1 64 ∷ job Run 4 1 1 64 ∷ job Check 4 1 1 64 ∷ job Upgrade 4 1 1 64 ∷ None ∷ []
unfolding clap_on_literals job_of mode_of faults_of matches_in
modes_with_a_place = refl

-- no other word is a mode: not an unknown one, none in capitals, not the empty one
pub no_modes : map (λ mode. job_of (mode ∷ [])) (codes "fly" ∷ codes "Play" ∷ [] ∷ [])
    ≡ None ∷ None ∷ None ∷ []
unfolding clap_on_literals job_of mode_of faults_of matches_in
no_modes = refl

-- some word must stand there
pub no_words : job_of [] ≡ None
unfolding clap_on_literals job_of mode_of faults_of matches_in
no_words = refl

-- one file at most
pub two_places : job_of (codes "run" ∷ codes "a" ∷ codes "b" ∷ []) ≡ None
unfolding clap_on_literals job_of mode_of faults_of matches_in
two_places = refl

-- ---- options

-- both sides of each limit: 1 to 64 workers, 1 to 64 askers, a seed from 0 to 4,294,967,295, and sides of 1 to 512
pub limits : (loads (codes "--workers") (codes "0" ∷ codes "1" ∷ codes "64" ∷ codes "65" ∷ [])
    ≡ None ∷ job Load 1 1 1 64 ∷ job Load 64 1 1 64 ∷ None ∷ [])
    × (loads (codes "--askers") (codes "0" ∷ codes "1" ∷ codes "64" ∷ codes "65" ∷ [])
    ≡ None ∷ job Load 4 1 1 64 ∷ job Load 4 64 1 64 ∷ None ∷ [])
    × (loads (codes "--seed") (codes "0" ∷ codes "4294967295" ∷ codes "4294967296" ∷ codes "-1" ∷ [])
    ≡ job Load 4 1 0 64 ∷ job Load 4 1 4294967295 64 ∷ None ∷ None ∷ [])
    × (loads (codes "--side") (codes "0" ∷ codes "1" ∷ codes "512" ∷ codes "513" ∷ [])
    ≡ None ∷ job Load 4 1 1 1 ∷ job Load 4 1 1 512 ∷ None ∷ [])
unfolding clap_on_literals job_of mode_of faults_of matches_in
limits = (refl, refl, refl, refl)

-- a plus and leading noughts are allowed, a point and nothing at all are not
pub spellings : loads (codes "--side") (codes "+5" ∷ codes "05" ∷ codes "5.0" ∷ [] ∷ [])
    ≡ job Load 4 1 1 5 ∷ job Load 4 1 1 5 ∷ None ∷ None ∷ []
unfolding clap_on_literals job_of mode_of faults_of matches_in
spellings = refl

-- a number may stand behind `=`, and `--` ends the options
pub spellings_of_options : map job_of
    ((codes "--side=2" ∷ codes "load" ∷ []) ∷ (codes "--" ∷ codes "load" ∷ []) ∷ [])
    ≡ job Load 4 1 1 2 ∷ job Load 4 1 1 64 ∷ []
unfolding clap_on_literals job_of mode_of faults_of matches_in
spellings_of_options = refl

-- an option without its number, a shortened one, and what clap would answer by itself
pub no_options : map (λ word. job_of (codes "load" ∷ word ∷ []))
    (codes "--side" ∷ codes "--sid" ∷ codes "--help" ∷ codes "-h" ∷ codes "--version" ∷ codes "-V"
    ∷ codes "-x" ∷ [])
    ≡ None ∷ None ∷ None ∷ None ∷ None ∷ None ∷ None ∷ []
unfolding clap_on_literals job_of mode_of faults_of matches_in
no_options = refl

-- an option stands once at most
pub an_option_twice : job_of (codes "--side" ∷ codes "2" ∷ load_with (codes "--side") (codes "2")) ≡ None
unfolding clap_on_literals job_of mode_of faults_of matches_in
an_option_twice = refl

-- ---- numbers of texts

-- a plus and leading noughts count for nothing, and no text at all has the number 0, which is no option's own
pub numbers_of_texts : map number_of (Some (codes "+5") ∷ Some (codes "050") ∷ Some (codes "512") ∷ None ∷ [])
    ≡ 5 ∷ 50 ∷ 512 ∷ 0 ∷ []
numbers_of_texts = refl

-- no text is no number of any range
pub no_text_is_no_number : ¬ (IsNumberIn 0 4294967295 None)
no_text_is_no_number number = number

-- ---- places

-- only init makes the file
pub places : map (λ mode. place_of (with_place mode))
    (codes "init" ∷ codes "run" ∷ codes "check" ∷ codes "upgrade" ∷ [])
    ≡ Some (codes "x", true) ∷ Some (codes "x", false) ∷ Some (codes "x", false) ∷ Some (codes "x", false) ∷ []
unfolding clap_on_literals place_of mode_of faults_of matches_in
places = refl

-- the empty text is a place
pub empty_place : place_of (codes "run" ∷ [] ∷ []) ≡ Some ([], false)
unfolding clap_on_literals place_of mode_of faults_of matches_in
empty_place = refl

-- behind `--` an option's name is a place
pub place_like_an_option : place_of (codes "run" ∷ codes "--" ∷ codes "--help" ∷ [])
    ≡ Some (codes "--help", false)
unfolding clap_on_literals place_of mode_of faults_of matches_in
place_like_an_option = refl

-- no place without PLACE
pub no_place : map (λ mode. place_of (mode ∷ [])) (codes "play" ∷ codes "load" ∷ codes "run" ∷ [])
    ≡ None ∷ None ∷ None ∷ []
unfolding clap_on_literals place_of mode_of faults_of matches_in
no_place = refl

-- no place where another word is refused
pub refused_place : place_of (codes "--side" ∷ codes "0" ∷ with_place (codes "run")) ≡ None
unfolding clap_on_literals place_of mode_of faults_of matches_in
refused_place = refl

-- no place where the mode takes none
pub unfitting_place : place_of (with_place (codes "play")) ≡ None
unfolding clap_on_literals place_of mode_of faults_of matches_in
unfitting_place = refl

-- ---- ranges

-- a job with these numbers
abbrev numbers : ℕ → ℕ → ℕ → ℕ → Job
numbers workers askers seed side =
    record { mode = Load; workers = workers; askers = askers; seed = seed; side = side }

-- the least numbers and the greatest ones are in their ranges
pub ends_of_ranges : IsInRange (numbers 1 1 0 1) × IsInRange (numbers 64 64 4294967295 512)
ends_of_ranges = (
  record {
    workers = (omega arith, omega arith);
    askers = (omega arith, omega arith);
    seed = omega arith;
    side = (omega arith, omega arith);
  },
  record {
    workers = (omega arith, omega arith);
    askers = (omega arith, omega arith);
    seed = omega arith;
    side = (omega arith, omega arith);
  },
)

-- what is past an end of its range is not
pub past_workers : ¬ (IsInRange (numbers 0 1 1 1)) × ¬ (IsInRange (numbers 65 1 1 1))
past_workers = (λ r. let range = r.workers in omega arith, λ r. let range = r.workers in omega arith)

pub past_askers : ¬ (IsInRange (numbers 1 0 1 1)) × ¬ (IsInRange (numbers 1 65 1 1))
past_askers = (λ r. let range = r.askers in omega arith, λ r. let range = r.askers in omega arith)

pub past_seed : ¬ (IsInRange (numbers 1 1 4294967296 1))
past_seed r = let range = r.seed in omega arith

pub past_side : ¬ (IsInRange (numbers 1 1 1 0)) × ¬ (IsInRange (numbers 1 1 1 513))
past_side = (λ r. let range = r.side in omega arith, λ r. let range = r.side in omega arith)
