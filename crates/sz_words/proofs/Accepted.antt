-- Which mode, job and place words have, by clap's verdict on them and what it finds. The definitions
-- stay shut for callers; here they are opened once for words that clap takes, and once for words
-- that it refuses.
use Rattle.std.proofs.Common.{◌≡◌, ◌≢◌, List, [], ◌∷◌, Option, None, Bool, refl, sym, ap, option_map}
use Rattle.std.specs.Prelude.{codes, option_and_then}
use Rattle.clap.specs.Words.{Kinds, Row, Text, first_of}
use Rattle.sz_words.specs.Command.{faults_of, matches_in}
use Rattle.sz_words.specs.Job.{fitting_mode, job_in, job_of, mode_of, mode_if_taken}
use Rattle.sz_words.specs.Place.{makes_log, place_of}
use Rattle.sz_words.specs.declared.arguments.JobMode.{JobMode}

refused_here : (kinds : Kinds) (mode : Option JobMode) → kinds ≢ [] → mode_if_taken kinds mode ≡ None
refused_here [] mode some = absurd (some refl)
refused_here (k ∷ ks) mode some = refl

mode_of-taken : (words : List Text) (found : List Row) → faults_of words ≡ [] → found ≡ matches_in words
    → mode_of words ≡ fitting_mode found
unfolding mode_of
mode_of-taken words found none same = rw none (ap fitting_mode (sym same))

mode_of-refused : (words : List Text) → faults_of words ≢ [] → mode_of words ≡ None
unfolding mode_of
mode_of-refused words some = refused_here (faults_of words) (fitting_mode (matches_in words)) some

-- ---- the job

-- words that clap takes have the job that its matches name
pub job_of-taken : (words : List Text) (found : List Row) → faults_of words ≡ [] → found ≡ matches_in words
    → job_of words ≡ option_map (λ mode. job_in mode found) (fitting_mode found)
unfolding job_of
job_of-taken words found none same =
    rw (mode_of-taken words found none same)
    (ap (λ rows. option_map (λ mode. job_in mode rows) (fitting_mode found)) (sym same))

-- words that clap refuses have none
pub job_of-refused : (words : List Text) → faults_of words ≢ [] → job_of words ≡ None
unfolding job_of
job_of-refused words some = rw (mode_of-refused words some) refl

-- ---- the place

-- the place in this mode, where the matches have a PLACE
abbrev pub place_in : List Row → JobMode → Option (Text × Bool)
place_in found mode = option_map (λ path. (path, makes_log mode)) (first_of (codes "PLACE") found)

-- words that clap takes have the place that its matches name
pub place_of-taken : (words : List Text) (found : List Row) → faults_of words ≡ [] → found ≡ matches_in words
    → place_of words ≡ option_and_then (place_in found) (fitting_mode found)
unfolding place_of
place_of-taken words found none same =
    rw (mode_of-taken words found none same)
    (ap (λ rows. option_and_then (place_in rows) (fitting_mode found)) (sym same))

-- words that clap refuses have none
pub place_of-refused : (words : List Text) → faults_of words ≢ [] → place_of words ≡ None
unfolding place_of
place_of-refused words some = rw (mode_of-refused words some) refl
