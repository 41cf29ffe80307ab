-- What the program's clauses ask of the command line, on both sides of each.
--
-- The key idea: which job written-out words ask for is a row of the words; so a clause that speaks of a mode holds of
-- the words of that mode, and of those of no other.
use Rattle.std.proofs.Common.{◌≡◌, ℕ, List, [], ◌∷◌, Option, Some, None, Ok, Err, codes, map, true, false, Bool, refl}
use Rattle.std.proofs.Common.{sym, ap, ap₂, ◌∙◌, get_or, take, drop}
use Rattle.std.specs.Prelude.{string_bytes, option_map}
use Rattle.std.proofs.lemmas.Option.{same_Some}
use Rattle.std.specs.IoError.{error_kind}
use Rattle.std.specs.Vec.Iter.{into_iter_items, into_iter_len}
use Rattle.std.specs.declared.alloc.Global.{Global}
use Rattle.std.specs.declared.string.String.{String}
use Rattle.std.specs.declared.io.Error.{Error}
use Rattle.std.specs.declared.io.ErrorKind.TheVariants.{OutOfMemory, InvalidData}
use Rattle.sz_words.specs.Job.{job_of}
use Rattle.sz_words.specs.Place.{place_of}
use Rattle.sz_words.specs.declared.Job.{Job}
use Rattle.sz_words.specs.declared.arguments.JobMode.{JobMode}
use Rattle.sz_words.specs.declared.arguments.JobMode.TheVariants.{Play, Init, Run, Check, Upgrade, Load}
use Rattle.sz_words.proofs.Rows.{modes_without_a_place, modes_with_a_place, no_modes, places, no_place}
use Rattle.sz_session.specs.Modes.{AsksFor, mode_in}
use Rattle.subzero.specs.Words.{Args, words_in, job_asked, AreOther, place_named}

-- ---- the words behind the program's name

pub words-two : (args : Args) (name word : String Global) → into_iter_len args ≡ 2
    → into_iter_items args ≡ name ∷ word ∷ [] → words_in args ≡ word ∷ []
words-two args name word count items = ap₂ (λ (n : ℕ) (l : List (String Global)). drop 1 (take n l)) count items

-- ---- the job that the words of each mode ask for

-- the command line gives these words behind the program's name
abbrev Gives : Args → List (List ℕ) → Type 0
Gives args words = map string_bytes (words_in args) ≡ words

-- the words of a mode that stands alone, and of one that is given a file
abbrev alone : List ℕ → List (List ℕ)
alone mode = mode ∷ []

abbrev on_log : List ℕ → List (List ℕ)
on_log mode = mode ∷ codes "x" ∷ []

-- the job of a mode, with no option given
abbrev plain : JobMode → Option Job
plain mode = Some (record { mode = mode; workers = 4; askers = 1; seed = 1; side = 64 })

-- the words of each mode
abbrev words_of : JobMode → List (List ℕ)
words_of Play = alone (codes "play")
words_of Load = alone (codes "load")
words_of Init = on_log (codes "init")
words_of Run = on_log (codes "run")
words_of Check = on_log (codes "check")
words_of Upgrade = on_log (codes "upgrade")

job-words : (m : JobMode) → job_of (words_of m) ≡ plain m
job-words Play = ap (λ (l : List (Option Job)). get_or l 0 None) modes_without_a_place
job-words Load = ap (λ (l : List (Option Job)). get_or l 5 None) modes_without_a_place
job-words Init = ap (λ (l : List (Option Job)). get_or l 1 None) modes_with_a_place
job-words Run = ap (λ (l : List (Option Job)). get_or l 2 None) modes_with_a_place
job-words Check = ap (λ (l : List (Option Job)). get_or l 3 None) modes_with_a_place
job-words Upgrade = ap (λ (l : List (Option Job)). get_or l 4 None) modes_with_a_place

job-upgrade_alone : job_of (alone (codes "upgrade")) ≡ None
job-upgrade_alone = ap (λ (l : List (Option Job)). get_or l 4 None) modes_without_a_place

job-none : job_of (alone (codes "fly")) ≡ None
job-none = ap (λ (l : List (Option Job)). get_or l 0 None) no_modes

-- what the command line asks for is the job of its words
asked : (args : Args) (words : List (List ℕ)) (job : Option Job) → Gives args words → job_of words ≡ job
    → job_asked (Ok args) ≡ job
asked args words job given is = ap (λ (ws : List (List ℕ)). job_of ws) given ∙ is

pub mode-asked : (m : JobMode) (args : Args) → Gives args (words_of m) → job_asked (Ok args) ≡ plain m
mode-asked m args given = asked args (words_of m) (plain m) given (job-words m)

-- a mode on a log asks for nothing where no file is given
pub upgrade-alone_asked : (args : Args) → Gives args (alone (codes "upgrade")) → job_asked (Ok args) ≡ None
upgrade-alone_asked args given = asked args (alone (codes "upgrade")) None given job-upgrade_alone

pub none-asked : (args : Args) → Gives args (alone (codes "fly")) → job_asked (Ok args) ≡ None
none-asked args given = asked args (alone (codes "fly")) None given job-none

-- words that could not be had ask for none
pub not_had-asked : (fault : Error) → job_asked (Err fault) ≡ None
not_had-asked fault = refl

-- ---- a mode is asked for by its own words, and by no others

-- a job is of its mode
for-mode : (m : JobMode) (job : Option Job) → job ≡ plain m → AsksFor m job
for-mode m job is = ap (λ (o : Option Job). option_map mode_in o) is

-- and no job is of none
for-none : (m : JobMode) (job : Option Job) → job ≡ None → AsksFor m job → ⊥
for-none m job is for = let e : Some m ≡ None = sym for ∙ ap (λ (o : Option Job). option_map mode_in o) is in cc

pub mode-is : (m : JobMode) (args : Args) → Gives args (words_of m) → AsksFor m (job_asked (Ok args))
mode-is m args given = for-mode m _ (mode-asked m args given)

pub mode-no_other : (m n : JobMode) (args : Args) → Gives args (words_of n) → AsksFor m (job_asked (Ok args)) → m ≡ n
mode-no_other m n args given for = same_Some m n (sym for ∙ mode-is n args given)

pub no_mode-upgrade_alone : (m : JobMode) (args : Args) → Gives args (alone (codes "upgrade"))
    → AsksFor m (job_asked (Ok args)) → ⊥
no_mode-upgrade_alone m args given = for-none m _ (upgrade-alone_asked args given)

pub no_mode-fly : (m : JobMode) (args : Args) → Gives args (alone (codes "fly")) → AsksFor m (job_asked (Ok args)) → ⊥
no_mode-fly m args given = for-none m _ (none-asked args given)

pub no_mode-not_had : (m : JobMode) (fault : Error) → AsksFor m (job_asked (Err fault)) → ⊥
no_mode-not_had m fault = for-none m _ refl

-- ---- words that ask for none

pub other-fly : (args : Args) → Gives args (alone (codes "fly")) → AreOther (Ok args)
other-fly args given = none-asked args given

pub other-not_load : (args : Args) → Gives args (alone (codes "load")) → AreOther (Ok args) → ⊥
other-not_load args given other = let e : None ≡ plain Load = sym other ∙ mode-asked Load args given in cc

-- a word that is no text is no word of a mode; that memory was refused says nothing of the words
pub other-no_text : (fault : Error) → error_kind fault ≡ InvalidData → AreOther (Err fault)
other-no_text fault is memory = let e : InvalidData ≡ OutOfMemory = sym is ∙ memory in cc

pub other-not_memory : (fault : Error) → error_kind fault ≡ OutOfMemory → AreOther (Err fault) → ⊥
other-not_memory fault is other = other is

-- ---- the file that is named

-- what is named is what the words name
named : (args : Args) (words : List (List ℕ)) → Gives args words → place_named (Ok args) ≡ place_of words
named args words given = ap (λ (ws : List (List ℕ)). place_of ws) given

pub place-init : (args : Args) → Gives args (words_of Init) → place_named (Ok args) ≡ Some (codes "x", true)
place-init args given =
    named args _ given ∙ ap (λ (l : List (Option (List ℕ × Bool))). get_or l 0 None) places

pub place-run : (args : Args) → Gives args (words_of Run) → place_named (Ok args) ≡ Some (codes "x", false)
place-run args given = named args _ given ∙ ap (λ (l : List (Option (List ℕ × Bool))). get_or l 1 None) places

-- the file of a log that is raised is there already
pub place-upgrade : (args : Args) → Gives args (words_of Upgrade) → place_named (Ok args) ≡ Some (codes "x", false)
place-upgrade args given =
    named args _ given ∙ ap (λ (l : List (Option (List ℕ × Bool))). get_or l 3 None) places

pub place-play : (args : Args) → Gives args (words_of Play) → place_named (Ok args) ≡ None
place-play args given = named args _ given ∙ ap (λ (l : List (Option (List ℕ × Bool))). get_or l 0 None) no_place

pub place-not_had : (fault : Error) → place_named (Err fault) ≡ None
place-not_had fault = refl
