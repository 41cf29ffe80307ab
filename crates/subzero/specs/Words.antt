-- The words of the command line, and what they ask for.
use Rattle.std.specs.Prelude.{◌≡◌, ◌≢◌, ℕ, Bool, List, map, take, drop, Option, None}
use Rattle.std.specs.Prelude.{Result, Ok, Err, string_bytes}
use Rattle.std.specs.IoError.{error_kind}
use Rattle.std.specs.Vec.Iter.{into_iter_items, into_iter_len}
use Rattle.std.specs.declared.alloc.Global.{Global}
use Rattle.std.specs.declared.string.String.{String}
use Rattle.std.specs.declared.vec.IntoIter.{IntoIter}
use Rattle.std.specs.declared.io.Error.{Error}
use Rattle.std.specs.declared.io.ErrorKind.TheVariants.{OutOfMemory}
use Rattle.sz_words.specs.Job.{job_of}
use Rattle.sz_words.specs.Place.{place_of}
use Rattle.sz_words.specs.declared.Job.{Job}

-- What the command line gives: its words, of which the first is the program's name.
abbrev pub Args : Type 0
Args = IntoIter (String Global) Global

-- The words behind the program's name.
abbrev pub words_in : Args → List (String Global)
words_in args = drop 1 (take (into_iter_len args) (into_iter_items args))

-- The job that they ask for; none where they ask for none or could not be had.
abbrev pub job_asked : Result Args Error → Option Job
job_asked (Ok args) = job_of (map string_bytes (words_in args))
job_asked (Err fault) = None

-- The file of the log that they name, as its path's bytes, and whether it is made where it is not
-- there; none where they name none or could not be had.
abbrev pub place_named : Result Args Error → Option (List ℕ × Bool)
place_named (Ok args) = place_of (map string_bytes (words_in args))
place_named (Err fault) = None

-- They ask for none, or could not be had, and not for want of memory: one of them is no text.
abbrev pub AreOther : Result Args Error → Type 0
AreOther (Ok args) = job_of (map string_bytes (words_in args)) ≡ None
AreOther (Err fault) = error_kind fault ≢ OutOfMemory
