-- Which file words name.
use Rattle.std.specs.Prelude.{Bool, true, false, List, Option, codes, option_and_then, option_map}
use Rattle.std.specs.Prelude.{string_bytes}
use Rattle.clap.specs.Words.{Text, first_of}
use Rattle.sz_words.specs.Command.{matches_in}
use Rattle.sz_words.specs.Job.{mode_of}
use Rattle.sz_words.specs.declared.arguments.JobMode.{JobMode}
use Rattle.sz_words.specs.declared.arguments.JobMode.TheVariants.{Init}
use Rattle.sz_words.specs.declared.LogPlace.{LogPlace}

-- the file is made where it is not there
abbrev pub makes_log : JobMode → Bool
makes_log Init = true
makes_log _ = false

-- PLACE of accepted words, and whether its file is made; none where the words are refused or have
-- no PLACE
unfoldable pub place_of : List Text → Option (Text × Bool)
place_of words = option_and_then
    (λ mode. option_map (λ path. (path, makes_log mode))
    (first_of (codes "PLACE") (matches_in words)))
    (mode_of words)

-- a place as its path's bytes, and whether the file is made
abbrev pub path_and_make : LogPlace → Text × Bool
path_and_make place = (string_bytes place.path, place.make)
