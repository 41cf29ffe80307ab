-- What each call answers, by what its turn found.
use Rattle.std.specs.Prelude.{ℕ, List, Bool, if◌then◌else◌}
use Rattle.std.specs.Option.{option_map_or}
use Rattle.sz_spec.specs.declared.modes.Strategy.{Strategy}
use Rattle.sz_shelf.specs.Contents.{is_in, missing_in, least_missing}
use Rattle.sz_shelf.specs.declared.answers.Placed.{Placed}
use Rattle.sz_shelf.specs.declared.answers.Placed.TheVariants as placed
use Rattle.sz_shelf.specs.declared.answers.SealReply.{SealReply}
use Rattle.sz_shelf.specs.declared.answers.SealReply.TheVariants as seal
use Rattle.sz_shelf.specs.declared.answers.Look.{Look}
use Rattle.sz_shelf.specs.declared.answers.Look.TheVariants as look

-- the placing of a piece, where these were placed and there was a seal or not
abbrev pub place_answer : ℕ → List ℕ → Bool → Placed
place_answer piece found sealed =
    if sealed then placed.Sealed else if is_in found piece then placed.Already else placed.New

-- a seal, where these of so many pieces were placed
abbrev pub seal_answer : ℕ → List ℕ → SealReply
seal_answer pieces found = option_map_or seal.Missing (missing_in pieces found) seal.Sealed

-- a look that read the store of a strategy
abbrev pub read_by : Strategy → Look
read_by s = look.Done record { strategy = s }

-- a look by a strategy, where these of so many pieces were placed and there was a seal or not
abbrev pub look_answer : Strategy → ℕ → List ℕ → Bool → Look
look_answer s pieces found sealed =
    if sealed then read_by s else look.Unsealed (least_missing pieces found)
