-- The command line as a command of clap, and what clap's definitions make of words.
use Rattle.std.specs.Prelude.{ℤ, List, [], ◌∷◌, Some, true, pos, codes}
use Rattle.clap.specs.Words.{App, Kinds, Row, Rule, Text, fault_of, matches_of, new_app, new_rule}
use Rattle.clap.specs.Simple.{on_top}
use Rattle.clap.specs.declared.builder.action.ArgAction.TheVariants.{Set}
use Rattle.clap.specs.declared.builder.value_parser.ValueParser.TheVariants as vp

-- an option `--name N`, given once at most, for a whole number from `least` to `most`
abbrev pub number_option : Text → ℤ → ℤ → Text → Rule
number_option name least most default = record (new_rule name) {
  long = Some name;
  action = Some Set;
  parser = Some (vp.Signed least most);
  defaults = default ∷ [];
}

-- the positionals and the options, in their order
abbrev pub rules : List Rule
rules = record (new_rule (codes "MODE")) { required = true }
    ∷ new_rule (codes "PLACE")
    ∷ number_option (codes "workers") (pos 1) (pos 64) (codes "4")
    ∷ number_option (codes "askers") (pos 1) (pos 64) (codes "1")
    ∷ number_option (codes "seed") (pos 0) (pos 4294967295) (codes "1")
    ∷ number_option (codes "side") (pos 1) (pos 512) (codes "64")
    ∷ []

-- `subzero MODE [PLACE] [--workers N] [--askers N] [--seed N] [--side N]`, on words that do not
-- begin with the program's name
abbrev pub subzero : App
subzero =
    on_top (λ s. record s { no_binary_name = true; rules = rules }) (new_app (codes "subzero"))

-- the kinds of clap's error at these words: none exactly where clap takes them
unfoldable pub faults_of : List Text → Kinds
faults_of words = fault_of subzero words

-- what clap finds in words that it takes: the values of each positional and option, with the
-- defaults of the options that were not given
unfoldable pub matches_in : List Text → List Row
matches_in words = matches_of subzero words
