-- The getter reads the text of the option's row, which is a numeral that fits 32 bits.
use Rattle.std.proofs.Common.{ℕ, List}
use Rattle.std.specs.Prelude.{Result}
use Rattle.std.specs.declared.num.ParseIntError.{ParseIntError}
use Rattle.std.specs.Str.Parse.{ExplainsUnsignedError, HasUnsignedDigitsIfOk, ParsesUnsigned}
use Rattle.clap.specs.Words.{found_of, one_of, rows_of}
use Rattle.clap.proofs.WalkLemmas.{one_text-rows}
use Rattle.sz_words.proofs.Numerals.{number_read}
use Rattle.sz_words.proofs.arguments.number.Goals as goal

-- what the getter says of the number that it reads
abbrev Reads : List ℕ → Result ℕ ParseIntError → Type 0
Reads bs r = ParsesUnsigned 32 10 bs r × ExplainsUnsignedError 10 bs r × HasUnsignedDigitsIfOk bs r

pub unwrap-requires : goal.unwrap-requires
unwrap-requires c =
    let name = c.args.name.now in
    let found = found_of c.args.matches.now in
    (number_read Reads c.get_one.result (one_of name (rows_of found)) (one_text-rows found name) c.requires
    c.get_one.ensures.value (λ u x g. g.0)).0

pub returns : goal.returns
returns c =
    let name = c.args.name.now in
    let found = found_of c.args.matches.now in
    (number_read Reads c.get_one.result (one_of name (rows_of found)) (one_text-rows found name) c.requires
    c.get_one.ensures.value (λ u x g. g.0)).1
    c.unwrap.result c.unwrap.ensures
