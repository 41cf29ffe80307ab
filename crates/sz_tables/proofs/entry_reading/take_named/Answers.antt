-- The name is the place of a number.
use Rattle.std.proofs.Common.{◌<◌, length, arith}
use Rattle.std.proofs.lemmas.Option.{slice_get-get_or}
use Rattle.sz_region.proofs.Spans.{no-number}
use Rattle.sz_tables.proofs.entry_reading.take_named.Goals as goal

pub returns-in_default-clause-err : goal.returns-in_default-clause-err
returns-in_default-clause-err c n rest is spelled =
    no-number c.args.bytes.now c.args.at n rest c.in_default.ensures.none spelled

pub returns-clause-ok : goal.returns-clause-ok
returns-clause-ok c =
    let inside : c.in-Some.name < length c.args.numbers.now = omega arith in (
      c.in-Some.name,
      slice_get-get_or c.args.numbers.now c.in-Some.name 0 inside,
      c.in-Some.ensures.some,
    )
