-- A part behind its number is a table.
use Rattle.std.proofs.Common.{List, ◌++◌, length, arith}
use Rattle.std.specs.List.{flat_map}
use Rattle.sz_region.specs.FullBytes.{listed_bytes}
use Rattle.sz_region.proofs.Spans.{no-number}
use Rattle.sz_tables.proofs.reading.take_sets.Goals as goal

pub returns-in_default-clause-err : goal.returns-in_default-clause-err
returns-in_default-clause-err c sets rest few is =
    no-number c.args.bytes.now c.args.at (length sets) (flat_map listed_bytes sets ++ rest) c.in_default.ensures.none is
