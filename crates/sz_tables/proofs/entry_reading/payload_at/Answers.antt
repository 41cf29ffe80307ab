-- There are no four bytes of a length.
use Rattle.std.proofs.Common.{◌++◌, length}
use Rattle.sz_region.proofs.Spans.{no-number}
use Rattle.sz_tables.proofs.entry_reading.payload_at.Goals as goal

pub returns-in_default-clause-none : goal.returns-in_default-clause-none
returns-in_default-clause-none c p rest short is =
    no-number c.args.bytes.now c.args.at (length p) (p ++ rest) c.in_default.ensures.none is
