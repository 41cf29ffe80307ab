-- What is read is the first and the last of the list, or all of it.
use Rattle.std.proofs.Common.{◌%◌, length, arith}
use Rattle.sz_tables.specs.Payloads.{mixed_byte}
use Rattle.sz_tables.proofs.Slices.{mixed-ends}
use Rattle.sz_tables.proofs.payload_table.mix_of.Goals as goal

pub returns : goal.returns
returns c =
    mixed-ends mixed_byte 32 (length c.args.bytes.now % 4294967296) c.args.bytes.now c.min.result c.max.result
    c.min-start.result c.mix_more-first.result
    c.mix_more.result c.min.ensures c.mix_more-first.ensures.mix
    (omega (arith, c.max.ensures, c.saturating_sub.ensures)) c.min-start.ensures c.mix_more.ensures.mix
