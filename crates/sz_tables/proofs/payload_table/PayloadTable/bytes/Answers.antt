use Rattle.std.proofs.Common.{sym}
use Rattle.sz_tables.proofs.Payloads.{payload-at}
use Rattle.sz_tables.proofs.payload_table.PayloadTable.bytes.Goals as goal

pub returns : goal.returns
returns c =
    let within = rw (← c.self.view_is) at c.requires in
    rw (c.deref.ensures.value, ← c.self.view_is)
    (sym (payload-at c.self.inside.bytes.items c.self.inside.spans.items c.args.number c.index-span.result.now within
    c.index-span.ensures))
