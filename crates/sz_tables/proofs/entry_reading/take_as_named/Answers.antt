-- Entries that are read have the output's shape, and name the payloads that are listed.
use Rattle.std.proofs.Common.{List, map, ap, ◌∙◌}
use Rattle.std.specs.Arc.{arc_value}
use Rattle.sz_frame.specs.Parts.{Entry}
use Rattle.sz_region.proofs.PayStores.{entries-shapes}
use Rattle.sz_tables.proofs.Listed.{named-begins}
use Rattle.sz_tables.proofs.entry_reading.take_as_named.Goals as goal

pub of_entries-requires-clause-shapes : goal.of_entries-requires-clause-shapes
of_entries-requires-clause-shapes c =
    let b = c.in_ok-given.ensures.ok in
    rw c.deref.ensures.value
    (entries-shapes c.args.out b.sets b.payloads b.is_word.names (map (λ a. arc_value a) c.in_ok-given.given.items)
    b.is_word.each b.is_word.named)

pub returns-clause-payloads : goal.returns-clause-payloads
returns-clause-payloads c =
    let es : List Entry = map (λ a. arc_value a) c.in_ok-given.given.items in
    named-begins c.args.out c.args.bytes.now c.args.at c.in_ok-given.next c.in_ok-table.table es
    (c.in_ok-table.ensures.entries ∙ ap (map (λ a. arc_value a)) c.deref.ensures.value) c.in_ok-given.ensures.ok
    (rw c.deref.ensures.value at c.in_ok-table.ensures.payloads)
