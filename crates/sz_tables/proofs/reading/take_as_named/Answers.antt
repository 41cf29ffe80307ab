-- Region pairs that are read have the operator's shapes.
use Rattle.std.proofs.Common.{map}
use Rattle.std.specs.Arc.{arc_value}
use Rattle.sz_region.proofs.ReadShapes.{read-shapes}
use Rattle.sz_tables.proofs.reading.take_as_named.Goals as goal

pub of_regions-requires-clause-shapes : goal.of_regions-requires-clause-shapes
of_regions-requires-clause-shapes c =
    let out = c.args.out in
    let ins = c.args.ins.now in
    rw c.deref.ensures.value
    (read-shapes out ins c.args.bytes.now c.args.at c.in_ok-regions.next
    (map (λ a. arc_value a) c.in_ok-regions.regions.items) c.in_ok-regions.ensures.ok)
