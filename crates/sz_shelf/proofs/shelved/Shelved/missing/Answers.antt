-- The first piece that is not marked is the least one that is missing.
use Rattle.std.proofs.Common.{arith}
use Rattle.sz_shelf.proofs.Marks.{least-told, none-told, value-told}
use Rattle.sz_shelf.proofs.shelved.Shelved.missing.Goals as goal

pub overflow_cast-result : goal.overflow_cast-result
overflow_cast-result c = omega (arith, c.self.invariant.0.first.within, c.self.invariant.0.marks.few)

pub returns : goal.returns
returns c =
    let t = c.self.inside.tag.value in
    let placed = c.self.inside.placed.items in
    let bits = c.self.inside.marks.items in
    let i = c.self.inside.first in
    let marks = c.self.invariant.0.marks in
    let first = c.self.invariant.0.first in
    rw (← c.self.view_is) record {
      value = value-told t placed bits i marks first.within first.below first.here;
      some = least-told t placed bits i marks first.below first.here;
      none = none-told t placed bits i marks first.below;
    }
