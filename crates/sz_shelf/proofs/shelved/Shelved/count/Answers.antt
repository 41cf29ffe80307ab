-- No more pieces are placed than there are.
use Rattle.std.proofs.Common.{◌≤◌, arith, subst}
use Rattle.sz_shelf.specs.Tags.{tag_pieces}
use Rattle.sz_shelf.specs.Contents.{Contents}
use Rattle.sz_shelf.proofs.Marks.{few-placed}
use Rattle.sz_shelf.proofs.shelved.Shelved.count.Goals as goal

pub overflow_cast-result : goal.overflow_cast-result
overflow_cast-result c =
    let marks = c.self.invariant.0.marks in
    let most = few-placed c.self.inside.tag.value c.self.inside.placed.items c.self.inside.marks.items marks in
    omega (arith, c.len.ensures, marks.few, marks.long, most, c.self.inside.placed.ok)

pub returns-clause-most : goal.returns-clause-most
returns-clause-most c =
    let marks = c.self.invariant.0.marks in
    let most = few-placed c.self.inside.tag.value c.self.inside.placed.items c.self.inside.marks.items marks in
    subst (λ (x : Contents). c.len.result ≤ tag_pieces x.tag) c.self.view_is
    (omega (arith, c.len.ensures, most, c.self.inside.placed.ok))
