-- A number that a cell has is one of those that are counted, and its runs are no more than the stretches so far.
use Rattle.std.proofs.Common.{◌≡◌, ◌<◌, length, get_or, sym, ◌∙◌, ap, arith}
use Rattle.std.proofs.lemmas.List.{get_or_default}
use Rattle.sz_ops_region.specs.Marks.{number_in}
use Rattle.sz_ops_region.proofs.run_lists.rooms_of.Goals as goal

pub index_mut-requires : goal.index_mut-requires
index_mut-requires c =
    let first = get_or c.args.starts.now c.loop-stretch.stretch 0 in
    omega (
      arith,
      c.loop-stretch.invariant.long,
      c.requires.below first c.in-Numbered.number (ap number_in (sym c.in-Numbered.ensures)),
    )

pub overflow_add-index_mut : goal.overflow_add-index_mut
overflow_add-index_mut c =
    let inv = c.loop-stretch.invariant in
    let xs = c.loop-stretch.rooms.items in
    let j = c.in-Numbered.number in
    let first = get_or c.args.starts.now c.loop-stretch.stretch 0 in
    let inside : j < length xs = omega (
      arith,
      inv.long,
      c.requires.below first j (ap number_in (sym c.in-Numbered.ensures)),
    ) in
    let room : c.index_mut.result.now ≡ get_or xs j 0 =
    c.index_mut.ensures.value ∙ get_or_default xs j c.index_mut.result.now 0 inside in
    omega (arith, room, inv.few j, inv.end, c.requires.starts.few, c.requires.few, c.loop-stretch-test.true)
