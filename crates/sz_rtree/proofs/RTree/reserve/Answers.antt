-- The key idea: the lists of bounds have grown in room alone, so all that the tree kept is kept, with more room.
use Rattle.std.proofs.Common.{length, drop, ap, arith}
use Rattle.std.proofs.lemmas.List.{take_at}
use Rattle.sz_rtree.proofs.RTree.reserve.Goals as goal

pub invariant_of-self-in_err-reserve_all : goal.invariant_of-self-in_err-reserve_all
invariant_of-self-in_err-reserve_all c =
    let was = c.self.invariant in
    let levels = c.reserve_all.new.levels in
    let back =
    take_at levels (drop (length levels) c.self.inside.levels.items) c.self.inside.levels.len (omega arith) in
    rw (c.reserve_bounds.ensures.items, back) (record {
      few = was.few;
      room = omega arith;
      covered = c.reserve_all.ensures.covers _ (rw c.deref_mut.ensures.value was.covered);
      level_room = c.reserve_all.ensures.kept _ (rw c.deref_mut.ensures.value was.level_room);
    })

pub invariant_of-self-2 : goal.invariant_of-self-2
invariant_of-self-2 c =
    let was = c.self.invariant in
    let levels = c.reserve_all.new.levels in
    let back =
    take_at levels (drop (length levels) c.self.inside.levels.items) c.self.inside.levels.len (omega arith) in
    let seen = ap (λ tree. length tree.rectangles) c.self.view_is in
    rw (c.reserve_bounds.ensures.items, back) (record {
      few = omega (arith, seen, c.requires);
      room = omega (arith, c.in_ok-reserve_bounds.ensures.ok);
      covered = c.reserve_all.ensures.covers _ (rw c.deref_mut.ensures.value was.covered);
      level_room = λ k d lt. omega (arith, c.in_ok-reserve_all.ensures.ok k d lt);
    })
