-- A place that is written is of the column, and each place of it is written once.
use Rattle.std.proofs.Common.{◌≡◌, ◌≢◌, ◌<◌, ◌≤◌, ◌*◌, ◌+◌, arith, ◌∙◌, None, get_or-set_other, get_or-set_same, get_or}
use Rattle.std.proofs.Common.{below_more, length}
use Rattle.std.proofs.Math.Nat.{mul-le-mul_right}
use Rattle.sz_ops_move.proofs.Turned.{apart-rows, apart-cols, in-rows}
use Rattle.sz_ops_move.proofs.turning.fill_column.Goals as goal

pub bounds-strip-to : goal.bounds-strip-to
bounds-strip-to c =
    omega (
      arith,
      in-rows c.loop-j.j c.args.wide c.args.pitch c.args.row c.loop-j-test.true c.requires.row,
      c.requires.room,
      c.loop-j.auto.strip,
      c.loop-j.invariant.place,
    )

pub overflow_add-to : goal.overflow_add-to
overflow_add-to c =
    let some : 1 ≤ c.args.wide = omega (arith, c.loop-j-test.true) in
    record {
      fits = omega (
        arith,
        in-rows c.loop-j.j c.args.wide c.args.pitch c.args.row c.loop-j-test.true c.requires.row,
        mul-le-mul_right c.args.pitch some,
        c.requires.room,
        c.requires.few,
        c.loop-j.invariant.place,
      );
    }

pub loop-j-preserved : goal.loop-j-preserved
loop-j-preserved c =
    let inv = c.loop-j.invariant in
    let h = c.args.pitch in
    let r = c.args.row in
    let j = c.loop-j.j in
    let strip = c.loop-j.strip in
    let value = get_or c.args.cells.now (c.args.from + j) None in
    let to = c.loop-j.to in
    let inside : to < length strip =
    omega (
      arith,
      in-rows j c.args.wide h r c.loop-j-test.true c.requires.row,
      c.requires.room,
      c.loop-j.auto.strip,
      inv.place,
    ) in
    let next : (j + 1) * h ≡ j * h + h = grind arith in
    record {
      place = omega (arith, inv.place, next);
      written = below_more _ _
          (λ i low.
          let other : i ≢ j = omega arith in
          get_or-set_other strip to (i * h + r) value None
          (λ same. apart-rows h r i j c.requires.row other (same ∙ inv.place))
          ∙ inv.written i low)
          (rw (← inv.place) (get_or-set_same strip to value None inside));
      others = λ k away.
          get_or-set_other strip to k value None
          (λ same. apart-cols h r j k c.requires.row away (same ∙ inv.place))
          ∙ inv.others k away;
    }
