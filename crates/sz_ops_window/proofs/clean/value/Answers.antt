-- A hot cell becomes the least number of the square, and any other stays.
use Rattle.std.proofs.Common.{◌≡◌, ◌∙◌, refl, true, w64}
use Rattle.std.proofs.lemmas.Int.{to_z-of_z}
use Rattle.sz_spec.specs.Operators.Clean.{is_hot}
use Rattle.sz_ops_window.proofs.Inputs.{hot-told}
use Rattle.sz_ops_window.proofs.Least.{cleaned-hot}
use Rattle.sz_ops_window.proofs.clean.value.Goals as goal

pub returns-then-is_hot : goal.returns-then-is_hot
returns-then-is_hot c =
    let w = c.square_round.result in
    let g = c.args.array.now in
    let made = c.square_round.ensures in
    let e = c.shape.ensures in
    let hot : is_hot c.args.t g c.args.out ≡ true =
    hot-told c.args.t g g c.args.out c.is_hot.result true c.ranges.t refl c.is_hot.ensures c.if-is_hot.true in
    (rw (to_z-of_z w64 c.args.t c.ranges.t) at c.least_in.ensures)
    ∙ cleaned-hot c.args.t g c.args.out w made.rows (rw (← e) made.bottom) made.cols (rw (← e) made.right)
    (rw (← e) made.cells) hot
