-- The number of the values tells how many records there are, and whether they are too many.
use Rattle.std.proofs.Common.{◌≡◌, length, arith}
use Rattle.sz_script.proofs.Tables.{none_is_bad, many_are_too_many, made, read_as_array, no_shape, no_array}
use Rattle.sz_script.proofs.records.make_array.Goals as goal

pub returns-then-width-eq0 : goal.returns-then-width-eq0
returns-then-width-eq0 c rows t = none_is_bad rows c.args.width c.args.cells.items t (omega arith)

pub returns-then-len-gt-CELL_LIMIT : goal.returns-then-len-gt-CELL_LIMIT
returns-then-len-gt-CELL_LIMIT c rows t =
    many_are_too_many rows c.args.width c.args.cells.items t (omega arith) (omega arith)

pub returns-in_default : goal.returns-in_default
returns-in_default c rows t =
    let long : c.len-2.result ≡ length c.args.cells.items = omega arith in
    no_shape rows c.args.width c.args.cells.items
    (made rows c.args.width c.args.cells.items t (omega arith) (omega arith))
    (rw long at c.in_default.ensures)

pub returns-in-Some-make : goal.returns-in-Some-make
returns-in-Some-make c rows t =
    let long : c.len-2.result ≡ length c.args.cells.items = omega arith in
    read_as_array rows c.args.width c.args.cells.items c.in-Some.shape c.in-Some-make.array
    (made rows c.args.width c.args.cells.items t (omega arith) (omega arith))
    (rw long at c.in-Some.ensures) c.in-Some-make.ensures

pub returns-in-None : goal.returns-in-None
returns-in-None c rows t =
    let long : c.len-2.result ≡ length c.args.cells.items = omega arith in
    no_array rows c.args.width c.args.cells.items c.in-Some.shape
    (made rows c.args.width c.args.cells.items t (omega arith) (omega arith))
    (rw long at c.in-Some.ensures) c.in-None.ensures
