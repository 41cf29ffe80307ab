-- A set begins exactly where there are bytes for as many runs as are said, and these are the longest ones of a set.
use Rattle.std.proofs.Common.{refl, ap, subst, arith, List}
use Rattle.std.specs.List.{flat_map}
use Rattle.sz_cells.specs.Extent.{size_of}
use Rattle.sz_cells.specs.declared.Run.{Run}
use Rattle.sz_cells.specs.Cells.{Cells}
use Rattle.sz_cells.specs.Runs.{AreRunsFrom, indexes_of}
use Rattle.sz_region.proofs.Spelling.{none-begins, none-spelled, begins-spelled, reaches}
use Rattle.sz_region.proofs.set_bytes.take_set_runs.Goals as goal

pub returns-in_default-clause-err : goal.returns-in_default-clause-err
returns-in_default-clause-err c = (
  refl,
  none-begins c.args.shape c.args.bytes.now c.args.at (omega (arith, c.size.ensures)) c.in_default.ensures.none,
)

pub returns-in-Ok-clause-ok : goal.returns-in-Ok-clause-ok
returns-in-Ok-clause-ok c =
    let make : List Run → Cells = λ rs. record { extent = c.args.shape; indexes = flat_map indexes_of rs } in
    begins-spelled c.args.shape c.args.bytes.now c.args.at c.in-Some.body.now (make c.take_runs.new.to.items)
    (λ i. omega (arith, c.type_inv.bytes i))
    (omega (arith, c.size.ensures)) c.in-Some.ensures.some
    (subst (AreRunsFrom 0 (size_of c.args.shape)) c.in-Ok.ensures.runs c.in-Ok.ensures.longest)
    (ap make c.in-Ok.ensures.runs)

pub returns-in-Ok-clause-within : goal.returns-in-Ok-clause-within
returns-in-Ok-clause-within c = reaches c.args.at c.args.bytes.now c.in-Some.body.now c.in-Some.ensures.some

pub returns-in-Err-Bad-clause-err : goal.returns-in-Err-Bad-clause-err
returns-in-Err-Bad-clause-err c = (
  refl,
  none-spelled c.args.shape c.args.bytes.now c.args.at c.in-Some.body.now
      (omega (arith, c.size.ensures)) c.in-Some.ensures.some (rw c.in-Err-Bad.field-0-is at c.in-Err-Bad.ensures.err),
)
