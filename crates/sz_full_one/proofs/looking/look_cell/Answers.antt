-- The look is that of the index's side.
use Rattle.std.proofs.Common.{sym, subst}
use Rattle.sz_full_one.specs.declared.index.Index.{Index}
use Rattle.sz_full_one.specs.ByCells.{adds, side_of, IsDone}
use Rattle.sz_full_one.proofs.looking.look_cell.Goals as goal

pub returns-in-Outs-clause-done : goal.returns-in-Outs-clause-done
returns-in-Outs-clause-done c =
    subst (λ (x : Index). IsDone (adds c.args.table.now (side_of x) c.args.input) c.look_back.result
    c.look_back.new.to) (sym c.in-Outs.is) c.look_back.ensures.done

pub returns-in-Ins-clause-done : goal.returns-in-Ins-clause-done
returns-in-Ins-clause-done c =
    subst (λ (x : Index). IsDone (adds c.args.table.now (side_of x) c.args.input) c.look_forward.result
    c.look_forward.new.to) (sym c.in-Ins.is) c.look_forward.ensures.done
