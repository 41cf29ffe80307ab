-- The set added to none.
use Rattle.std.proofs.Common.{sym, ap, ◌∙◌}
use Rattle.sz_cells.specs.Cells.{Cells, union_of}
use Rattle.sz_query.proofs.Images.{copied}
use Rattle.sz_query.proofs.steps.bits_of.Goals as goal

pub returns : goal.returns
returns c = copied c.shape.result c.args.cells.now c.add_set.new.self (sym c.shape.ensures.value) c.shape.ensures.rising
    (c.add_set.ensures ∙ ap (λ (s : Cells). union_of s c.args.cells.now) c.in_ok-bits.ensures)
