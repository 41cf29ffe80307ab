-- So far each part knows how it keeps the cells before this one, and each of these was counted.
use Rattle.std.proofs.Common.{◌≡◌, ◌+◌, ◌-◌, ◌≤◌}
use Rattle.sz_cells.specs.Extent.{cell_of}
use Rattle.sz_frame.specs.Written.{full_keeping, pay_keeping, comp_keeping, keepings}
use Rattle.sz_frame.proofs.pieces.look.Given as goal

abbrev pub invariant-loop-index : goal.invariant-loop-index
invariant-loop-index g l =
    let s = g.A.AtWork.site l.at in
    let inputs = g.A.AtWork.inputs l.at in
    let n = l.index - l.start in
    record {
      shape : l.shape ≡ s.out;
      low : l.start ≤ l.index;
      cell : l.cell ≡ cell_of s.out l.index;
      ticks : l.tally ≡ l.fn.tally + n;
      full : l.full.items ≡ keepings s.out (full_keeping l.wanted.full s.op inputs) l.start n;
      pay : l.pay.items ≡ keepings s.out (pay_keeping l.wanted.pay s.op inputs) l.start n;
      comp : l.comp.items ≡ keepings s.out (comp_keeping l.wanted.comp s.op inputs) l.start n;
    }
