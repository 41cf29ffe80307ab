-- The cells of the run so far whose payload stands for an asked cell were added.
use Rattle.std.proofs.Common.{◌≡◌, ◌&&◌, nat_le, nat_lt}
use Rattle.sz_cells.specs.Extent.{index_of}
use Rattle.sz_cells.specs.Cells.{any_cell, with_those}
use Rattle.sz_spec.specs.Payloads.{mapped_by_payload}
use Rattle.sz_payload.proofs.look.Look.add_met_run.Given as goal

abbrev pub invariant-loop-index : goal.invariant-loop-index
invariant-loop-index l =
    let s = l.self.at.now in
    l.to ≡ with_those l.fn.to (λ o. (nat_le l.fn.run.first (index_of s.out o) && nat_lt (index_of s.out o) l.index)
    && any_cell (mapped_by_payload s.op s.ins l.payload l.input o) l.from)
