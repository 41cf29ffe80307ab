-- The cells of the runs so far whose payload stands for an asked cell were added.
use Rattle.std.proofs.Common.{◌≡◌, ◌&&◌, take}
use Rattle.sz_cells.specs.Extent.{index_of}
use Rattle.sz_cells.specs.Cells.{any_cell, with_those}
use Rattle.sz_cells.specs.Runs.{covers}
use Rattle.sz_spec.specs.Payloads.{mapped_by_payload}
use Rattle.sz_payload.proofs.look.Look.add_met.Given as goal

abbrev pub invariant-loop-run : goal.invariant-loop-run
invariant-loop-run l =
    let s = l.self.at.now in
    l.to ≡ with_those l.fn.to (λ o. covers (take l.run-index l.runs) (index_of s.out o)
    && any_cell (mapped_by_payload s.op s.ins l.payload l.input o) l.from)
