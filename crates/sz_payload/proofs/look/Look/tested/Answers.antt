-- What was tested last is the same payload.
use Rattle.std.proofs.Common.{ℕ, List, Option, sym, ap, subst, ◌∙◌}
use Rattle.sz_cells.specs.Cells.{any_cell}
use Rattle.sz_spec.specs.Payloads.{mapped_by_payload}
use Rattle.sz_tables.specs.Payloads.{payload_at}
use Rattle.sz_payload.specs.declared.forward.Tested.{Tested}
use Rattle.sz_payload.specs.Looks.{IsTested}
use Rattle.sz_payload.proofs.look.Look.tested.Goals as goal

pub returns-in-Some-clause-meets : goal.returns-in-Some-clause-meets
returns-in-Some-clause-meets c = λ o.
    let s = c.args.self.now.at.now in
    let payloads = c.args.self.now.table.now.payloads in
    let known = subst (λ (l : Option Tested). IsTested s payloads c.args.input c.args.from.now l) c.in-Some.is
    c.requires.tested in
    known o
    ∙ ap (λ (p : List ℕ). any_cell (mapped_by_payload s.op s.ins p c.args.input o) c.args.from.now)
    (ap (payload_at payloads) c.if-tested-number.true ∙ sym c.requires.payload)
