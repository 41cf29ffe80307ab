-- The cells of the entry's set are added, or those of them for which its payload stands for an asked cell.
use Rattle.std.proofs.Common.{ℕ, List, refl, sym, ap, subst, ◌∙◌}
use Rattle.sz_cells.specs.Extent.{Extent, size_of}
use Rattle.sz_cells.specs.Cells.{any_cell}
use Rattle.sz_cells.specs.Runs.{AreRunsFrom}
use Rattle.sz_cells.specs.SetBytes.{IsSetOf}
use Rattle.sz_spec.specs.Payloads.{mapped_by_payload}
use Rattle.sz_frame.proofs.Added.{own-at}
use Rattle.sz_tables.specs.Entries.{entries, entry_at}
use Rattle.sz_tables.specs.Payloads.{payload_at}
use Rattle.sz_tables.specs.Rows.{set_at}
use Rattle.sz_payload.proofs.Adding.{met-adds, all-adds, nothing-adds}
use Rattle.sz_payload.proofs.Owning.{runs-longest}
use Rattle.sz_payload.proofs.Standing.{lawful-at}
use Rattle.sz_payload.proofs.look.Look.row_forward.Goals as goal

pub add_met-requires-clause-runs : goal.add_met-requires-clause-runs
add_met-requires-clause-runs c =
    let s = c.args.self.now.at.now in
    let set = set_at c.args.self.now.table.now.sets c.set_number.result in
    runs-longest s.out set c.out_runs-runs.result.now
    (subst (λ (e : Extent). IsSetOf e set) c.requires.held.out c.out_runs-runs.ensures.set) c.out_runs-runs.ensures.runs

pub add_met-requires-clause-lawful : goal.add_met-requires-clause-lawful
add_met-requires-clause-lawful c =
    lawful-at c.args.self.now.at.now c.args.self.now.table.now.payloads c.payload_number-number.result
    c.payload-payload.result.now c.requires.held.lawful c.payload_number-number.ensures.within c.payload-payload.ensures

pub returns-then-not-is_alike-clause-to : goal.returns-then-not-is_alike-clause-to
returns-then-not-is_alike-clause-to c =
    let s = c.args.self.now.at.now in
    let t = c.args.self.now.table.now in
    let set = set_at t.sets c.set_number.result in
    met-adds s c.args.input c.args.from.now c.args.to.now c.add_met.new.to (entry_at (entries t) c.args.row) set
    c.payload-payload.result.now c.out_runs-runs.result.now
    (subst (λ (e : Extent). IsSetOf e set) c.requires.held.out c.out_runs-runs.ensures.set) c.out_runs-runs.ensures.runs
    c.set_number.ensures.set (c.payload_number-number.ensures.payload ∙ sym c.payload-payload.ensures) c.requires.to
    c.add_met.ensures

pub tested-tested-requires-clause-lawful : goal.tested-tested-requires-clause-lawful
tested-tested-requires-clause-lawful c =
    lawful-at c.args.self.now.at.now c.args.self.now.table.now.payloads c.payload_number-number.result
    c.payload-payload.result.now c.requires.held.lawful c.payload_number-number.ensures.within c.payload-payload.ensures

pub add_all-requires : goal.add_all-requires
add_all-requires c =
    let s = c.args.self.now.at.now in
    let set = set_at c.args.self.now.table.now.sets c.set_number.result in
    subst (λ (e : Extent). AreRunsFrom 0 (size_of e) c.out_runs-runs.result.now) (sym c.requires.to)
    (runs-longest s.out set c.out_runs-runs.result.now
    (subst (λ (e : Extent). IsSetOf e set) c.requires.held.out c.out_runs-runs.ensures.set)
    c.out_runs-runs.ensures.runs)

pub returns-then-tested-clause-to : goal.returns-then-tested-clause-to
returns-then-tested-clause-to c =
    let s = c.args.self.now.at.now in
    let t = c.args.self.now.table.now in
    let set = set_at t.sets c.set_number.result in
    all-adds s c.args.input c.args.from.now c.args.to.now c.add_all.new.to (entry_at (entries t) c.args.row) set
    c.payload-payload.result.now c.out_runs-runs.result.now
    (subst (λ (e : Extent). IsSetOf e set) c.requires.held.out c.out_runs-runs.ensures.set) c.out_runs-runs.ensures.runs
    c.set_number.ensures.set (c.payload_number-number.ensures.payload ∙ sym c.payload-payload.ensures) c.requires.to
    (λ o. sym c.if-tested.true ∙ c.tested-tested.ensures.meets o) c.add_all.ensures

pub returns-then-tested-clause-tested : goal.returns-then-tested-clause-tested
returns-then-tested-clause-tested c = λ o.
    let s = c.args.self.now.at.now in
    let payloads = c.args.self.now.table.now.payloads in
    c.tested-tested.ensures.meets o
    ∙ ap (λ (q : List ℕ). any_cell (mapped_by_payload s.op s.ins q c.args.input o) c.args.from.now)
    (c.payload-payload.ensures ∙ ap (payload_at payloads) (sym c.tested-tested.ensures.number))

pub returns-else-tested-clause-to : goal.returns-else-tested-clause-to
returns-else-tested-clause-to c =
    let s = c.args.self.now.at.now in
    let to = c.args.to.now in
    nothing-adds s c.args.input c.args.from.now to (entry_at (entries c.args.self.now.table.now) c.args.row)
    c.payload-payload.result.now (own-at to to.extent refl c.shape.ensures.rising)
    (c.payload_number-number.ensures.payload ∙ sym c.payload-payload.ensures)
    (λ o. sym c.if-tested.false ∙ c.tested-tested.ensures.meets o)

pub returns-else-tested-clause-tested : goal.returns-else-tested-clause-tested
returns-else-tested-clause-tested c = λ o.
    let s = c.args.self.now.at.now in
    let payloads = c.args.self.now.table.now.payloads in
    c.tested-tested.ensures.meets o
    ∙ ap (λ (q : List ℕ). any_cell (mapped_by_payload s.op s.ins q c.args.input o) c.args.from.now)
    (c.payload-payload.ensures ∙ ap (payload_at payloads) (sym c.tested-tested.ensures.number))
