-- A payload that stands for the same cells whichever its output cell was added already, or is now.
use Rattle.std.proofs.Common.{◌≡◌, ℕ, true, List, refl, sym, ap, subst, ◌∙◌}
use Rattle.sz_cells.specs.Cells.{with_those}
use Rattle.sz_spec.specs.Payloads.{is_payload, mapped_by_payload}
use Rattle.sz_spec.specs.Shapes.{Site}
use Rattle.sz_frame.proofs.Added.{own-at}
use Rattle.sz_payload.specs.Kept.{AreAlike}
use Rattle.sz_payload.proofs.Standing.{done-there, done-now, done-kept, lawful-at}
use Rattle.sz_payload.proofs.look.Look.payload_back.Given.{Over}
use Rattle.sz_payload.proofs.look.Look.payload_back.Goals.{After-map_p_into}
use Rattle.sz_payload.proofs.look.Look.payload_back.Goals as goal

pub returns-then-is_number-clause-to : goal.returns-then-is_number-clause-to
returns-then-is_number-clause-to g c =
    let s = c.args.self.now.at.now in
    let to = c.args.to.now in
    rw c.payload_number-number.ensures.payload
    (done-there s c.args.self.now.table.now.payloads c.args.input c.payload_number-number.result c.args.last c.args.cell
    to
    (own-at to to.extent refl c.shape.ensures.rising) (c.is_number.ensures.0 c.if-is_number.true) c.requires.done)

-- the payload is one of the operator's, so what it stands for was added
added : (g : Over) (c : After-map_p_into g) → c.map_p_into.new.to
    ≡ with_those c.args.to.now (mapped_by_payload c.args.self.now.at.now.op c.args.self.now.at.now.ins
    c.payload-payload.result.now c.args.input c.args.cell)
added g c =
    let p = c.payload-payload.result.now in
    let law = lawful-at c.args.self.now.at.now c.args.self.now.table.now.payloads c.payload_number-number.result p
    c.requires.held.lawful c.payload_number-number.ensures.within c.payload-payload.ensures in
    subst (λ (t : Site). is_payload t.op t.ins p ≡ true → c.map_p_into.new.to
    ≡ with_those c.args.to.now (λ x. mapped_by_payload t.op t.ins p c.args.input c.args.cell x)) c.requires.map
    c.map_p_into.ensures.added law

-- and it is the payload of the row's number
to-added : (g : Over) (c : After-map_p_into g) (q : List ℕ) → c.payload-payload.result.now ≡ q → c.map_p_into.new.to
    ≡ with_those c.args.to.now (mapped_by_payload c.args.self.now.at.now.op c.args.self.now.at.now.ins q c.args.input
    c.args.cell)
to-added g c q same =
    let s = c.args.self.now.at.now in
    added g c ∙ ap (λ (p : List ℕ). with_those c.args.to.now (mapped_by_payload s.op s.ins p c.args.input c.args.cell))
    same

pub returns-then-is_alike-clause-to : goal.returns-then-is_alike-clause-to
returns-then-is_alike-clause-to g c =
    to-added g (goal.at.returns-then-is_alike-clause-to g c).After-map_p_into _
    (c.payload-payload.ensures ∙ sym c.payload_number-number.ensures.payload)

pub returns-then-is_alike-clause-done : goal.returns-then-is_alike-clause-done
returns-then-is_alike-clause-done g c =
    let s = c.args.self.now.at.now in
    let i = c.args.input in
    done-now s c.args.self.now.table.now.payloads i c.payload_number-number.result c.args.cell c.args.to.now
    c.map_p_into.new.to
    (subst (λ (q : List ℕ). AreAlike s.op s.ins q i) c.payload-payload.ensures
    (c.is_alike.ensures c.if-is_alike.true))
    (to-added g (goal.at.returns-then-is_alike-clause-done g c).After-map_p_into _ c.payload-payload.ensures)

pub returns-else-is_alike-clause-to : goal.returns-else-is_alike-clause-to
returns-else-is_alike-clause-to g c =
    to-added g (goal.at.returns-else-is_alike-clause-to g c).After-map_p_into _
    (c.payload-payload.ensures ∙ sym c.payload_number-number.ensures.payload)

pub returns-else-is_alike-clause-done : goal.returns-else-is_alike-clause-done
returns-else-is_alike-clause-done g c =
    let s = c.args.self.now.at.now in
    done-kept s c.args.self.now.table.now.payloads c.args.input c.args.last c.args.to.now c.map_p_into.new.to
    (mapped_by_payload s.op s.ins c.payload-payload.result.now c.args.input c.args.cell)
    (added g (goal.at.returns-else-is_alike-clause-done g c).After-map_p_into) c.requires.done
