-- What a view of any kind writes into an empty bitmap is its image.
use Rattle.std.proofs.Common.{◌≡◌, List, ap, ap₂, sym, subst, ◌∙◌, OnOk, arith}
use Rattle.std.specs.Arc.{arc_value}
use Rattle.sz_spec.specs.Values.{Grid}
use Rattle.sz_spec.specs.Shapes.{Site}
use Rattle.sz_store.specs.Kept.{NodeLineage}
use Rattle.sz_shelf.specs.Tags.{tag_pieces}
use Rattle.sz_shelf.proofs.Looks.{done-found, unsealed-found}
use Rattle.sz_query.specs.Views.{View, view_of, by_map, by_store, by_shelf, by_growth, by_trace, IsUsable, image_by}
use Rattle.sz_query.proofs.Images.{written}
use Rattle.sz_query.proofs.views.NodeView.step_into.Goals as goal

pub returns-in-Mapped-clause-to : goal.returns-in-Mapped-clause-to
returns-in-Mapped-clause-to g c =
    let same : view_of c.args.self.now ≡ by_map c.deref.result.now =
    ap view_of c.in-Mapped.is ∙ ap by_map (sym c.deref.ensures) in
    written c.args.dir (view_of c.args.self.now) (by_map c.deref.result.now) c.args.input c.args.from.now c.args.to.now
    c.image_by_map.new.to same c.requires.to c.image_by_map.ensures

pub returns-in-Stored-clause-to : goal.returns-in-Stored-clause-to
returns-in-Stored-clause-to g c =
    let p = c.in-Stored.pass in
    let z = arc_value c.in-Stored.shelf in
    let told : view_of c.args.self.now ≡ by_shelf (arc_value c.in-Stored.at) z p c.in-Stored.s =
    ap view_of c.in-Stored.is in
    let ready : IsUsable (by_shelf (arc_value c.in-Stored.at) z p c.in-Stored.s) =
    subst IsUsable told c.requires.ready in
    let same = told ∙ ap (λ (x : Site). by_shelf x z p c.in-Stored.s) (sym ready.site) in
    written c.args.dir (view_of c.args.self.now) (by_shelf p.tag.site z p c.in-Stored.s) c.args.input
    c.args.from.now c.args.to.now c.look.new.to same c.requires.to
    (c.look.ensures.done (c.look.ensures.never ready.saw))

pub returns-in-Kept-clause-to : goal.returns-in-Kept-clause-to
returns-in-Kept-clause-to g c =
    let kept = c.deref-in-Kept.result.now in
    let at = arc_value c.in-Kept.at in
    let told : view_of c.args.self.now ≡ by_store at kept c.in-Kept.s =
    ap view_of c.in-Kept.is ∙ ap (λ (x : NodeLineage). by_store at x c.in-Kept.s) (sym c.deref-in-Kept.ensures) in
    let ready : IsUsable (by_store at kept c.in-Kept.s) = subst IsUsable told c.requires.ready in
    let same = told ∙ ap (λ (x : Site). by_store x kept c.in-Kept.s) (sym ready.site) in
    written c.args.dir (view_of c.args.self.now) (by_store kept.site kept c.in-Kept.s) c.args.input
    c.args.from.now c.args.to.now c.image.new.to same c.requires.to c.image.ensures

pub returns-in-Done-clause-to : goal.returns-in-Done-clause-to
returns-in-Done-clause-to g c =
    let node = c.in-Building.node in
    let p = c.in-Building.pass in
    let q = c.look-in-Building.new.pass in
    let s = c.in-Building.s in
    let told : view_of c.args.self.now ≡ by_growth node.site node.inputs node.place p s = ap view_of c.in-Building.is in
    let ready : IsUsable (by_growth node.site node.inputs node.place p s) = subst IsUsable told c.requires.ready in
    let same = told
    ∙ ap₂ (λ (x : Site) (arrays : List Grid). by_growth x arrays node.place p s) (sym ready.site) (sym ready.inputs) in
    let done = done-found s (tag_pieces q.tag) q.found q.found_sealed c.in-Done.read c.look-in-Building.result
    c.look-in-Building.ensures.answer c.in-Done.is in
    written c.args.dir (view_of c.args.self.now) (by_growth p.tag.site p.tag.inputs node.place p s) c.args.input
    c.args.from.now c.args.to.now c.look-in-Building.new.to same c.requires.to
    (c.look-in-Building.ensures.done done.1)

pub run-run-requires-clause-unsealed : goal.run-run-requires-clause-unsealed
run-run-requires-clause-unsealed g c =
    let q = c.look-in-Building.new.pass in record {
      turned = omega (arith, c.look-in-Building.ensures.turn.turns);
      unsealed = unsealed-found c.in-Building.s (tag_pieces q.tag) q.found q.found_sealed c.in-Unsealed.missing
          c.look-in-Building.result c.look-in-Building.ensures.answer c.in-Unsealed.is;
    }

pub returns-in-Unsealed-clause-to : goal.returns-in-Unsealed-clause-to
returns-in-Unsealed-clause-to g c =
    let node = c.in-Building.node in
    let run = c.run-run.result.now in
    let told : view_of c.args.self.now
    ≡ by_growth (arc_value run.at) run.inputs node.place c.in-Building.pass c.in-Building.s =
    ap view_of c.in-Building.is
    ∙ ap₂ (λ (x : Site) (arrays : List Grid). by_growth x arrays node.place c.in-Building.pass c.in-Building.s)
    (sym c.run-run.ensures.at) (sym c.run-run.ensures.inputs) in
    subst (λ (v : View). OnOk c.trace_into.result
    (c.trace_into.new.to ≡ image_by c.args.dir v c.args.input c.args.from.now)) (sym told) c.trace_into.ensures.to

pub returns-in-Traced-clause-to : goal.returns-in-Traced-clause-to
returns-in-Traced-clause-to g c =
    let run = c.in-Traced.run' in
    let told : view_of c.args.self.now ≡ by_trace (arc_value run.at) run.inputs = ap view_of c.in-Traced.is in
    subst (λ (v : View). OnOk c.trace_into-in-Traced.result
    (c.trace_into-in-Traced.new.to ≡ image_by c.args.dir v c.args.input c.args.from.now)) (sym told)
    c.trace_into-in-Traced.ensures.to
