-- The outputs of one version more are counted, there was room for them, and the version is one of what is held.
use Rattle.std.proofs.Common.{◌≡◌, ◌<◌, ◌≤◌, ◌^◌, Some, All, ap, sym, subst, ◌∙◌, arith}
use Rattle.std.specs.Option.{option_map}
use Rattle.sz_catalogue.specs.declared.catalogue.Catalogue.TheView.{view}
use Rattle.sz_catalogue.specs.Holdings.{Holdings, Version, Base, Workflow, version_numbered, array_version, flow_named}
use Rattle.sz_catalogue.specs.Holdings.{held_cells, cells_of, output_cells}
use Rattle.sz_catalogue.specs.Rules.{has_room, most_cells}
use Rattle.sz_catalogue.specs.Changes.{with_version}
use Rattle.sz_catalogue.specs.Order.{IsVersionIn}
use Rattle.sz_catalogue.proofs.Counts.{added-cells, room-cells}
use Rattle.sz_catalogue.proofs.Order.{version-in_order}
use Rattle.sz_catalogue.proofs.catalogue.Catalogue.add.Goals as goal

pub invariant_of-self-2 : goal.invariant_of-self-2
invariant_of-self-2 c =
    let held : Holdings = view c.self.inside in
    let new = ap (λ (h : Holdings). version_numbered h c.args.number) c.self.view_is ∙ c.requires.new in
    let room = ap (λ (h : Holdings). has_room h (output_cells c.args.version)) c.self.view_is ∙ c.requires.room in
    let cells = c.cells_of-cells.ensures.value ∙ ap cells_of c.outputs.ensures.value
    ∙ ap output_cells c.in_ok-run.ensures in
    let run = ap output_cells c.in_ok-run.ensures in
    let added = added-cells held c.args.number c.in_ok-run.run' new c.self.invariant.order.rising in
    let few : held_cells (with_version held c.args.number c.in_ok-run.run') ≤ most_cells =
    omega (arith, added, run, room-cells held (output_cells c.args.version) room) in
    let same = sym c.in_ok-run.ensures in
    let is : IsVersionIn held c.in_ok-run.run' = record {
      run = (c.outputs.result.now, c.outputs.ensures.run);
      flow = ap (λ (v : Version). option_map (λ (w : Workflow). w.graph) (flow_named held v.flow_name)) (sym same)
          ∙ ap (λ (h : Holdings). option_map (λ (w : Workflow). w.graph) (flow_named h c.args.version.flow_name))
          c.self.view_is
          ∙ c.requires.flow ∙ ap (λ (v : Version). Some v.flow) same;
      base = subst (λ (v : Version). All (λ (b : Base). array_version held b.name b.version ≡ Some b.array) v.base) same
          (subst (λ (h : Holdings). All (λ (b : Base). array_version h b.name b.version ≡ Some b.array)
          c.args.version.base) (sym c.self.view_is) c.requires.base);
    } in
    let low : c.args.number < 2 ^ 32 = omega arith in
    let place = ap (λ (v : Version). has_room held (output_cells v)) (sym same) ∙ room in
    rw c.in_ok-push.ensures.held (record {
      limits = record {
        counted = omega (arith, added, cells, run, c.self.invariant.limits.counted);
        few_cells = omega (
          arith,
          room-cells held (output_cells c.args.version) room,
          cells,
          c.self.invariant.limits.counted,
        );
        few_arrays = c.self.invariant.limits.few_arrays;
      };
      order = version-in_order held c.args.number c.in_ok-run.run' c.self.invariant.order is c.requires.some
          low place few (rw c.in_ok-push.ensures.held at c.in_ok-push.ensures.rising);
    })
