-- There was room for the array, and a name has no more versions than arrays are held.
use Rattle.std.proofs.Common.{[], ◌∷◌, arith, ap, ◌∙◌}
use Rattle.std.specs.Arc.{arc_value}
use Rattle.std.proofs.lemmas.List.{length-append}
use Rattle.sz_cells.specs.Extent.{size_of}
use Rattle.sz_spec.specs.Values.{Grid}
use Rattle.sz_catalogue.specs.declared.catalogue.Catalogue.TheView.{view}
use Rattle.sz_catalogue.specs.Holdings.{Holdings}
use Rattle.sz_catalogue.specs.Rules.{has_no_room_for_array}
use Rattle.sz_catalogue.proofs.Names.{length-things_named}
use Rattle.sz_catalogue.proofs.Counts.{room-there, array-cells}
use Rattle.sz_catalogue.proofs.Order.{array-in_order}
use Rattle.sz_catalogue.proofs.catalogue.Catalogue.hold.Goals as goal

pub returns-clause-few : goal.returns-clause-few
returns-clause-few c =
    let held : Holdings = view c.self.inside in
    let free = ap (λ (h : Holdings). has_no_room_for_array h (arc_value c.args.owner)) c.self.view_is
    ∙ c.requires.room in
    omega (
      arith,
      (room-there held (arc_value c.args.owner) free).0,
      length-things_named c.args.name.now c.self.inside.arrays,
      c.in_ok-version.ensures.version,
    )

pub invariant_of-self-2 : goal.invariant_of-self-2
invariant_of-self-2 c =
    let held : Holdings = view c.self.inside in
    let array = arc_value c.args.owner in
    let free = ap (λ (h : Holdings). has_no_room_for_array h array) c.self.view_is ∙ c.requires.room in
    let cells = array-cells held c.args.name.now array in
    let size = c.from-size.ensures ∙ c.size.ensures.value ∙ ap size_of
    (c.shape.ensures ∙ ap (λ (g : Grid). g.extent) c.deref.ensures) in
    let room = room-there held array free in
    let arrays = length-append c.self.inside.arrays (record { name = c.args.name.now; thing = array } ∷ []) in
    rw c.in_ok-version.ensures.held (record {
      limits = record {
        counted = omega (arith, cells, size, c.self.invariant.limits.counted);
        few_cells = omega (arith, room.1, size, c.self.invariant.limits.counted);
        few_arrays = omega (arith, room.0, arrays);
      };
      order = array-in_order held c.args.name.now array c.self.invariant.order c.requires.name
          (omega (arith, cells, room.1));
    })
