-- There are as many arrays as base arrays, so the input has one, and that is another's then.
use Rattle.std.proofs.Common.{List, length, slice_set, ap, ap₂, ◌∙◌, arith}
use Rattle.std.specs.Arc.{arc_value}
use Rattle.std.proofs.lemmas.List.{length-map}
use Rattle.sz_spec.specs.Values.{Grid}
use Rattle.sz_catalogue.specs.Holdings.{Base}
use Rattle.sz_versions.proofs.Refreshes.{map-set}
use Rattle.sz_versions.proofs.refreshing.arrays_with.Goals as goal

pub index_mut-requires : goal.index_mut-requires
index_mut-requires c =
    omega (
      arith,
      c.requires,
      ap (λ (gs : List Grid). length gs) c.in_ok-arrays.ensures,
      length-map c.in_ok-arrays.arrays.items (λ a. arc_value a),
      length-map c.args.base.now (λ (b : Base). b.array),
      c.in_ok-arrays.arrays.ok.0,
    )

pub returns : goal.returns
returns c =
    map-set (λ a. arc_value a) c.in_ok-arrays.arrays.items c.args.input c.in_ok-arrays-2.field-0
    ∙ ap₂ (λ (gs : List Grid) (g : Grid). slice_set gs c.args.input g) c.in_ok-arrays.ensures
    c.in_ok-arrays-2.ensures
