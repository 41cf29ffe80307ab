-- Each shape is right, so all are.
use Rattle.std.proofs.Common.{◌≡◌, ◌<◌, true, arith, List, map, length, below_more, sym, ap, ◌∙◌}
use Rattle.std.specs.Arc.{arc_value}
use Rattle.std.proofs.lemmas.List.{get_or-map, length-map}
use Rattle.std.proofs.lemmas.List.Elements.{All-from_get_or}
use Rattle.std.proofs.lemmas.Option.{unwrap_or-slice_get}
use Rattle.sz_cells.specs.Extent.{Extent, is_extent}
use Rattle.sz_spec.specs.Values.{Grid, no_extent, extent_at, extents_of}
use Rattle.sz_refresh.proofs.flow.within_limits.Goals as goal

pub loop-array-preserved : goal.loop-array-preserved
loop-array-preserved c =
    let base = c.args.base.now in
    let n = c.loop-array.array-index in
    let item = c.array-item.result in
    let arrays : List Grid = map (λ a. arc_value a) base in
    let inside : n < length base = c.loop-array-test.true in
    let at : extent_at (extents_of arrays) n ≡ (arc_value item).extent =
    unwrap_or-slice_get (extents_of arrays) n no_extent
    ∙ get_or-map (λ (g : Grid). g.extent) arrays n (arc_value item) no_extent (omega (
      arith,
      inside,
      length-map base (λ a.
          arc_value a),
    ))
    ∙ ap (λ (g : Grid). g.extent) (get_or-map (λ a. arc_value a) base n item (arc_value item) inside
    ∙ ap (λ a. arc_value a) (sym c.array-item.is)) in
    let here : is_extent (extent_at (extents_of arrays) n) ≡ true =
    ap is_extent (at ∙ ap (λ (g : Grid). g.extent) (sym c.deref.ensures) ∙ sym c.shape.ensures)
    ∙ c.a_shape_is_within_limits.ensures in
    below_more _ _ c.loop-array.invariant here

pub returns : goal.returns
returns c =
    let arrays : List Grid = map (λ a. arc_value a) c.args.base.now in
    All-from_get_or (λ (e : Extent). is_extent e ≡ true) (extents_of arrays) no_extent
    (λ k inside.
    ap is_extent (sym (unwrap_or-slice_get (extents_of arrays) k no_extent))
    ∙ c.loop-array.invariant k (omega (
      arith,
      inside,
      c.loop-array-test.false,
      length-map arrays (λ (g : Grid). g.extent),
      length-map c.args.base.now (λ a. arc_value a),
    )))
