-- What is found at the place of the input is its base array.
use Rattle.std.proofs.Common.{◌≡◌, List, sym, ap, ap₂, ◌∙◌, arith, slice_set, length}
use Rattle.std.specs.Arc.{arc_value}
use Rattle.sz_cells.specs.Extent.{Extent}
use Rattle.sz_spec.specs.Values.{Grid}
use Rattle.sz_catalogue.specs.Holdings.{Base, Version, arrays_of}
use Rattle.sz_catalogue.specs.Refreshes.{base_at, base_on, with_cells, cells_set, array_refreshed}
use Rattle.sz_versions.proofs.Refreshes.{base-found, input-low, map-set}
use Rattle.sz_versions.proofs.refreshing.base_with.Goals.{After-as_slice-base, After-deref}
use Rattle.sz_versions.proofs.refreshing.base_with.Goals as goal

-- the base arrays are the version's
base : (c : After-as_slice-base) → c.as_slice-base.result.now ≡ c.args.version.now.base
base c = c.as_slice-base.ensures ∙ ap (λ (w : Version). w.base) c.version.view_is

-- and the array at the input's place is that input's
old : (c : After-deref) → c.deref.result.now ≡ (base_at c.args.version.now c.args.input).array
old c =
    let found = base-found c.args.version.now c.args.input c.as_slice-base.result.now c.index-base-input.result
    c.requires.input (c.as_slice-base.ensures ∙ ap (λ (w : Version). w.base) c.version.view_is)
    c.index-base-input.is in
    c.deref.ensures ∙ ap (λ (b : Base). b.array) (c.only.view_is ∙ found)

pub cells_set-requires : goal.cells_set-requires
cells_set-requires c =
    rw (c.shape.ensures, old (goal.at.cells_set-requires c).After-deref) c.requires.cells

pub array_with-requires : goal.array_with-requires
array_with-requires c =
    rw (c.deref-2.ensures ∙ sym c.deref.ensures ∙ old (goal.at.array_with-requires c).After-deref) c.requires.cells

pub arrays_with-requires : goal.arrays_with-requires
arrays_with-requires c =
    omega (
      arith,
      input-low c.args.version.now c.args.input c.requires.input,
      ap (λ (bs : List Base). length bs) (base (goal.at.arrays_with-requires c).After-as_slice-base),
    )

pub returns : goal.returns
returns c =
    let v = c.args.version.now in
    let i = c.args.input in
    let set = c.args.set.now in
    let bases = base (goal.at.returns c).After-as_slice-base in
    let was = old (goal.at.returns c).After-deref in
    let grid : arc_value c.in_ok-array.array ≡ array_refreshed v i set =
    c.in_ok-array.ensures.ok ∙ c.in_ok-array_with.ensures
    ∙ ap (λ (g : Grid). with_cells g set) (c.deref-2.ensures ∙ sym c.deref.ensures ∙ was) in
    record {
      array = grid;
      arrays = λ held. c.in_ok-arrays.ensures
          ∙ ap₂ (λ (bs : List Base) (g : Grid). slice_set (arrays_of bs) i g) bases grid
          ∙ sym (map-set (λ (b : Base). b.array) v.base i (base_on held v i (array_refreshed v i set)));
      changed = c.in_ok-changed.ensures
          ∙ ap (λ (e : Extent). cells_set e set) (c.shape.ensures ∙ ap (λ (g : Grid). g.extent) was);
    }
