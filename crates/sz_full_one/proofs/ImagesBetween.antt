-- What all asked cells add is the image between two shapes.
use Rattle.std.proofs.Common.{◌≡◌, ℕ, Bool, true, List, sym, ◌∙◌}
use Rattle.sz_cells.specs.declared.Cell.{Cell}
use Rattle.sz_cells.specs.Extent.{Extent, size_of, holds}
use Rattle.sz_cells.specs.Cells.{Cells, cells_where, any_cell, has, with_those}
use Rattle.sz_cells.proofs.Sets.{has-cells_where}
use Rattle.sz_spec.specs.declared.modes.Dir.{Dir}
use Rattle.sz_spec.specs.declared.modes.Dir.TheVariants.{Back, Forward}
use Rattle.sz_spec.specs.Values.{extent_at}
use Rattle.sz_spec.specs.Sides.{extent_before, extent_after, image_between}
use Rattle.sz_frame.specs.Walks.{stepped, added}
use Rattle.sz_frame.proofs.Added.{any_cell-added, with-ext}

image-all : (dir : Dir) (out : Extent) (ins : List Extent) (i : ℕ) (relation : Cell → Cell → Bool) (from : Cells)
    (x : Cell) → from ≡ cells_where (extent_before dir out ins i) (has from)
    → holds (extent_after dir out ins i) x ≡ true
    → added (extent_before dir out ins i) (stepped dir relation from) (size_of (extent_before dir out ins i)) x
    ≡ has (image_between dir out ins i relation from) x
image-all Back out ins i relation from x own held =
    any_cell-added out from (λ o. relation o x) own
    ∙ sym (has-cells_where (extent_at ins i) (λ y. any_cell (λ o. relation o y) from) x held)
image-all Forward out ins i relation from x own held =
    any_cell-added (extent_at ins i) from (λ c. relation x c) own
    ∙ sym (has-cells_where out (λ o. any_cell (λ c. relation o c) from) x held)

pub stepped-between : (dir : Dir) (out : Extent) (ins : List Extent) (i : ℕ) (relation : Cell → Cell → Bool)
    (from to : Cells) → from ≡ cells_where (extent_before dir out ins i) (has from)
    → to.extent ≡ extent_after dir out ins i
    → with_those to (added (extent_before dir out ins i) (stepped dir relation from) (size_of
    (extent_before dir out ins i))) ≡ with_those to (has (image_between dir out ins i relation from))
stepped-between dir out ins i relation from to own far =
    with-ext to (added (extent_before dir out ins i) (stepped dir relation from) (size_of
    (extent_before dir out ins i))) (has (image_between dir out ins i relation from))
    (λ x held. image-all dir out ins i relation from x own (rw (← far) held))
