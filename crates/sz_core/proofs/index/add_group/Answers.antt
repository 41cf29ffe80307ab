-- Each index of the group is one of the shape, and its cell is added.
use Rattle.std.proofs.Common.{◌≡◌, ℕ, List, ◌==◌, true, get_or, refl, sym, ap, ap₂, ◌∙◌}
use Rattle.std.proofs.Common.{arith, eq-eqb, take}
use Rattle.std.proofs.lemmas.List.Folds.{list_any_at}
use Rattle.std.proofs.lemmas.List.{take_all}
use Rattle.sz_cells.specs.Extent.{index_of, cell_of}
use Rattle.sz_cells.specs.Cells.{with_cell, with_those}
use Rattle.sz_core.specs.Links.{is_among}
use Rattle.sz_core.proofs.Groups.{added-next, with_those-none}
use Rattle.sz_core.proofs.index.add_group.Goals as goal

pub loop-index-init : goal.loop-index-init
loop-index-init c = sym (with_those-none c.args.found.now c.requires.spelled)

pub cell_at-requires : goal.cell_at-requires
cell_at-requires c =
    let g = c.args.group.now in
    let i = c.loop-index.index-index in
    let here : is_among g (get_or g i 0) ≡ true =
    list_any_at (λ j. j == get_or g i 0) g i 0 c.loop-index-test.true
    (eq-eqb (get_or g i 0) (get_or g i 0) refl) in
    rw c.shape-shape.ensures.value (c.requires.links (get_or g i 0) here)

pub set-requires : goal.set-requires
set-requires c = rw (c.loop-index.invariant, ← c.shape-shape.ensures.value) c.cell_at.ensures.held

pub loop-index-preserved : goal.loop-index-preserved
loop-index-preserved c =
    let t = get_or c.args.group.now c.loop-index.index-index 0 in
    let cell : c.cell_at.result ≡ cell_of c.args.found.now.extent t =
    rw (← c.shape-shape.ensures.value) c.cell_at.ensures.value in
    c.set.ensures ∙ ap₂ with_cell c.loop-index.invariant cell
    ∙ added-next c.args.found.now c.args.group.now c.loop-index.index-index c.loop-index-test.true

pub returns : goal.returns
returns c =
    let g = c.args.group.now in
    let whole : take c.loop-index.index-index g ≡ g = take_all c.loop-index.index-index g (omega arith) in
    c.loop-index.invariant ∙ ap (λ (l : List ℕ).
    with_those c.args.found.now (λ x. is_among l (index_of c.args.found.now.extent x))) whole
