-- What is written into both bitmaps is the image of the set of the one cell.
use Rattle.std.proofs.Common.{◌≡◌, ap, ◌∙◌}
use Rattle.std.specs.Bool.{Decides}
use Rattle.std.proofs.lemmas.Result.{IfOk-weaker}
use Rattle.sz_cells.specs.Extent.{Extent, cell_of}
use Rattle.sz_cells.specs.Cells.{no_cells, with_cell}
use Rattle.sz_store.specs.Kept.{holding_for}
use Rattle.sz_recover.specs.Comparing.{AgreeAt}
use Rattle.sz_recover.proofs.Comparing.{image-written, decides-by}
use Rattle.sz_recover.proofs.checking.agree_at.Goals as goal

pub returns-clause-agree : goal.returns-clause-agree
returns-clause-agree c =
    let dir = c.args.dir in
    let s = c.args.at.now in
    let i = c.args.input in
    let k = c.args.index in
    let a = holding_for c.args.s c.args.a.now.stores in
    let b = holding_for c.args.s c.args.b.now.stores in
    let cell = c.set.new.self in
    let cleared = c.clear.new.self in
    let empty = c.clear.ensures ∙ ap no_cells c.requires.sides.cell in
    let at = c.cell_at.ensures.value ∙ ap (λ (e : Extent). cell_of e k) c.near_shape-near.ensures in
    let one = c.set.ensures ∙ ap (with_cell cleared) at in
    let left = image-written dir c.args.a.now.site s a i k cell cleared c.clear-2.new.self c.image.new.to
    c.requires.a.site empty one (c.clear-2.ensures ∙ ap no_cells c.requires.sides.left) c.image.ensures in
    let right = image-written dir c.args.b.now.site s b i k cell cleared c.clear-3.new.self c.image-2.new.to
    c.requires.b.site empty one (c.clear-3.ensures ∙ ap no_cells c.requires.sides.right) c.image-2.ensures in
    IfOk-weaker c.are_same.result (λ r. Decides r (c.image.new.to ≡ c.image-2.new.to))
    (λ r. Decides r (AgreeAt dir s a b i k))
    (λ r same. decides-by r _ _ _ _ left right same) c.are_same.ensures
