-- A cell of the shape is added by itself alone.
use Rattle.std.proofs.Common.{◌≡◌, Bool, true, false, ◌&&◌, map, refl, sym, subst, ◌∙◌}
use Rattle.std.specs.Arc.{arc_value}
use Rattle.sz_cells.specs.Extent.{Extent, size_of, cell_of, holds}
use Rattle.sz_cells.specs.Cells.{any_cell, has, is_same}
use Rattle.sz_frame.proofs.Added.{with-ext, own-at, same-added, any-range_ext, any_cell-added}
use Rattle.sz_refresh.specs.Changes.{reaches}
use Rattle.sz_refresh.proofs.near.add_related.Goals as goal

pub returns : goal.returns
returns c =
    let old = c.args.old.now in
    let e = old.at.now.out in
    let test = reaches old.at.now.op (map (λ a. arc_value a) old.inputs.now)
    (map (λ a. arc_value a) c.args.new.now.inputs.now) 0 c.args.from.now in
    let near = c.args.near.now in
    c.add_each.ensures
    ∙ with-ext c.args.to.now (λ o. any_cell (λ x. test x && is_same o x) near) (λ o. has near o && test o)
    (λ o held.
    sym (any_cell-added e near (λ x. test x && is_same o x) (own-at near e c.requires.near c.shape.ensures.rising))
    ∙ any-range_ext (λ k. has near (cell_of e k) && (test (cell_of e k) && is_same o (cell_of e k)))
    (λ k. (has near (cell_of e k) && test (cell_of e k)) && is_same o (cell_of e k)) 0 (size_of e)
    (λ k low high. both (has near (cell_of e k)) (test (cell_of e k)) (is_same o (cell_of e k)))
    ∙ same-added e (λ x. has near x && test x) o (subst (λ (f : Extent). holds f o ≡ true) c.requires.to held)) where
      both : (p q r : Bool) → (p && (q && r)) ≡ ((p && q) && r)
      both true q r = refl
      both false q r = refl
