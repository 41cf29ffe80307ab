-- The cell is added exactly where it is related to one of the set, by the old inputs or by the new ones.
use Rattle.std.proofs.Common.{◌≡◌, Bool, true, false, ◌&&◌, ◌||◌, refl, sym, ap, ap₂, ◌∙◌}
use Rattle.std.proofs.lemmas.Bool.{or_left, or_right}
use Rattle.sz_cells.specs.Cells.{any_cell, is_same}
use Rattle.sz_spec.specs.Shapes.{Site}
use Rattle.sz_spec.specs.Lineage.{related}
use Rattle.sz_frame.proofs.Added.{with-none, with-ext, own-at}
use Rattle.sz_refresh.specs.Changes.{reaches}
use Rattle.sz_refresh.proofs.Changes.{reaches-either}
use Rattle.sz_refresh.proofs.near.add_if_related.Goals as goal
use Rattle.sz_refresh.proofs.near.add_if_related.Goals.{then-meets-via-then-meets}
use Rattle.sz_refresh.proofs.near.add_if_related.Goals.{then-meets-via-else-meets+then-meets-2}

pub returns-then-meets : goal.returns-then-meets
returns-then-meets g c =
    let s = g.A.AtWork.site c.args.old.now in
    let from = c.args.from.now in
    let cell = c.args.cell in
    let a = g.A.AtWork.inputs c.args.old.now in
    let b = g.A.AtWork.inputs c.args.new.now in
    let by_old = any_cell (λ x. related s.op a 0 cell x) from in
    let by_new = any_cell (λ x. related s.op b 0 cell x) from in
    let found : reaches s.op a b 0 from cell ≡ true =
    reaches-either s.op a b 0 from cell
    ∙ (elim c.then-meets.branch [
      | then-meets-via-then-meets w ↦ or_left by_old by_new (sym c.meets.ensures ∙ w.if-meets.true)
      | then-meets-via-else-meets+then-meets-2 w ↦
          or_right by_old by_new
          (sym (w.meets-else-meets.ensures
          ∙ ap (λ (t : Site). any_cell (λ x. related t.op b 0 cell x) from) c.requires.site) ∙ w.if-meets-2.true)
    ]) in
    c.set.ensures
    ∙ with-ext c.args.to.now (λ o. is_same o cell) (λ o. reaches s.op a b 0 from cell && is_same o cell)
    (λ o held. ap (λ (t : Bool). t && is_same o cell) (sym found))

pub returns-else-meets-2 : goal.returns-else-meets-2
returns-else-meets-2 g c =
    let s = g.A.AtWork.site c.args.old.now in
    let from = c.args.from.now in
    let cell = c.args.cell in
    let a = g.A.AtWork.inputs c.args.old.now in
    let b = g.A.AtWork.inputs c.args.new.now in
    let none : reaches s.op a b 0 from cell ≡ false =
    reaches-either s.op a b 0 from cell
    ∙ ap₂ (λ (p q : Bool). p || q) (sym c.meets.ensures ∙ c.if-meets.false)
    (sym (c.meets-else-meets.ensures
    ∙ ap (λ (t : Site). any_cell (λ x. related t.op b 0 cell x) from) c.requires.site) ∙ c.if-meets-2.false) in
    with-none c.args.to.now (λ o. reaches s.op a b 0 from cell && is_same o cell)
    (own-at c.args.to.now c.args.to.now.extent refl c.shape.ensures.rising)
    (λ o held. ap (λ (t : Bool). t && is_same o cell) none)
