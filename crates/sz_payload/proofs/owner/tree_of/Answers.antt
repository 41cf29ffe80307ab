-- One rectangle more.
use Rattle.std.proofs.Common.{◌≡◌, ◌+◌, ◌<◌, ◌++◌, ◌∷◌, [], List, length, take, sym, ap, subst, ◌∙◌, arith}
use Rattle.std.proofs.lemmas.List.{length_push, take_all, take_more}
use Rattle.std.proofs.lemmas.Result.{IfOk-weaker}
use Rattle.sz_cells.specs.declared.Bounds.{Bounds}
use Rattle.sz_frame.specs.Parts.{Entry}
use Rattle.sz_rtree.specs.Rectangles.{Rectangles}
use Rattle.sz_tables.specs.Entries.{entries, entry_at}
use Rattle.sz_payload.specs.Owned.{AreRound}
use Rattle.sz_payload.proofs.Adding.{entry-get}
use Rattle.sz_payload.proofs.Owning.{round-more}
use Rattle.sz_payload.proofs.owner.tree_of.Goals as goal

pub loop-row-preserved : goal.loop-row-preserved
loop-row-preserved c =
    let inv = c.loop-row.invariant in
    let es = entries c.args.table.now in
    let row = c.loop-row.row in
    let e = entry_at es row in
    let there : row < length es = omega (arith, c.loop-row-test.true, c.len-row-end.ensures.entries) in
    let all : take (row + 1) es ≡ take row es ++ e ∷ [] =
    take_more es row e there ∙ ap (λ (x : Entry). take row es ++ x ∷ []) (entry-get es row e there) in
    let more = c.push_reserved.ensures.items in
    record {
      count = omega (arith, ap length more, length_push c.loop-row.rectangles.items c.out_bounds.result, inv.count);
      capacity = omega (arith, c.push_reserved.ensures.capacity, inv.capacity);
      round = rw (all, more)
          (round-more (take row es) c.loop-row.rectangles.items e c.out_bounds.result inv.round c.out_bounds.ensures);
    }

pub returns : goal.returns
returns c =
    let es = entries c.args.table.now in
    let all = subst (λ (xs : List Entry). AreRound xs c.loop-row.rectangles.items)
    (take_all c.loop-row.row es (omega (arith, c.loop-row-test.false, c.len-row-end.ensures.entries)))
    c.loop-row.invariant.round in
    IfOk-weaker c.of.result (λ (t : Rectangles). t.rectangles ≡ c.loop-row.rectangles.items)
    (λ (t : Rectangles). AreRound es t.rectangles)
    (λ t same. subst (λ (bs : List Bounds). AreRound es bs) (sym same) all) c.of.ensures.rectangles
