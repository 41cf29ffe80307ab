-- Piece by piece, up to the last one.
use Rattle.std.proofs.Common.{◌≡◌, ◌<◌, ◌≤◌, ℕ, List, Bool, true, refl, ap, sym, subst, ◌∙◌, arith, length, get_or}
use Rattle.std.proofs.lemmas.Result.{IfOk-weaker}
use Rattle.sz_spec.specs.Pieces.{pieces_of}
use Rattle.sz_spec.specs.declared.modes.Strategy.{Strategy}
use Rattle.sz_flow.specs.Executions.{Execution, execution_of}
use Rattle.sz_store.specs.Kept.{Holding, holding_for}
use Rattle.sz_store.specs.Checklists.{held_in, kept_in, ticked_in, AreOneList}
use Rattle.sz_store.specs.declared.checklist.StoreChecklist.{StoreChecklist}
use Rattle.sz_recover.specs.declared.ticking.PieceTicks.{PieceTicks}
use Rattle.sz_recover.specs.Soundness.{IsExact}
use Rattle.sz_recover.specs.Ticking.{AreTicksOf}
use Rattle.sz_recover.proofs.Ticked.{ticked-none, joined-more, ticked-exact}
use Rattle.sz_recover.proofs.ticking.keeps_each_piece.Goals as goal

-- the ticks that are read are those of the piece of their place
own-ticks : (e : Execution) (t : Strategy) (list : StoreChecklist) (items read : List PieceTicks) (k : ℕ)
    (p : PieceTicks) → read ≡ items
    → ((j : ℕ) (d : PieceTicks) → j < length items → AreTicksOf e t list j (get_or items j d))
    → k < length read → p ≡ get_or read k p → AreTicksOf e t list k p
own-ticks e t list items read k p same each inside is =
    let here : p ≡ get_or items k p = subst (λ (xs : List PieceTicks). p ≡ get_or xs k p) same is in
    subst (AreTicksOf e t list k) (sym here) (each k p (subst (λ (xs : List PieceTicks). k < length xs) same inside))

pub loop-piece-init : goal.loop-piece-init
loop-piece-init g c =
    let e = execution_of c.args.run.now in
    let none = c.checklist-list in (
      refl,
      ticked-none e.site e.inputs c.args.s (ticked_in none.result) c.requires.store.stored none.ensures.none,
    )

pub join_piece-requires : goal.join_piece-requires
join_piece-requires g c =
    let e = execution_of c.args.run.now in
    let k = c.loop-piece.piece-index in
    let piece = c.piece-item.result in
    let own = own-ticks e c.args.s c.checklist-list.result c.in_ok-pieces.pieces.items c.deref-piece-items.result.now k
    piece c.deref-piece-items.ensures.value c.in_ok-pieces.ensures.each c.loop-piece-test.true c.piece-item.is in
    own.table ∙ sym c.loop-piece.invariant.0

pub loop-piece-preserved : goal.loop-piece-preserved
loop-piece-preserved g c =
    let e = execution_of c.args.run.now in
    let before = c.loop-piece.invariant in
    let k = c.loop-piece.piece-index in
    let piece = c.piece-item.result in
    let got = c.in_ok-join_piece.ensures.ticked c.if-not-branch.false in
    let own = own-ticks e c.args.s c.checklist-list.result c.in_ok-pieces.pieces.items c.deref-piece-items.result.now k
    piece c.deref-piece-items.ensures.value c.in_ok-pieces.ensures.each c.loop-piece-test.true c.piece-item.is in
    let long : length c.deref-piece-items.result.now ≡ length c.in_ok-pieces.pieces.items =
    ap (λ (xs : List PieceTicks). length xs) c.deref-piece-items.ensures.value in
    let inside : k < pieces_of e.site.out =
    omega (arith, long, c.in_ok-pieces.ensures.count, c.loop-piece-test.true) in (
      c.join_piece.ensures.table ∙ before.0,
      joined-more e c.args.s k c.loop-piece.list c.checklist-list.result (ticked_in piece.list)
          (ticked_in c.join_piece.new.list) inside before.1 before.0 (own.ticked got.0) got.1,
    )

pub returns : goal.returns
returns g c =
    let e = execution_of c.args.run.now in
    let held = holding_for c.args.s c.args.store.now.stores in
    let ticked = ticked_in c.loop-piece.list in
    let long : length c.deref-piece-items.result.now ≡ length c.in_ok-pieces.pieces.items =
    ap (λ (xs : List PieceTicks). length xs) c.deref-piece-items.ensures.value in
    let enough : pieces_of e.site.out ≤ c.loop-piece.piece-index =
    omega (arith, long, c.in_ok-pieces.ensures.count, c.loop-piece-test.false) in
    let kept : kept_in c.loop-piece.list ≡ held = ap held_in c.loop-piece.invariant.0 ∙ c.checklist-list.ensures.kept in
    IfOk-weaker c.is_done.result (λ (b : Bool). b ≡ true → AreOneList (kept_in c.loop-piece.list) ticked)
    (λ (b : Bool). b ≡ true → IsExact e held)
    (λ b one done.
    ticked-exact c.placed_pieces_make_the_relation.ensures c.other_orders_stand_for_the_same.ensures e c.args.s
    c.loop-piece.piece-index held ticked c.requires.store.stored enough c.loop-piece.invariant.1
    (subst (λ (h : Holding). AreOneList h ticked) kept (one done)))
    c.is_done.ensures
