-- The stores stand in the bytes of format 1 too, and what is read of these is what stands there.
use Rattle.std.proofs.Common.{◌∷◌, length, sym, subst, ◌∙◌}
use Rattle.std.specs.Arc.{arc_value}
use Rattle.std.proofs.lemmas.Result.{err_from_is_err_and}
use Rattle.sz_spec.specs.Shapes.{Site}
use Rattle.sz_region.specs.LawsStores.{AreRight}
use Rattle.sz_region.specs.Stores.{OnBad}
use Rattle.sz_store.specs.Kept.{stored_in}
use Rattle.sz_formats.specs.Twice.{AreTwice, from_format, span}
use Rattle.sz_formats.specs.Words.{NoneBeginIn}
use Rattle.sz_formats.proofs.Through.{alone, short-read, short-within, short-refused}
use Rattle.sz_formats.proofs.stores.take_short.Given.{Over}
use Rattle.sz_formats.proofs.stores.take_short.Goals.{After-deref-3}
use Rattle.sz_formats.proofs.stores.take_short.Goals as goal

-- the same stores in both
twice : (g : Over) (c : After-deref-3 g) → AreTwice (from_format 2) (arc_value c.args.op) (stored_in c.args.list.now)
    (span c.args.bytes.now c.args.at c.in_ok-next.next) (span c.deref-3.result.now 0 (length c.deref-3.result.now))
twice g c =
    alone (arc_value c.args.op) c.deref-2.result.now (stored_in c.args.list.now) c.args.bytes.now c.args.at
    c.in_ok-next.next c.new-wide.result.items c.respell_each.new.to.items c.deref-3.result.now c.deref-2.ensures
    c.deref-3.ensures.value c.new-wide.ensures.items c.in_ok-next.ensures.ok

pub respell_each-requires : goal.respell_each-requires
respell_each-requires g c =
    subst (λ (x : Site). AreRight (x.out ∷ x.ins)) (c.deref.ensures ∙ sym c.deref-2.ensures) c.within_limits.ensures

pub returns-in_err-next-clause-err : goal.returns-in_err-next-clause-err
returns-in_err-next-clause-err g c =
    let list = c.args.list.now in
    let e = c.in_err-next.field-0.0 in
    let none : OnBad e (NoneBeginIn 2 (arc_value c.args.op) (stored_in list) c.args.bytes.now c.args.at) =
    subst (λ (x : Site). OnBad e (NoneBeginIn 2 x (stored_in list) c.args.bytes.now c.args.at)) c.deref-2.ensures
    c.in_err-next.ensures.err in
    let p = err_from_is_err_and c.from_residual.result c.from_residual.ensures.1 in
    rw (p.1, p.2) none

pub returns-in_err-store-clause-err : goal.returns-in_err-store-clause-err
returns-in_err-store-clause-err g c =
    let s : Site = arc_value c.args.op in
    let ts = stored_in c.args.list.now in
    let bytes = c.args.bytes.now in
    let word = c.deref-3.result.now in
    let e = c.in_err-store.field-0.0 in
    let none : OnBad e (NoneBeginIn 2 s ts bytes c.args.at) =
    short-refused s ts bytes c.args.at c.in_ok-next.next word e
    (subst (λ (x : Site). AreRight (x.out ∷ x.ins)) c.deref.ensures c.within_limits.ensures)
    (twice g (goal.at.returns-in_err-store-clause-err g c).After-deref-3) c.in_err-store.ensures.err in
    let p = err_from_is_err_and c.from_residual-in_err-store.result c.from_residual-in_err-store.ensures.1 in
    rw (p.1, p.2) none

pub returns-clause-ok : goal.returns-clause-ok
returns-clause-ok g c =
    short-read (arc_value c.args.op) (stored_in c.args.list.now) c.args.bytes.now c.args.at c.in_ok-next.next
    c.deref-3.result.now c.in_ok-store._end c.in_ok-store.store.stores
    (subst (λ (x : Site). AreRight (x.out ∷ x.ins)) c.deref.ensures c.within_limits.ensures)
    (twice g (goal.at.returns-clause-ok g c).After-deref-3) c.in_ok-store.ensures.ok

pub returns-clause-within : goal.returns-clause-within
returns-clause-within g c inside =
    let word = c.deref-3.result.now in
    short-within (arc_value c.args.op) (stored_in c.args.list.now) c.args.bytes.now c.args.at c.in_ok-next.next
    (span word 0 (length word)) (twice g (goal.at.returns-clause-within g c).After-deref-3) inside
