-- What is read of a front of the list is the front of every reading of the list.
use Rattle.std.proofs.Common.{◌≡◌, List, [], ◌∷◌, ◌++◌, map, get_or, take, refl, ap, ap₂, subst}
use Rattle.std.proofs.Common.{◌∙◌, true}
use Rattle.std.specs.List.{All}
use Rattle.std.specs.Arc.{arc_value}
use Rattle.std.proofs.lemmas.List.{get_or_default}
use Rattle.sz_cells.specs.Extent.{Extent, is_extent}
use Rattle.sz_spec.specs.declared.modes.Strategy.TheVariants as strategy
use Rattle.sz_spec.specs.Shapes.{Site}
use Rattle.sz_region.specs.declared.set_bytes.Take.{Take}
use Rattle.sz_region.specs.LawsStores.{AreRight}
use Rattle.sz_store.specs.Kept.{Keep, stored_in}
use Rattle.sz_store.specs.Stocks.{keep_of}
use Rattle.sz_store.specs.Words.{BeginEach, NoneBegin, SaysNone}
use Rattle.sz_store.proofs.Reading.{each-append}
use Rattle.sz_store.proofs.Listed.{stored-more, none-behind}
use Rattle.sz_store.proofs.stores.take_all.Goals as goal

pub returns-in-Err-Bad-clause-err : goal.returns-in-Err-Bad-clause-err
returns-in-Err-Bad-clause-err g c =
    let s : Site = arc_value c.args.at.now in
    let list = c.args.list.now in
    let i = c.loop-strategy.strategy-index in
    let t = get_or list i strategy.Map in
    let out : c.out.result ≡ s.out = c.out.ensures.value ∙ ap (λ (x : Site). x.out) c.deref.ensures in
    let ins : c.ins.result.now ≡ s.ins = c.ins.ensures.value ∙ ap (λ (x : Site). x.ins) c.deref-2.ensures in
    let right : AreRight (s.out ∷ s.ins) =
    subst (All (λ (e : Extent). is_extent e ≡ true)) (ap₂ (λ (e : Extent) (es : List Extent). e ∷ es) out ins)
    c.shapes_are_within_limits.ensures in
    let none = subst
    (λ (e : Take). SaysNone (NoneBegin s (stored_in (t ∷ [])) c.args.bytes.now c.loop-strategy.place)
    c.loop-strategy.place e)
    c.in-Err-Bad.field-0-is c.in-Err-Bad.ensures.err in (
      refl,
      none-behind s list i t c.args.bytes.now c.args.from c.loop-strategy.place (map keep_of
          c.loop-strategy.stores.items)
          right c.loop-strategy-test.true (get_or_default list i t strategy.Map c.loop-strategy-test.true)
          c.loop-strategy.invariant.read none.1,
    )

pub loop-strategy-preserved : goal.loop-strategy-preserved
loop-strategy-preserved g c =
    let s : Site = arc_value c.args.at.now in
    let list = c.args.list.now in
    let i = c.loop-strategy.strategy-index in
    let t = get_or list i strategy.Map in
    let old = map keep_of c.loop-strategy.stores.items in
    let more : (fs : List Keep) × BeginEach s (stored_in (t ∷ [])) c.args.bytes.now c.loop-strategy.place
    c.in-Ok.next fs
    × (map keep_of c.take_next.new.stores.items ≡ old ++ fs) = c.in-Ok.ensures.ok in
    let stored = stored-more list i t c.loop-strategy-test.true
    (get_or_default list i t strategy.Map c.loop-strategy-test.true) in
    record {
      read =
          rw (stored, more.2)
          (each-append s (stored_in (take i list)) (stored_in (t ∷ [])) c.args.bytes.now c.args.from
          c.loop-strategy.place
          c.in-Ok.next old more.0 c.loop-strategy.invariant.read more.1);
      sites = c.in-Ok.ensures.sites;
    }
