-- Each payload is one of the operator's, and so it is short.
use Rattle.std.proofs.Common.{◌≡◌, ℕ, true, List, sym, subst}
use Rattle.std.specs.Prelude.{All}
use Rattle.std.specs.Arc.{arc_value}
use Rattle.std.proofs.lemmas.Result.{on_ok_weaker}
use Rattle.sz_cells.specs.Extent.{Extent}
use Rattle.sz_spec.specs.Payloads.{is_payload}
use Rattle.sz_spec.specs.Shapes.{Site}
use Rattle.sz_region.specs.PayBytes.{IsPayWord}
use Rattle.sz_tables.specs.Entries.{entries}
use Rattle.sz_payload.proofs.Short.{payloads-short, first-small}
use Rattle.sz_payload.proofs.store.PayStore.put_bytes.Goals as goal

pub put_bytes-requires-clause-short : goal.put_bytes-requires-clause-short
put_bytes-requires-clause-short g c =
    let s = c.deref.result.now in
    let few = first-small s (arc_value c.self.inside.at) c.out.result c.size.result c.self.invariant.0.none
    c.deref.ensures c.out.ensures.rule c.out.ensures.value c.size.ensures.value c.size.ensures.few in
    payloads-short s c.self.inside.table.payloads few
    (subst (λ (t : Site). All (λ (p : List ℕ). is_payload t.op t.ins p ≡ true) c.self.inside.table.payloads)
    (sym c.deref.ensures) c.self.invariant.0.lawful)

pub returns-clause-ok : goal.returns-clause-ok
returns-clause-ok g c =
    let t = c.self.inside.table in
    let site = arc_value c.self.inside.at in
    rw (← c.self.view_is)
    (on_ok_weaker c.put_bytes.result
    (λ put. (
      t.payloads,
      put.0,
      put.1,
      put.2,
      put.3,
      c.self.invariant.0.lawful,
      subst (λ (e : Extent). IsPayWord e t.payloads put.0 (entries t) put.1) c.self.invariant.0.out put.4,
      put.5,
    )) c.put_bytes.ensures.ok)
