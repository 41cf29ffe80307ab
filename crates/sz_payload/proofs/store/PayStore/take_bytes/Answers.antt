-- What is read is the operator's, and its index that of its entries.
use Rattle.std.proofs.Common.{ap, subst, ◌∙◌}
use Rattle.std.specs.Arc.{arc_value}
use Rattle.sz_cells.specs.Extent.{Extent}
use Rattle.sz_spec.specs.Shapes.{Site}
use Rattle.sz_tables.specs.Entries.{entries}
use Rattle.sz_payload.specs.Begins.{AreLawful, BeginsPayloads}
use Rattle.sz_payload.specs.Owned.{IsIndexOf}
use Rattle.sz_payload.proofs.store.PayStore.take_bytes.Goals as goal

pub invariant_of-store : goal.invariant_of-store
invariant_of-store g c =
    let s = c.deref.result.now in
    let t = c.in_ok-table.table in
    let site = arc_value c.args.at in
    let same = c.deref.ensures in
    let out = c.in_ok-table.ensures.out ∙ ap (λ (x : Site). x.out) same in
    let begins = subst (λ (x : Site). BeginsPayloads x c.args.bytes.now c.args.from c.in_ok-table.next (entries t)) same
    c.in_ok-table.ensures.ok in (
      record {
        none = c.requires.payloads;
        out = out;
        lawful = subst (λ (x : Site). AreLawful x t.payloads) same c.in_ok-table.ensures.lawful;
        apart = begins.is_word.apart;
        index = subst (λ (e : Extent). IsIndexOf e (entries t) c.in_ok-owner.owner) out c.in_ok-owner.ensures;
      },
      c.requires.map,
    )
