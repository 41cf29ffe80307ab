-- The key idea: a payload of these bytes is filed with what they are mixed to.
use Rattle.std.proofs.Common.{◌∙◌, sym}
use Rattle.std.proofs.lemmas.Bool.{eq-eqb, eqb-true}
use Rattle.sz_tables.specs.Filed.{Filed}
use Rattle.sz_tables.proofs.Payloads.{item-at}
use Rattle.sz_tables.proofs.payload_table.PayloadTable.is_kept.Goals as goal

pub returns-else-item-mix : goal.returns-else-item-mix
returns-else-item-mix c =
    let d : Filed = record { key = 0; item = 0 } in
    let t = c.self.inside in (
      λ true. absurd (c.if-item-mix.false (eqb-true c.item.result c.args.mix true)),
      λ same. eq-eqb c.item.result c.args.mix (sym (c.item.ensures d)
          ∙ item-at t.bytes.items c.args.bytes.now t.spans.items t.index c.args.number c.self.invariant.0
          (rw (← c.self.view_is) at same) d
          ∙ sym c.requires.mix),
    )
