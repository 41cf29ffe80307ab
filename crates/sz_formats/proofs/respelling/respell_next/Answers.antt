-- A strategy of each of these modes is stored, so the store is that of the list of it.
use Rattle.std.proofs.Common.{true, false, sym, ◌∙◌}
use Rattle.sz_spec.specs.declared.modes.Mode.TheVariants as mode
use Rattle.sz_formats.proofs.Said.{full-says, pay-says, of-payloads}
use Rattle.sz_formats.proofs.respelling.respell_next.Goals as goal

pub returns-in-Full : goal.returns-in-Full
returns-in-Full c =
    let says = full-says c.args.format c.args.op.now c.args.strategy c.args.bytes.now c.args.at c.args.to.now.items
    c.respell_full.new.to.items c.respell_full.result (sym c.in-Full.is ∙ c.mode.ensures) c.respell_full.ensures.ok
    c.respell_full.ensures.kept c.respell_full.ensures.err in
    record { ok = says.ok; front = says.front; err = says.err }

pub returns-in-Pay : goal.returns-in-Pay
returns-in-Pay c =
    let says = pay-says c.args.format c.args.op.now c.args.strategy mode.Pay c.args.bytes.now c.args.at
    c.args.to.now.items c.respell_pay.new.to.items c.respell_pay.result (sym c.in-Pay.is ∙ c.mode.ensures)
    (of-payloads false) c.respell_pay.ensures.ok c.respell_pay.ensures.kept c.respell_pay.ensures.err in
    record { ok = says.ok; front = says.front; err = says.err }

pub returns-in-Comp : goal.returns-in-Comp
returns-in-Comp c =
    let call = c.respell_pay-in-Comp in
    let says = pay-says c.args.format c.args.op.now c.args.strategy mode.Comp c.args.bytes.now c.args.at
    c.args.to.now.items call.new.to.items call.result (sym c.in-Comp.is ∙ c.mode.ensures) (of-payloads true)
    call.ensures.ok call.ensures.kept call.ensures.err in
    record { ok = says.ok; front = says.front; err = says.err }
