-- The outputs of a version that is awaited stay, and so does what it is held of.
use Rattle.std.proofs.Common.{refl, ap, ◌∙◌}
use Rattle.sz_script.specs.declared.command.Command.TheVariants as command
use Rattle.sz_catalogue.specs.declared.catalogue.Catalogue.TheView.{view}
use Rattle.sz_catalogue.specs.Holdings.{Holdings}
use Rattle.sz_catalogue.specs.Rules.{judged}
use Rattle.sz_catalogue.proofs.Counts.{limits-kept, await-cells}
use Rattle.sz_catalogue.proofs.Order.{await-in_order}
use Rattle.sz_catalogue.proofs.catalogue.Catalogue.await_version.Goals as goal

pub invariant_of-self : goal.invariant_of-self
invariant_of-self c =
    let held : Holdings = view c.self.inside in
    let taken = ap (λ (h : Holdings). judged h (command.Await c.args.number)) c.self.view_is ∙ c.requires.judged in
    rw c.note_await.ensures (record {
      limits = limits-kept (await-cells held c.args.number taken) refl c.self.invariant.limits;
      order = await-in_order held c.args.number c.self.invariant.order taken;
    })
