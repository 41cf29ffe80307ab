-- What the entries add, and of composite lineage the defaults, is the image.
use Rattle.sz_tables.specs.Entries.{entries}
use Rattle.sz_payload.proofs.Adding.{image-pay, image-comp}
use Rattle.sz_payload.proofs.look.Look.forward.Goals as goal

pub returns-then-comp : goal.returns-then-comp
returns-then-comp c =
    image-comp c.args.comp c.args.self.now.at.now c.args.input c.args.from.now c.args.to.now c.entries_forward.new.to
    c.defaults_forward.new.to (entries c.args.self.now.table.now) c.if-comp.true c.requires.to c.entries_forward.ensures
    c.defaults_forward.ensures

pub returns-else-comp : goal.returns-else-comp
returns-else-comp c =
    image-pay c.args.comp c.args.self.now.at.now c.args.input c.args.from.now c.args.to.now c.entries_forward.new.to
    (entries c.args.self.now.table.now) c.if-comp.false c.requires.to c.entries_forward.ensures
