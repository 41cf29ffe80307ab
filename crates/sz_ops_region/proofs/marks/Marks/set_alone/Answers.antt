-- The word that is written is that of a cell by itself.
use Rattle.std.proofs.Common.{List, refl, ap, ◌∙◌}
use Rattle.std.proofs.Math.ListN.{set}
use Rattle.sz_ops_region.specs.declared.marks.Mark.{Mark}
use Rattle.sz_ops_region.specs.declared.marks.Mark.TheVariants.{Alone}
use Rattle.sz_ops_region.proofs.Words.{word-set}
use Rattle.sz_ops_region.proofs.marks.Marks.set_alone.Goals as goal

pub returns : goal.returns
returns c =
    word-set c.self.inside.words.items c.args.index 1 Alone refl
    ∙ ap (λ (ms : List Mark). set ms c.args.index Alone) c.self.view_is
