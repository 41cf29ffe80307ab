-- The word that is written is that of the number.
use Rattle.std.proofs.Common.{List, ◌+◌, ap, ◌∙◌}
use Rattle.std.proofs.Math.ListN.{set}
use Rattle.sz_ops_region.specs.declared.marks.Mark.{Mark}
use Rattle.sz_ops_region.specs.declared.marks.Mark.TheVariants.{Numbered}
use Rattle.sz_ops_region.proofs.Words.{word-set, word-numbered}
use Rattle.sz_ops_region.proofs.marks.Marks.give.Goals as goal

pub returns : goal.returns
returns c =
    word-set c.self.inside.words.items c.args.index (2 + c.args.number) (Numbered c.args.number)
    (word-numbered c.args.number)
    ∙ ap (λ (ms : List Mark). set ms c.args.index (Numbered c.args.number)) c.self.view_is
