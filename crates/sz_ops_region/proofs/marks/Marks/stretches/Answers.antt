-- The words that are one keep one mark.
use Rattle.std.proofs.Common.{List, map, subst}
use Rattle.sz_ops_region.specs.declared.marks.Mark.{Mark}
use Rattle.sz_ops_region.specs.Marks.{mark_in}
use Rattle.sz_ops_region.specs.Stretches.{AreStretches}
use Rattle.sz_ops_region.proofs.marks.Marks.stretches.Goals as goal

pub returns : goal.returns
returns c =
    let words = c.self.inside.words.items in
    let starts = c.write_starts.new.starts.items in
    let are : AreStretches (map mark_in words) starts = rw c.deref.ensures.value at c.write_starts.ensures in
    subst (λ (ms : List Mark). AreStretches ms starts) c.self.view_is are
