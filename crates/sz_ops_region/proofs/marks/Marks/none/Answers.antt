-- Words that are all 0 mark no cell.
use Rattle.std.proofs.Common.{ℕ, List, map, ap, ◌∙◌}
use Rattle.sz_ops_region.specs.Marks.{mark_in, mark_at}
use Rattle.sz_ops_region.proofs.Words.{words-none}
use Rattle.sz_ops_region.proofs.marks.Marks.none.Goals as goal

pub returns-clause-low : goal.returns-clause-low
returns-clause-low c k =
    ap (λ (ws : List ℕ). mark_at (map mark_in ws) k) (c.in_ok-vec.ensures.items_if_clones_equal (λ y is. is))
    ∙ words-none c.args.count k
