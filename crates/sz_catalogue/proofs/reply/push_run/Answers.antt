-- One more cell is one more index of the run's range.
use Rattle.std.proofs.Common.{◌∙◌, ap, ◌++◌, List, ℕ, sym}
use Rattle.sz_catalogue.specs.Responses.{cell_text}
use Rattle.sz_catalogue.proofs.Texts.{flat_map-range-more}
use Rattle.sz_catalogue.proofs.reply.push_run.Goals as goal

pub loop-index-preserved : goal.loop-index-preserved
loop-index-preserved c =
    c.in_ok-push_cell.ensures
    ∙ ap (λ (t : List ℕ). t ++ cell_text c.args.shape c.loop-index.index) c.loop-index.invariant
    ∙ sym (flat_map-range-more (cell_text c.args.shape) _ c.args.run.first c.loop-index.index c.loop-index.auto.index)
