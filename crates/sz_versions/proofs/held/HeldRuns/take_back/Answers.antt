-- The list is what it was before its last one.
use Rattle.std.proofs.Common.{sym, ◌∙◌, arith}
use Rattle.sz_versions.proofs.Service.{last-gone, last-counts}
use Rattle.sz_versions.proofs.held.HeldRuns.take_back.Goals as goal

pub returns : goal.returns
returns c =
    λ rs r is. last-gone c.pop.result c.pop.new.self.items rs r (sym (c.self.view_is ∙ is) ∙ c.pop.ensures.items)
    (c.pop.ensures.variant.1
    (omega (arith, last-counts c.self.inside.runs.items rs r (c.self.view_is ∙ is), c.self.inside.runs.ok.0)))
