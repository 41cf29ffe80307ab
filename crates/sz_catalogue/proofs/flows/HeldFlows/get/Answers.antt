-- A text is looked up by its bytes.
use Rattle.std.proofs.Common.{List, ℕ, ap, ◌∙◌}
use Rattle.std.specs.Ordering.{nat_cmp}
use Rattle.std.specs.Cmp.Lexicographic.{slice_cmp}
use Rattle.std.specs.Map.{lookup}
use Rattle.std.specs.BTreeMap.{is_at}
use Rattle.sz_catalogue.specs.Holdings.{Workflow}
use Rattle.sz_catalogue.proofs.ByName.{lookup-by_bytes}
use Rattle.sz_catalogue.proofs.flows.HeldFlows.get.Goals as goal

pub returns : goal.returns
returns c =
    c.get.ensures.value ∙ lookup-by_bytes c.args.name.now c.self.inside.by_name.entries
    ∙ ap (λ (fs : List (List ℕ × Workflow)). lookup (is_at (slice_cmp nat_cmp c.args.name.now)) fs) c.self.view_is
