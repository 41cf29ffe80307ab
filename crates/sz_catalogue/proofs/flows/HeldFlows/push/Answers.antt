-- One more entry by text is one more by bytes.
use Rattle.std.proofs.Common.{List, ℕ, ap, ap₂, ◌∙◌}
use Rattle.std.specs.Ordering.{nat_cmp}
use Rattle.std.specs.Cmp.Lexicographic.{slice_cmp}
use Rattle.std.specs.BTreeMap.{insert_entry}
use Rattle.sz_catalogue.specs.Holdings.{Workflow}
use Rattle.sz_catalogue.specs.Kept.{by_bytes}
use Rattle.sz_catalogue.proofs.ByName.{insert-by_bytes}
use Rattle.sz_catalogue.proofs.flows.HeldFlows.push.Goals as goal

pub returns-clause-held : goal.returns-clause-held
returns-clause-held c =
    let put : List (List ℕ × Workflow) → List ℕ → List (List ℕ × Workflow) = λ fs name.
    insert_entry (slice_cmp nat_cmp) fs name c.args.flow in
    ap by_bytes c.in_ok-insert.ensures.entries
    ∙ insert-by_bytes c.self.inside.by_name.entries c.in_ok-key.key c.args.flow
    ∙ ap₂ put c.self.view_is c.in_ok-key.ensures
