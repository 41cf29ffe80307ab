-- A flow that has the node is held, and its entry is written back with the list.
use Rattle.std.proofs.Common.{◌≡◌, List, ℕ, Option, None, unwrap_or, true, ap, ap₂, sym, ◌∙◌}
use Rattle.std.specs.Ordering.{nat_cmp}
use Rattle.std.specs.Cmp.Lexicographic.{slice_cmp}
use Rattle.std.specs.Map.{lookup, set_value}
use Rattle.std.specs.BTreeMap.{is_at}
use Rattle.std.specs.Option.{option_copied_mut}
use Rattle.sz_spec.specs.declared.modes.Strategy.{Strategy}
use Rattle.sz_catalogue.specs.Holdings.{Workflow, no_workflow}
use Rattle.sz_catalogue.specs.Rules.{is_list_of}
use Rattle.sz_catalogue.specs.Changes.{with_list}
use Rattle.sz_catalogue.specs.Kept.{by_bytes}
use Rattle.sz_catalogue.proofs.ByName.{lookup-by_bytes, set-by_bytes}
use Rattle.sz_catalogue.proofs.flows.HeldFlows.set_list.Goals as goal

abbrev found_in : List ℕ → List (List ℕ × Workflow) → Option Workflow
found_in name flows = lookup (is_at (slice_cmp nat_cmp name)) flows

-- a node of no flow is none
not-none : (o : Option Workflow) (node : ℕ) (list : List Strategy) → None ≡ o
    → is_list_of (unwrap_or o no_workflow).graph.nodes node list ≡ true → ⊥
not-none o node list none one =
    let told = ap (λ (p : Option Workflow). is_list_of (unwrap_or p no_workflow).graph.nodes node list) none in (cc)

pub returns-in_default : goal.returns-in_default
returns-in_default c =
    let there = c.get_mut.ensures.value ∙ lookup-by_bytes c.args.name.now c.self.inside.by_name.entries
    ∙ ap (found_in c.args.name.now) c.self.view_is in
    absurd (not-none (found_in c.args.name.now c.args.self.now) c.args.node c.args.list
    (ap option_copied_mut (sym c.in_default.is) ∙ there) c.requires)

pub set_list-requires : goal.set_list-requires
set_list-requires c =
    let there = c.get_mut.ensures.value ∙ lookup-by_bytes c.args.name.now c.self.inside.by_name.entries
    ∙ ap (found_in c.args.name.now) c.self.view_is in
    let some = ap option_copied_mut (sym c.in-Some.is) ∙ there in
    ap (λ (o : Option Workflow). is_list_of (unwrap_or o no_workflow).graph.nodes c.args.node c.args.list) some
    ∙ c.requires

pub returns : goal.returns
returns c =
    let there = c.get_mut.ensures.value ∙ lookup-by_bytes c.args.name.now c.self.inside.by_name.entries
    ∙ ap (found_in c.args.name.now) c.self.view_is in
    let some = ap option_copied_mut (sym c.in-Some.is) ∙ there in
    let put : List (List ℕ × Workflow) → Workflow → List (List ℕ × Workflow) = λ fs w.
    set_value (is_at (slice_cmp nat_cmp c.args.name.now)) fs w in
    let list : Option Workflow → Workflow = λ o. with_list (unwrap_or o no_workflow) c.args.node c.args.list in
    ap by_bytes (c.get_mut.follows.holds c.set_list.new.self).0
    ∙ set-by_bytes c.args.name.now c.self.inside.by_name.entries c.set_list.new.self
    ∙ ap₂ put c.self.view_is (c.set_list.ensures ∙ ap list some)
