-- Lists of strategies, one for each node.
--
-- The key idea: node by node, so a list that is replaced by one for the same node keeps all of it.
use Rattle.std.proofs.Common.{◌≡◌, ℕ, zero, suc, ◌<◌, Bool, true, false, ◌&&◌, List, [], ◌∷◌, length, map}
use Rattle.std.proofs.Common.{if◌then◌else◌}
use Rattle.std.proofs.Common.{slice_set, refl, ap, ap₂, ◌∙◌, arith, inl, inr}
use Rattle.std.proofs.lemmas.Bool.{cases_Bool}
use Rattle.sz_spec.specs.declared.flow.Node.{Node}
use Rattle.sz_spec.specs.declared.modes.Strategy.{Strategy}
use Rattle.sz_spec.specs.declared.modes.Strategy.TheVariants as strategy
use Rattle.sz_spec.specs.Modes.{has_mapping}
use Rattle.sz_catalogue.specs.Starts.{first_list}
use Rattle.sz_catalogue.specs.Rules.{is_list_for, is_list_of, are_lists_for}

both : (a b : Bool) → (a && b) ≡ true → (a ≡ true) × (b ≡ true)
both true true h = (refl, refl)
both true false h = (cc)
both false b h = (cc)

-- the first list of a node is one for it
first-right : (x : Node) → is_list_for x.op (first_list x) ≡ true
first-right x =
    let told : Bool → Bool = λ b. is_list_for x.op ((if b then strategy.Map else strategy.BlackBox) ∷ []) in
    elim (cases_Bool (has_mapping x.op)) [
      | inl t ↦ ap told t ∙ ap (λ (b : Bool). b && true) t
      | inr f ↦ ap told f
    ]

pub firsts-right : (nodes : List Node) → are_lists_for nodes (map first_list nodes) ≡ true
firsts-right [] = refl
firsts-right (x ∷ nodes) = ap₂ (λ (a b : Bool). a && b) (first-right x) (firsts-right nodes)

-- there are as many lists as nodes
pub lists-length : (nodes : List Node) (lists : List (List Strategy)) → are_lists_for nodes lists ≡ true
    → length lists ≡ length nodes
lists-length [] [] h = refl
lists-length [] (list ∷ lists) h = (cc)
lists-length (x ∷ nodes) [] h = (cc)
lists-length (x ∷ nodes) (list ∷ lists) h = ap suc (lists-length nodes lists (both _ _ h).1)

-- a list for a node in place of the one that it has
pub set-right : (nodes : List Node) (lists : List (List Strategy)) (node : ℕ) (list : List Strategy)
    → are_lists_for nodes lists ≡ true → is_list_of nodes node list ≡ true
    → (node < length lists) × (are_lists_for nodes (slice_set lists node list) ≡ true)
set-right [] lists node list h one = (cc)
set-right (x ∷ nodes) [] node list h one = (cc)
set-right (x ∷ nodes) (l ∷ lists) zero list h one =
    (omega arith, ap₂ (λ (a b : Bool). a && b) one (both _ _ h).1)
set-right (x ∷ nodes) (l ∷ lists) (suc node) list h one =
    let rest = set-right nodes lists node list (both _ _ h).1 one in
    (omega (arith, rest.0), ap₂ (λ (a b : Bool). a && b) (both _ _ h).0 rest.1)
