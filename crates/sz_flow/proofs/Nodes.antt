-- How far a run of all nodes has come.
--
-- The key idea: the executions so far, followed by those of the nodes that are left, are the executions of the
-- flow; and what is left fits behind the outputs so far.
use Rattle.std.proofs.Common.{◌≡◌, ℕ, suc, ◌+◌, ◌<◌, true, List, [], ◌∷◌, ◌++◌, length, drop}
use Rattle.std.proofs.Common.{sym, ap, subst, ◌∙◌, arith, append_assoc, length-append, drop-cons}
use Rattle.std.proofs.Common.{get_or, add-one, Some}
use Rattle.std.proofs.lemmas.Option.{slice_get-get_or}
use Rattle.sz_spec.specs.declared.flow.Node.{Node}
use Rattle.sz_spec.specs.Values.{Grid}
use Rattle.sz_spec.specs.Flows.{Graph, is_well_formed}
use Rattle.sz_spec.specs.LawsFlows.{IsRightNode}
use Rattle.sz_spec.proofs.FlowOutputs.{well-formed_parts}
use Rattle.sz_flow.specs.Executions.{Execution, execution, executions_from, executions}
use Rattle.sz_flow.specs.Nodes.{inputs_among, NodeFits}
use Rattle.sz_flow.proofs.Executions.{Follow, follow-next}

-- n nodes were executed, with these outputs
pub record IsSoFar (flow : Graph) (base : List Grid) (done : List Execution) (outputs : List Grid) (n : ℕ)
    : Type 0 where
  pub count : length outputs ≡ n
  pub whole : done ++ executions_from base outputs (drop n flow.nodes) ≡ executions flow base
  pub fits : Follow base outputs (drop n flow.nodes)

-- node n of the flow
abbrev pub IsNode : Graph → ℕ → Node → Type 0
IsNode flow n x = (n < length flow.nodes) × (x ≡ get_or flow.nodes n x)

pub node-of : (flow : Graph) (nodes : List Node) (n : ℕ) (x : Node) → nodes ≡ flow.nodes → n < length nodes
    → x ≡ get_or nodes n x → IsNode flow n x
node-of flow nodes n x same inside is =
    (subst (λ (xs : List Node). n < length xs) same inside, is ∙ ap (λ (xs : List Node). get_or xs n x) same)

-- it is right
pub node-right : (flow : Graph) (n : ℕ) (x : Node) → is_well_formed flow ≡ true → IsNode flow n x
    → IsRightNode flow.inputs n x
node-right flow n x well at =
    (well-formed_parts flow well).3 n x
    (slice_get-get_or flow.nodes n x at.0 ∙ ap (λ (z : Node). Some z) (sym at.1))

-- and it is the first of those that are left
left-is : (flow : Graph) (n : ℕ) (x : Node) → IsNode flow n x
    → drop n flow.nodes ≡ x ∷ drop (n + 1) flow.nodes
left-is flow n x at =
    rw (add-one) (drop-cons flow.nodes n x at.0 ∙ ap (λ (z : Node). z ∷ drop (suc n) flow.nodes) (sym at.1))

-- it fits
pub so_far-fits : (flow : Graph) (base : List Grid) (done : List Execution) (outputs : List Grid) (n : ℕ) (x : Node)
    → IsSoFar flow base done outputs n → IsNode flow n x → NodeFits base outputs x
so_far-fits flow base done outputs n x so_far at =
    (follow-next base outputs x (drop (n + 1) flow.nodes)
    (subst (Follow base outputs) (left-is flow n x at) so_far.fits)).0

-- one more node
pub so_far-next : (flow : Graph) (base : List Grid) (done : List Execution) (outputs : List Grid) (n : ℕ) (x : Node)
    (e : Execution)
    → IsSoFar flow base done outputs n → IsNode flow n x → e ≡ execution x.op (inputs_among base outputs x)
    → IsSoFar flow base (done ++ e ∷ []) (outputs ++ e.out ∷ []) (n + 1)
so_far-next flow base done outputs n x e so_far at made =
    let rest = drop (n + 1) flow.nodes in
    let own = execution x.op (inputs_among base outputs x) in
    let left = left-is flow n x at in
    let next = follow-next base outputs x rest (subst (Follow base outputs) left so_far.fits) in
    let whole : (done ++ own ∷ []) ++ executions_from base (outputs ++ own.out ∷ []) rest ≡ executions flow base =
    append_assoc done (own ∷ []) (executions_from base (outputs ++ own.out ∷ []) rest)
    ∙ sym (ap (λ (nodes : List Node). done ++ executions_from base outputs nodes) left) ∙ so_far.whole in
    let own_next : IsSoFar flow base (done ++ own ∷ []) (outputs ++ own.out ∷ []) (n + 1) = record {
      count = omega (arith, so_far.count, length-append outputs (own.out ∷ []));
      whole = whole;
      fits = next.1;
    } in
    subst (λ (z : Execution). IsSoFar flow base (done ++ z ∷ []) (outputs ++ z.out ∷ []) (n + 1)) (sym made) own_next
