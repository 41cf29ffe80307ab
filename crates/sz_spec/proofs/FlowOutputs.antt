-- What follows of flows and of their evaluations.
--
-- The key idea: when a node is evaluated the outputs so far are a first part of all outputs, and a source of a
-- right node looks no further than that part. So it stands for the same array among all outputs.
use Rattle.std.proofs.Common.{◌≡◌, ℕ, zero, suc, ◌+◌, ◌<◌, ◌≤◌, true, ◌==◌, nat_lt, inl}
use Rattle.std.proofs.Common.{inr, List, []}
use Rattle.std.proofs.Common.{◌∷◌, ◌++◌, map, length, All, Option, Some, None, refl, sym, ap, ap₂}
use Rattle.std.proofs.Common.{subst}
use Rattle.std.proofs.Common.{◌∙◌, arith, append_assoc, append-nil, length-append, unwrap_or}
use Rattle.std.proofs.Common.{ltb-true, eqb-true, eq-eqb, ne_eqb, le-ltb}
use Rattle.std.specs.Prelude.{is_none}
use Rattle.std.specs.List.{slice_get}
use Rattle.std.proofs.lemmas.Bool.{cases_Bool, ltb-false, eqb-false}
use Rattle.std.proofs.lemmas.List.Elements.{All-cons, All-head, All-tail, All-weaker}
use Rattle.sz_spec.specs.declared.flow.Node.{Node}
use Rattle.sz_spec.specs.declared.flow.SourceRef.{SourceRef}
use Rattle.sz_spec.specs.declared.flow.SourceRef.TheVariants as source
use Rattle.sz_spec.specs.declared.flow.FlowFault.{FlowFault}
use Rattle.sz_spec.specs.Values.{Grid, no_grid}
use Rattle.sz_spec.specs.Shapes.{arity, has_right_parameters}
use Rattle.sz_spec.specs.Evaluation.{output_of}
use Rattle.sz_spec.specs.Flows.{Graph, is_source, first_fault, source_fault, node_fault}
use Rattle.sz_spec.specs.Flows.{nodes_fault, flow_fault}
use Rattle.sz_spec.specs.Flows.{is_well_formed, array_of, outputs_from, evaluations}
use Rattle.sz_spec.specs.LawsFlows.{IsRightNode, WellFormedFlowsAreRight, EachNodeHasAnOutput}
use Rattle.sz_spec.specs.LawsFlows.{OutputsAreThoseOfTheirNodes}

-- ---- lists

-- an element of the first of two lists
pub slice_get-left : {X : Type 0} (xs ys : List X) (m : ℕ) → m < length xs
    → slice_get (xs ++ ys) m ≡ slice_get xs m
slice_get-left [] ys m inside = absurd (omega arith)
slice_get-left (x ∷ xs) ys zero inside = refl
slice_get-left (x ∷ xs) ys (suc m) inside = slice_get-left xs ys m (omega arith)

-- the element behind a list
pub slice_get-seam : {X : Type 0} (xs : List X) (y : X) (ys : List X) (n : ℕ) → length xs ≡ n
    → slice_get (xs ++ y ∷ ys) n ≡ Some y
slice_get-seam [] y ys zero long = refl
slice_get-seam [] y ys (suc n) long = absurd (omega arith)
slice_get-seam (x ∷ xs) y ys zero long = absurd (omega arith)
slice_get-seam (x ∷ xs) y ys (suc n) long = slice_get-seam xs y ys n (omega arith)

-- two functions that agree on each element of a list map it to one list
pub map-agree : {X Y : Type 0} (f g : X → Y) (xs : List X) → All (λ x. f x ≡ g x) xs
    → map f xs ≡ map g xs
map-agree f g [] h = refl
map-agree f g (x ∷ xs) h =
    ap₂ (λ y ys. y ∷ ys) (All-head (λ z. f z ≡ g z) x xs h)
    (map-agree f g xs (All-tail (λ z. f z ≡ g z) x xs h))

-- ---- faults

both-none : (a b : Option FlowFault) → first_fault a b ≡ None → (a ≡ None) × (b ≡ None)
both-none None b h = (refl, h)
both-none (Some fault) b h = (cc)

-- no source is at fault exactly where each is one
sources-right : (inputs n i : ℕ) (from : List SourceRef) → source_fault inputs n i from ≡ None
    → All (λ s. is_source inputs n s ≡ true) from
sources-right inputs n i [] h = λ k d inside. absurd (omega arith)
sources-right inputs n i (s ∷ from) h =
    elim (cases_Bool (is_source inputs n s)) [
      | inl t ↦
          let rest = rw t at h in
          All-cons (λ x. is_source inputs n x ≡ true) s from t (sources-right inputs n (i + 1) from rest)
      | inr f ↦ let none = rw f at h in (cc)
    ]

sources-no_fault : (inputs n i : ℕ) (from : List SourceRef) → All (λ s. is_source inputs n s ≡ true) from
    → source_fault inputs n i from ≡ None
sources-no_fault inputs n i [] all = refl
sources-no_fault inputs n i (s ∷ from) all =
    let here = All-head (λ x. is_source inputs n x ≡ true) s from all in
    rw here (sources-no_fault inputs n (i + 1) from (All-tail (λ x. is_source inputs n x ≡ true) s from all))

-- a node is not at fault exactly where it is right
node-right : (inputs n : ℕ) (x : Node) → node_fault inputs n x ≡ None → IsRightNode inputs n x
node-right inputs n x h =
    elim (cases_Bool (length x.from == arity x.op)) [
      | inl t ↦
          let both = both-none (source_fault inputs n 0 x.from) _ (rw t at h) in
          let right : has_right_parameters x.op ≡ true =
          elim (cases_Bool (has_right_parameters x.op)) [
            | inl r ↦ r
            | inr f ↦ let none = rw f at both.1 in
                (cc)
          ] in
          (eqb-true (length x.from) (arity x.op) t, sources-right inputs n 0 x.from both.0, right)
      | inr f ↦ let none = rw f at h in (cc)
    ]

node-no_fault : (inputs n : ℕ) (x : Node) → IsRightNode inputs n x → node_fault inputs n x ≡ None
node-no_fault inputs n x right =
    rw (eq-eqb (length x.from) (arity x.op) right.0, sources-no_fault inputs n 0 x.from right.1, right.2) refl

nodes-right : (inputs first : ℕ) (nodes : List Node) (k : ℕ) (x : Node)
    → nodes_fault inputs first nodes ≡ None
    → slice_get nodes k ≡ Some x → IsRightNode inputs (first + k) x
nodes-right inputs first [] k x h there = (cc)
nodes-right inputs first (y ∷ nodes) zero x h there =
    let both = both-none (node_fault inputs first y) (nodes_fault inputs (first + 1) nodes) h in
    let same : y ≡ x = cc in
    let number : first ≡ first + zero = omega arith in
    subst (λ (z : Node). IsRightNode inputs (first + zero) z) same
    (subst (λ (m : ℕ). IsRightNode inputs m y) number (node-right inputs first y both.0))
nodes-right inputs first (y ∷ nodes) (suc k) x h there =
    let both = both-none (node_fault inputs first y) (nodes_fault inputs (first + 1) nodes) h in
    let number : (first + 1) + k ≡ first + suc k = omega arith in
    subst (λ (m : ℕ). IsRightNode inputs m x) number (nodes-right inputs (first + 1) nodes k x both.1 there)

nodes-no_fault : (inputs first : ℕ) (nodes : List Node)
    → ((k : ℕ) (x : Node) → slice_get nodes k ≡ Some x → IsRightNode inputs (first + k) x)
    → nodes_fault inputs first nodes ≡ None
nodes-no_fault inputs first [] right = refl
nodes-no_fault inputs first (y ∷ nodes) right =
    let number : first + zero ≡ first = omega arith in
    let here = node-no_fault inputs first y
    (subst (λ (m : ℕ). IsRightNode inputs m y) number (right zero y refl)) in
    let later : (k : ℕ) (x : Node) → slice_get nodes k ≡ Some x → IsRightNode inputs ((first + 1) + k) x =
    λ k x there.
    let next : first + suc k ≡ (first + 1) + k = omega arith in
    subst (λ (m : ℕ). IsRightNode inputs m x) next (right (suc k) x there) in
    ap₂ first_fault here (nodes-no_fault inputs (first + 1) nodes later)

-- ---- the first law

none-of : (o : Option FlowFault) → is_none o ≡ true → o ≡ None
none-of None h = refl
none-of (Some fault) h = (cc)

-- what a well-formed flow is
pub well-formed_parts : (g : Graph) → is_well_formed g ≡ true
    → (1 ≤ length g.nodes) × (length g.nodes ≤ 32) × (g.inputs ≤ 32)
    × ((n : ℕ) (x : Node) → slice_get g.nodes n ≡ Some x → IsRightNode g.inputs n x)
well-formed_parts g h =
    let none = none-of (flow_fault g) h in
    elim (cases_Bool (length g.nodes == 0)) [
      | inl t ↦ let told = rw t at none in (cc)
      | inr some ↦
          let first = rw some at none in
          elim (cases_Bool (nat_lt 32 (length g.nodes))) [
            | inl t ↦ let told = rw t at first in (cc)
            | inr few ↦
                let second = rw few at first in
                elim (cases_Bool (nat_lt 32 g.inputs)) [
                  | inl t ↦ let told = rw t at second in (cc)
                  | inr low ↦
                      let third = rw low at second in
                      let many : 1 ≤ length g.nodes = omega (arith, eqb-false (length g.nodes) 0 some) in
                      let each : (n : ℕ) (x : Node) → slice_get g.nodes n ≡ Some x → IsRightNode g.inputs n x =
                      λ n x there.
                      let number : 0 + n ≡ n = omega arith in
                      subst (λ (m : ℕ). IsRightNode g.inputs m x) number
                      (nodes-right g.inputs 0 g.nodes n x third there) in
                      (many, ltb-false 32 (length g.nodes) few, ltb-false 32 g.inputs low, each)
                ]
          ]
    ]

-- and that a flow which is so is well formed
pub well-formed_from : (g : Graph) → 1 ≤ length g.nodes → length g.nodes ≤ 32 → g.inputs ≤ 32
    → ((n : ℕ) (x : Node) → slice_get g.nodes n ≡ Some x → IsRightNode g.inputs n x)
    → is_well_formed g ≡ true
well-formed_from g some few low each =
    let numbered : (n : ℕ) (x : Node) → slice_get g.nodes n ≡ Some x → IsRightNode g.inputs (0 + n) x =
    λ n x there.
    let number : n ≡ 0 + n = omega arith in
    subst (λ (m : ℕ). IsRightNode g.inputs m x) number (each n x there) in
    rw (
      ne_eqb (length g.nodes) 0 (omega arith),
      le-ltb 32 (length g.nodes) few,
      le-ltb 32 g.inputs low,
      nodes-no_fault g.inputs 0 g.nodes numbered,
    ) refl

-- well-formed flows are those that keep the rules
pub well-formed_is_right : WellFormedFlowsAreRight
well-formed_is_right g =
    (well-formed_parts g, λ known. well-formed_from g known.0 known.1 known.2 known.3)

-- ---- outputs

-- the outputs so far are a first part of all, and there is one more for each node
outputs-begin : (base outputs : List Grid) (nodes : List Node)
    → (more : List Grid) × (outputs_from base outputs nodes ≡ outputs ++ more)
    × (length more ≡ length nodes)
outputs-begin base outputs [] = ([], sym (append-nil outputs), refl)
outputs-begin base outputs (x ∷ nodes) =
    let o = output_of x.op (map (array_of base outputs) x.from) in
    let rest = outputs-begin base (outputs ++ o ∷ []) nodes in
    (o ∷ rest.0, rest.1 ∙ append_assoc outputs (o ∷ []) rest.0, omega (arith, rest.2))

-- the output of a node over the outputs before it, and where it stands among all
outputs-at : (base outputs : List Grid) (nodes : List Node) (k : ℕ) (x : Node) → slice_get nodes k ≡ Some x
    → (front rest : List Grid) × (length front ≡ length outputs + k)
    × (outputs_from base outputs nodes ≡ front ++ output_of x.op (map (array_of base front) x.from) ∷ rest)
outputs-at base outputs [] k x there = (cc)
outputs-at base outputs (y ∷ nodes) zero x there =
    let same : y ≡ x = cc in
    let o = output_of y.op (map (array_of base outputs) y.from) in
    let begins = outputs-begin base (outputs ++ o ∷ []) nodes in
    let whole : outputs_from base outputs (y ∷ nodes) ≡ outputs ++ o ∷ begins.0 =
    begins.1 ∙ append_assoc outputs (o ∷ []) begins.0 in (
      outputs,
      begins.0,
      omega arith,
      whole ∙ ap (λ (z : Node). outputs ++ output_of z.op (map (array_of base outputs) z.from) ∷ begins.0) same,
    )
outputs-at base outputs (y ∷ nodes) (suc k) x there =
    let o = output_of y.op (map (array_of base outputs) y.from) in
    let rest = outputs-at base (outputs ++ o ∷ []) nodes k x there in
    (rest.0, rest.1, omega (arith, rest.2, length-append outputs (o ∷ [])), rest.3)

-- what a source stands for, among what there is for the base arrays and for the nodes
abbrev pub standing : {X : Type 0} → X → List X → List X → SourceRef → X
standing none base outputs (source.Input i) = unwrap_or (slice_get base i) none
standing none base outputs (source.Node m) = unwrap_or (slice_get outputs m) none

-- a source of a right node stands for the same among all outputs
pub standing-same : {X : Type 0} (none : X) (base front more : List X) (inputs n : ℕ) (s : SourceRef)
    → length front ≡ n → is_source inputs n s ≡ true
    → standing none base front s ≡ standing none base (front ++ more) s
standing-same {X} none base front more inputs n (source.Input i) long right = refl
standing-same {X} none base front more inputs n (source.Node m) long right =
    let below : m < n = ltb-true m n right in
    ap (λ (o : Option X). unwrap_or o none) (sym (slice_get-left front more m (omega arith)))

-- ---- the other laws

-- a flow has an output for each node
pub evaluations-length : EachNodeHasAnOutput
evaluations-length g base =
    let begins = outputs-begin base [] g.nodes in
    ap length begins.1 ∙ begins.2

-- the output of a node is that of its operator over the arrays of its sources
pub evaluations-at : OutputsAreThoseOfTheirNodes
evaluations-at g base n x well there =
    let right = (well-formed_parts g well).3 n x there in
    let parts = outputs-at base [] g.nodes n x there in
    let long : length parts.0 ≡ n = omega (arith, parts.2) in
    let alone = output_of x.op (map (array_of base parts.0) x.from) in
    let whole : evaluations g base ≡ parts.0 ++ alone ∷ parts.1 = parts.3 in
    let sources : map (array_of base parts.0) x.from ≡ map (array_of base (parts.0 ++ alone ∷ parts.1)) x.from =
    map-agree (array_of base parts.0) (array_of base (parts.0 ++ alone ∷ parts.1)) x.from
    (All-weaker (λ s. is_source g.inputs n s ≡ true)
    (λ s. array_of base parts.0 s ≡ array_of base (parts.0 ++ alone ∷ parts.1) s)
    (λ s one. standing-same no_grid base parts.0 (alone ∷ parts.1) g.inputs n s long one) x.from right.1) in
    ap (λ (os : List Grid). slice_get os n) whole
    ∙ slice_get-seam parts.0 alone parts.1 n long
    ∙ ap (λ (gs : List Grid). Some (output_of x.op gs)) sources
    ∙ ap (λ (os : List Grid). Some (output_of x.op (map (array_of base os) x.from))) (sym whole)
