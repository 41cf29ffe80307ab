-- The shapes of a flow's outputs, found from shapes, are those of the outputs.
--
-- The key idea: both go node by node over what stands so far, and the shapes so far are those of the outputs so
-- far. So the shapes of a node's inputs are those of the arrays that it takes, and its output has the shape that
-- its rule gives of them.
use Rattle.std.proofs.Common.{◌≡◌, ℕ, zero, suc, ◌+◌, ◌<◌, ◌≤◌, true, List, [], ◌∷◌, ◌++◌, map, Option, Some, None}
use Rattle.std.proofs.Common.{length, inl, inr, refl, sym, ap, ap₂, ◌∙◌, take, drop, get_or, arith, add-one}
use Rattle.std.proofs.Common.{length-append, All, subst, append-nil, append_assoc, option_and_then}
use Rattle.std.proofs.lemmas.Bool.Decides.{nat_tests}
use Rattle.std.proofs.lemmas.List.Elements.{All-weaker}
use Rattle.std.proofs.Math.Seq.{take-suc}
use Rattle.std.proofs.lemmas.List.{take-append-drop}
use Rattle.std.proofs.lemmas.List.Sums.{fold-append}
use Rattle.std.proofs.lemmas.Option.{slice_get-get_or}
use Rattle.sz_spec.specs.Flows.{is_well_formed, is_source}
use Rattle.sz_spec.specs.LawsFlows.{IsRightNode}
use Rattle.sz_spec.proofs.FlowOutputs.{well-formed_parts, map-agree, slice_get-seam, standing-same}
use Rattle.std.specs.Prelude.{◌⊎◌}
use Rattle.std.specs.Prelude.{Result, Ok, Err, fold, unwrap_or}
use Rattle.std.specs.List.{slice_get}
use Rattle.std.specs.Result.{result_unwrap_or, result_map_both}
use Rattle.std.proofs.lemmas.List.{map-append}
use Rattle.sz_cells.specs.Extent.{Extent}
use Rattle.sz_spec.specs.declared.flow.Node.{Node}
use Rattle.sz_spec.specs.declared.flow.SourceRef.{SourceRef}
use Rattle.sz_spec.specs.declared.flow.SourceRef.TheVariants as source
use Rattle.sz_spec.specs.declared.shapes.ShapeFault.{ShapeFault}
use Rattle.sz_spec.specs.Values.{Grid, no_extent, extent_at, extents_of}
use Rattle.sz_spec.specs.Shapes.{shape_of}
use Rattle.sz_spec.specs.Evaluation.{output_of}
use Rattle.sz_spec.specs.Flows.{Graph, array_of, outputs_from}
use Rattle.sz_spec.specs.FlowShapes.{source_shape, node_inputs, with_node, output_shapes}
use Rattle.sz_spec.specs.LawsFlows.{ShapesFoundAreThoseOfTheOutputs}
use Rattle.sz_spec.proofs.PayloadLineage.{extent-of_input}

-- a source has the shape of the array that it stands for
pub source-shape : (base outputs : List Grid) (s : SourceRef)
    → (array_of base outputs s).extent ≡ source_shape (extents_of base) (extents_of outputs) s
source-shape base outputs (source.Input i) = sym (extent-of_input base i)
source-shape base outputs (source.Node m) = sym (extent-of_input outputs m)

-- a node's inputs have the shapes of the arrays that it takes
pub inputs-shapes : (base outputs : List Grid) (from : List SourceRef)
    → extents_of (map (array_of base outputs) from) ≡ map (source_shape (extents_of base) (extents_of outputs)) from
inputs-shapes base outputs [] = refl
inputs-shapes base outputs (s ∷ from) =
    ap₂ (λ e es. e ∷ es) (source-shape base outputs s) (inputs-shapes base outputs from)

-- a fault stays one
pub faults-stay : (base : List Extent) (n : ℕ) (nodes : List Node) → fold (with_node base) (Err n) nodes ≡ Err n
faults-stay base n [] = refl
faults-stay base n (x ∷ nodes) = faults-stay base n nodes

-- a shape rule gives a shape or a fault
pub given-or_fault : (r : Result Extent ShapeFault)
    → ((e : Extent) × (r ≡ Ok e)) ⊎ ((f : ShapeFault) × (r ≡ Err f))
given-or_fault (Ok e) = inl (e, refl)
given-or_fault (Err f) = inr (f, refl)

-- the output of a node whose rule gives a shape has that shape, behind those so far
pub made-shape : (base outputs : List Grid) (x : Node) (e : Extent)
    → shape_of x.op (node_inputs (extents_of base) (extents_of outputs) x) ≡ Ok e
    → extents_of (outputs ++ output_of x.op (map (array_of base outputs) x.from) ∷ [])
    ≡ extents_of outputs ++ e ∷ []
made-shape base outputs x e rule =
    let made : Grid = output_of x.op (map (array_of base outputs) x.from) in
    let shape : made.extent ≡ e =
    ap (λ (es : List Extent). result_unwrap_or (shape_of x.op es) no_extent) (inputs-shapes base outputs x.from)
    ∙ ap (λ (r : Result Extent ShapeFault). result_unwrap_or r no_extent) rule in
    map-append (λ (g : Grid). g.extent) outputs (made ∷ [])
    ∙ ap (λ (e : Extent). extents_of outputs ++ e ∷ []) shape

-- node by node, from the same outputs so far
shapes-from : (base outputs : List Grid) (nodes : List Node) (shapes : List Extent)
    → fold (with_node (extents_of base)) (Ok (extents_of outputs)) nodes ≡ Ok shapes
    → extents_of (outputs_from base outputs nodes) ≡ shapes
shapes-from base outputs [] shapes h = (cc)
shapes-from base outputs (x ∷ nodes) shapes h =
    let next = λ (r : Result Extent ShapeFault).
    fold (with_node (extents_of base)) (result_map_both (λ e. extents_of outputs ++ e ∷ [])
    (λ fault. length (extents_of outputs)) r) nodes in
    elim (given-or_fault (shape_of x.op (node_inputs (extents_of base) (extents_of outputs) x))) [
      | inl given ↦
          let more = made-shape base outputs x given.0 given.1 in
          shapes-from base (outputs ++ output_of x.op (map (array_of base outputs) x.from) ∷ []) nodes shapes
          (ap (λ (es : List Extent). fold (with_node (extents_of base)) (Ok es) nodes) more
          ∙ sym (ap next given.1) ∙ h)
      | inr fault ↦
          let stays = faults-stay (extents_of base) (length (extents_of outputs)) nodes in
          let clash = sym stays ∙ sym (ap next fault.1) ∙ h in
          (cc)
    ]

pub shapes-found : ShapesFoundAreThoseOfTheOutputs
shapes-found g base shapes h = shapes-from base [] g.nodes shapes h

-- ---- shapes alone, node by node

-- a node of a well-formed flow keeps the rules
pub node-right : (g : Graph) (nodes : List Node) (n : ℕ) (x : Node) → is_well_formed g ≡ true → nodes ≡ g.nodes
    → n < length nodes → x ≡ get_or nodes n x → IsRightNode g.inputs n x
node-right g nodes n x right same below is =
    (well-formed_parts g right).3 n x
    (ap (λ (xs : List Node). slice_get xs n) (sym same) ∙ slice_get-get_or nodes n x below
    ∙ ap (λ (y : Node). Some y) (sym is))

-- the shapes that the nodes so far make
abbrev pub so_far : List Extent → List Node → ℕ → Result (List Extent) ℕ
so_far base nodes i = fold (with_node base) (Ok []) (take i nodes)

one-more : (base : List Extent) (nodes : List Node) (i : ℕ) (x : Node) → i < length nodes → x ≡ get_or nodes i x
    → so_far base nodes (i + 1) ≡ with_node base (so_far base nodes i) x
one-more base nodes i x below is =
    let taken : take (i + 1) nodes ≡ take i nodes ++ x ∷ [] =
    ap (λ (k : ℕ). take k nodes) (add-one i) ∙ take-suc nodes i x below
    ∙ ap (λ (y : Node). take i nodes ++ y ∷ []) (sym is) in
    ap (fold (with_node base) (Ok [])) taken ∙ fold-append (with_node base) (Ok []) (take i nodes) (x ∷ [])

-- a node whose rule gives a shape
pub node-fits : (base outputs : List Extent) (nodes : List Node) (i : ℕ) (x : Node) (e : Extent) → i < length nodes
    → x ≡ get_or nodes i x → so_far base nodes i ≡ Ok outputs → shape_of x.op (node_inputs base outputs x) ≡ Ok e
    → so_far base nodes (i + 1) ≡ Ok (outputs ++ e ∷ [])
node-fits base outputs nodes i x e below is far fits =
    one-more base nodes i x below is ∙ ap (λ (r : Result (List Extent) ℕ). with_node base r x) far
    ∙ ap (λ (r : Result Extent ShapeFault).
    result_map_both (λ (e : Extent). outputs ++ e ∷ []) (λ (fault : ShapeFault). length outputs) r) fits

-- a node whose rule is broken
pub node-breaks : (base outputs : List Extent) (nodes : List Node) (i : ℕ) (x : Node) (f : ShapeFault)
    → i < length nodes → x ≡ get_or nodes i x → so_far base nodes i ≡ Ok outputs → length outputs ≡ i
    → shape_of x.op (node_inputs base outputs x) ≡ Err f → fold (with_node base) (Ok []) nodes ≡ Err i
node-breaks base outputs nodes i x f below is far count breaks =
    let broken : so_far base nodes (i + 1) ≡ Err i =
    one-more base nodes i x below is ∙ ap (λ (r : Result (List Extent) ℕ). with_node base r x) far
    ∙ ap (λ (r : Result Extent ShapeFault).
    result_map_both (λ (e : Extent). outputs ++ e ∷ []) (λ (fault : ShapeFault). length outputs) r) breaks
    ∙ ap (λ (k : ℕ). Err k) count in
    ap (fold (with_node base) (Ok [])) (sym (take-append-drop (i + 1) nodes))
    ∙ fold-append (with_node base) (Ok []) (take (i + 1) nodes) (drop (i + 1) nodes)
    ∙ ap (λ (r : Result (List Extent) ℕ). fold (with_node base) r (drop (i + 1) nodes)) broken
    ∙ faults-stay base i (drop (i + 1) nodes)

length-from : (base outputs : List Extent) (nodes : List Node) (shapes : List Extent)
    → fold (with_node base) (Ok outputs) nodes ≡ Ok shapes → length shapes ≡ length outputs + length nodes
length-from base outputs [] shapes h =
    let same : outputs ≡ shapes = (cc) in omega (arith, ap length same)
length-from base outputs (x ∷ nodes) shapes h =
    let next = λ (r : Result Extent ShapeFault).
    fold (with_node base) (result_map_both (λ (e : Extent). outputs ++ e ∷ [])
    (λ (fault : ShapeFault). length outputs) r) nodes in
    elim (given-or_fault (shape_of x.op (node_inputs base outputs x))) [
      | inl given ↦
          let rest = length-from base (outputs ++ given.0 ∷ []) nodes shapes (sym (ap next given.1) ∙ h) in
          omega (arith, rest, length-append outputs (given.0 ∷ []))
      | inr fault ↦
          let stays = faults-stay base (length outputs) nodes in
          let clash = sym stays ∙ sym (ap next fault.1) ∙ h in
          (cc)
    ]

-- there is a shape for each node
pub outputs-length : (g : Graph) (base shapes : List Extent) → output_shapes g base ≡ Ok shapes
    → length shapes ≡ length g.nodes
outputs-length g base shapes h = omega (arith, length-from base [] g.nodes shapes h)

-- ---- nodes and their sources

-- a place that a list has
pub below : {X : Type 0} (xs : List X) (i : ℕ) (x : X) → slice_get xs i ≡ Some x → i < length xs
below [] i x h = (cc)
below (y ∷ xs) zero x h = omega arith
below (y ∷ xs) (suc i) x h = let rest : i < length xs = below xs i x h in omega (arith, rest)

-- what holds of all elements holds of the one at a place
pub each-at : {X : Type 0} (P : X → Type 0) (xs : List X) (i : ℕ) (x : X) → All P xs → slice_get xs i ≡ Some x → P x
each-at P [] i x all h = (cc)
each-at P (y ∷ xs) zero x all h = let same : y ≡ x = (cc) in subst P same (all 0 x (omega arith))
each-at P (y ∷ xs) (suc i) x all h = each-at P xs i x (λ k d lt. all (suc k) d (omega (arith, lt))) h

-- the shape at a place of a list that is made of another
pub mapped-at : {X : Type 0} (f : X → Extent) (xs : List X) (i : ℕ) (x : X) → slice_get xs i ≡ Some x
    → extent_at (map f xs) i ≡ f x
mapped-at f [] i x h = (cc)
mapped-at f (y ∷ xs) zero x h = let same : y ≡ x = (cc) in ap f same
mapped-at f (y ∷ xs) (suc i) x h = mapped-at f xs i x h

-- the node of a source
pub node-of : (o : Option Node) (i : ℕ) (src : SourceRef)
    → option_and_then (λ (x : Node). slice_get x.from i) o ≡ Some src
    → (x : Node) × (o ≡ Some x) × (slice_get x.from i ≡ Some src)
node-of None i src h = (cc)
node-of (Some x) i src h = (x, refl, h)

-- a source of a node is one of each later node
pub wider : (a b m n : ℕ) (src : SourceRef) → a ≡ b → m ≤ n → is_source a m src ≡ true → is_source b n src ≡ true
wider a b m n (source.Input i) same less h = rw (← same) h
wider a b m n (source.Node k) same less h = grind (arith, nat_tests)

-- ---- the shape of each node

-- where a node and others fit behind the shapes so far, its rule gives a shape, and the others fit behind it
pub node-made : (base outputs : List Extent) (x : Node) (nodes : List Node) (shapes : List Extent)
    → fold (with_node base) (Ok outputs) (x ∷ nodes) ≡ Ok shapes
    → (e : Extent) × (shape_of x.op (node_inputs base outputs x) ≡ Ok e)
    × (fold (with_node base) (Ok (outputs ++ e ∷ [])) nodes ≡ Ok shapes)
node-made base outputs x nodes shapes h =
    let next = λ (r : Result Extent ShapeFault).
    fold (with_node base) (result_map_both (λ (e : Extent). outputs ++ e ∷ [])
    (λ (fault : ShapeFault). length outputs) r) nodes in
    elim (given-or_fault (shape_of x.op (node_inputs base outputs x))) [
      | inl given ↦ (given.0, given.1, sym (ap next given.1) ∙ h)
      | inr fault ↦
          let stays = faults-stay base (length outputs) nodes in
          let clash = sym stays ∙ sym (ap next fault.1) ∙ h in
          (cc)
    ]

-- the shapes so far are a first part of all
shapes-begin : (base outputs : List Extent) (nodes : List Node) (shapes : List Extent)
    → fold (with_node base) (Ok outputs) nodes ≡ Ok shapes → (more : List Extent) × (shapes ≡ outputs ++ more)
shapes-begin base outputs [] shapes h =
    let same : outputs ≡ shapes = (cc) in ([], sym same ∙ sym (append-nil outputs))
shapes-begin base outputs (x ∷ nodes) shapes h =
    let made = node-made base outputs x nodes shapes h in
    let rest = shapes-begin base (outputs ++ made.0 ∷ []) nodes shapes made.2 in
    (made.0 ∷ rest.0, rest.1 ∙ append_assoc outputs (made.0 ∷ []) rest.0)

-- the rule of a node gives the shape of its output, of the shapes of its sources
shape-from : (base outputs : List Extent) (nodes : List Node) (shapes : List Extent) (inputs k n : ℕ) (x : Node)
    → fold (with_node base) (Ok outputs) nodes ≡ Ok shapes → slice_get nodes k ≡ Some x → length outputs + k ≡ n
    → All (λ s. is_source inputs n s ≡ true) x.from
    → shape_of x.op (node_inputs base shapes x) ≡ Ok (extent_at shapes n)
shape-from base outputs [] shapes inputs k n x h there at right = (cc)
shape-from base outputs (y ∷ nodes) shapes inputs zero n x h there at right =
    let made = node-made base outputs y nodes shapes h in
    let e = made.0 in
    let same : y ≡ x = (cc) in
    let begins = shapes-begin base (outputs ++ e ∷ []) nodes shapes made.2 in
    let whole : shapes ≡ outputs ++ e ∷ begins.0 = begins.1 ∙ append_assoc outputs (e ∷ []) begins.0 in
    let long : length outputs ≡ n = omega arith in
    let taken : node_inputs base outputs x ≡ node_inputs base (outputs ++ e ∷ begins.0) x =
    map-agree (source_shape base outputs) (source_shape base (outputs ++ e ∷ begins.0)) x.from
    (All-weaker (λ s. is_source inputs n s ≡ true)
    (λ s. source_shape base outputs s ≡ source_shape base (outputs ++ e ∷ begins.0) s)
    (λ s one. standing-same no_extent base outputs (e ∷ begins.0) inputs n s long one) x.from right) in
    ap (λ (es : List Extent). shape_of x.op (node_inputs base es x)) whole
    ∙ ap (shape_of x.op) (sym taken)
    ∙ ap (λ (z : Node). shape_of z.op (node_inputs base outputs z)) (sym same)
    ∙ made.1
    ∙ ap (λ (o : Option Extent). Ok (unwrap_or o no_extent)) (sym (slice_get-seam outputs e begins.0 n long))
    ∙ ap (λ (es : List Extent). Ok (extent_at es n)) (sym whole)
shape-from base outputs (y ∷ nodes) shapes inputs (suc k) n x h there at right =
    let made = node-made base outputs y nodes shapes h in
    shape-from base (outputs ++ made.0 ∷ []) nodes shapes inputs k n x made.2 there
    (omega (arith, at, length-append outputs (made.0 ∷ []))) right

pub shape-at : (g : Graph) (base shapes : List Extent) (n : ℕ) (x : Node) → is_well_formed g ≡ true
    → output_shapes g base ≡ Ok shapes → slice_get g.nodes n ≡ Some x
    → shape_of x.op (node_inputs base shapes x) ≡ Ok (extent_at shapes n)
shape-at g base shapes n x well h there =
    shape-from base [] g.nodes shapes g.inputs n n x h there (omega arith) ((well-formed_parts g well).3 n x there).1
