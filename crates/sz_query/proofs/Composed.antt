-- What follows of answers: they go down the path step by step, so each law is an induction on the views. By a view of
-- a node that is faithful, one step is the node's: its relation is the operator's over the node's inputs, between the
-- shapes of these and of the output. A store stands for that relation on cells of these shapes alone, and so its image
-- of a set of such cells is the relation's.
use Rattle.std.proofs.Common.{◌≡◌, ℕ, Bool, true, List, [], ◌∷◌, map, Some, None, refl, sym, ap, subst, ◌∙◌, arith}
use Rattle.std.specs.Prelude.{Option, option_map}
use Rattle.std.specs.List.{slice_get}
use Rattle.sz_cells.specs.declared.Cell.{Cell}
use Rattle.sz_cells.specs.Extent.{Extent, size_of, holds}
use Rattle.sz_cells.specs.Cells.{Cells, any_cell, has}
use Rattle.sz_cells.specs.Rising.{AreRising}
use Rattle.sz_cells.specs.SetBytes.{IsSetOf}
use Rattle.sz_cells.proofs.LawsOfSets.{sets-rising}
use Rattle.sz_spec.specs.declared.flow.Node.{Node}
use Rattle.sz_spec.specs.declared.modes.Dir.{Dir}
use Rattle.sz_spec.specs.declared.modes.Dir.TheVariants.{Back, Forward}
use Rattle.sz_spec.specs.declared.op.Op.{Op}
use Rattle.sz_spec.specs.Values.{Grid, extent_at, extents_of}
use Rattle.sz_spec.specs.Flows.{Graph, array_of}
use Rattle.sz_spec.specs.Lineage.{mapped, related, back, forward}
use Rattle.sz_spec.specs.Paths.{Step, inputs_of, extent_of, image}
use Rattle.sz_spec.specs.Shapes.{Site}
use Rattle.sz_spec.specs.Sides.{near_side, far_side, image_in}
use Rattle.sz_spec.proofs.Images.{back-ext, forward-ext}
use Rattle.sz_spec.proofs.PayloadLineage.{extent-of_input, related-mapped}
use Rattle.sz_frame.proofs.Added.{own-at}
use Rattle.sz_store.specs.Kept.{holding_for, holding_stands}
use Rattle.sz_query.specs.Views.{View, by_map, by_store, by_shelf, by_growth, by_trace, view_site, relation_of}
use Rattle.sz_query.specs.Views.{image_by}
use Rattle.sz_query.specs.Answers.{answered, IsStep, AreSteps}
use Rattle.sz_query.specs.Laws.{AnswersGoByParts, IsFaithful, IsOfNode, Asks, AskAlong, StepsHaveWhatViewsAsk}
use Rattle.sz_query.specs.Laws.{AnswersAreTheComposedRelation}

-- an answer by views in two parts
pub answers-parts : AnswersGoByParts
answers-parts dir [] more [] rest set same = refl
answers-parts dir [] more (i ∷ inputs) rest set same = absurd (omega (arith, same))
answers-parts dir (v ∷ views) more [] rest set same = absurd (omega (arith, same))
answers-parts dir (v ∷ views) more (i ∷ inputs) rest set same =
    answers-parts dir views more inputs rest (image_by dir v i set) (omega (arith, same))

-- ---- what views ask

-- the set to which a view takes a set is one of the shape to which its step leads
image-set : (dir : Dir) (v : View) (i : ℕ) (set : Cells)
    → IsSetOf (far_side dir (view_site v) i) (image_by dir v i set)
image-set Back v i set = record {
  extent = refl;
  rising = sets-rising (extent_at (view_site v).ins i) (λ x. any_cell (λ o. relation_of v i o x) set);
}
image-set Forward v i set = record {
  extent = refl;
  rising = sets-rising (view_site v).out (λ o. any_cell (λ x. relation_of v i o x) set);
}

-- a step that can be taken from a set has what its view asks
step-asked : (dir : Dir) (v : View) (i : ℕ) (set : Cells) → IsStep dir v i set.extent → IsSetOf set.extent set
    → Asks dir v i set
step-asked dir (by_map s) i set step is = tt
step-asked dir (by_store s kept t) i set step is = record {
  input = step.input;
  of_shape = subst (λ (e : Extent). IsSetOf e set) step.near is;
}
step-asked dir (by_shelf s z p t) i set step is = tt
step-asked dir (by_growth s own z p t) i set step is = tt
step-asked dir (by_trace s own) i set step is = tt

-- and so has each step of a path
pub steps-asked : StepsHaveWhatViewsAsk
steps-asked dir [] inputs set steps is = tt
steps-asked dir (v ∷ views) [] set steps is = tt
steps-asked dir (v ∷ views) (i ∷ inputs) set steps is =
    let next = image-set dir v i set in
    let to = image_by dir v i set in (
      step-asked dir v i set steps.0 is,
      steps-asked dir views inputs to (subst (λ (e : Extent). AreSteps dir views inputs e) (sym next.extent) steps.1)
          (subst (λ (e : Extent). IsSetOf e to) (sym next.extent) next),
    )

-- ---- one step

-- two relations that agree on all cells are one
same-relation : (r q : Cell → Cell → Bool) → ((o x : Cell) → r o x ≡ q o x) → r ≡ q
same-relation r q h = λ k. λ o x. h o x k

-- relations that agree on the cells of both shapes have one image of a set that the step can take
agreed-image : (dir : Dir) (s : Site) (i : ℕ) (r q : Cell → Cell → Bool) (set : Cells)
    → ((o x : Cell) → holds s.out o ≡ true → holds (extent_at s.ins i) x ≡ true → r o x ≡ q o x)
    → IsSetOf (near_side dir s i) set → image_in dir s i r set ≡ image_in dir s i q set
agreed-image Back s i r q set same is =
    let rises = subst (λ (e : Extent). AreRising 0 (size_of e) set.indexes) (sym is.extent) is.rising in
    let P : Cells → Type 0 = λ x. image_in Back s i r x ≡ image_in Back s i q x in
    subst P (sym (own-at set s.out is.extent rises)) (back-ext r q (extent_at s.ins i) s.out (has set) same)
agreed-image Forward s i r q set same is =
    let rises = subst (λ (e : Extent). AreRising 0 (size_of e) set.indexes) (sym is.extent) is.rising in
    let P : Cells → Type 0 = λ x. image_in Forward s i r x ≡ image_in Forward s i q x in
    subst P (sym (own-at set (extent_at s.ins i) is.extent rises))
    (forward-ext r q s.out (extent_at s.ins i) (has set) same)

-- the image by a faithful view, of a set as it asks for, is that under the relation
faithful : (dir : Dir) (v : View) (inputs : List Grid) (i : ℕ) (set : Cells) → (view_site v).ins ≡ extents_of inputs
    → IsFaithful v inputs → Asks dir v i set
    → image_by dir v i set ≡ image_in dir (view_site v) i (related (view_site v).op inputs i) set
faithful dir (by_map s) inputs i set ins told asked =
    ap (λ (r : Cell → Cell → Bool). image_in dir s i r set)
    (same-relation (mapped s.op s.ins i) (related s.op inputs i)
    (λ o x. ap (λ (shapes : List Extent). mapped s.op shapes i o x) ins ∙ sym (related-mapped s.op inputs i o x told)))
faithful dir (by_store s kept t) inputs i set ins told asked =
    agreed-image dir s i (holding_stands s (holding_for t kept.stores) i) (related s.op inputs i) set
    (λ o x out within. told i o x asked.input out within) asked.of_shape
faithful dir (by_shelf s z p t) inputs i set ins told asked =
    ap (λ (arrays : List Grid). image_in dir s i (related s.op arrays i) set) told
faithful dir (by_growth s own z p t) inputs i set ins told asked =
    ap (λ (arrays : List Grid). image_in dir s i (related s.op arrays i) set) told
faithful dir (by_trace s own) inputs i set ins told asked =
    ap (λ (arrays : List Grid). image_in dir s i (related s.op arrays i) set) told

-- the image under a relation, from the shapes of both sides
abbrev step_image : Dir → (Cell → Cell → Bool) → Extent → Extent → Cells → Cells
step_image Back relation ins out set = back relation ins set
step_image Forward relation ins out set = forward relation out set

-- the arrays of a node that is there
pub inputs-at : (flow : Graph) (base outputs : List Grid) (n : ℕ) (x : Node) → slice_get flow.nodes n ≡ Some x
    → inputs_of flow base outputs n ≡ map (array_of base outputs) x.from
inputs-at flow base outputs n x there = rw there refl

-- the image of one step of a flow, where the node is there
image-there : (dir : Dir) (flow : Graph) (base outputs : List Grid) (s : Step) (x : Node) (set : Cells)
    → slice_get flow.nodes s.node ≡ Some x → image dir flow base outputs s set
    ≡ step_image dir (related x.op (map (array_of base outputs) x.from) s.input)
    (extent_of (map (array_of base outputs) x.from) s.input) (extent_of outputs s.node) set
image-there Back flow base outputs s x set there =
    rw there (ap (λ (arrays : List Grid). step_image Back (related x.op arrays s.input) (extent_of arrays s.input)
    (extent_of outputs s.node) set) (inputs-at flow base outputs s.node x there))
image-there Forward flow base outputs s x set there =
    rw there (ap (λ (arrays : List Grid). step_image Forward (related x.op arrays s.input) (extent_of arrays s.input)
    (extent_of outputs s.node) set) (inputs-at flow base outputs s.node x there))

-- and by the arrays of the node
image-at : (dir : Dir) (flow : Graph) (base outputs : List Grid) (s : Step) (x : Node) (set : Cells)
    → slice_get flow.nodes s.node ≡ Some x → image dir flow base outputs s set
    ≡ step_image dir (related x.op (inputs_of flow base outputs s.node) s.input)
    (extent_of (inputs_of flow base outputs s.node) s.input) (extent_of outputs s.node) set
image-at dir flow base outputs s x set there =
    image-there dir flow base outputs s x set there
    ∙ ap (λ (arrays : List Grid). step_image dir (related x.op arrays s.input) (extent_of arrays s.input)
    (extent_of outputs s.node) set) (sym (inputs-at flow base outputs s.node x there))

-- the node that has an operator is there
pub node-there : (o : Option Node) (op : Op) → option_map (λ (x : Node). x.op) o ≡ Some op
    → (x : Node) × (o ≡ Some x) × (x.op ≡ op)
node-there None op h = cc
node-there (Some x) op h = (x, refl, cc)

-- the image under a relation, between the shapes of an operator
by-parts : (dir : Dir) (s : Site) (i : ℕ) (relation : Cell → Cell → Bool) (ins out : Extent) (set : Cells)
    → extent_at s.ins i ≡ ins → s.out ≡ out → image_in dir s i relation set ≡ step_image dir relation ins out set
by-parts Back s i relation ins out set shape leads = ap (λ (e : Extent). back relation e set) shape
by-parts Forward s i relation ins out set shape leads = ap (λ (e : Extent). forward relation e set) leads

-- by a view of a node, one step is the node's
step-composed : (dir : Dir) (flow : Graph) (base outputs : List Grid) (s : Step) (v : View) (set : Cells)
    → IsOfNode flow base outputs s.node v → Asks dir v s.input set
    → image_by dir v s.input set ≡ image dir flow base outputs s set
step-composed dir flow base outputs s v set seen asked =
    let inputs = inputs_of flow base outputs s.node in
    let there = node-there (slice_get flow.nodes s.node) (view_site v).op seen.op in
    let shape = ap (λ (shapes : List Extent). extent_at shapes s.input) seen.ins ∙ extent-of_input inputs s.input in
    faithful dir v inputs s.input set seen.ins seen.faithful asked
    ∙ ap (λ (op : Op). image_in dir (view_site v) s.input (related op inputs s.input) set) (sym there.2)
    ∙ by-parts dir (view_site v) s.input (related there.0.op inputs s.input) (extent_of inputs s.input)
    (extent_of outputs s.node) set shape seen.out
    ∙ sym (image-at dir flow base outputs s there.0 set there.1)

-- by views of a path's nodes, the answer is the composed relation
pub answers-composed : AnswersAreTheComposedRelation
answers-composed dir flow base outputs [] [] set seen asked = refl
answers-composed dir flow base outputs [] (v ∷ views) set seen asked = absurd seen
answers-composed dir flow base outputs (s ∷ path) [] set seen asked = absurd seen
answers-composed dir flow base outputs (s ∷ path) (v ∷ views) set seen asked =
    let here = step-composed dir flow base outputs s v set seen.0 asked.0 in
    let inputs = map (λ (t : Step). t.input) path in
    ap (λ (next : Cells). answered dir views inputs next) here
    ∙ answers-composed dir flow base outputs path views (image dir flow base outputs s set) seen.1
    (subst (λ (next : Cells). AskAlong dir views inputs next) here asked.1)
