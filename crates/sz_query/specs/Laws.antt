-- What a reader may take for granted of answers. Each law is proved of the definitions.
use Rattle.std.specs.Prelude.{◌≡◌, ℕ, ◌<◌, ◌≤◌, List, [], ◌∷◌, ◌++◌, map, length, Bool, true}
use Rattle.std.specs.Prelude.{false, Some, option_map}
use Rattle.std.specs.List.{All, AllZip, slice_get}
use Rattle.sz_cells.specs.Cells.{Cells}
use Rattle.sz_cells.specs.SetBytes.{IsSetOf}
use Rattle.sz_spec.specs.declared.flow.Node.{Node}
use Rattle.sz_spec.specs.declared.modes.Dir.{Dir}
use Rattle.sz_spec.specs.Values.{Grid, extents_of}
use Rattle.sz_spec.specs.Shapes.{Site}
use Rattle.sz_spec.specs.Sides.{near_side}
use Rattle.sz_spec.specs.Flows.{Graph}
use Rattle.sz_spec.specs.Modes.{has_mapping}
use Rattle.sz_spec.specs.Paths.{Step, are_joined, inputs_of, extent_of, start_extent, compose}
use Rattle.sz_frame.specs.Images.{measure_of}
use Rattle.sz_frame.specs.Laws.{IsTheRelation}
use Rattle.sz_store.specs.Kept.{holding_for, holding_stands}
use Rattle.sz_query.specs.Views.{View, by_map, by_store, by_shelf, by_growth, by_trace, view_site}
use Rattle.sz_query.specs.Views.{IsUsable, used_of, traced_by, most_traced_by, image_by}
use Rattle.sz_query.specs.Turns.{IsAsked}
use Rattle.sz_query.specs.Answers.{answered, AreSteps}

-- views taken in two parts: the set is taken along the first, and what that gives along the second
abbrev pub AnswersGoByParts : Type 0
AnswersGoByParts = (dir : Dir) (views more : List View) (inputs rest : List ℕ) (set : Cells)
    → length views ≡ length inputs
    → answered dir (views ++ more) (inputs ++ rest) set
    ≡ answered dir more rest (answered dir views inputs set)

-- what makes a view stand for the relation of its operator over these inputs: the operator has a
-- mapping, the store stands for exactly the relation, the shelf is for these arrays, or those that
-- are traced are these
abbrev pub IsFaithful : View → List Grid → Type 0
IsFaithful (by_map s) inputs = has_mapping s.op ≡ true
IsFaithful (by_store s kept t) inputs =
    IsTheRelation (measure_of s inputs) (holding_stands s (holding_for t kept.stores))
IsFaithful (by_shelf s z p t) inputs = p.tag.inputs ≡ inputs
IsFaithful (by_growth s own z p t) inputs = own ≡ inputs
IsFaithful (by_trace s own) inputs = own ≡ inputs

-- a view is one of a node of a flow, of which the base arrays and the outputs are given
pub record IsOfNode (flow : Graph) (base outputs : List Grid) (n : ℕ) (v : View) : Type 0 where
  pub op : option_map (λ (x : Node). x.op) (slice_get flow.nodes n) ≡ Some (view_site v).op
  pub ins : (view_site v).ins ≡ extents_of (inputs_of flow base outputs n)
  pub out : (view_site v).out ≡ extent_of outputs n
  pub faithful : IsFaithful v (inputs_of flow base outputs n)

-- each view is one of the node of the step at its place
abbrev pub AreOfPath : Graph → List Grid → List Grid → List Step → List View → Type 0
AreOfPath flow base outputs path views =
    AllZip (λ (s : Step) (v : View). IsOfNode flow base outputs s.node v) path views

-- a step over one of the operator's inputs takes this set: it is one of the shape from which that
-- step starts
pub record IsTaken (dir : Dir) (s : Site) (i : ℕ) (set : Cells) : Type 0 where
  pub input : i < length s.ins
  pub of_shape : IsSetOf (near_side dir s i) set

-- what a view asks of the set that it takes, so that it tells the relation of it: a store, which
-- stands for cells of its shapes alone, that a step can take the set; the others nothing
abbrev pub Asks : Dir → View → ℕ → Cells → Type 0
Asks dir (by_map s) i set = Unit {0}
Asks dir (by_store s kept t) i set = IsTaken dir s i set
Asks dir (by_shelf s z p t) i set = Unit {0}
Asks dir (by_growth s own z p t) i set = Unit {0}
Asks dir (by_trace s own) i set = Unit {0}

-- what each view asks of the set to which those before it take a set
abbrev pub AskAlong : Dir → List View → List ℕ → Cells → Type 0
AskAlong dir [] inputs set = Unit {0}
AskAlong dir (v ∷ views) [] set = Unit {0}
AskAlong dir (v ∷ views) (i ∷ inputs) set =
    Asks dir v i set × AskAlong dir views inputs (image_by dir v i set)

-- where steps can be taken from the shape of a set, each view has what it asks
abbrev pub StepsHaveWhatViewsAsk : Type 0
StepsHaveWhatViewsAsk = (dir : Dir) (views : List View) (inputs : List ℕ) (set : Cells)
    → AreSteps dir views inputs set.extent → IsSetOf set.extent set
    → AskAlong dir views inputs set

-- by views of a path's nodes, the answer is the composed relation along the path
abbrev pub AnswersAreTheComposedRelation : Type 0
AnswersAreTheComposedRelation = (dir : Dir) (flow : Graph) (base outputs : List Grid)
    (path : List Step) (views : List View) (set : Cells)
    → AreOfPath flow base outputs path views
    → AskAlong dir views (map (λ (s : Step). s.input) path) set
    → answered dir views (map (λ (s : Step). s.input) path) set
    ≡ compose dir flow base outputs path set

-- along a joined path of a flow, by views of its nodes that can be used, each step can be taken
-- from the shape to which the one before it leads, the first from that in which the path starts
abbrev pub JoinedPathsAreSteps : Type 0
JoinedPathsAreSteps = (dir : Dir) (flow : Graph) (base outputs : List Grid) (s : Step)
    (path : List Step) (views : List View)
    → are_joined dir flow (s ∷ path) ≡ true
    → AreOfPath flow base outputs (s ∷ path) views → All IsUsable views
    → AreSteps dir views (map (λ (t : Step). t.input) (s ∷ path))
    (start_extent dir flow base outputs s)

-- whether how a step goes is told only once it is taken
abbrev pub may_change : View → Bool
may_change (by_map s) = false
may_change (by_store s kept t) = false
may_change (by_shelf s z p t) = false
may_change (by_growth s own z p t) = true
may_change (by_trace s own) = false

-- A view that was asked stays one of its operator, which can be used where it could be and gives
-- each set its image as before. It tells no more cells as traced than it told and than might be;
-- and but for a view of a shelf that may grow, it tells the same.
pub record StaysAsked (v w : View) : Type 0 where
  pub site : view_site w ≡ view_site v
  pub ready : IsUsable v → IsUsable w
  pub image : (dir : Dir) (i : ℕ) (set : Cells) → image_by dir w i set ≡ image_by dir v i set
  pub most : traced_by w ≤ most_traced_by v
  pub fewer : traced_by w ≤ traced_by v
  pub traced : may_change v ≡ false → traced_by w ≡ traced_by v
  pub used : may_change v ≡ false → used_of w ≡ used_of v

-- so it is of every view
abbrev pub AskedViewsStay : Type 0
AskedViewsStay = (v w : View) → IsAsked v w → StaysAsked v w
