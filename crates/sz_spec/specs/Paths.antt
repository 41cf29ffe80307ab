-- Paths through a flow, and the composition of lineage along them.
use Rattle.std.specs.Prelude.{ℕ, List, [], ◌∷◌, map, length, Bool, true, false, ◌&&◌, ◌==◌, nat_lt}
use Rattle.std.specs.Prelude.{nat_le, Option, Some, None, unwrap_or, option_map, option_and_then}
use Rattle.std.specs.List.{slice_get}
use Rattle.sz_cells.specs.Extent.{Extent}
use Rattle.sz_cells.specs.Cells.{Cells}
use Rattle.sz_spec.specs.declared.modes.Dir.{Dir}
use Rattle.sz_spec.specs.declared.modes.Dir.TheVariants.{Back, Forward}
use Rattle.sz_spec.specs.Values.{Grid, no_grid}
use Rattle.sz_spec.specs.declared.flow.Node.{Node}
use Rattle.sz_spec.specs.declared.flow.SourceRef.{SourceRef}
use Rattle.sz_spec.specs.declared.flow.SourceRef.TheVariants as source
use Rattle.sz_spec.specs.Flows.{Graph, array_of}
use Rattle.sz_spec.specs.Lineage.{related, back, forward}

-- one step of a path: a node, and the number of one of its inputs
pub record Step : Type 0 where
  pub node : ℕ
  pub input : ℕ

-- where a step's input comes from, if the flow has the node and the node the input
abbrev pub source_of : Graph → Step → Option SourceRef
source_of flow s =
    option_and_then (λ (x : Node). slice_get x.from s.input) (slice_get flow.nodes s.node)

-- a source is the output of this node
abbrev pub is_output_of : ℕ → Option SourceRef → Bool
is_output_of n None = false
is_output_of n (Some (source.Input i)) = false
is_output_of n (Some (source.Node m)) = m == n

abbrev pub is_there : Option SourceRef → Bool
is_there None = false
is_there (Some s) = true

-- a step follows another: backward, the first one's input comes from the second one's node;
-- forward, the other way round
abbrev pub follows : Dir → Graph → Step → Step → Bool
follows Back flow s t = is_output_of t.node (source_of flow s)
follows Forward flow s t = is_output_of s.node (source_of flow t)

-- each step is of the flow, and follows the one before it
abbrev pub are_joined : Dir → Graph → List Step → Bool
are_joined dir flow [] = true
are_joined dir flow (s ∷ []) = is_there (source_of flow s)
are_joined dir flow (s ∷ t ∷ path) =
    is_there (source_of flow s) && follows dir flow s t && are_joined dir flow (t ∷ path)

-- a path of 1 to 32 joined steps
abbrev pub is_joined : Dir → Graph → List Step → Bool
is_joined dir flow path =
    nat_lt 0 (length path) && nat_le (length path) 32 && are_joined dir flow path

-- the arrays that a node takes
abbrev pub inputs_of : Graph → List Grid → List Grid → ℕ → List Grid
inputs_of flow base outputs n =
    let arrays = λ (x : Node). map (array_of base outputs) x.from in
    unwrap_or (option_map arrays (slice_get flow.nodes n)) []

-- the shape of a node's output
abbrev pub extent_of : List Grid → ℕ → Extent
extent_of arrays n = (unwrap_or (slice_get arrays n) no_grid).extent

-- the image of a set under one step
abbrev pub image : Dir → Graph → List Grid → List Grid → Step → Cells → Cells
image dir flow base outputs s set = image_of dir (slice_get flow.nodes s.node) where
  image_of : Dir → Option Node → Cells
  image_of Back (Some x) = let inputs = inputs_of flow base outputs s.node in
      back (related x.op inputs s.input) (extent_of inputs s.input) set
  image_of Forward (Some x) = let inputs = inputs_of flow base outputs s.node in
      forward (related x.op inputs s.input) (extent_of outputs s.node) set
  image_of _ None = set

-- the composed relation: a set taken through the image of each step, one after the other
abbrev pub compose : Dir → Graph → List Grid → List Grid → List Step → Cells → Cells
compose dir flow base outputs [] set = set
compose dir flow base outputs (s ∷ path) set =
    compose dir flow base outputs path (image dir flow base outputs s set)

-- the shape in which a path starts: backward, of the first node's output; forward, of its named
-- input
abbrev pub start_extent : Dir → Graph → List Grid → List Grid → Step → Extent
start_extent Back flow base outputs s = extent_of outputs s.node
start_extent Forward flow base outputs s = extent_of (inputs_of flow base outputs s.node) s.input
