-- Reading the body of a version over what is held, part by part: what each part is, and what is
-- said where it is not there.
use Rattle.std.specs.Prelude.{◌≡◌, ℕ, ◌≤◌, ◌<◌, ◌^◌, List, [], ◌∷◌, ◌++◌, map, length, true, false}
use Rattle.std.specs.Prelude.{◌&&◌, nat_le, Ok, Some, Option, option_map, is_none, All}
use Rattle.sz_cells.specs.SetBytes.{four_bytes}
use Rattle.sz_cells.specs.Extent.{Extent}
use Rattle.sz_spec.specs.declared.flow.Node.{Node}
use Rattle.sz_spec.specs.declared.modes.Strategy.{Strategy}
use Rattle.sz_spec.specs.Flows.{Graph}
use Rattle.sz_spec.specs.FlowShapes.{output_shapes}
use Rattle.sz_spec.specs.Modes.{number_of}
use Rattle.sz_spec.specs.Shapes.{Site}
use Rattle.sz_region.specs.Counted.{counted, IsAt}
use Rattle.sz_region.specs.Stores.{AreFew}
use Rattle.sz_store.specs.Kept.{NodeLineage, stored_in}
use Rattle.sz_formats.specs.Words.{BeginEachIn}
use Rattle.sz_script.specs.Names.{is_name}
use Rattle.sz_script.specs.declared.command.BaseName.{BaseName}
use Rattle.sz_catalogue.specs.Holdings.{Base, Version, Holdings, array_version, flow_named}
use Rattle.sz_catalogue.specs.Holdings.{shapes_of, cells_of}
use Rattle.sz_catalogue.specs.Rules as rules
pub use Rattle.sz_catalogue.specs.Sites.{site_over, IsFitting}
use Rattle.sz_bodies.specs.Bodies.{NodePart, VersionBody, name_bytes, base_bytes, list_bytes}
use Rattle.sz_bodies.specs.Fitting.{named_base}
use Rattle.sz_bodies.specs.Lawful.{IsLawful}
use Rattle.sz_bodies.specs.declared.reading.TakeFault.{TakeFault}
use Rattle.sz_bodies.specs.declared.reading.TakeFault.TheVariants.{Bad, NoMemory}

-- what a fault says: that there is no such part, or nothing where there was no memory
abbrev pub IfBad : TakeFault → Type 0 → Type 0
IfBad Bad None = None
IfBad NoMemory None = Unit {0}

-- ---- the whole

-- what is read: the version's number, the version, awaited, and its stores
pub record Taken : Type 0 where
  pub number : ℕ
  pub version : Version
  pub stores : List (Option NodeLineage)

-- the bytes are in the format the lawful body of no version
abbrev pub NoneIsLawful : ℕ → Holdings → List ℕ → Type 0
NoneIsLawful format c bytes = (b : VersionBody) → IsLawful format c b bytes → ⊥

-- ---- what stands before the nodes

abbrev pub IsAnyText : List ℕ → Type 0
IsAnyText text = Unit {0}

abbrev pub IsName : List ℕ → Type 0
IsName name = is_name name ≡ true

-- a number of four bytes, at least 1, under which no version is held
pub record IsNewNumber (c : Holdings) (n : ℕ) : Type 0 where
  pub small : n < 2 ^ 32
  pub new : nat_le 1 n && rules.has_no_version c n ≡ true

-- a name under which a flow is held
pub record IsHeldName (c : Holdings) (name : List ℕ) : Type 0 where
  pub right : IsName name
  pub held : rules.has_no_flow c name ≡ false

-- the name and the version of a base array that is held
pub record IsHeldBase (c : Holdings) (b : BaseName) : Type 0 where
  pub name : IsName b.name
  pub version : b.version < 2 ^ 32
  pub held : is_none (array_version c b.name b.version) ≡ false

-- what a body says before its nodes, with how many these are
pub record Said : Type 0 where
  pub number : ℕ
  pub flow_name : List ℕ
  pub base : List BaseName
  pub count : ℕ

abbrev pub said_bytes : Said → List ℕ
said_bytes h = four_bytes h.number ++ (name_bytes h.flow_name ++ (counted base_bytes h.base
    ++ four_bytes h.count))

-- what it says is held, under a number that is new
pub record IsHeldHead (c : Holdings) (h : Said) : Type 0 where
  pub number : IsNewNumber c h.number
  pub flow : IsHeldName c h.flow_name
  pub bases : AreFew (IsHeldBase c) h.base
  pub count : h.count < 2 ^ 32

-- ---- what is held under it

-- what stands before the nodes, and the flow and the arrays that are held under the names there
pub record Begun : Type 0 where
  pub number : ℕ
  pub flow_name : List ℕ
  pub flow : Graph
  pub base : List Base
  pub count : ℕ

abbrev pub said_in : Begun → Said
said_in h = record {
  number = h.number;
  flow_name = h.flow_name;
  base = map named_base h.base;
  count = h.count;
}

-- the flow that is held under a name
pub record IsFlowOf (c : Holdings) (name : List ℕ) (flow : Graph) : Type 0 where
  pub right : IsName name
  pub held : option_map (λ w. w.graph) (flow_named c name) ≡ Some flow

-- a base array as it is held
pub record IsArray (c : Holdings) (b : Base) : Type 0 where
  pub name : IsName b.name
  pub version : b.version < 2 ^ 32
  pub held : array_version c b.name b.version ≡ Some b.array

abbrev pub AreArrays : Holdings → List Base → Type 0
AreArrays c base = All (IsArray c) base

-- the number is new, and the flow and each array are those that are held
pub record IsBegun (c : Holdings) (h : Begun) : Type 0 where
  pub number : IsNewNumber c h.number
  pub flow : IsFlowOf c h.flow_name h.flow
  pub bases : AreArrays c h.base
  pub few : length h.base < 2 ^ 32
  pub count : h.count < 2 ^ 32

-- ---- shapes

-- there are as many base arrays as the flow takes and as many nodes as it has, the shapes of the
-- outputs are these, and there is room for their cells
pub record FitShapes (c : Holdings) (h : Begun) (outs : List Extent) : Type 0 where
  pub inputs : length h.base ≡ h.flow.inputs
  pub nodes : h.count ≡ length h.flow.nodes
  pub fits : output_shapes h.flow (shapes_of h.base) ≡ Ok outs
  pub room : rules.has_room c (cells_of outs) ≡ true

abbrev pub NoShapesFit : Holdings → Begun → Type 0
NoShapesFit c h = (outs : List Extent) → FitShapes c h outs → ⊥

-- ---- the nodes

abbrev pub IsShortList : List Strategy → Type 0
IsShortList list = length list < 256

-- some number is that of no strategy
abbrev pub NumberNone : List ℕ → Type 0
NumberNone numbers = (list : List Strategy) → map number_of list ≡ numbers → ⊥

-- a node stands at a place and ends before another: a list for its operator, and its stores in the
-- bytes of a format
pub record IsNodeAt (format : ℕ) (s : Site) (bytes : List ℕ) (at next : ℕ) (x : NodePart)
    : Type 0 where
  pub right : rules.is_list_for s.op x.list ≡ true
  pub mid : ℕ
  pub here : IsAt bytes at mid (list_bytes x.list)
  pub within : next ≤ length bytes
  pub stores : BeginEachIn format s (stored_in x.list) bytes mid next x.stores

abbrev pub NoNodeAt : ℕ → Site → List ℕ → ℕ → Type 0
NoNodeAt format s bytes at = (next : ℕ) (x : NodePart) → IsNodeAt format s bytes at next x → ⊥

-- no other node stands there
abbrev pub IsOnlyNode : ℕ → Site → List ℕ → ℕ → ℕ → NodePart → Type 0
IsOnlyNode format s bytes at next x = (other : ℕ) (y : NodePart)
    → IsNodeAt format s bytes at other y → (y ≡ x) × (other ≡ next)

-- nodes stand one where the one before it ends
abbrev pub AreNodesAt : ℕ → List Extent → List Extent → List Node → List ℕ → ℕ → ℕ → List NodePart
    → Type 0
AreNodesAt format base outs [] bytes at next [] = next ≡ at
AreNodesAt format base outs (n ∷ nodes) bytes at next (x ∷ xs) = (place : ℕ)
    × IsNodeAt format (site_over base outs n) bytes at place x
    × AreNodesAt format base outs nodes bytes place next xs
AreNodesAt format _ _ _ _ _ _ _ = ⊥

abbrev pub NoNodesAt : ℕ → List Extent → List Extent → List Node → List ℕ → ℕ → Type 0
NoNodesAt format base outs nodes bytes at = (next : ℕ) (xs : List NodePart)
    → AreNodesAt format base outs nodes bytes at next xs → ⊥

abbrev pub AreOnlyNodes : ℕ → List Extent → List Extent → List Node → List ℕ → ℕ → ℕ → List NodePart
    → Type 0
AreOnlyNodes format base outs nodes bytes at next xs = (other : ℕ) (ys : List NodePart)
    → AreNodesAt format base outs nodes bytes at other ys → (ys ≡ xs) × (other ≡ next)
