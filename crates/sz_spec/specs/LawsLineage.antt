-- What a reader may take for granted of mappings, payloads and composite defaults. Each law is
-- proved of the definitions.
use Rattle.std.specs.Prelude.{◌≡◌, ℕ, ◌<◌, List, true, false}
use Rattle.sz_cells.specs.declared.Cell.{Cell}
use Rattle.sz_spec.specs.declared.op.Op.{Op}
use Rattle.sz_spec.specs.Values.{Grid, extents_of}
use Rattle.sz_spec.specs.Shapes.{Site, arity}
use Rattle.sz_spec.specs.Lineage.{mapped, related}
use Rattle.sz_spec.specs.Modes.{has_mapping}
use Rattle.sz_spec.specs.Payloads.{is_payload, mapped_by_payload, payload_of, overrides}
use Rattle.sz_spec.specs.Work.{IsAtWork}

-- a cell is related to cells of the operator's inputs alone
abbrev pub RelatedCellsAreOfInputs : Type 0
RelatedCellsAreOfInputs = (op : Op) (inputs : List Grid) (i : ℕ) (o x : Cell)
    → related op inputs i o x ≡ true → i < arity op

-- the relation of an operator that supports Map is its mapping of cells
abbrev pub MappingsAreTheRelation : Type 0
MappingsAreTheRelation = (op : Op) (inputs : List Grid) (i : ℕ) (o x : Cell) → has_mapping op ≡ true
    → related op inputs i o x ≡ mapped op (extents_of inputs) i o x

-- the payload that is kept for a cell is one of the operator's
abbrev pub PayloadsAreLawful : Type 0
PayloadsAreLawful = (s : Site) (inputs : List Grid) (o : Cell) → IsAtWork s inputs
    → has_mapping s.op ≡ false
    → is_payload s.op s.ins (payload_of s.op inputs o) ≡ true

-- it stands for exactly the cells to which the cell is related
abbrev pub PayloadsAreTheRelation : Type 0
PayloadsAreTheRelation = (s : Site) (inputs : List Grid) (i : ℕ) (o x : Cell) → IsAtWork s inputs
    → has_mapping s.op ≡ false
    → mapped_by_payload s.op s.ins (payload_of s.op inputs o) i o x ≡ related s.op inputs i o x

-- of a cell for which a composite store keeps no entry, the relation is the default
abbrev pub DefaultsAreTheRelation : Type 0
DefaultsAreTheRelation = (s : Site) (inputs : List Grid) (i : ℕ) (o x : Cell) → IsAtWork s inputs
    → overrides s.op inputs o ≡ false → related s.op inputs i o x ≡ mapped s.op s.ins i o x
