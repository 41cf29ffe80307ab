-- What payload entries of one operator are, and what a store of them stands for.
use Rattle.std.specs.Prelude.{◌≡◌, ℕ, List, Bool, true, if◌then◌else◌}
use Rattle.sz_cells.specs.declared.Cell.{Cell}
use Rattle.sz_cells.specs.Extent.{Extent}
use Rattle.sz_spec.specs.declared.op.Op.{Op}
use Rattle.sz_spec.specs.declared.op.Op.TheVariants.{Regions, Clean}
use Rattle.sz_spec.specs.Lineage.{mapped}
use Rattle.sz_spec.specs.Payloads.{is_payload, mapped_by_payload}
use Rattle.sz_spec.specs.Shapes.{Site}
use Rattle.sz_frame.specs.Parts.{Entry, Parts}
use Rattle.sz_frame.specs.Stands.{pay_stands, comp_stands}
use Rattle.sz_tables.specs.Stores.{Store}

-- the operator is that of connected regions, and that of cleaning
abbrev pub IsRegions : Op → Type 0
IsRegions (Regions t) = Unit {0}
IsRegions _ = ⊥

abbrev pub IsClean : Op → Type 0
IsClean (Clean t) = Unit {0}
IsClean _ = ⊥

-- the payload stands for the same cells of input i, whichever the output cell is
abbrev pub AreAlike : Op → List Extent → List ℕ → ℕ → Type 0
AreAlike op ins payload i = (o p x : Cell)
    → mapped_by_payload op ins payload i o x ≡ mapped_by_payload op ins payload i p x

-- an entry has a set of the output's shape, and its payload is one of the operator's
pub record IsEntryOf (s : Site) (e : Entry) : Type 0 where
  pub out : e.out.extent ≡ s.out
  pub payload : is_payload s.op s.ins e.payload ≡ true

-- the part of a piece's lineage that a store takes: the composite one, or that of payloads
abbrev pub part_of : Bool → Parts → List Entry
part_of comp p = if comp then p.comps else p.pays

-- What entries of an operator stand for: output cell o is related to cell x of input i. Where they
-- are composite lineage, a cell that is in none of them has the default.
abbrev pub entries_stand : Bool → Site → List Entry → ℕ → Cell → Cell → Bool
entries_stand comp s given i o x = if comp
    then comp_stands (mapped_by_payload s.op s.ins) (mapped s.op s.ins) given i o x
    else pay_stands (mapped_by_payload s.op s.ins) given i o x

-- what is seen of a store: whether it is one of composite lineage, and what it was given
pub record PayContents : Type 0 where
  pub comp : Bool
  pub store : Store Entry
