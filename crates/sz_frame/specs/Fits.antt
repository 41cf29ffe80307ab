-- When the parts of a piece's lineage fit: on the piece's cells each part that is needed stands
-- for exactly the relation.
use Rattle.std.specs.Prelude.{◌≡◌, ℕ, ◌<◌, List, [], ◌∷◌, map, length, Bool, true, false}
use Rattle.std.specs.List.{list_any, All}
use Rattle.sz_cells.specs.declared.Cell.{Cell}
use Rattle.sz_cells.specs.Extent.{Extent, holds}
use Rattle.sz_cells.specs.Cells.{Cells, has}
use Rattle.sz_spec.specs.declared.modes.Mode.{Mode}
use Rattle.sz_spec.specs.declared.modes.Mode.TheVariants as mode
use Rattle.sz_spec.specs.declared.modes.Strategy.{Strategy}
use Rattle.sz_spec.specs.Modes.{mode_of}
use Rattle.sz_spec.specs.Values.{extent_at}
use Rattle.sz_spec.specs.Pieces.{is_in_piece}
use Rattle.sz_frame.specs.Parts.{Pairing, Entry, Parts}
use Rattle.sz_frame.specs.Stands.{full_stands, has_entry, pay_stands, comp_stands}

-- What a lineage is measured by: the shapes of an operator's inputs and output, its relation, what
-- a payload stands for, which payloads are the operator's, and the composite default.
pub record Measure : Type 0 where
  pub ins : List Extent
  pub out : Extent
  pub relation : ℕ → Cell → Cell → Bool
  pub kept : List ℕ → ℕ → Cell → Cell → Bool
  pub is_payload : List ℕ → Bool
  pub default : ℕ → Cell → Cell → Bool

-- an output set has the output's shape, and no cell outside the piece
pub record IsInside (m : Measure) (k : ℕ) (out : Cells) : Type 0 where
  pub shape : out.extent ≡ m.out
  pub inside : (o : Cell) → has out o ≡ true → is_in_piece m.out k o ≡ true

-- a region pair has sets of the shapes of the operator, and its output set is inside the piece
pub record IsRegion (m : Measure) (k : ℕ) (r : Pairing) : Type 0 where
  pub out : IsInside m k r.out
  pub ins : map (λ s. s.extent) r.ins ≡ m.ins

-- an entry's payload is one of the operator's, and its output set is inside the piece
pub record IsEntry (m : Measure) (k : ℕ) (e : Entry) : Type 0 where
  pub out : IsInside m k e.out
  pub payload : m.is_payload e.payload ≡ true

-- no output cell is in two of the entries
abbrev pub AreApart : List Entry → Type 0
AreApart [] = Unit {0}
AreApart (e ∷ entries) =
    ((o : Cell) → has e.out o ≡ true → has_entry entries o ≡ false) × AreApart entries

-- on each cell of the piece, a part stands for exactly the relation
abbrev pub StandsOn : Measure → ℕ → (ℕ → Cell → Cell → Bool) → Type 0
StandsOn m k stands = (i : ℕ) (o x : Cell) → i < length m.ins → is_in_piece m.out k o ≡ true
    → holds (extent_at m.ins i) x ≡ true → stands i o x ≡ m.relation i o x

pub record FitsFull (m : Measure) (k : ℕ) (regions : List Pairing) : Type 0 where
  pub each : All (IsRegion m k) regions
  pub stands : StandsOn m k (full_stands regions)

pub record FitsPay (m : Measure) (k : ℕ) (entries : List Entry) : Type 0 where
  pub each : All (IsEntry m k) entries
  pub apart : AreApart entries
  pub every : (o : Cell) → is_in_piece m.out k o ≡ true → has_entry entries o ≡ true
  pub stands : StandsOn m k (pay_stands m.kept entries)

pub record FitsComp (m : Measure) (k : ℕ) (entries : List Entry) : Type 0 where
  pub each : All (IsEntry m k) entries
  pub apart : AreApart entries
  pub stands : StandsOn m k (comp_stands m.kept m.default entries)

-- the list has a strategy of this mode, so the lineage needs the part for it
abbrev pub is_mode : Mode → Mode → Bool
is_mode mode.Full mode.Full = true
is_mode mode.Pay mode.Pay = true
is_mode mode.Comp mode.Comp = true
is_mode _ _ = false

abbrev pub needs : List Strategy → Mode → Bool
needs list m = list_any (λ s. is_mode m (mode_of s)) list

-- each part that the list needs fits piece k, and one that it does not need is empty
pub record Fits (m : Measure) (list : List Strategy) (k : ℕ) (p : Parts) : Type 0 where
  pub full : needs list mode.Full ≡ true → FitsFull m k p.regions
  pub pay : needs list mode.Pay ≡ true → FitsPay m k p.pays
  pub comp : needs list mode.Comp ≡ true → FitsComp m k p.comps
  pub no_full : needs list mode.Full ≡ false → p.regions ≡ []
  pub no_pay : needs list mode.Pay ≡ false → p.pays ≡ []
  pub no_comp : needs list mode.Comp ≡ false → p.comps ≡ []
