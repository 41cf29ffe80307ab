-- What entries stand for, worked row by row.
use Rattle.std.proofs.Common.{◌≡◌, ℕ, true, false, List, [], ◌∷◌, refl}
use Rattle.std.specs.Prelude.{pos}
use Rattle.sz_cells.specs.declared.Cell.{Cell}
use Rattle.sz_cells.specs.Extent.{flat}
use Rattle.sz_spec.specs.declared.op.Op.TheVariants.{Lookup, Regions, Clean}
use Rattle.sz_spec.specs.Payloads.{is_payload}
use Rattle.sz_spec.specs.Shapes.{Site}
use Rattle.sz_frame.specs.Parts.{Entry}
use Rattle.sz_payload.specs.Kept.{entries_stand}

-- a cell of the first row
abbrev at : ℕ → Cell
at col = record { row = 0; col = col }

-- an entry of these cells of a row of so many
abbrev entry : ℕ → List ℕ → List ℕ → Entry
entry cols indexes payload = record {
  out = record { extent = flat 1 cols; indexes = indexes };
  payload = payload;
}

-- ---- lookup from a row of two in a table of three: cell 0 names column 2

abbrev lookup : Site
lookup = record { op = Lookup; ins = flat 1 2 ∷ flat 1 3 ∷ []; out = flat 1 2 }

abbrev named : List Entry
named = entry 2 (0 ∷ []) (0 ∷ 0 ∷ 0 ∷ 2 ∷ []) ∷ []

pub lookup-named : entries_stand false lookup named 1 (at 0) (at 2) ≡ true
lookup-named = refl

pub lookup-other : entries_stand false lookup named 1 (at 0) (at 1) ≡ false
lookup-other = refl

pub lookup-own : entries_stand false lookup named 0 (at 0) (at 0) ≡ true
lookup-own = refl

-- a cell in no entry: nothing of payload lineage, and the same cell of composite lineage
pub lookup-none : entries_stand false lookup named 0 (at 1) (at 1) ≡ false
lookup-none = refl

pub lookup-default : entries_stand true lookup named 0 (at 1) (at 1) ≡ true
lookup-default = refl

pub lookup-default_table : entries_stand true lookup named 1 (at 1) (at 1) ≡ false
lookup-default_table = refl

-- column 3 is past the table
pub lookup-past : is_payload Lookup (flat 1 2 ∷ flat 1 3 ∷ []) (0 ∷ 0 ∷ 0 ∷ 3 ∷ []) ≡ false
lookup-past = refl

-- ---- connected regions in a row of three: cells 0 and 1 are one, and cell 2 is low

abbrev regions : Site
regions = record { op = Regions (pos 5); ins = flat 1 3 ∷ []; out = flat 1 3 }

abbrev first-two : List ℕ
first-two = 0 ∷ 0 ∷ 0 ∷ 1 ∷ 0 ∷ 0 ∷ 0 ∷ 0 ∷ 0 ∷ 0 ∷ 0 ∷ 1 ∷ []

abbrev areas : List Entry
areas = entry 3 (0 ∷ 1 ∷ []) first-two ∷ entry 3 (2 ∷ []) [] ∷ []

pub regions-both : entries_stand false regions areas 0 (at 1) (at 0) ≡ true
regions-both = refl

pub regions-apart : entries_stand false regions areas 0 (at 1) (at 2) ≡ false
regions-apart = refl

pub regions-low : entries_stand false regions areas 0 (at 2) (at 2) ≡ true
regions-low = refl

pub regions-low_other : entries_stand false regions areas 0 (at 2) (at 1) ≡ false
regions-low_other = refl

-- ---- cleaning in a row of four: cell 1 is hot

abbrev clean : Site
clean = record { op = Clean (pos 5); ins = flat 1 4 ∷ []; out = flat 1 4 }

abbrev hot : List Entry
hot = entry 4 (1 ∷ []) (1 ∷ []) ∷ []

pub clean-square : entries_stand true clean hot 0 (at 1) (at 2) ≡ true
clean-square = refl

pub clean-far : entries_stand true clean hot 0 (at 1) (at 3) ≡ false
clean-far = refl

pub clean-cold : entries_stand true clean hot 0 (at 3) (at 2) ≡ false
clean-cold = refl
