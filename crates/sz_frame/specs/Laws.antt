-- What a reader may take for granted of lineages that fit, together those of all pieces stand for
-- exactly the relation. Each law is proved of the definitions.
use Rattle.std.specs.Prelude.{◌≡◌, ℕ, ◌+◌, ◌<◌, ◌≤◌, List, ◌++◌, length, Bool, true}
use Rattle.std.specs.List.{All, count_by, flat_map, range_with_len}
use Rattle.sz_cells.specs.declared.Cell.{Cell}
use Rattle.sz_cells.specs.Extent.{Extent, holds, is_extent}
use Rattle.sz_cells.specs.Cells.{Cells, has}
use Rattle.sz_spec.specs.declared.modes.Mode.TheVariants as mode
use Rattle.sz_spec.specs.declared.modes.Strategy.{Strategy}
use Rattle.sz_spec.specs.Values.{extent_at}
use Rattle.sz_spec.specs.Pieces.{pieces_of, is_in_piece}
use Rattle.sz_frame.specs.Parts.{Pairing, Entry, Parts}
use Rattle.sz_frame.specs.Stands.{set_of, full_stands, pay_stands, comp_stands}
use Rattle.sz_frame.specs.Fits.{Measure, Fits, needs}

-- what all pieces have, one after the other
abbrev pub of_all : {X : Type 0} → Measure → (ℕ → List X) → List X
of_all m part = flat_map part (range_with_len 0 (pieces_of m.out))

-- the lineage of each piece fits
abbrev pub EachFits : Measure → List Strategy → (ℕ → Parts) → Type 0
EachFits m list parts = (k : ℕ) → k < pieces_of m.out → Fits m list k (parts k)

-- a test of cells is the relation, on each output cell and each cell of an input
abbrev pub IsTheRelation : Measure → (ℕ → Cell → Cell → Bool) → Type 0
IsTheRelation m stands = (i : ℕ) (o x : Cell) → i < length m.ins → holds m.out o ≡ true
    → holds (extent_at m.ins i) x ≡ true → stands i o x ≡ m.relation i o x

abbrev pub RegionsOfAllPiecesAreTheRelation : Type 0
RegionsOfAllPiecesAreTheRelation = (m : Measure) (list : List Strategy) (parts : ℕ → Parts)
    → EachFits m list parts → needs list mode.Full ≡ true
    → IsTheRelation m (full_stands (of_all m (λ k. (parts k).regions)))

abbrev pub PayloadsOfAllPiecesAreTheRelation : Type 0
PayloadsOfAllPiecesAreTheRelation = (m : Measure) (list : List Strategy) (parts : ℕ → Parts)
    → EachFits m list parts → needs list mode.Pay ≡ true
    → IsTheRelation m (pay_stands m.kept (of_all m (λ k. (parts k).pays)))

abbrev pub OverridesOfAllPiecesAreTheRelation : Type 0
OverridesOfAllPiecesAreTheRelation = (m : Measure) (list : List Strategy) (parts : ℕ → Parts)
    → EachFits m list parts → needs list mode.Comp ≡ true
    → IsTheRelation m (comp_stands m.kept m.default (of_all m (λ k. (parts k).comps)))

-- A region pair that is kept: it has a set for each input, each set has the shape of its array, and
-- each of its output cells is related to every one of its input cells.
pub record IsOfTheRelation (m : Measure) (r : Pairing) : Type 0 where
  pub shape : r.out.extent ≡ m.out
  pub number : length r.ins ≡ length m.ins
  pub shapes : (i : ℕ) → i < length m.ins → (set_of r i).extent ≡ extent_at m.ins i
  pub related : (i : ℕ) (o x : Cell) → i < length m.ins → has r.out o ≡ true
      → has (set_of r i) x ≡ true → m.relation i o x ≡ true

-- An entry that is kept: its set has the output's shape, its payload is one of the operator's, so
-- that a mapper may be called with it, and by itself it stands for exactly the cells to which each
-- of its output cells is related.
pub record IsWholeEntry (m : Measure) (e : Entry) : Type 0 where
  pub shape : e.out.extent ≡ m.out
  pub lawful : m.is_payload e.payload ≡ true
  pub stands : (i : ℕ) (o x : Cell) → i < length m.ins → has e.out o ≡ true
      → holds (extent_at m.ins i) x ≡ true → m.kept e.payload i o x ≡ m.relation i o x

-- Whatever was asked for, what is kept of a piece that fits is right, entry by entry.
abbrev pub WhatIsKeptIsRight : Type 0
WhatIsKeptIsRight = (m : Measure) (list : List Strategy) (k : ℕ) (p : Parts) → Fits m list k p
    → All (IsOfTheRelation m) p.regions × All (IsWholeEntry m) (p.pays ++ p.comps)

-- Each output cell of a piece has one payload, where payloads are needed, and overrides the default
-- by one entry at most.
abbrev pub EachCellHasOnePayload : Type 0
EachCellHasOnePayload = (m : Measure) (list : List Strategy) (k : ℕ) (p : Parts) (o : Cell)
    → Fits m list k p → is_in_piece m.out k o ≡ true
    → (needs list mode.Pay ≡ true → count_by (λ e. has e.out o) p.pays ≡ 1)
    × (count_by (λ e. has e.out o) p.comps ≤ 1)
