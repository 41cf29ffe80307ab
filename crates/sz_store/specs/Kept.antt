-- The stores of a node: for each stored strategy of its list what is kept, and which pieces of its
-- output are placed. What each store stands for is read off what it keeps.
use Rattle.std.specs.Prelude.{◌≡◌, ℕ, List, [], ◌∷◌, ◌++◌, map, filter, Bool, true, false}
use Rattle.std.specs.Prelude.{not, ◌==◌, if◌then◌else◌, slice_index_or, replicate, slice_set, All}
use Rattle.std.specs.List.{find, list_all, position_or_len}
use Rattle.std.specs.Option.{option_map_or}
use Rattle.sz_cells.specs.declared.Cell.{Cell}
use Rattle.sz_spec.specs.declared.modes.Mode.{Mode}
use Rattle.sz_spec.specs.declared.modes.Mode.TheVariants as mode
use Rattle.sz_spec.specs.declared.modes.Strategy.{Strategy}
use Rattle.sz_spec.specs.declared.modes.Strategy.TheVariants as strategy
use Rattle.sz_spec.specs.Shapes.{Site}
use Rattle.sz_spec.specs.Modes.{mode_of, is_stored, number_of}
use Rattle.sz_spec.specs.Pieces.{pieces_of}
use Rattle.sz_frame.specs.Parts.{Pairing, Entry, Parts}
use Rattle.sz_frame.specs.Stands.{full_stands}
use Rattle.sz_frame.specs.Fits.{Measure, IsRegion, IsEntry, AreApart, needs}
use Rattle.sz_frame.specs.Images.{measure_of}
use Rattle.sz_payload.specs.Kept.{entries_stand, part_of}

-- what a store keeps: region pairs; or entries, for payload lineage, or where the flag is true for
-- composite lineage
pub data Holding : Type 0 where
  regions : List Pairing → Holding
  entries : Bool → List Entry → Holding

-- a strategy, and what the store for it keeps
pub record Keep : Type 0 where
  pub strategy : Strategy
  pub holding : Holding

-- the stores of a node: the operator at its shapes, the list of its strategies, for each piece of
-- the output whether it is placed, and the store of each stored strategy, in the list's order
pub record NodeLineage : Type 0 where
  pub site : Site
  pub list : List Strategy
  pub placed : List Bool
  pub stores : List Keep

-- what a store stands for
abbrev pub holding_stands : Site → Holding → ℕ → Cell → Cell → Bool
holding_stands s (regions rs) i o x = full_stands rs i o x
holding_stands s (entries comp es) i o x = entries_stand comp s es i o x

-- what the store of a mode keeps before anything is placed
abbrev pub nothing_for : Mode → Holding
nothing_for mode.Pay = entries false []
nothing_for mode.Comp = entries true []
nothing_for _ = regions []

abbrev pub empty_keep : Strategy → Keep
empty_keep t = record { strategy = t; holding = nothing_for (mode_of t) }

-- the strategies of a list that keep a store
abbrev pub stored_in : List Strategy → List Strategy
stored_in list = filter is_stored list

-- the stores of a node of which no piece is placed
abbrev pub no_lineage : Site → List Strategy → NodeLineage
no_lineage s list = record {
  site = s;
  list = list;
  placed = replicate (pieces_of s.out) false;
  stores = map empty_keep (stored_in list);
}

-- piece k is placed
abbrev pub is_placed : List Bool → ℕ → Bool
is_placed placed k = slice_index_or placed k false

-- a store with its part of a lineage more
abbrev pub with_part : Parts → Holding → Holding
with_part p (regions rs) = regions (rs ++ p.regions)
with_part p (entries comp es) = entries comp (es ++ part_of comp p)

abbrev pub keep_with : Parts → Keep → Keep
keep_with p f = record f { holding = with_part p f.holding }

-- the stores with a lineage more: each with its part, where its piece was not placed before
abbrev pub with_lineage : NodeLineage → Parts → NodeLineage
with_lineage s p = if is_placed s.placed p.piece then s else record s {
  placed = slice_set s.placed p.piece true;
  stores = map (keep_with p) s.stores;
}

-- the stores with these lineages more, one after the other
abbrev pub with_lineages : NodeLineage → List Parts → NodeLineage
with_lineages s [] = s
with_lineages s (p ∷ ps) = with_lineages (with_lineage s p) ps

-- every piece is placed
abbrev pub is_whole : NodeLineage → Bool
is_whole s = list_all (λ b. b) s.placed

-- the least piece that is not placed, or the number of pieces
abbrev pub missing : NodeLineage → ℕ
missing s = position_or_len not s.placed

-- the store at a place; behind the last one nothing is kept
abbrev pub keep_at : List Keep → ℕ → Keep
keep_at keeps place = slice_index_or keeps place (empty_keep strategy.Map)

-- what the store of a strategy keeps, the first one's where there are several
abbrev pub holding_for : Strategy → List Keep → Holding
holding_for t keeps = option_map_or (λ f. f.holding)
    (find (λ f. number_of f.strategy == number_of t) keeps) (regions [])

-- what a lineage of an operator between these shapes is measured by; no value of an input is asked
abbrev pub shapes_of : Site → Measure
shapes_of s = measure_of s []

-- entries for the cells of piece k, no cell in two of them
pub record AreEntriesOf (s : Site) (k : ℕ) (es : List Entry) : Type 0 where
  pub each : All (IsEntry (shapes_of s) k) es
  pub apart : AreApart es

-- a lineage's part for a mode is one of its piece
abbrev pub IsPartFor : Site → Parts → Mode → Type 0
IsPartFor s p mode.Full = All (IsRegion (shapes_of s) p.piece) p.regions
IsPartFor s p mode.Pay = AreEntriesOf s p.piece p.pays
IsPartFor s p mode.Comp = AreEntriesOf s p.piece p.comps
IsPartFor s p _ = Unit {0}

-- each part that a list needs is one of the lineage's piece
abbrev pub AreParts : Site → List Strategy → Parts → Type 0
AreParts s list p = (m : Mode) → needs list m ≡ true → IsPartFor s p m
