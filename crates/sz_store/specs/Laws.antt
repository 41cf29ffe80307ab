-- What a reader may take for granted of a node's stores. Each law is proved of the definitions.
use Rattle.std.specs.Prelude.{◌≡◌, ℕ, ◌+◌, ◌<◌, ◌==◌, List, ◌∷◌, ◌++◌, length, map, true, All}
use Rattle.std.specs.List.{list_any}
use Rattle.sz_spec.specs.declared.modes.Strategy.{Strategy}
use Rattle.sz_spec.specs.Values.{Grid}
use Rattle.sz_spec.specs.Shapes.{Site}
use Rattle.sz_spec.specs.Pieces.{pieces_of}
use Rattle.sz_frame.specs.Parts.{Parts}
use Rattle.sz_frame.specs.Fits.{Fits}
use Rattle.sz_frame.specs.Images.{measure_of}
use Rattle.sz_frame.specs.Laws.{IsTheRelation}
use Rattle.sz_region.specs.LawsStores.{AreRight}
use Rattle.sz_store.specs.Kept.{Keep, no_lineage, with_lineages, is_whole}
use Rattle.sz_store.specs.Kept.{holding_stands, AreParts}
use Rattle.sz_store.specs.Stocks.{IsOfItsMode}
use Rattle.sz_store.specs.Words.{AreWordsOf, BeginEach}

-- each lineage is one of a piece of the output, and fits it
abbrev pub AllFit : Site → List Grid → List Strategy → List Parts → Type 0
AllFit s inputs list ps =
    All (λ p. (p.piece < pieces_of s.out) × Fits (measure_of s inputs) list p.piece p) ps

-- each piece of the output has a lineage among them
abbrev pub HasEachPiece : Site → List Parts → Type 0
HasEachPiece s ps = (k : ℕ) → k < pieces_of s.out → list_any (λ p. p.piece == k) ps ≡ true

-- Where lineages of all pieces that fit are placed, in whichever order and however often, the
-- stores are whole, and each of them stands for exactly the relation.
abbrev pub PlacedPiecesMakeTheRelation : Type 0
PlacedPiecesMakeTheRelation = (s : Site) (inputs : List Grid) (list : List Strategy)
    (ps : List Parts) → AllFit s inputs list ps → HasEachPiece s ps
    → let kept = with_lineages (no_lineage s list) ps in (is_whole kept ≡ true)
    × All (λ f. IsTheRelation (measure_of s inputs) (holding_stands s f.holding)) kept.stores

-- At most one list of stores begins at a place of some bytes, and the last one ends at one place.
abbrev pub OneListOfStoresBegins : Type 0
OneListOfStoresBegins = (s : Site) (ts : List Strategy) (bytes : List ℕ) (at next other : ℕ)
    (a b : List Keep) → AreRight (s.out ∷ s.ins) → BeginEach s ts bytes at next a
    → BeginEach s ts bytes at other b → (a ≡ b) × (next ≡ other)

-- The words of some stores, each of which keeps what its strategy asks for, whatever stands before
-- and behind them, begin these stores and end behind them; and any reading of that place is this
-- one.
abbrev pub WrittenStoresAreRead : Type 0
WrittenStoresAreRead = (s : Site) (fs : List Keep) (before words rest : List ℕ)
    → AreRight (s.out ∷ s.ins) → All IsOfItsMode fs → AreWordsOf s fs words
    → let bytes = before ++ (words ++ rest) in let end = length before + length words in
    let ts = map (λ f. f.strategy) fs in BeginEach s ts bytes (length before) end fs
    × ((other : List Keep) (next : ℕ) → BeginEach s ts bytes (length before) next other
    → (other ≡ fs) × (next ≡ end))

-- A lineage that fits, whatever the values of the inputs, has the parts that a store asks for.
abbrev pub FittingLineagesCanBePlaced : Type 0
FittingLineagesCanBePlaced = (s : Site) (inputs : List Grid) (list : List Strategy) (p : Parts)
    → Fits (measure_of s inputs) list p.piece p → AreParts s list p
