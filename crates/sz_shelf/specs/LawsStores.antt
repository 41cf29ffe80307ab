-- What a reader may take for granted of the stores of a tag. Each law is proved of the definitions.
use Rattle.std.specs.Prelude.{◌≡◌, ℕ, ◌<◌, List, map, length, true, None}
use Rattle.sz_cells.specs.Cells.{Cells, cells_where, has}
use Rattle.sz_spec.specs.declared.modes.Dir.{Dir}
use Rattle.sz_spec.specs.declared.modes.Strategy.{Strategy}
use Rattle.sz_spec.specs.Modes.{is_listed, is_stored}
use Rattle.sz_spec.specs.Sides.{near_side, image_in}
use Rattle.sz_frame.specs.Parts.{Parts}
use Rattle.sz_frame.specs.Images.{measure_of}
use Rattle.sz_frame.specs.Laws.{IsTheRelation}
use Rattle.sz_store.specs.Kept.{NodeLineage, no_lineage, with_lineages, holding_for, holding_stands}
use Rattle.sz_store.specs.Needed.{AllFitAsNeeded}
use Rattle.sz_shelf.specs.Tags.{Tag, StandsFor, tag_pieces, tag_image}
use Rattle.sz_shelf.specs.Contents.{missing_in}
use Rattle.sz_shelf.specs.Placed.{StandsOnPlaced}

-- Lineages of which the parts that the list needs fit, placed one after another, stand for exactly
-- the relation on the cells of their pieces, and elsewhere for nothing or the composite default.
abbrev pub LineagesStandOnTheirPieces : Type 0
LineagesStandOnTheirPieces = (t : Tag) (ps : List Parts)
    → AllFitAsNeeded t.site t.inputs t.list ps
    → StandsOnPlaced t (map (λ p. p.piece) ps) (with_lineages (no_lineage t.site t.list) ps)

-- Where no piece is missing among them, the stores are whole and stand for all of the relation.
abbrev pub LineagesOfAllPiecesStandForTheTag : Type 0
LineagesOfAllPiecesStandForTheTag = (t : Tag) (ps : List Parts)
    → AllFitAsNeeded t.site t.inputs t.list ps
    → missing_in (tag_pieces t) (map (λ p. p.piece) ps) ≡ None
    → StandsFor t (with_lineages (no_lineage t.site t.list) ps)

-- Stores that stand for a tag do so on placed pieces too, once every piece is placed.
abbrev pub WholeStoresStandOnPlacedPieces : Type 0
WholeStoresStandOnPlacedPieces = (t : Tag) (placed : List ℕ) (kept : NodeLineage)
    → missing_in (tag_pieces t) placed ≡ None → StandsFor t kept → StandsOnPlaced t placed kept

-- Of stores that stand for a tag, the one of a stored strategy of its list stands for the relation.
abbrev pub EachStrategyStandsForTheTag : Type 0
EachStrategyStandsForTheTag = (t : Tag) (kept : NodeLineage) (u : Strategy) → StandsFor t kept
    → is_listed t.list u ≡ true → is_stored u ≡ true
    → IsTheRelation (measure_of t.site t.inputs) (holding_stands t.site (holding_for u kept.stores))

-- So its image of a set is the image under the tag's relation.
abbrev pub ImagesByStoresAreTheTags : Type 0
ImagesByStoresAreTheTags = (t : Tag) (kept : NodeLineage) (u : Strategy) (dir : Dir) (i : ℕ)
    (from : Cells) → StandsFor t kept → is_listed t.list u ≡ true → is_stored u ≡ true
    → i < length t.site.ins → from ≡ cells_where from.extent (has from)
    → from.extent ≡ near_side dir t.site i
    → image_in dir kept.site i (holding_stands kept.site (holding_for u kept.stores) i) from
    ≡ tag_image dir t i from
