-- What the stores of a shelf stand for while some pieces are placed and others are not.
use Rattle.std.specs.Prelude.{◌≡◌, ℕ, ◌/◌, List, map, Bool, true, false, All}
use Rattle.sz_cells.specs.declared.Cell.{Cell}
use Rattle.sz_cells.specs.Extent.{holds, index_of}
use Rattle.sz_spec.specs.Shapes.{Site}
use Rattle.sz_spec.specs.Lineage.{mapped}
use Rattle.sz_frame.specs.Fits.{StandsOn}
use Rattle.sz_frame.specs.Images.{measure_of}
use Rattle.sz_store.specs.Kept.{Holding, regions, entries, NodeLineage, holding_stands, stored_in}
use Rattle.sz_shelf.specs.Tags.{Tag}
use Rattle.sz_shelf.specs.Contents.{is_in}

-- what a store stands for on the cells of pieces that are not placed: nothing, or the composite
-- default
abbrev pub unplaced_stands : Site → Holding → ℕ → Cell → Cell → Bool
unplaced_stands s (regions rs) i o x = false
unplaced_stands s (entries false es) i o x = false
unplaced_stands s (entries true es) i o x = mapped s.op s.ins i o x

-- The stores of a node are of the tag's operator and list, and on each cell of a placed piece each
-- stands for exactly the tag's relation; on each other cell, a store of full or payload lineage
-- stands for nothing, and one of composite lineage for its default.
pub record StandsOnPlaced (t : Tag) (placed : List ℕ) (kept : NodeLineage) : Type 0 where
  pub site : kept.site ≡ t.site
  pub list : kept.list ≡ t.list
  pub stored : map (λ f. f.strategy) kept.stores ≡ stored_in t.list
  pub exact : (k : ℕ) → is_in placed k ≡ true
      → All (λ f. StandsOn (measure_of t.site t.inputs) k (holding_stands t.site f.holding))
      kept.stores
  pub nothing : (i : ℕ) (o x : Cell) → holds t.site.out o ≡ true
      → is_in placed (index_of t.site.out o / 64) ≡ false
      → All (λ f. holding_stands t.site f.holding i o x ≡ unplaced_stands t.site f.holding i o x)
      kept.stores
