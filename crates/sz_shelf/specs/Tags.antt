-- What a shelf is for: its tag, and what stands for the tag's relation.
use Rattle.std.specs.Prelude.{◌≡◌, ℕ, List, map, Bool, true, All}
use Rattle.std.specs.List.{list_any}
use Rattle.sz_cells.specs.declared.Cell.{Cell}
use Rattle.sz_cells.specs.Cells.{Cells}
use Rattle.sz_spec.specs.declared.modes.Dir.{Dir}
use Rattle.sz_spec.specs.declared.modes.Strategy.{Strategy}
use Rattle.sz_spec.specs.Values.{Grid, extents_of}
use Rattle.sz_spec.specs.Shapes.{Site}
use Rattle.sz_spec.specs.Modes.{supports, is_stored}
use Rattle.sz_spec.specs.Lineage.{related}
use Rattle.sz_spec.specs.Sides.{image_in}
use Rattle.sz_spec.specs.Pieces.{pieces_of}
use Rattle.sz_frame.specs.Images.{measure_of}
use Rattle.sz_frame.specs.Laws.{IsTheRelation}
use Rattle.sz_store.specs.Kept.{NodeLineage, holding_stands, is_whole, stored_in}

-- the operator at its shapes, the arrays that it takes, and the list of its strategies
pub record Tag : Type 0 where
  pub site : Site
  pub inputs : List Grid
  pub list : List Strategy

-- the arrays have the operator's shapes, and the list is supported by it and has a stored strategy
pub record IsTag (t : Tag) : Type 0 where
  pub shapes : extents_of t.inputs ≡ t.site.ins
  pub supported : All (λ s. supports t.site.op s ≡ true) t.list
  pub stored : list_any is_stored t.list ≡ true

-- how many pieces the operator's output has
abbrev pub tag_pieces : Tag → ℕ
tag_pieces t = pieces_of t.site.out

-- output cell o is related to cell x of input i
abbrev pub tag_relation : Tag → ℕ → Cell → Cell → Bool
tag_relation t i o x = related t.site.op t.inputs i o x

-- the image of a set under the relation of an input
abbrev pub tag_image : Dir → Tag → ℕ → Cells → Cells
tag_image dir t i from = image_in dir t.site i (tag_relation t i) from

-- The stores of a node are the tag's: they are of its operator and list, one for each stored
-- strategy in the list's order, whole, and each of them stands for exactly its relation.
pub record StandsFor (t : Tag) (kept : NodeLineage) : Type 0 where
  pub site : kept.site ≡ t.site
  pub list : kept.list ≡ t.list
  pub stored : map (λ f. f.strategy) kept.stores ≡ stored_in t.list
  pub whole : is_whole kept ≡ true
  pub exact : All (λ f. IsTheRelation (measure_of t.site t.inputs)
      (holding_stands t.site f.holding)) kept.stores
