-- Views of the nodes that a path goes through: how the lineage of each is looked at. A further kind
-- of view is a further line in each table.
use Rattle.std.specs.Prelude.{◌≡◌, ℕ, List, Bool, true, if◌then◌else◌}
use Rattle.std.specs.Arc.{arc_value}
use Rattle.sz_cells.specs.declared.Cell.{Cell}
use Rattle.sz_cells.specs.Extent.{size_of}
use Rattle.sz_cells.specs.Cells.{Cells}
use Rattle.sz_spec.specs.declared.modes.Dir.{Dir}
use Rattle.sz_spec.specs.declared.modes.Strategy.{Strategy}
use Rattle.sz_spec.specs.declared.modes.Strategy.TheVariants as strategy
use Rattle.sz_spec.specs.Values.{Grid, extents_of}
use Rattle.sz_spec.specs.Shapes.{Site}
use Rattle.sz_spec.specs.Lineage.{mapped, related}
use Rattle.sz_spec.specs.Sides.{image_in}
use Rattle.sz_spec.specs.Modes.{has_mapping, is_listed, is_stored}
use Rattle.sz_store.specs.Kept.{NodeLineage, is_whole, holding_for, holding_stands}
use Rattle.sz_shelf.specs.Places.{ShelfPlace}
use Rattle.sz_shelf.specs.Passes.{Onlooker, place_of}
use Rattle.sz_query.specs.declared.views.NodeView.{NodeView}
use Rattle.sz_query.specs.declared.views.NodeView.TheVariants.{Mapped, Stored, Kept, Building}
use Rattle.sz_query.specs.declared.views.NodeView.TheVariants.{Traced}
use Rattle.sz_query.specs.declared.used.Used.{Used}
use Rattle.sz_query.specs.declared.used.Used.TheVariants as used

-- an operator seen by its mapping, by the store of a strategy among its node's stores, by that
-- strategy's store on its shelf, once that is sealed, or while that is built up and it is at hand
-- with its inputs too, or at work over its inputs
pub data View : Type 0 where
  by_map : Site → View
  by_store : Site → NodeLineage → Strategy → View
  by_shelf : Site → ShelfPlace → Onlooker → Strategy → View
  by_growth : Site → List Grid → ShelfPlace → Onlooker → Strategy → View
  by_trace : Site → List Grid → View

-- what a view of the code stands for
abbrev pub view_of : NodeView → View
view_of (Mapped at) = by_map (arc_value at)
view_of (Stored at shelf pass s) = by_shelf (arc_value at) (arc_value shelf) pass s
view_of (Kept at store s) = by_store (arc_value at) (arc_value store) s
view_of (Building node pass s) = by_growth node.site node.inputs node.place pass s
view_of (Traced run) = by_trace (arc_value run.at) run.inputs

-- the operator, at its shapes
abbrev pub view_site : View → Site
view_site (by_map s) = s
view_site (by_store s kept t) = s
view_site (by_shelf s z p t) = s
view_site (by_growth s inputs z p t) = s
view_site (by_trace s inputs) = s

-- A strategy has a store to answer by among a node's stores: these are of this operator at these
-- shapes, each piece is placed in them, and the strategy is one of their list that keeps a store.
pub record HasStore (s : Site) (kept : NodeLineage) (t : Strategy) : Type 0 where
  pub site : kept.site ≡ s
  pub whole : is_whole kept ≡ true
  pub stored : is_stored t ≡ true
  pub listed : is_listed kept.list t ≡ true

-- A strategy's store can be looked at on a shelf that is sealed: the pass is one of this shelf,
-- which is of this operator at these shapes, the pass saw the seal, and the strategy is one of the
-- shelf's list that keeps a store.
pub record HasShelf (s : Site) (z : ShelfPlace) (p : Onlooker) (t : Strategy) : Type 0 where
  pub own : place_of p ≡ z
  pub site : p.tag.site ≡ s
  pub saw : p.saw ≡ true
  pub listed : is_listed p.tag.list t ≡ true
  pub stored : is_stored t ≡ true

-- The same of a shelf that may not be sealed yet, beside the arrays over which the operator is
-- traced until then: they are the shelf's own, of the operator's shapes.
pub record HasGrowth (s : Site) (arrays : List Grid) (z : ShelfPlace) (p : Onlooker) (t : Strategy)
    : Type 0 where
  pub own : place_of p ≡ z
  pub site : p.tag.site ≡ s
  pub inputs : p.tag.inputs ≡ arrays
  pub fits : extents_of arrays ≡ s.ins
  pub listed : is_listed p.tag.list t ≡ true
  pub stored : is_stored t ≡ true

-- what a view needs so that it can be used: an operator with a mapping, a whole store of it, a
-- sealed shelf of it, a shelf of it that may grow and its arrays, or arrays of its shapes
abbrev pub IsUsable : View → Type 0
IsUsable (by_map s) = has_mapping s.op ≡ true
IsUsable (by_store s kept t) = HasStore s kept t
IsUsable (by_shelf s z p t) = HasShelf s z p t
IsUsable (by_growth s inputs z p t) = HasGrowth s inputs z p t
IsUsable (by_trace s inputs) = extents_of inputs ≡ s.ins

-- output cell o is related to cell x of input i, as the view tells it
abbrev pub relation_of : View → ℕ → Cell → Cell → Bool
relation_of (by_map s) i o x = mapped s.op s.ins i o x
relation_of (by_store s kept t) i o x = holding_stands s (holding_for t kept.stores) i o x
relation_of (by_shelf s z p t) i o x = related s.op p.tag.inputs i o x
relation_of (by_growth s inputs z p t) i o x = related s.op inputs i o x
relation_of (by_trace s inputs) i o x = related s.op inputs i o x

-- How a step goes that uses the view. By a shelf that may grow it is told once the step is taken:
-- by the strategy where its pass then saw the seal, and else as traced.
abbrev pub used_of : View → Used
used_of (by_map s) = used.By strategy.Map
used_of (by_store s kept t) = used.By t
used_of (by_shelf s z p t) = used.By t
used_of (by_growth s inputs z p t) = if p.saw then used.By t else used.Traced
used_of (by_trace s inputs) = used.Traced

-- how many output cells are told as traced: all of a step by a trace
abbrev pub traced_by : View → ℕ
traced_by (by_map s) = 0
traced_by (by_store s kept t) = 0
traced_by (by_shelf s z p t) = 0
traced_by (by_growth s inputs z p t) = if p.saw then 0 else size_of s.out
traced_by (by_trace s inputs) = size_of s.out

-- how many may be, before the step is taken
abbrev pub most_traced_by : View → ℕ
most_traced_by (by_map s) = 0
most_traced_by (by_store s kept t) = 0
most_traced_by (by_shelf s z p t) = 0
most_traced_by (by_growth s inputs z p t) = size_of s.out
most_traced_by (by_trace s inputs) = size_of s.out

-- the image of a set under one step: by a view and one of its inputs
abbrev pub image_by : Dir → View → ℕ → Cells → Cells
image_by dir v i set = image_in dir (view_site v) i (relation_of v i) set
