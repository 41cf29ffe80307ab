-- When the stores of one strategy of two nodes of one operator stand for the same.
use Rattle.std.specs.Prelude.{◌≡◌, ℕ, ◌<◌, List, length, true}
use Rattle.sz_cells.specs.declared.Cell.{Cell}
use Rattle.sz_cells.specs.Extent.{Extent, holds, cell_of}
use Rattle.sz_cells.specs.Cells.{Cells, no_cells, with_cell}
use Rattle.sz_spec.specs.declared.modes.Dir.{Dir}
use Rattle.sz_spec.specs.declared.modes.Strategy.{Strategy}
use Rattle.sz_spec.specs.Values.{extent_at}
use Rattle.sz_spec.specs.Shapes.{Site}
use Rattle.sz_spec.specs.Modes.{supports, is_listed, is_stored}
use Rattle.sz_spec.specs.Sides.{near_side, image_in}
use Rattle.sz_flow.specs.Executions.{Execution}
use Rattle.sz_store.specs.Kept.{Holding, NodeLineage, holding_stands}
use Rattle.sz_catalogue.specs.Rules.{is_list_for}
use Rattle.sz_recover.specs.declared.checking.Sides.{Sides}

-- a list for the operator that was executed
abbrev pub IsListAt : Execution → List Strategy → Type 0
IsListAt e list = is_list_for e.site.op list ≡ true

-- the stores of a node of this operator, of which one is the strategy's
pub record IsOneOf (t : Strategy) (s : Site) (kept : NodeLineage) : Type 0 where
  pub site : kept.site ≡ s
  pub listed : is_listed kept.list t ≡ true
  pub stored : is_stored t ≡ true
  pub supported : supports s.op t ≡ true

-- two stores of an operator stand for the same between the output and one input, and each
abbrev pub AgreeOn : Site → Holding → Holding → ℕ → Type 0
AgreeOn s a b i = (o x : Cell) → holds s.out o ≡ true → holds (extent_at s.ins i) x ≡ true
    → holding_stands s a i o x ≡ holding_stands s b i o x

abbrev pub AgreeOnEach : Site → Holding → Holding → Type 0
AgreeOnEach s a b = (i : ℕ) → i < length s.ins → AgreeOn s a b i

-- the set of the one cell of an index of a shape
abbrev pub one_cell : Extent → ℕ → Cells
one_cell e k = with_cell (no_cells e) (cell_of e k)

-- both give that set of the near side the same image
abbrev pub AgreeAt : Dir → Site → Holding → Holding → ℕ → ℕ → Type 0
AgreeAt dir s a b i k = let set = one_cell (near_side dir s i) k in
    image_in dir s i (holding_stands s a i) set ≡ image_in dir s i (holding_stands s b i) set

-- bitmaps of the two sides, of these shapes
pub record AreSides (near far : Extent) (x : Sides) : Type 0 where
  pub cell : x.cell.extent ≡ near
  pub left : x.left.extent ≡ far
  pub right : x.right.extent ≡ far
