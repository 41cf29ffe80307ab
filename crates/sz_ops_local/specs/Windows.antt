-- Windows of a shape: rows and columns next to one another, each from the first to before the
-- second.
use Rattle.std.specs.Prelude.{◌≡◌, true, ℕ, ◌<◌, ◌≤◌, Bool, ◌&&◌, nat_le, nat_lt}
use Rattle.sz_cells.specs.declared.Cell.{Cell}
use Rattle.sz_cells.specs.Extent.{Extent, height_of, is_extent}
use Rattle.sz_spec.specs.Operators.Folds.{blocks_over}
use Rattle.sz_ops_local.specs.declared.window.Window.{Window}

-- the cell is of these rows and columns
abbrev pub is_between : ℕ → ℕ → ℕ → ℕ → Cell → Bool
is_between top bottom left right c =
    (nat_le top c.row && nat_lt c.row bottom) && (nat_le left c.col && nat_lt c.col right)

abbrev pub is_in : Window → Cell → Bool
is_in w c = is_between w.top w.bottom w.left w.right c

-- the window has a cell, and each of its cells is one of the shape
pub record IsWindow (e : Extent) (w : Window) : Type 0 where
  pub rows : w.top < w.bottom
  pub bottom : w.bottom ≤ e.rows
  pub cols : w.left < w.right
  pub right : w.right ≤ e.cols

-- both are shapes, and the second has a cell for each block of h rows and w columns of each layer
-- of the first
pub record IsBlocked (e out : Extent) (h w : ℕ) : Type 0 where
  pub right : is_extent e ≡ true
  pub made : is_extent out ≡ true
  pub tall : 0 < h
  pub wide : 0 < w
  pub layers : out.layers ≡ e.layers
  pub height : height_of out ≡ blocks_over (height_of e) h
  pub cols : out.cols ≡ blocks_over e.cols w
