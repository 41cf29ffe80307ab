-- What becomes of a pass and of a tally where a piece is made and placed, or refused for memory.
use Rattle.std.specs.Prelude.{◌≡◌, ℕ, ◌+◌, ◌≤◌, true}
use Rattle.sz_cells.specs.Extent.{Extent}
use Rattle.sz_frame.specs.Written.{cells_in_piece}
use Rattle.sz_shelf.specs.Contents.{is_in}
use Rattle.sz_shelf.specs.Passes.{Onlooker}
use Rattle.sz_pool.specs.Growing.{Grows}

-- the pass took one turn and has seen the piece, and the cells of the piece were counted
pub record IsPlaced (out : Extent) (k : ℕ) (p q : Onlooker) (t u : ℕ) : Type 0 where
  pub grows : Grows p q
  pub turns : q.turns ≡ p.turns + 1
  pub seen : is_in q.seen k ≡ true
  pub ticks : u ≡ t + cells_in_piece out k

-- the pass may have taken a turn, and the cells of the piece may have been counted
pub record IsRefused (out : Extent) (k : ℕ) (p q : Onlooker) (t u : ℕ) : Type 0 where
  pub grows : Grows p q
  pub turns : q.turns ≤ p.turns + 1
  pub rises : t ≤ u
  pub most : u ≤ t + cells_in_piece out k
