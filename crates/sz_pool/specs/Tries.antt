-- What a try of a piece does, and what tries of all pieces below a number do.
use Rattle.std.specs.Prelude.{◌≡◌, ℕ, ◌+◌, ◌*◌, ◌≤◌, List, [], ◌∷◌, ◌++◌, length, min, All}
use Rattle.std.specs.Prelude.{Bool, true, false, Some}
use Rattle.sz_cells.specs.Extent.{Extent, size_of}
use Rattle.sz_claims.specs.Claims.{Claimant}
use Rattle.sz_shelf.specs.Contents.{is_in}
use Rattle.sz_shelf.specs.Passes.{Onlooker}
use Rattle.sz_pool.specs.declared.trying.Tried.{Tried}
use Rattle.sz_pool.specs.declared.trying.Tried.TheVariants as tried
use Rattle.sz_pool.specs.Effort.{cells_of}
use Rattle.sz_pool.specs.Growing.{Grows, GrowsBy, AreReached}
use Rattle.sz_pool.specs.Making.{IsPlaced, IsRefused}

-- the claim pass once it has won a piece, and once it has lost it
abbrev pub after_win : ℕ → Claimant → Claimant
after_win k c =
    record c { claimed = c.claimed ++ k ∷ []; found = Some 0; tries = c.tries + 1 }

abbrev pub after_loss : ℕ → Claimant → Claimant
after_loss k c = record c { met = c.met ++ k ∷ []; found = Some 1; tries = c.tries + 1 }

-- A try of a piece: it was met claimed, and nothing else was done; or it was won, and made and
-- placed, or refused for memory.
abbrev pub HasTried : Extent → ℕ → Tried → Claimant → Claimant → Onlooker → Onlooker → ℕ → ℕ
    → Type 0
HasTried out k tried.Met c d p q t u = (d ≡ after_loss k c) × (q ≡ p) × (u ≡ t)
HasTried out k tried.Made c d p q t u = (d ≡ after_win k c) × IsPlaced out k p q t u
HasTried out k tried.Refused c d p q t u = (d ≡ after_win k c) × IsRefused out k p q t u

-- whether a piece was refused, once this came of one more
abbrev pub refused_after : Bool → Tried → Bool
refused_after refused tried.Refused = true
refused_after refused _ = refused

-- Tries of all pieces below n. Some of them were won, and the others were met. The tally rose by at
-- most the cells of those that were won. Where none was refused for memory, each of these is seen,
-- each took one turn, and the tally rose by exactly their cells.
pub record HasTriedAll (out : Extent) (n : ℕ) (refused : Bool) (c d : Claimant) (p q : Onlooker)
    (t u : ℕ) : Type 0 where
  pub won : List ℕ
  pub claimed : d.claimed ≡ c.claimed ++ won
  pub claims : GrowsBy n c d
  pub reached : AreReached n d
  pub pass : Grows p q
  pub few : cells_of out won ≤ min (size_of out) (n * 64)
  pub rises : t ≤ u
  pub most : u ≤ t + cells_of out won
  pub placed : refused ≡ false → All (λ k. is_in q.seen k ≡ true) won
  pub turns : refused ≡ false → q.turns ≡ p.turns + length won
  pub ticks : refused ≡ false → u ≡ t + cells_of out won
