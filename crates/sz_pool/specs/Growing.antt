-- How passes grow over calls: what they saw, claimed and met stays, and more may come behind it.
use Rattle.std.specs.Prelude.{◌≡◌, ℕ, ◌+◌, ◌<◌, ◌≤◌, ◌⊎◌, List, length, drop, true, Contains}
use Rattle.sz_claims.specs.Claims.{Claimant}
use Rattle.sz_shelf.specs.Rule.{Begins}
use Rattle.sz_shelf.specs.Passes.{Onlooker, place_of}

-- A pass stays at its shelf and keeps what it keeps. What it has seen begins with what it had seen,
-- and it saw the seal if it had seen it. Its numbers of turns and of loads do not fall, and no pass
-- was split off it.
pub record Grows (p q : Onlooker) : Type 0 where
  pub place : place_of q ≡ place_of p
  pub seen : Begins p.seen q.seen
  pub saw : p.saw ≡ true → q.saw ≡ true
  pub kept : q.kept ≡ p.kept
  pub turns : p.turns ≤ q.turns
  pub loads : p.loads ≤ q.loads
  pub splits : q.splits ≡ p.splits

-- A claim pass stays at its claims and made no look and no split. What it claimed and what it met
-- begin with what it had claimed and met, and it made so many tries more.
pub record GrowsBy (tries : ℕ) (c d : Claimant) : Type 0 where
  pub table : d.table ≡ c.table
  pub claimed : Begins c.claimed d.claimed
  pub met : Begins c.met d.met
  pub tried : d.tries ≡ c.tries + tries
  pub looks : d.looks ≡ c.looks
  pub splits : d.splits ≡ c.splits
  pub depth : d.depth ≡ c.depth

-- the pieces that a claim pass has claimed since
abbrev pub claimed_since : Claimant → Claimant → List ℕ
claimed_since c d = drop (length c.claimed) d.claimed

-- each piece below a number is claimed by the pass, or was met claimed
abbrev pub AreReached : ℕ → Claimant → Type 0
AreReached n c = (k : ℕ) → k < n → Contains c.claimed k ⊎ Contains c.met k
