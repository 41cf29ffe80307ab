-- The pairs so far are added.
use Rattle.std.proofs.Common.{◌≡◌, ℕ, ◌||◌, length, take}
use Rattle.std.specs.List.{list_any}
use Rattle.sz_core.specs.Links.{leads, pair_leads}
use Rattle.sz_core.proofs.index.Index.add_pairs.Given as goal

abbrev pub invariant-loop-pair : goal.invariant-loop-pair
invariant-loop-pair l = (l.self.to ≡ l.initial.self.to) × (length l.self.groups ≡ length l.initial.self.groups)
    × ((k t : ℕ) → leads l.self k t
    ≡ (leads l.initial.self k t || list_any (pair_leads l.dir l.input k t) (take l.pair-index l.pairs)))
