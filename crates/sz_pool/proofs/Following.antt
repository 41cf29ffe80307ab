-- How tries of pieces follow one another.
--
-- The key idea: a try puts its piece behind one of the two lists of the claim pass. So the pieces that were won since
-- the first try are a list of their own behind what was claimed before, and a try that wins puts one piece behind it.
use Rattle.std.proofs.Common.{◌≡◌, ℕ, ◌+◌, ◌*◌, ◌-◌, ◌/◌, ◌^◌, ◌<◌, ◌≤◌, List, [], ◌∷◌, ◌++◌, min, length, drop, arith}
use Rattle.std.proofs.Common.{Bool, true, false, sym, refl, ap, ◌∙◌, subst, All, get_or, true≢false}
use Rattle.std.proofs.Math.Seq.{drop-append_seam}
use Rattle.std.proofs.lemmas.List.{append-nil, append_assoc, length_push}
use Rattle.std.proofs.lemmas.List.Sums.{sum_by_push}
use Rattle.std.proofs.lemmas.List.Elements.{All-push}
use Rattle.sz_cells.specs.Extent.{Extent, size_of}
use Rattle.sz_spec.specs.Pieces.{pieces_of}
use Rattle.sz_frame.specs.Written.{cells_in_piece}
use Rattle.sz_claims.specs.Claims.{Claimant}
use Rattle.sz_claims.proofs.Reach.{reach-next}
use Rattle.sz_shelf.specs.Rule.{Begins}
use Rattle.sz_shelf.specs.Contents.{is_in}
use Rattle.sz_shelf.specs.Passes.{Onlooker}
use Rattle.sz_shelf.proofs.Lists.{begins-all, begins-through}
use Rattle.sz_pool.specs.declared.trying.Tried.{Tried}
use Rattle.sz_pool.specs.declared.trying.Tried.TheVariants.{Met, Made, Refused}
use Rattle.sz_pool.specs.Effort.{cells_of}
use Rattle.sz_pool.specs.Growing.{Grows, GrowsBy, AreReached, claimed_since}
use Rattle.sz_pool.specs.Making.{IsPlaced, IsRefused}
use Rattle.sz_pool.specs.Tries.{after_win, after_loss, HasTried, HasTriedAll, refused_after}
use Rattle.sz_pool.proofs.Cells.{few-more, cells-within}
use Rattle.sz_pool.proofs.Left.{in-begins}

-- ---- passes

-- a pass grows by nothing, and by one growth after another
pub grows-same : (p : Onlooker) → Grows p p
grows-same p = record {
  place = refl;
  seen = begins-all p.seen;
  saw = λ h. h;
  kept = refl;
  turns = omega arith;
  loads = omega arith;
  splits = refl;
}

pub grows-then : (p q r : Onlooker) → Grows p q → Grows q r → Grows p r
grows-then p q r g h = record {
  place = h.place ∙ g.place;
  seen = begins-through p.seen q.seen r.seen g.seen h.seen;
  saw = λ s. h.saw (g.saw s);
  kept = h.kept ∙ g.kept;
  turns = let a = g.turns in let b = h.turns in omega arith;
  loads = let a = g.loads in let b = h.loads in omega arith;
  splits = h.splits ∙ g.splits;
}

-- what was seen stays so
pub all-seen : (xs ys won : List ℕ) → Begins xs ys → All (λ k. is_in xs k ≡ true) won → All (λ k. is_in ys k ≡ true) won
all-seen xs ys won b all = λ k d h. in-begins xs ys b.0 (get_or won k d) b.1 (all k d h)

-- ---- claim passes

-- no piece was tried
pub tried-none : (out : Extent) (c : Claimant) (p : Onlooker) (t : ℕ) → HasTriedAll out 0 false c c p p t t
tried-none out c p t = record {
  won = [];
  claimed = sym (append-nil c.claimed);
  claims = record {
    table = refl;
    claimed = begins-all c.claimed;
    met = begins-all c.met;
    tried = omega arith;
    looks = refl;
    splits = refl;
    depth = refl;
  };
  reached = λ k h. absurd (omega (arith, h));
  pass = grows-same p;
  few = omega arith;
  rises = omega arith;
  most = omega arith;
  placed = λ _ k d h. absurd (omega (arith, h));
  turns = λ _. omega arith;
  ticks = λ _. omega arith;
}

won-grows : (n k : ℕ) (c d : Claimant) → GrowsBy n c d → GrowsBy (n + 1) c (after_win k d)
won-grows n k c d g = record {
  table = g.table;
  claimed = begins-through c.claimed d.claimed (d.claimed ++ k ∷ []) g.claimed (k ∷ [], refl);
  met = g.met;
  tried = let e = g.tried in omega arith;
  looks = g.looks;
  splits = g.splits;
  depth = g.depth;
}

lost-grows : (n k : ℕ) (c d : Claimant) → GrowsBy n c d → GrowsBy (n + 1) c (after_loss k d)
lost-grows n k c d g = record {
  table = g.table;
  claimed = g.claimed;
  met = begins-through c.met d.met (d.met ++ k ∷ []) g.met (k ∷ [], refl);
  tried = let e = g.tried in omega arith;
  looks = g.looks;
  splits = g.splits;
  depth = g.depth;
}

won-reached : (n : ℕ) (d : Claimant) → AreReached n d → AreReached (n + 1) (after_win n d)
won-reached n d before =
    reach-next n d.claimed d.met (d.claimed ++ n ∷ []) d.met before true (λ _. refl) (λ _. refl)
    (λ h. absurd (true≢false h)) (λ h. absurd (true≢false h))

lost-reached : (n : ℕ) (d : Claimant) → AreReached n d → AreReached (n + 1) (after_loss n d)
lost-reached n d before =
    reach-next n d.claimed d.met d.claimed (d.met ++ n ∷ []) before false (λ h. absurd (true≢false (sym h)))
    (λ h. absurd (true≢false (sym h))) (λ _. refl) (λ _. refl)

-- ---- a try more

-- the next piece was met claimed
pub tried-met : (out : Extent) (n : ℕ) (refused : Bool) (c d : Claimant) (p q : Onlooker) (t u : ℕ)
    → HasTriedAll out n refused c d p q t u → HasTriedAll out (n + 1) refused c (after_loss n d) p q t u
tried-met out n refused c d p q t u h = record {
  won = h.won;
  claimed = h.claimed;
  claims = lost-grows n n c d h.claims;
  reached = lost-reached n d h.reached;
  pass = h.pass;
  few = let f = h.few in omega arith;
  rises = h.rises;
  most = h.most;
  placed = h.placed;
  turns = h.turns;
  ticks = h.ticks;
}

-- It was won, and the tally rose by at most its cells; where no piece is refused by now, it was made and placed.
tried-won : (out : Extent) (n : ℕ) (refused after : Bool) (c d : Claimant) (p q r : Onlooker) (t u v : ℕ)
    → n < pieces_of out → HasTriedAll out n refused c d p q t u → Grows q r → u ≤ v → v ≤ u + cells_in_piece out n
    → (after ≡ false → (refused ≡ false) × IsPlaced out n q r u v)
    → HasTriedAll out (n + 1) after c (after_win n d) p r t v
tried-won out n refused after c d p q r t u v inside h grows up few placed =
    let more = sum_by_push (cells_in_piece out) h.won n in
    let rises = h.rises in
    let most = h.most in record {
      won = h.won ++ n ∷ [];
      claimed = ap (λ (l : List ℕ). l ++ n ∷ []) h.claimed ∙ append_assoc c.claimed h.won (n ∷ []);
      claims = won-grows n n c d h.claims;
      reached = won-reached n d h.reached;
      pass = grows-then p q r h.pass grows;
      few = few-more out h.won n inside h.few;
      rises = omega arith;
      most = omega arith;
      placed =
          λ f.
          All-push (λ k. is_in r.seen k ≡ true) h.won n
          (all-seen q.seen r.seen h.won grows.seen (h.placed (placed f).0)) (placed f).1.seen;
      turns =
          λ f.
          let a = h.turns (placed f).0 in
          let b = (placed f).1.turns in
          let l = length_push h.won n in omega arith;
      ticks =
          λ f.
          let a = h.ticks (placed f).0 in
          let b = (placed f).1.ticks in omega arith;
    }

-- one try more, whatever came of it
pub tried-next : (out : Extent) (n : ℕ) (refused : Bool) (tried : Tried) (c d e : Claimant) (p q r : Onlooker)
    (t u v : ℕ) → n < pieces_of out → HasTriedAll out n refused c d p q t u → HasTried out n tried d e q r u v
    → HasTriedAll out (n + 1) (refused_after refused tried) c e p r t v
tried-next out n refused Met c d e p q r t u v inside h (lost, same, none) =
    subst (λ (x : Claimant). HasTriedAll out (n + 1) refused c x p r t v) (sym lost)
    (subst (λ (x : Onlooker). HasTriedAll out (n + 1) refused c (after_loss n d) p x t v) (sym same)
    (subst (λ (x : ℕ). HasTriedAll out (n + 1) refused c (after_loss n d) p q t x) (sym none)
    (tried-met out n refused c d p q t u h)))
tried-next out n refused Made c d e p q r t u v inside h (won, made) =
    subst (λ (x : Claimant). HasTriedAll out (n + 1) refused c x p r t v) (sym won)
    (let ticks = made.ticks in
    tried-won out n refused refused c d p q r t u v inside h made.grows (omega arith) (omega arith) (λ f. (f, made)))
tried-next out n refused Refused c d e p q r t u v inside h (won, made) =
    subst (λ (x : Claimant). HasTriedAll out (n + 1) true c x p r t v) (sym won)
    (tried-won out n refused true c d p q r t u v inside h made.grows made.rises made.most
    (λ f. absurd (true≢false f)))

-- what was claimed since is what was won
pub since-won : (c d : Claimant) (won : List ℕ) → d.claimed ≡ c.claimed ++ won → claimed_since c d ≡ won
since-won c d won e = ap (drop (length c.claimed)) e ∙ drop-append_seam c.claimed won
