-- What is lent stays what is kept of its nodes.
--
-- The key idea: a pass off which others were split is of the same shelf, for the same tag, so each statement on what is
-- kept goes through; and how many were split off adds up.
use Rattle.std.proofs.Common.{◌≡◌, ℕ, zero, suc, ◌+◌, ◌<◌, ◌++◌, List, [], ◌∷◌, map, length, Bool, true, false}
use Rattle.std.proofs.Common.{set}
use Rattle.std.proofs.Common.{get_or, refl, sym, ap, ◌∙◌, subst, arith, if◌then◌else◌}
use Rattle.sz_spec.specs.declared.modes.Dir.{Dir}
use Rattle.sz_spec.specs.declared.modes.Strategy.{Strategy}
use Rattle.sz_spec.specs.Modes.{is_stored}
use Rattle.sz_spec.specs.Paths.{Step}
use Rattle.sz_flow.specs.Executions.{Execution}
use Rattle.sz_catalogue.specs.Holdings.{Version}
use Rattle.sz_catalogue.specs.Changes.{way_of}
use Rattle.sz_versions.specs.Runs.{executions_of}
use Rattle.sz_versions.specs.Stores.{Keeping, nothing, growing, whole, read, IsKeptOf, AreKeptOf, Trail, IsTrailOf}
use Rattle.sz_versions.specs.Stores.{keeping_of}
use Rattle.sz_versions.specs.Lending.{lent, once_viewed, changed_at, once_asked, once_along, IsLent, AreLent}
use Rattle.sz_versions.specs.declared.runs.NodeKeeping.{NodeKeeping}
use Rattle.sz_versions.proofs.Keeping.{zip-set, zip-kept}

-- ---- what is lent is kept of the same execution

kept-lent : (b : Bool) (e : Execution) (list : List Strategy) (n : ℕ) (k : Keeping) → IsKeptOf b e list k
    → IsKeptOf b e list (lent n k)
kept-lent b e list n nothing own = own
kept-lent b e list n (growing z p) own = (own.0, own.1, record { own = own.2.own; tag = own.2.tag })
kept-lent b e list n (whole kept) own = own
kept-lent b e list n (read kept) own = own

kept-viewed : (b : Bool) (e : Execution) (list : List Strategy) (s : Strategy) (k : Keeping) → IsKeptOf b e list k
    → IsKeptOf b e list (once_viewed s k)
kept-viewed b e list s k own = at (is_stored s) where
  at : (c : Bool) → IsKeptOf b e list (if c then lent 1 k else k)
  at true = kept-lent b e list 1 k own
  at false = own

kept-changed : (b : Bool) (es : List Execution) (lists : List (List Strategy)) (s : Strategy) (n : ℕ)
    (keeps : List Keeping) → AreKeptOf b es lists keeps → AreKeptOf b es lists (changed_at (once_viewed s) n keeps)
kept-changed b es lists s n [] own = own
kept-changed b [] [] s n (k ∷ keeps) own = absurd own
kept-changed b [] (l ∷ lists) s n (k ∷ keeps) own = absurd own
kept-changed b (d ∷ es) [] s n (k ∷ keeps) own = absurd own
kept-changed b (d ∷ es) (l ∷ lists) s zero (k ∷ keeps) own = (kept-viewed b d l s k own.0, own.1)
kept-changed b (d ∷ es) (l ∷ lists) s (suc n) (k ∷ keeps) own = (own.0, kept-changed b es lists s n keeps own.1)

-- ---- along a path

pub trail-asked : (v : Version) (dir : Dir) (s : Step) (t : Trail) → IsTrailOf v t → IsTrailOf v (once_asked v dir s t)
trail-asked v dir s t own =
    (own.0, kept-changed v.awaited (executions_of v) v.lists (way_of v dir s) s.node t.kept own.1)

-- one step more
pub along-more : (v : Version) (dir : Dir) (path : List Step) (s : Step) (t : Trail)
    → once_along v dir (path ++ s ∷ []) t ≡ once_asked v dir s (once_along v dir path t)
along-more v dir [] s t = refl
along-more v dir (r ∷ path) s t = along-more v dir path s (once_asked v dir r t)

-- what stands at a place is changed as the code's is
pub changed-set : (f : Keeping → Keeping) (xs : List NodeKeeping) (n : ℕ) (y d : NodeKeeping) → n < length xs
    → keeping_of y ≡ f (keeping_of (get_or xs n d))
    → map keeping_of (set xs n y) ≡ changed_at f n (map keeping_of xs)
changed-set f [] n y d below is = absurd (omega (arith, below))
changed-set f (x ∷ xs) zero y d below is = ap (λ (k : Keeping). k ∷ map keeping_of xs) is
changed-set f (x ∷ xs) (suc n) y d below is =
    ap (λ (keeps : List Keeping). keeping_of x ∷ keeps) (changed-set f xs n y d (omega (arith, below)) is)

-- ---- to workers

-- some passes more
lent-more : (n m : ℕ) (k : Keeping) → lent m (lent n k) ≡ lent (n + m) k
lent-more n m nothing = refl
lent-more n m (growing z p) = ap (λ (i : ℕ). growing z record p { splits = i }) (omega arith)
lent-more n m (whole kept) = refl
lent-more n m (read kept) = refl

lent-none : (k : Keeping) → k ≡ lent 0 k
lent-none nothing = refl
lent-none (growing z p) = ap (λ (i : ℕ). growing z record p { splits = i }) (omega arith)
lent-none (whole kept) = refl
lent-none (read kept) = refl

lent-on : (k l m : Keeping) → IsLent k l → IsLent l m → IsLent k m
lent-on k l m first more =
    (first.0 + more.0, more.1 ∙ ap (lent more.0) first.1 ∙ lent-more first.0 more.0 k)

pub lent-same : (keeps : List Keeping) → AreLent keeps keeps
lent-same [] = tt
lent-same (k ∷ keeps) = ((0, lent-none k), lent-same keeps)

pub lent-set : (keeps : List Keeping) (xs : List NodeKeeping) (n : ℕ) (y d : NodeKeeping)
    → AreLent keeps (map keeping_of xs) → IsLent (keeping_of (get_or xs n d)) (keeping_of y)
    → AreLent keeps (map keeping_of (set xs n y))
lent-set = zip-set IsLent lent-on

pub keeps-lent : (b : Bool) (es : List Execution) (lists : List (List Strategy)) (keeps after : List Keeping)
    → AreLent keeps after → AreKeptOf b es lists keeps → AreKeptOf b es lists after
keeps-lent b =
    zip-kept IsLent b (λ e list k l is own. subst (IsKeptOf b e list) (sym is.1) (kept-lent b e list is.0 k own))
