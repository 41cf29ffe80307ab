-- What is kept of a version's nodes stays what it is where nothing changes but passes.
--
-- The key idea: a pass of the same shelf is for the same tag, so each statement on what is kept goes through; and where
-- there is no shelf nothing changed at all.
use Rattle.std.proofs.Common.{◌≡◌, ℕ, zero, suc, List, [], ◌∷◌, map, length, Bool, true, false, refl, sym, ap, ap₂}
use Rattle.std.proofs.Common.{◌∙◌, ◌+◌, set, get_or, subst, Option, Some, None, if◌then◌else◌}
use Rattle.std.specs.List.{All}
use Rattle.std.proofs.lemmas.List.Elements.{All-head, All-tail, All-cons, length_all_zip}
use Rattle.sz_spec.specs.declared.modes.Dir.{Dir}
use Rattle.sz_spec.specs.declared.modes.Strategy.{Strategy}
use Rattle.sz_spec.specs.Modes.{is_stored}
use Rattle.sz_spec.specs.Paths.{Step}
use Rattle.sz_store.specs.Kept.{NodeLineage}
use Rattle.sz_flow.specs.Executions.{Execution}
use Rattle.sz_shelf.specs.Places.{ShelfPlace}
use Rattle.sz_shelf.specs.Passes.{Onlooker}
use Rattle.sz_catalogue.specs.Holdings.{Version}
use Rattle.sz_catalogue.specs.Changes.{way_of}
use Rattle.sz_bodies.specs.Fitting.{Fit}
use Rattle.sz_versions.specs.Runs.{executions_of}
use Rattle.sz_versions.specs.Stores.{Keeping, nothing, growing, whole, read, keeping_from, IsKeptOf, AreKeptOf, IsOwn}
use Rattle.sz_versions.specs.Stores.{Trail, IsTrailOf, keeping_of}
use Rattle.sz_versions.specs.declared.runs.NodeKeeping.{NodeKeeping}
use Rattle.sz_versions.specs.Lending.{lent, once_viewed, changed_at, once_asked, once_along}
use Rattle.sz_versions.specs.Lending.{IsKeptStill, AreKeptStill, IsTrailStill}
use Rattle.sz_versions.specs.Along.{IsTrailFor}
use Rattle.sz_versions.proofs.Keeping.{zip-set, zip-kept}
use Rattle.sz_versions.specs.Residents.{store_read, stores_read, IsReadTrail, IsTrailBy, stored_of}

-- ---- one after another

pub still-same : (k : Keeping) → IsKeptStill k k
still-same nothing = refl
still-same (growing z p) = (p, refl, refl)
still-same (whole kept) = refl
still-same (read kept) = refl

pub still-on : (k l m : Keeping) → IsKeptStill k l → IsKeptStill l m → IsKeptStill k m
still-on nothing l m first more = subst (λ (x : Keeping). IsKeptStill x m) first more
still-on (growing z p) l m first more =
    let next = subst (λ (x : Keeping). IsKeptStill x m) first.1 more in
    (next.0, next.1, next.2 ∙ first.2)
still-on (whole kept) l m first more = subst (λ (x : Keeping). IsKeptStill x m) first more
still-on (read kept) l m first more = subst (λ (x : Keeping). IsKeptStill x m) first more

pub stills-same : (ks : List Keeping) → AreKeptStill ks ks
stills-same [] = tt
stills-same (k ∷ ks) = (still-same k, stills-same ks)

pub stills-on : (ks ls ms : List Keeping) → AreKeptStill ks ls → AreKeptStill ls ms → AreKeptStill ks ms
stills-on [] [] ms first more = more
stills-on [] (l ∷ ls) ms first more = absurd first
stills-on (k ∷ ks) [] ms first more = absurd first
stills-on (k ∷ ks) (l ∷ ls) [] first more = absurd more
stills-on (k ∷ ks) (l ∷ ls) (m ∷ ms) first more =
    (still-on k l m first.0 more.0, stills-on ks ls ms first.1 more.1)

pub trail-same : (t : Trail) → IsTrailStill t t
trail-same t = record { executions = refl; kept = stills-same t.kept }

pub trail-on : (t u w : Trail) → IsTrailStill t u → IsTrailStill u w → IsTrailStill t w
trail-on t u w first more = record {
  executions = more.executions ∙ first.executions;
  kept = stills-on t.kept u.kept w.kept first.kept more.kept;
}

-- ---- once it was lent to views

viewed-still : (s : Strategy) (k : Keeping) → IsKeptStill k (once_viewed s k)
viewed-still s k = at (is_stored s) where
  one : (k : Keeping) → IsKeptStill k (lent 1 k)
  one nothing = refl
  one (growing z p) = (record p { splits = p.splits + 1 }, refl, refl)
  one (whole kept) = refl
  one (read kept) = refl

  at : (b : Bool) → IsKeptStill k (if b then lent 1 k else k)
  at true = one k
  at false = still-same k

changed-still : (s : Strategy) (n : ℕ) (ks : List Keeping) → AreKeptStill ks (changed_at (once_viewed s) n ks)
changed-still s n [] = tt
changed-still s zero (k ∷ ks) = (viewed-still s k, stills-same ks)
changed-still s (suc n) (k ∷ ks) = (still-same k, changed-still s n ks)

pub asked-still : (v : Version) (dir : Dir) (s : Step) (t : Trail) → IsTrailStill t (once_asked v dir s t)
asked-still v dir s t = record { executions = refl; kept = changed-still (way_of v dir s) s.node t.kept }

pub along-still : (v : Version) (dir : Dir) (path : List Step) (t : Trail) → IsTrailStill t (once_along v dir path t)
along-still v dir [] t = trail-same t
along-still v dir (s ∷ path) t =
    let first = once_asked v dir s t in
    trail-on t first (once_along v dir path first) (asked-still v dir s t) (along-still v dir path first)

-- ---- what is kept

own-still : (k l : Keeping) → IsKeptStill k l → IsOwn k → IsOwn l
own-still nothing l h own = subst IsOwn (sym h) own
own-still (growing z p) l h own = subst IsOwn (sym h.1) (h.2 ∙ own)
own-still (whole kept) l h own = subst IsOwn (sym h) own
own-still (read kept) l h own = subst IsOwn (sym h) own

owns-still : (ks ls : List Keeping) → AreKeptStill ks ls → All IsOwn ks → All IsOwn ls
owns-still [] [] zip all = all
owns-still (k ∷ ks) (l ∷ ls) zip all =
    All-cons IsOwn l ls (own-still k l zip.0 (All-head IsOwn k ks all))
    (owns-still ks ls zip.1 (All-tail IsOwn k ks all))
owns-still _ _ zip all = absurd zip

pub long-still : (ks ls : List Keeping) → AreKeptStill ks ls → length ls ≡ length ks
long-still ks ls zip = sym (length_all_zip IsKeptStill ks ls zip)

kept-still : (b : Bool) (e : Execution) (list : List Strategy) (k l : Keeping) → IsKeptStill k l
    → IsKeptOf b e list k → IsKeptOf b e list l
kept-still b e list nothing l h own = subst (IsKeptOf b e list) (sym h) own
kept-still b e list (growing z p) l h own =
    subst (IsKeptOf b e list) (sym h.1) (
      own.0,
      own.1,
      record { own = h.2 ∙ own.2.own; tag = ap (λ (x : ShelfPlace). x.tag) h.2 ∙ own.2.tag },
    )
kept-still b e list (whole kept) l h own = subst (IsKeptOf b e list) (sym h) own
kept-still b e list (read kept) l h own = absurd own

pub keeps-still : (b : Bool) (es : List Execution) (lists : List (List Strategy)) (ks ls : List Keeping)
    → AreKeptStill ks ls → AreKeptOf b es lists ks → AreKeptOf b es lists ls
keeps-still b = zip-kept IsKeptStill b (kept-still b)

-- stores that were read are the same
read-stills : (ss : List (Option NodeLineage)) (ls : List Keeping) → AreKeptStill (map keeping_from ss) ls
    → ls ≡ map keeping_from ss
read-stills [] [] zip = refl
read-stills (s ∷ ss) (l ∷ ls) zip =
    ap₂ (λ (x : Keeping) (xs : List Keeping). x ∷ xs) (one s zip.0) (read-stills ss ls zip.1) where
      one : (s : Option NodeLineage) → IsKeptStill (keeping_from s) l → l ≡ keeping_from s
      one None h = h
      one (Some k) h = h
read-stills _ _ zip = absurd zip

-- ---- a trail

pub for-still : (v : Version) (t u : Trail) → IsTrailStill t u → IsTrailFor v t → IsTrailFor v u
for-still v t u h own = record {
  executions = h.executions ∙ own.executions;
  long = long-still t.kept u.kept h.kept ∙ own.long;
  own = owns-still t.kept u.kept h.kept own.own;
}

of-still : (v : Version) (t u : Trail) → IsTrailStill t u → IsTrailOf v t → IsTrailOf v u
of-still v t u h own =
    (h.executions ∙ own.0, keeps-still v.awaited (executions_of v) v.lists t.kept u.kept h.kept own.1)

read-still : (v : Version) (t u : Trail) → IsTrailStill t u → IsReadTrail v t → IsReadTrail v u
read-still v t u h own =
    let zip = subst (λ (ks : List Keeping). AreKeptStill ks u.kept) own.kept h.kept in
    let same : u.kept ≡ t.kept = read-stills (stores_read t) u.kept zip ∙ sym own.kept in
    record {
      awaited = own.awaited;
      executions = h.executions ∙ own.executions;
      kept = same ∙ own.kept ∙ ap (λ (ks : List Keeping). map keeping_from (map store_read ks)) (sym same);
      fit = subst (Fit v) (ap (map store_read) (sym same)) own.fit;
    }

pub by-still : (b : Bool) (v : Version) (t u : Trail) → IsTrailStill t u → IsTrailBy b v t → IsTrailBy b v u
by-still true v t u h own = read-still v t u h own
by-still false v t u h own = of-still v t u h own

-- ---- what is seen of it

-- of which a pass is no part
map-still : {X : Type 0} (f : Keeping → X)
    → ((z : ShelfPlace) (p q : Onlooker) → f (growing z q) ≡ f (growing z p)) → (ks ls : List Keeping)
    → AreKeptStill ks ls → map f ls ≡ map f ks
map-still f same [] [] zip = refl
map-still {X} f same (k ∷ ks) (l ∷ ls) zip =
    ap₂ (λ (x : X) (xs : List X). x ∷ xs) (one k zip.0) (map-still f same ks ls zip.1) where
      one : (k : Keeping) → IsKeptStill k l → f l ≡ f k
      one nothing h = ap f h
      one (growing z p) h = ap f h.1 ∙ same z p h.0
      one (whole kept) h = ap f h
      one (read kept) h = ap f h
map-still f same _ _ zip = absurd zip

pub stores-still : (ks ls : List Keeping) → AreKeptStill ks ls → map store_read ls ≡ map store_read ks
stores-still = map-still store_read (λ z p q. refl)

pub stored-still : (ks ls : List Keeping) → AreKeptStill ks ls → map stored_of ls ≡ map stored_of ks
stored-still = map-still stored_of (λ z p q. refl)

-- ---- what the code keeps

-- at a place it changed by passes alone
pub stills-set : (ks : List Keeping) (xs : List NodeKeeping) (n : ℕ) (y d : NodeKeeping)
    → AreKeptStill ks (map keeping_of xs) → IsKeptStill (keeping_of (get_or xs n d)) (keeping_of y)
    → AreKeptStill ks (map keeping_of (set xs n y))
stills-set = zip-set IsKeptStill still-on
