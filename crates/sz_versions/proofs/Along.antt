-- What a trail gives for a path, whether the version was started here or a log gave it.
--
-- The key idea: a trail that was asked is one of the same version still; so where the version was started here each
-- view is one of the version. And what was read does not change at all, so there each view is that of the stores that
-- were read.
use Rattle.std.proofs.Common.{◌≡◌, ℕ, zero, suc, List, [], ◌∷◌, map, length, Bool, true, false, refl, sym, ap, ap₂}
use Rattle.std.proofs.Common.{◌∙◌, ◌++◌, subst, Option, Some, None, unwrap_or, if◌then◌else◌}
use Rattle.std.specs.List.{All, AllZip, slice_get}
use Rattle.std.specs.Option.{option_map}
use Rattle.std.proofs.lemmas.Bool.{and_parts}
use Rattle.std.proofs.lemmas.List.{length-map}
use Rattle.std.proofs.lemmas.List.Elements.{All-nil, All-cons}
use Rattle.std.proofs.lemmas.Option.{slice_get-map}
use Rattle.sz_spec.specs.declared.op.Op.TheVariants as op
use Rattle.sz_spec.specs.declared.modes.Dir.{Dir}
use Rattle.sz_spec.specs.declared.modes.Strategy.{Strategy}
use Rattle.sz_spec.specs.Modes.{is_stored}
use Rattle.sz_spec.specs.Shapes.{Site}
use Rattle.sz_spec.specs.Paths.{Step, source_of, is_there, is_joined}
use Rattle.sz_store.specs.Kept.{NodeLineage}
use Rattle.sz_flow.specs.Executions.{Execution, execution}
use Rattle.sz_script.specs.declared.command.NamedCell.{NamedCell}
use Rattle.sz_query.specs.Views.{View}
use Rattle.sz_query.specs.Answers.{AreSteps}
use Rattle.sz_catalogue.specs.Holdings.{Version}
use Rattle.sz_catalogue.specs.Starts.{path_start}
use Rattle.sz_catalogue.specs.Changes.{way_of}
use Rattle.sz_bodies.specs.Fitting.{FitNodes, site_in, sites_of}
use Rattle.sz_versions.specs.Runs.{executions_of, IsSoundVersion}
use Rattle.sz_versions.specs.Stores.{Keeping, nothing, keeping_from, IsKeptOf, IsOwn}
use Rattle.sz_versions.specs.Stores.{Trail, IsTrailOf}
use Rattle.sz_versions.specs.Views.{view_by, list_of, IsViewOf, are_there}
use Rattle.sz_versions.specs.Lending.{lent, once_viewed, changed_at, once_asked, once_along}
use Rattle.sz_versions.specs.Along.{execution_in, kept_in, view_in, views_along, search_along, IsTrailFor}
use Rattle.sz_versions.specs.Searches.{Search}
use Rattle.sz_versions.specs.Recalled.{execution_at, stores_at, recalled_view}
use Rattle.sz_versions.specs.Inquiries.{IsInquiryBy}
use Rattle.sz_versions.specs.Residents.{stores_read, IsReadTrail, IsTrailBy}
use Rattle.sz_versions.proofs.Steps.{step-of, step-there}
use Rattle.sz_versions.proofs.PathViews.{lists-at, joined-parts, joined-there, sound-views, views-steps}
use Rattle.sz_versions.proofs.Keeping.{kept-at, kept-length, keeps-own}
use Rattle.sz_versions.proofs.Kept.{executions-length}
use Rattle.sz_versions.proofs.Lending.{trail-asked}
use Rattle.sz_versions.proofs.FromLogs.{recalled-steps}

-- ---- a trail for a version

own-for : (v : Version) (t : Trail) → IsTrailOf v t → IsTrailFor v t
own-for v t own = record {
  executions = own.0;
  long = (kept-length v.awaited (executions_of v) v.lists t.kept own.1).0;
  own = keeps-own v.awaited (executions_of v) v.lists t.kept own.1;
}

-- there is a place for the stores of each node
fit-length : (sites : List Site) (lists : List (List Strategy)) (stores : List (Option NodeLineage))
    → FitNodes sites lists stores → length stores ≡ length sites
fit-length [] [] [] h = refl
fit-length (s ∷ sites) (l ∷ lists) (k ∷ stores) h = ap suc (fit-length sites lists stores h.1)
fit-length _ _ _ h = absurd h

read-own : (ss : List (Option NodeLineage)) → All IsOwn (map keeping_from ss)
read-own [] = All-nil IsOwn
read-own (s ∷ ss) = All-cons IsOwn (keeping_from s) (map keeping_from ss) (one s) (read-own ss) where
  one : (s : Option NodeLineage) → IsOwn (keeping_from s)
  one None = tt
  one (Some k) = tt

read-for : (v : Version) (t : Trail) → IsReadTrail v t → IsTrailFor v t
read-for v t own =
    let stores = stores_read t in
    record {
      executions = own.executions;
      long = ap (λ (ks : List Keeping). length ks) own.kept ∙ length-map stores keeping_from
          ∙ fit-length (sites_of v) v.lists stores own.fit ∙ length-map v.flow.nodes (site_in v)
          ∙ sym (executions-length v);
      own = subst (All IsOwn) (sym own.kept) (read-own stores);
    }

pub by-for : (b : Bool) (v : Version) (t : Trail) → IsTrailBy b v t → IsTrailFor v t
by-for true v t own = read-for v t own
by-for false v t own = own-for v t own

-- ---- of a version that was started here

own-view : (v : Version) (dir : Dir) (s : Step) (t : Trail) → IsSoundVersion v
    → is_there (source_of v.flow s) ≡ true → IsTrailOf v t → IsViewOf v dir s (view_in v dir t s)
own-view v dir s t sound there own =
    let found = step-there v s sound there in
    let h = step-of v s found.0 sound there found.1 in
    let known = lists-at v.flow.nodes v.lists s.node h.node sound.run.1.lists h.there in
    let kept = kept-at v.awaited (executions_of v) v.lists t.kept s.node found.0 known.0 own.1 found.1 known.1 in
    let here : execution_in t s.node ≡ found.0 =
    ap (λ (es : List Execution). unwrap_or (slice_get es s.node) (execution op.Neg [])) own.0
    ∙ ap (λ (o : Option Execution). unwrap_or o (execution op.Neg [])) found.1 in
    let same : kept_in t s.node ≡ kept.0 = ap (λ (o : Option Keeping). unwrap_or o nothing) kept.1 in
    let of_list : known.0 ≡ list_of v s = sym (ap (λ (o : Option (List Strategy)). unwrap_or o []) known.1) in (
      found.0,
      found.1,
      kept.0,
      subst (λ (list : List Strategy). IsKeptOf v.awaited found.0 list kept.0) of_list kept.2,
      ap₂ (λ (e : Execution) (k : Keeping). view_by (way_of v dir s) e k) here same,
    )

own-views : (v : Version) (dir : Dir) (path : List Step) (t : Trail) → IsSoundVersion v
    → are_there v.flow path ≡ true → IsTrailOf v t → AllZip (IsViewOf v dir) path (views_along v dir path t)
own-views v dir [] t sound there own = tt
own-views v dir (s ∷ path) t sound there own =
    let both = and_parts (is_there (source_of v.flow s)) (are_there v.flow path) there in (
      own-view v dir s t sound both.0 own,
      own-views v dir path (once_asked v dir s t) sound both.1 (trail-asked v dir s t own),
    )

-- ---- of a version that a log gave

read-kept : (ss : List (Option NodeLineage)) (n : ℕ)
    → unwrap_or (slice_get (map keeping_from ss) n) nothing ≡ keeping_from (unwrap_or (slice_get ss n) None)
read-kept ss n =
    ap (λ (o : Option Keeping). unwrap_or o nothing) (slice_get-map keeping_from ss n) ∙ at (slice_get ss n) where
      at : (o : Option (Option NodeLineage)) → unwrap_or (option_map keeping_from o) nothing
          ≡ keeping_from (unwrap_or o None)
      at None = refl
      at (Some k) = refl

read-view : (v : Version) (dir : Dir) (s : Step) (t : Trail) → IsReadTrail v t
    → view_in v dir t s ≡ recalled_view v (stores_read t) dir s
read-view v dir s t own =
    let here : execution_in t s.node ≡ execution_at v s.node =
    ap (λ (es : List Execution). unwrap_or (slice_get es s.node) (execution op.Neg [])) own.executions in
    let same : kept_in t s.node ≡ keeping_from (stores_at (stores_read t) s.node) =
    ap (λ (ks : List Keeping). unwrap_or (slice_get ks s.node) nothing) own.kept
    ∙ read-kept (stores_read t) s.node in
    ap₂ (λ (e : Execution) (k : Keeping). view_by (way_of v dir s) e k) here same

-- what was read stays as it is
read-viewed : (w : Strategy) (s : Option NodeLineage) → once_viewed w (keeping_from s) ≡ keeping_from s
read-viewed w s = at (is_stored w) where
  one : (s : Option NodeLineage) → lent 1 (keeping_from s) ≡ keeping_from s
  one None = refl
  one (Some k) = refl

  at : (b : Bool) → (if b then lent 1 (keeping_from s) else keeping_from s) ≡ keeping_from s
  at true = one s
  at false = refl

read-changed : (w : Strategy) (n : ℕ) (ss : List (Option NodeLineage))
    → changed_at (once_viewed w) n (map keeping_from ss) ≡ map keeping_from ss
read-changed w n [] = refl
read-changed w zero (s ∷ ss) = ap (λ (k : Keeping). k ∷ map keeping_from ss) (read-viewed w s)
read-changed w (suc n) (s ∷ ss) = ap (λ (ks : List Keeping). keeping_from s ∷ ks) (read-changed w n ss)

read-asked : (v : Version) (dir : Dir) (s : Step) (t : Trail) → IsReadTrail v t → once_asked v dir s t ≡ t
read-asked v dir s t own =
    let w = way_of v dir s in
    let same : changed_at (once_viewed w) s.node t.kept ≡ t.kept =
    ap (changed_at (once_viewed w) s.node) own.kept ∙ read-changed w s.node (stores_read t) ∙ sym own.kept in
    ap (λ (ks : List Keeping). record t { kept = ks }) same

read-views : (v : Version) (dir : Dir) (path : List Step) (t : Trail) → IsReadTrail v t
    → views_along v dir path t ≡ map (recalled_view v (stores_read t) dir) path
read-views v dir [] t own = refl
read-views v dir (s ∷ path) t own =
    ap₂ (λ (w : View) (ws : List View). w ∷ ws) (read-view v dir s t own)
    (ap (views_along v dir path) (read-asked v dir s t own) ∙ read-views v dir path t own)

-- ---- of either

-- there are as many views as steps
pub along-length : (v : Version) (dir : Dir) (path : List Step) (t : Trail)
    → length (views_along v dir path t) ≡ length path
along-length v dir [] t = refl
along-length v dir (s ∷ path) t = ap suc (along-length v dir path (once_asked v dir s t))

-- one step more
pub views-more : (v : Version) (dir : Dir) (path : List Step) (s : Step) (t u : Trail) (w : View)
    → u ≡ once_along v dir path t → w ≡ view_in v dir u s
    → views_along v dir (path ++ s ∷ []) t ≡ views_along v dir path t ++ w ∷ []
views-more v dir [] s t u w is here =
    ap (λ (x : View). x ∷ []) (sym (here ∙ ap (λ (x : Trail). view_in v dir x s) is))
views-more v dir (r ∷ path) s t u w is here =
    ap (λ (ws : List View). view_in v dir t r ∷ ws) (views-more v dir path s (once_asked v dir r t) u w is here)

-- along a joined path each step can be taken, from the shape in which the path starts
pub by-steps : (b : Bool) (v : Version) (dir : Dir) (path : List Step) (t : Trail) → IsSoundVersion v
    → is_joined dir v.flow path ≡ true → IsTrailBy b v t
    → AreSteps dir (views_along v dir path t) (map (λ (s : Step). s.input) path) (path_start dir v path)
by-steps true v dir path t sound joined own =
    let start = path_start dir v path in
    let inputs = map (λ (s : Step). s.input) path in
    let parts = joined-parts dir v.flow path joined in
    subst (λ (ws : List View). AreSteps dir ws inputs start) (sym (read-views v dir path t own))
    (recalled-steps v (stores_read t) dir path start sound own.fit parts.2 refl)
by-steps false v dir path t sound joined own =
    let views = views_along v dir path t in
    let parts = joined-parts dir v.flow path joined in
    let there = joined-there dir v.flow path parts.2 in
    views-steps v dir path views (path_start dir v path) sound parts.2
    (sound-views v dir path views sound there (own-views v dir path t sound there own)) refl

-- and what is asked is asked of the version, by what it carries or by what the log gave
search-along : (b : Bool) (v : Version) (dir : Dir) (path : List Step) (named : List NamedCell) (t : Trail)
    → IsSoundVersion v → is_joined dir v.flow path ≡ true → IsTrailBy b v t
    → IsInquiryBy (if b then Some (stores_read t) else None) v dir path named (search_along v dir path named t)
search-along true v dir path named t sound joined own = (
  own.awaited,
  record {
    sound = sound;
    fit = own.fit;
    joined = joined;
    turned = refl;
    views = read-views v dir path t own;
    inputs = refl;
    start = refl;
  },
)
search-along false v dir path named t sound joined own =
    let there = joined-there dir v.flow path (joined-parts dir v.flow path joined).2 in
    record {
      sound = sound;
      joined = joined;
      turned = refl;
      views = own-views v dir path t sound there own;
      inputs = refl;
      start = refl;
    }

pub by-search : (b : Bool) (v : Version) (dir : Dir) (path : List Step) (named : List NamedCell) (t : Trail)
    (s : Search) → IsSoundVersion v → is_joined dir v.flow path ≡ true → IsTrailBy b v t
    → s ≡ search_along v dir path named t
    → IsInquiryBy (if b then Some (stores_read t) else None) v dir path named s
by-search b v dir path named t s sound joined own is =
    subst (IsInquiryBy (if b then Some (stores_read t) else None) v dir path named) (sym is)
    (search-along b v dir path named t sound joined own)
