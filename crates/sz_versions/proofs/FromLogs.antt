-- What answers a search along a path of a version that a log gave.
--
-- The key idea: stores that fit are of the execution of their node, so a view by them can be used, whatever they stand
-- for, and none of them grows, so it stays the same when it is asked. Where they stand for the relation it is a view of
-- the version, and what is known of these is known of it.
use Rattle.std.proofs.Common.{◌≡◌, ℕ, suc, zero, ◌+◌, ◌≤◌, List, [], ◌∷◌, map, Bool, true, false, refl, sym, ap, ap₂}
use Rattle.std.proofs.Common.{◌∙◌, subst, arith, Option, Some, None, unwrap_or}
use Rattle.std.specs.Prelude.{◌&&◌, ◌<◌, length, if◌then◌else◌}
use Rattle.std.specs.List.{All, AllZip, slice_get}
use Rattle.std.specs.Option.{option_map}
use Rattle.std.proofs.lemmas.Bool.{and_parts}
use Rattle.std.proofs.lemmas.Option.{slice_get-map}
use Rattle.sz_cells.specs.Extent.{Extent, size_of}
use Rattle.sz_cells.specs.Cells.{Cells, named_in}
use Rattle.sz_spec.specs.declared.op.Op.TheVariants as op
use Rattle.sz_spec.specs.declared.modes.Dir.{Dir}
use Rattle.sz_spec.specs.declared.modes.Dir.TheVariants.{Back}
use Rattle.sz_spec.specs.declared.modes.Strategy.{Strategy}
use Rattle.sz_spec.specs.declared.modes.Strategy.TheVariants as strategy
use Rattle.sz_spec.specs.Modes.{supports, is_listed, is_stored, way}
use Rattle.sz_spec.specs.Values.{extent_at, extents_of}
use Rattle.sz_spec.specs.Shapes.{Site, output_extent}
use Rattle.sz_spec.specs.FlowShapes.{node_inputs}
use Rattle.sz_spec.specs.Paths.{Step, source_of, is_there, follows, are_joined}
use Rattle.sz_spec.specs.Sides.{near_side, far_side}
use Rattle.sz_spec.proofs.FlowShapes.{inputs-shapes}
use Rattle.sz_store.specs.Kept.{NodeLineage, stored_in}
use Rattle.sz_flow.specs.Executions.{Execution, execution}
use Rattle.sz_script.specs.declared.command.NamedCell.{NamedCell}
use Rattle.sz_query.specs.declared.path.Found.{Found}
use Rattle.sz_query.specs.Views.{View, by_map, by_trace, by_store, view_site, IsUsable, used_of, traced_by}
use Rattle.sz_query.specs.Turns.{IsAsked}
use Rattle.sz_query.specs.Answers.{answered, traced_of, IsStep, AreSteps}
use Rattle.sz_catalogue.specs.Holdings.{Version, arrays_of}
use Rattle.sz_catalogue.specs.Starts as starts
use Rattle.sz_catalogue.specs.Changes.{outputs, way_of, is_black_box, traced}
use Rattle.sz_bodies.specs.Fitting.{FitsNode, FitNodes, Fit, site_in, sites_of}
use Rattle.sz_versions.specs.Runs.{executions_of, IsSoundVersion}
use Rattle.sz_versions.specs.Stores.{Keeping, nothing, whole, read, IsKeptOf, keeping_from}
use Rattle.sz_versions.specs.Efforts.{most_traced}
use Rattle.sz_versions.specs.Views.{view_by, list_of, IsViewOf, strategy_told, are_there}
use Rattle.sz_versions.specs.Searches.{Search, IsSearchOf, IsAnswerTo}
use Rattle.sz_versions.specs.Recalled.{execution_at, stores_at, recalled_view, cells_recalled, IsRecallOf}
use Rattle.sz_recover.specs.Soundness.{IsSoundNode, AreSoundNodes}
use Rattle.sz_recover.proofs.WrongNodes.{zip-at, all-of}
use Rattle.sz_versions.specs.Recalled.{HasEachStore, SoundStoresAnswerTheRelation}
use Rattle.sz_versions.proofs.Ways.{way-is_listed, way-supported, view_by-site, view_by-usable, view_by-stays}
use Rattle.sz_versions.proofs.Ways.{view_by-traced, view_by-told}
use Rattle.sz_versions.proofs.Steps.{IsStepOf, step-of, step-there, step-input, step-starts, step-leads}
use Rattle.sz_versions.proofs.Steps.{base-shapes, outputs-shapes}
use Rattle.sz_versions.proofs.PathViews.{lists-at, list-parts, joined-parts, joined-there, named-set, sound-views}
use Rattle.sz_versions.proofs.PathViews.{views-answer, black, black-more}

-- ---- the stores of a node

-- the stores at a place fit
pub fits-at : (sites : List Site) (lists : List (List Strategy)) (stores : List (Option NodeLineage)) (n : ℕ) (s : Site)
    (list : List Strategy) → FitNodes sites lists stores → slice_get sites n ≡ Some s → slice_get lists n ≡ Some list
    → (kept : Option NodeLineage) × (slice_get stores n ≡ Some kept) × FitsNode s list kept
fits-at [] [] [] n s list h here there = cc
fits-at (d ∷ sites) (l ∷ lists) (k ∷ stores) zero s list h here there =
    let same : d ≡ s = cc in
    let own : l ≡ list = cc in (
      k,
      refl,
      subst (λ (x : Site). FitsNode x list k) same (subst (λ (x : List Strategy). FitsNode d x k) own h.0),
    )
fits-at (d ∷ sites) (l ∷ lists) (k ∷ stores) (suc n) s list h here there =
    fits-at sites lists stores n s list h.1 here there
fits-at _ _ _ _ s list h here there = absurd h

-- the operator of a step's node, at the shapes that were found, is that of its execution
site-same : (v : Version) (s : Step) (e : Execution) → IsSoundVersion v → (h : IsStepOf v s e)
    → site_in v h.node ≡ e.site
site-same v s e sound h =
    let base = arrays_of v.base in
    let inputs = λ (es os : List Extent). node_inputs es os h.node in
    let at : List Extent → Site = λ ins. record { op = h.node.op; ins = ins; out = output_extent h.node.op ins } in
    sym (ap (λ (x : Execution). x.site) h.is
    ∙ ap at (ap extents_of h.takes ∙ inputs-shapes base (outputs v) h.node.from
    ∙ ap₂ inputs (base-shapes v.base) (outputs-shapes v sound)))

-- ---- the view of a step

-- What is known of the view of a step that is there: its execution, and the stores of its node, which fit.
pub record IsRecalled (v : Version) (stores : List (Option NodeLineage)) (dir : Dir) (s : Step) : Type 0 where
  pub execution : Execution
  pub here : slice_get (executions_of v) s.node ≡ Some execution
  pub step : IsStepOf v s execution
  pub listed : is_listed (list_of v s) (way_of v dir s) ≡ true
  pub supported : supports execution.site.op (way_of v dir s) ≡ true
  pub kept : Option NodeLineage
  pub at : slice_get stores s.node ≡ Some kept
  pub fits : FitsNode execution.site (list_of v s) kept
  pub is : recalled_view v stores dir s ≡ view_by (way_of v dir s) execution (keeping_from kept)

-- the view by what is read at a node's places
pub view-read : (v : Version) (stores : List (Option NodeLineage)) (dir : Dir) (s : Step) (e : Execution)
    (kept : Option NodeLineage) → slice_get (executions_of v) s.node ≡ Some e → slice_get stores s.node ≡ Some kept
    → recalled_view v stores dir s ≡ view_by (way_of v dir s) e (keeping_from kept)
view-read v stores dir s e kept here there =
    let first : execution_at v s.node ≡ e =
    ap (λ (o : Option Execution). unwrap_or o (execution op.Neg [])) here in
    let own : stores_at stores s.node ≡ kept =
    ap (λ (o : Option (Option NodeLineage)). unwrap_or o None) there in
    ap₂ (λ (x : Execution) (o : Option NodeLineage). view_by (way_of v dir s) x (keeping_from o)) first own

pub recalled-at : (v : Version) (stores : List (Option NodeLineage)) (dir : Dir) (s : Step) → IsSoundVersion v
    → Fit v stores → is_there (source_of v.flow s) ≡ true → IsRecalled v stores dir s
recalled-at v stores dir s sound fit there =
    let found = step-there v s sound there in
    let e = found.0 in
    let h = step-of v s e sound there found.1 in
    let known = lists-at v.flow.nodes v.lists s.node h.node sound.run.1.lists h.there in
    let parts = list-parts h.node.op known.0 known.2 in
    let here : list_of v s ≡ known.0 = ap (λ (o : Option (List Strategy)). unwrap_or o []) known.1 in
    let op : e.site.op ≡ h.node.op = ap (λ (x : Execution). x.site.op) h.is in
    let site = slice_get-map (site_in v) v.flow.nodes s.node ∙ ap (option_map (site_in v)) h.there in
    let fits = fits-at (sites_of v) v.lists stores s.node (site_in v h.node) known.0 fit site known.1 in
    record {
      execution = e;
      here = found.1;
      step = h;
      listed =
          way-is_listed (list_of v s) dir (subst (λ (list : List Strategy). 0 < length list) (sym here) parts.0);
      supported =
          ap₂ supports op (ap (λ (list : List Strategy). way list dir) here)
          ∙ way-supported h.node.op known.0 dir parts.0 parts.1;
      kept = fits.0;
      at = fits.1;
      fits = subst (λ (list : List Strategy). FitsNode e.site list fits.0) (sym here)
          (subst (λ (x : Site). FitsNode x known.0 fits.0) (site-same v s e sound h) fits.2);
      is = view-read v stores dir s e fits.0 found.1 fits.1;
    }

-- ---- the view for each way

-- what is so of the mapping, of a trace, and of a store for a way that keeps one, is so of the view by stores
by-read : (e : Execution) (k : NodeLineage) (P : Strategy → View → Type 0) → P strategy.Map (by_map e.site)
    → P strategy.BlackBox (by_trace e.site e.inputs)
    → ((t : Strategy) → is_stored t ≡ true → is_black_box t ≡ false → P t (by_store e.site k t)) → (s : Strategy)
    → P s (view_by s e (read k))
by-read e k P mapped black stored strategy.Map = mapped
by-read e k P mapped black stored strategy.FullOneB = stored strategy.FullOneB refl refl
by-read e k P mapped black stored strategy.FullOneF = stored strategy.FullOneF refl refl
by-read e k P mapped black stored strategy.FullManyB = stored strategy.FullManyB refl refl
by-read e k P mapped black stored strategy.FullManyF = stored strategy.FullManyF refl refl
by-read e k P mapped black stored strategy.PayOne = stored strategy.PayOne refl refl
by-read e k P mapped black stored strategy.PayMany = stored strategy.PayMany refl refl
by-read e k P mapped black stored strategy.CompOne = stored strategy.CompOne refl refl
by-read e k P mapped black stored strategy.CompMany = stored strategy.CompMany refl refl
by-read e k P mapped black stored strategy.BlackBox = black

-- it can be used
kept-usable : (list : List Strategy) (s : Strategy) (e : Execution) (kept : Option NodeLineage)
    → is_listed list s ≡ true → supports e.site.op s ≡ true → extents_of e.inputs ≡ e.site.ins
    → FitsNode e.site list kept → IsUsable (view_by s e (keeping_from kept))
kept-usable list s e None listed supported ins fits =
    view_by-usable true list s e nothing listed supported ins (λ awaited. fits)
kept-usable list s e (Some k) listed supported ins fits =
    by-read e k (λ t w. is_listed list t ≡ true → supports e.site.op t ≡ true → IsUsable w)
    (λ there mapped. mapped) (λ there any. ins)
    (λ t stored black there any. record {
      site = fits.1.site;
      whole = fits.1.whole;
      stored = stored;
      listed = ap (λ (ts : List Strategy). is_listed ts t) fits.1.own ∙ there;
    }) s listed supported

-- it stays as it is when it is asked
kept-stays : (list : List Strategy) (s : Strategy) (e : Execution) (kept : Option NodeLineage) (w : View)
    → is_listed list s ≡ true → FitsNode e.site list kept → IsAsked (view_by s e (keeping_from kept)) w
    → w ≡ view_by s e (keeping_from kept)
kept-stays list s e None w listed fits asked = view_by-stays list s e nothing w listed (λ awaited. fits) asked
kept-stays list s e (Some k) w listed fits asked =
    by-read e k (λ t v. IsAsked v w → w ≡ v) (λ h. h) (λ h. h) (λ t stored black h. h) s asked

-- it is told by the way
kept-told : (list : List Strategy) (s : Strategy) (e : Execution) (kept : Option NodeLineage)
    → is_listed list s ≡ true → FitsNode e.site list kept
    → strategy_told (used_of (view_by s e (keeping_from kept))) ≡ s
kept-told list s e None listed fits = view_by-told list s e nothing listed (λ awaited. fits)
kept-told list s e (Some k) listed fits =
    by-read e k (λ t v. strategy_told (used_of v) ≡ t) refl refl (λ t stored black. refl) s

-- and as traced where that is black box
kept-traced : (list : List Strategy) (s : Strategy) (e : Execution) (kept : Option NodeLineage)
    → is_listed list s ≡ true → FitsNode e.site list kept
    → traced_by (view_by s e (keeping_from kept)) ≡ (if is_black_box s then size_of e.site.out else 0)
kept-traced list s e None listed fits = view_by-traced list s e nothing listed (λ awaited. fits)
kept-traced list s e (Some k) listed fits =
    by-read e k (λ t v. traced_by v ≡ (if is_black_box t then size_of e.site.out else 0)) refl refl
    (λ t stored black. sym (ap (λ (b : Bool). if b then size_of e.site.out else 0) black)) s

-- stores that were read are looked at as stores that were made are
abbrev made : Option NodeLineage → Keeping
made None = nothing
made (Some k) = whole k

view-made : (s : Strategy) (e : Execution) (kept : Option NodeLineage)
    → view_by s e (keeping_from kept) ≡ view_by s e (made kept)
view-made s e None = refl
view-made strategy.Map e (Some k) = refl
view-made strategy.FullOneB e (Some k) = refl
view-made strategy.FullOneF e (Some k) = refl
view-made strategy.FullManyB e (Some k) = refl
view-made strategy.FullManyF e (Some k) = refl
view-made strategy.PayOne e (Some k) = refl
view-made strategy.PayMany e (Some k) = refl
view-made strategy.CompOne e (Some k) = refl
view-made strategy.CompMany e (Some k) = refl
view-made strategy.BlackBox e (Some k) = refl

-- and where they stand for the relation, those would be what is kept of the execution
kept-sound : (b : Bool) (list : List Strategy) (e : Execution) (kept : Option NodeLineage) → FitsNode e.site list kept
    → HasEachStore kept → IsSoundNode e kept → IsKeptOf b e list (made kept)
kept-sound b list e None fits each sound = λ awaited. fits
kept-sound b list e (Some k) fits each sound = (
  fits.0,
  record {
    site = fits.1.site;
    list = fits.1.own;
    stored = each ∙ ap stored_in fits.1.own;
    whole = fits.1.whole;
    exact = sound;
  },
)

-- ---- one step

-- its operator is that of the execution
recalled-site : (v : Version) (stores : List (Option NodeLineage)) (dir : Dir) (s : Step)
    (h : IsRecalled v stores dir s) → view_site (recalled_view v stores dir s) ≡ h.execution.site
recalled-site v stores dir s h =
    ap view_site h.is ∙ view_by-site (way_of v dir s) h.execution (keeping_from h.kept)

-- the step can be taken from the shape in which it starts
recalled-taken : (v : Version) (stores : List (Option NodeLineage)) (dir : Dir) (s : Step) (from : Extent)
    → IsSoundVersion v → IsRecalled v stores dir s → from ≡ starts.step_start dir v s
    → IsStep dir (recalled_view v stores dir s) s.input from
recalled-taken v stores dir s from sound h starts_there =
    let e = h.execution in
    let site = recalled-site v stores dir s h in
    let ins : extents_of e.inputs ≡ e.site.ins =
    ap (λ (x : Execution). extents_of x.inputs) h.step.is ∙ sym (ap (λ (x : Execution). x.site.ins) h.step.is) in
    record {
      input = subst (λ (x : Site). s.input < length x.ins) (sym site) (step-input v s e h.step);
      near = starts_there ∙ sym (step-starts v s e dir sound h.step)
          ∙ ap (λ (x : Site). near_side dir x s.input) (sym site);
      ready = subst IsUsable (sym h.is)
          (kept-usable (list_of v s) (way_of v dir s) e h.kept h.listed h.supported ins h.fits);
    }

-- once it was asked, it is told by the way, and as traced where that is black box
recalled-told : (v : Version) (stores : List (Option NodeLineage)) (dir : Dir) (s : Step) (x : View)
    → IsSoundVersion v → IsRecalled v stores dir s → IsAsked (recalled_view v stores dir s) x
    → (strategy_told (used_of x) ≡ way_of v dir s) × (traced_by x ≡ black v dir s)
recalled-told v stores dir s x sound h asked =
    let e = h.execution in
    let t = way_of v dir s in
    let list = list_of v s in
    let same = kept-stays list t e h.kept x h.listed h.fits (subst (λ (y : View). IsAsked y x) h.is asked) in
    let out : e.site.out ≡ extent_at (starts.outputs_of v) s.node = step-starts v s e Back sound h.step in (
      ap (λ (y : View). strategy_told (used_of y)) same ∙ kept-told list t e h.kept h.listed h.fits,
      ap traced_by same ∙ kept-traced list t e h.kept h.listed h.fits
          ∙ ap (λ (y : Extent). if is_black_box t then size_of y else 0) out,
    )

-- ---- along the path

-- along a joined path each step can be taken, from the shape in which the path starts
pub recalled-steps : (v : Version) (stores : List (Option NodeLineage)) (dir : Dir) (path : List Step) (from : Extent)
    → IsSoundVersion v → Fit v stores → are_joined dir v.flow path ≡ true → from ≡ starts.path_start dir v path
    → AreSteps dir (map (recalled_view v stores dir) path) (map (λ (s : Step). s.input) path) from
recalled-steps v stores dir [] from sound fit joined is = tt
recalled-steps v stores dir (s ∷ []) from sound fit joined is =
    (recalled-taken v stores dir s from sound (recalled-at v stores dir s sound fit joined) is, tt)
recalled-steps v stores dir (s ∷ t ∷ path) from sound fit joined is =
    let outer = and_parts (is_there (source_of v.flow s) && follows dir v.flow s t)
    (are_joined dir v.flow (t ∷ path)) joined in
    let both = and_parts (is_there (source_of v.flow s)) (follows dir v.flow s t) outer.0 in
    let rest = and_parts (is_there (source_of v.flow t)) (are_there v.flow path)
    (joined-there dir v.flow (t ∷ path) outer.1) in
    let g = recalled-at v stores dir s sound fit both.0 in
    let h = recalled-at v stores dir t sound fit rest.0 in
    let leads : far_side dir (view_site (recalled_view v stores dir s)) s.input ≡ starts.step_start dir v t =
    ap (λ (y : Site). far_side dir y s.input) (recalled-site v stores dir s g)
    ∙ step-leads v s t g.execution h.execution dir g.step h.step both.1
    ∙ step-starts v t h.execution dir sound h.step in (
      recalled-taken v stores dir s from sound g is,
      recalled-steps v stores dir (t ∷ path) (far_side dir (view_site (recalled_view v stores dir s)) s.input) sound fit
          outer.1 leads,
    )

-- by which way each step went, and how many cells are told as traced
along-told : (v : Version) (stores : List (Option NodeLineage)) (dir : Dir) (path : List Step) (asked : List View)
    → IsSoundVersion v → Fit v stores → are_there v.flow path ≡ true
    → AllZip IsAsked (map (recalled_view v stores dir) path) asked
    → (map strategy_told (map used_of asked) ≡ map (way_of v dir) path) × (traced_of asked ≡ traced v dir path)
along-told v stores dir [] [] sound fit there all = (refl, refl)
along-told v stores dir (s ∷ path) (x ∷ asked) sound fit there all =
    let both = and_parts (is_there (source_of v.flow s)) (are_there v.flow path) there in
    let first = recalled-told v stores dir s x sound (recalled-at v stores dir s sound fit both.0) all.0 in
    let rest = along-told v stores dir path asked sound fit both.1 all.1 in (
      ap₂ (λ (y : Strategy) (ys : List Strategy). y ∷ ys) first.0 rest.0,
      ap₂ ◌+◌ first.1 rest.1 ∙ black-more v dir s path,
    )
along-told v stores dir _ _ sound fit there all = absurd all

-- ---- what is found

-- the cells
pub recalled-cells : (v : Version) (stores : List (Option NodeLineage)) (dir : Dir) (path : List Step)
    (named : List NamedCell) (s : Search) (f : Found) → IsRecallOf v stores dir path named s → IsAnswerTo s f
    → f.cells ≡ cells_recalled v stores dir path named
recalled-cells v stores dir path named s f h a =
    let inputs = map (λ (t : Step). t.input) path in
    a.cells
    ∙ ap (λ (d : Dir). answered d s.views s.inputs s.start) h.turned
    ∙ ap (λ (views : List View). answered dir views s.inputs s.start) h.views
    ∙ ap (λ (is : List ℕ). answered dir (map (recalled_view v stores dir) path) is s.start) h.inputs
    ∙ ap (λ (x : Cells). answered dir (map (recalled_view v stores dir) path) inputs x) h.start

asked-told : (v : Version) (stores : List (Option NodeLineage)) (dir : Dir) (path : List Step)
    (named : List NamedCell) (s : Search) (f : Found) → IsRecallOf v stores dir path named s → (a : IsAnswerTo s f)
    → (map strategy_told (map used_of a.views) ≡ map (way_of v dir) path) × (traced_of a.views ≡ traced v dir path)
asked-told v stores dir path named s f h a =
    along-told v stores dir path a.views h.sound h.fit
    (joined-there dir v.flow path (joined-parts dir v.flow path h.joined).2)
    (subst (λ (views : List View). AllZip IsAsked views a.views) h.views a.asked)

-- by which way each step went
pub recalled-ways : (v : Version) (stores : List (Option NodeLineage)) (dir : Dir) (path : List Step)
    (named : List NamedCell) (s : Search) (f : Found) → IsRecallOf v stores dir path named s → IsAnswerTo s f
    → map strategy_told f.used ≡ map (way_of v dir) path
recalled-ways v stores dir path named s f h a =
    ap (map strategy_told) a.used ∙ (asked-told v stores dir path named s f h a).0

-- how many cells are told as traced
pub recalled-traced : (v : Version) (stores : List (Option NodeLineage)) (dir : Dir) (path : List Step)
    (named : List NamedCell) (s : Search) (f : Found) → IsRecallOf v stores dir path named s → IsAnswerTo s f
    → f.traced ≡ traced v dir path
recalled-traced v stores dir path named s f h a = a.traced ∙ (asked-told v stores dir path named s f h a).1

-- that is as many as are told for an ask at least, and at most, where the version is awaited
pub recalled-within : (v : Version) (stores : List (Option NodeLineage)) (dir : Dir) (path : List Step)
    (named : List NamedCell) (s : Search) (f : Found) → IsRecallOf v stores dir path named s → IsAnswerTo s f
    → v.awaited ≡ true → (traced v dir path ≤ f.traced) × (f.traced ≤ most_traced v dir path)
recalled-within v stores dir path named s f h a awaited =
    let exact = recalled-traced v stores dir path named s f h a in
    (omega (arith, exact), rw awaited (omega (arith, exact)))

-- ---- where the stores stand for the relation

-- the view of a step is then one of the version
sound-view : (v : Version) (stores : List (Option NodeLineage)) (dir : Dir) (s : Step) → All HasEachStore stores
    → AreSoundNodes (executions_of v) stores → IsRecalled v stores dir s
    → IsViewOf v dir s (recalled_view v stores dir s)
sound-view v stores dir s each sound h =
    let own = kept-sound v.awaited (list_of v s) h.execution h.kept h.fits
    (all-of HasEachStore stores s.node h.kept each h.at)
    (zip-at IsSoundNode s.node (executions_of v) stores h.execution h.kept sound h.here h.at) in
    (h.execution, h.here, made h.kept, own, h.is ∙ view-made (way_of v dir s) h.execution h.kept)

pub sound-recalled : (v : Version) (stores : List (Option NodeLineage)) (dir : Dir) (path : List Step)
    → IsSoundVersion v → Fit v stores → All HasEachStore stores → AreSoundNodes (executions_of v) stores
    → are_there v.flow path ≡ true → AllZip (IsViewOf v dir) path (map (recalled_view v stores dir) path)
sound-recalled v stores dir [] version fit each sound there = tt
sound-recalled v stores dir (s ∷ path) version fit each sound there =
    let both = and_parts (is_there (source_of v.flow s)) (are_there v.flow path) there in (
      sound-view v stores dir s each sound (recalled-at v stores dir s version fit both.0),
      sound-recalled v stores dir path version fit each sound both.1,
    )

-- so a search by them is one of the version
pub recalled-search : (v : Version) (stores : List (Option NodeLineage)) (dir : Dir) (path : List Step)
    (named : List NamedCell) (s : Search) → All HasEachStore stores → AreSoundNodes (executions_of v) stores
    → IsRecallOf v stores dir path named s → IsSearchOf v dir path named s
recalled-search v stores dir path named s each sound h =
    let there = joined-there dir v.flow path (joined-parts dir v.flow path h.joined).2 in
    record {
      sound = h.sound;
      joined = h.joined;
      turned = h.turned;
      views = subst (λ (views : List View). AllZip (IsViewOf v dir) path views) (sym h.views)
          (sound-recalled v stores dir path h.sound h.fit each sound there);
      inputs = h.inputs;
      start = h.start;
    }

-- and what is answered by them is the composed relation
pub recalled-sound : SoundStoresAnswerTheRelation
recalled-sound v stores dir path named version fit each sound joined =
    let start = starts.path_start dir v path in
    let cells = map (starts.cell_named start) named in
    let parts = joined-parts dir v.flow path joined in
    let there = joined-there dir v.flow path parts.2 in
    let views = map (recalled_view v stores dir) path in
    views-answer v dir path views (named_in start cells) version parts.2
    (sound-views v dir path views version there (sound-recalled v stores dir path version fit each sound there)) refl
    (named-set start cells)
