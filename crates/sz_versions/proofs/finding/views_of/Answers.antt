-- One more view, for one more step.
use Rattle.std.proofs.Common.{◌≡◌, ◌+◌, ◌++◌, ◌∷◌, [], List, map, take, sym, ap, ◌∙◌, arith, subst}
use Rattle.std.proofs.lemmas.List.{map-append, take_more}
use Rattle.sz_spec.specs.declared.modes.Dir.{Dir}
use Rattle.sz_spec.specs.Paths.{Step}
use Rattle.sz_catalogue.specs.Holdings.{Version}
use Rattle.sz_query.specs.declared.views.NodeView.{NodeView}
use Rattle.sz_query.specs.Views.{View, view_of}
use Rattle.sz_query.specs.Answers.{most_traced_of}
use Rattle.sz_versions.specs.Stores.{Trail}
use Rattle.sz_versions.specs.Lending.{once_asked, once_along, IsTrailStill}
use Rattle.sz_versions.specs.Along.{view_in, views_along}
use Rattle.sz_versions.proofs.PathViews.{traced-more}
use Rattle.sz_versions.proofs.Lending.{along-more}
use Rattle.sz_versions.proofs.Still.{along-still, trail-same, for-still}
use Rattle.sz_versions.proofs.Along.{views-more}
use Rattle.sz_versions.proofs.finding.views_of.Goals as goal

-- what was lent for some steps, and then for one more, was lent for these
lent-more : (v : Version) (dir : Dir) (steps more : List Step) (s : Step) (first before after : Trail)
    → more ≡ steps ++ s ∷ [] → before ≡ once_along v dir steps first → after ≡ once_asked v dir s before
    → after ≡ once_along v dir more first
lent-more v dir steps more s first before after is so one =
    one ∙ ap (once_asked v dir s) so ∙ sym (along-more v dir steps s first)
    ∙ ap (λ (l : List Step). once_along v dir l first) (sym is)

-- and nothing but passes changed by that
lent-still : (v : Version) (dir : Dir) (steps : List Step) (t u : Trail) → u ≡ once_along v dir steps t
    → IsTrailStill t u
lent-still v dir steps t u is = subst (IsTrailStill t) (sym is) (along-still v dir steps t)

-- the views with one more
seen-more : (v : Version) (dir : Dir) (steps more : List Step) (s : Step) (t u : Trail) (ws : List View) (w : View)
    → more ≡ steps ++ s ∷ [] → u ≡ once_along v dir steps t → ws ≡ views_along v dir steps t
    → w ≡ view_in v dir u s → ws ++ w ∷ [] ≡ views_along v dir more t
seen-more v dir steps more s t u ws w is so seen here =
    ap (λ (xs : List View). xs ++ w ∷ []) seen ∙ sym (views-more v dir steps s t u w so here)
    ∙ ap (λ (l : List Step). views_along v dir l t) (sym is)

pub view_at-requires-clause-run : goal.view_at-requires-clause-run
view_at-requires-clause-run c =
    let v = c.args.version.now in
    for-still v c.args.run.now c.loop-step.run
    (lent-still v c.args.dir (take c.loop-step.step-index c.args.path.now) c.args.run.now c.loop-step.run
    c.loop-step.invariant.lent) c.requires.run

pub loop-step-preserved : goal.loop-step-preserved
loop-step-preserved c =
    let v = c.args.version.now in
    let path = c.args.path.now in
    let i = c.loop-step.step-index in
    let w = c.in_ok-view_at.field-0 in
    let views : map view_of c.push.new.self.items ≡ map view_of c.loop-step.views.items ++ view_of w ∷ [] =
    ap (λ (ws : List NodeView). map view_of ws) c.in_ok-push.ensures.items
    ∙ map-append view_of c.loop-step.views.items (w ∷ []) in
    let steps : take (i + 1) path ≡ take i path ++ c.step-item.result ∷ [] =
    take_more path i c.step-item.result c.loop-step-test.true
    ∙ ap (λ (s : Step). take i path ++ s ∷ []) (sym c.step-item.is) in
    record {
      views = views
          ∙ seen-more v c.args.dir (take i path) (take (i + 1) path) c.step-item.result c.args.run.now c.loop-step.run
          (map view_of c.loop-step.views.items) (view_of w) steps c.loop-step.invariant.lent
          c.loop-step.invariant.views c.in_ok-view_at.ensures.view;
      few = omega (
        arith,
        c.loop-step.invariant.few,
        c.in_ok-view_at.ensures.few,
        traced-more (map view_of c.loop-step.views.items) (view_of w),
        ap most_traced_of views,
      );
      lent =
          lent-more v c.args.dir (take i path) (take (i + 1) path) c.step-item.result c.args.run.now c.loop-step.run
          c.view_at.new.run steps c.loop-step.invariant.lent c.in_ok-view_at.ensures.counted;
    }

-- ---- what is left of the trail

pub returns-in_err-views-clause-still : goal.returns-in_err-views-clause-still
returns-in_err-views-clause-still c = trail-same c.args.run.now

pub returns-in_err-view_at-clause-still : goal.returns-in_err-view_at-clause-still
returns-in_err-view_at-clause-still c =
    lent-still c.args.version.now c.args.dir (take c.loop-step.step-index c.args.path.now) c.args.run.now
    c.view_at.new.run (c.in_err-view_at.ensures.err ∙ c.loop-step.invariant.lent)

pub returns-in_err-push-clause-still : goal.returns-in_err-push-clause-still
returns-in_err-push-clause-still c =
    let v = c.args.version.now in
    let path = c.args.path.now in
    let i = c.loop-step.step-index in
    let steps : take (i + 1) path ≡ take i path ++ c.step-item.result ∷ [] =
    take_more path i c.step-item.result c.loop-step-test.true
    ∙ ap (λ (s : Step). take i path ++ s ∷ []) (sym c.step-item.is) in
    lent-still v c.args.dir (take (i + 1) path) c.args.run.now c.view_at.new.run
    (lent-more v c.args.dir (take i path) (take (i + 1) path) c.step-item.result c.args.run.now c.loop-step.run
    c.view_at.new.run steps c.loop-step.invariant.lent c.in_ok-view_at.ensures.counted)

pub returns-clause-still : goal.returns-clause-still
returns-clause-still c =
    lent-still c.args.version.now c.args.dir (take c.loop-step.step-index c.args.path.now) c.args.run.now
    c.loop-step.run c.loop-step.invariant.lent
