-- The version is held and in order, so the stores of its trail fit it, and they are sound.
use Rattle.std.proofs.Common.{List, Option, sym, ap, ◌∙◌, subst}
use Rattle.std.proofs.lemmas.Result.{IfOk-weaker}
use Rattle.sz_store.specs.Kept.{NodeLineage}
use Rattle.sz_catalogue.specs.Rules.{version_of}
use Rattle.sz_catalogue.proofs.Order as in_order
use Rattle.sz_bodies.specs.Bodies.{IsBodyOf}
use Rattle.sz_bodies.specs.Fitting.{Fit, lineages, sites_of, body_of}
use Rattle.sz_recover.specs.Soundness.{AreSoundNodes}
use Rattle.sz_versions.specs.Bodies.{IsSoundBody}
use Rattle.sz_versions.specs.Runs.{executions_of}
use Rattle.sz_versions.proofs.Keeps.{version-found}
use Rattle.sz_versions.proofs.Trails.{trail-fits, trail-sound}
use Rattle.sz_versions.proofs.bodies.body_for.Goals as goal

pub version_body-requires-clause-fit : goal.version_body-requires-clause-fit
version_body-requires-clause-fit c =
    let cat = c.args.catalogue.now in
    let n = c.args.version in
    let v = version_of cat n in
    let here = in_order.version-found cat n v c.is_in_order.ensures (version-found cat n c.requires.held) in
    let same = ap (λ xs. lineages xs) c.deref.ensures.value ∙ c.in_ok-stores.ensures in
    subst (λ (ks : List (Option NodeLineage)). Fit v ks) (sym same)
    (trail-fits v c.args.run.now (record { run = here.run }) c.requires.own)

pub returns : goal.returns
returns c =
    let cat = c.args.catalogue.now in
    let n = c.args.version in
    let v = version_of cat n in
    let here = in_order.version-found cat n v c.is_in_order.ensures (version-found cat n c.requires.held) in
    let kept = lineages c.deref.result.now in
    let same = ap (λ xs. lineages xs) c.deref.ensures.value ∙ c.in_ok-stores.ensures in
    IfOk-weaker c.version_body.result (λ body. IsBodyOf c.args.format (sites_of v) (body_of n v kept) body.items)
    (λ body. IsSoundBody c.args.format n v body.items)
    (λ body is. record {
      stores = kept;
      fit = subst (λ (ks : List (Option NodeLineage)). Fit v ks) (sym same)
          (trail-fits v c.args.run.now (record { run = here.run }) c.requires.own);
      sound = subst (λ (ks : List (Option NodeLineage)). AreSoundNodes (executions_of v) ks) (sym same)
          (trail-sound v c.args.run.now c.requires.own);
      is = is;
    }) c.version_body.ensures
