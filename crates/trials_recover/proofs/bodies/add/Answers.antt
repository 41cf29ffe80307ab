-- The version that is added is the one that is held under its number.
use Rattle.std.proofs.Common.{◌≡◌, ℕ, List, [], ◌∷◌, Option, Some, is_none, unwrap_or, refl, sym, ap, subst, ◌∙◌}
use Rattle.std.specs.Cmp.{nat_cmp_is}
use Rattle.std.specs.Map.{lookup}
use Rattle.std.specs.BTreeMap.{is_at, insert_entry}
use Rattle.std.specs.Ordering.{nat_cmp, match_ordering}
use Rattle.std.specs.declared.cmp.Ordering.{Ordering}
use Rattle.std.specs.declared.cmp.Ordering.TheVariants.{Less, Equal, Greater}
use Rattle.sz_store.specs.Kept.{NodeLineage}
use Rattle.sz_catalogue.specs.Holdings.{Version, Holdings, no_version}
use Rattle.sz_catalogue.specs.Rules.{has_no_version, version_of}
use Rattle.sz_catalogue.specs.Changes.{with_version}
use Rattle.sz_bodies.specs.Fitting.{Fit, lineages}
use Rattle.sz_bodies.specs.Taking.{Taken}
use Rattle.trials_recover.proofs.bodies.add.Goals as goal

same : (n : ℕ) → nat_cmp n n ≡ Equal
same n = sym (nat_cmp_is n n Equal refl)

-- a version that is put under a number is found there
held-after : (es : List (ℕ × Version)) (n : ℕ) (v : Version)
    → lookup (is_at (nat_cmp n)) (insert_entry nat_cmp es n v) ≡ Some v
held-after [] n v = rw (same n) refl
held-after (e ∷ es) n v = step (nat_cmp n e.0) refl (held-after es n v) where
  step : (o : Ordering) → nat_cmp n e.0 ≡ o
      → lookup (is_at (nat_cmp n)) (insert_entry nat_cmp es n v) ≡ Some v
      → lookup (is_at (nat_cmp n)) (match_ordering o ((n, v) ∷ e ∷ es) ((e.0, v) ∷ es)
      (e ∷ insert_entry nat_cmp es n v)) ≡ Some v
  step Less is rest = rw (same n) refl
  step Equal is rest = rw is refl
  step Greater is rest = rw is rest

pub returns-clause-held : goal.returns-clause-held
returns-clause-held c =
    let held = c.args.held.now in
    let n = c.args.taken.number in
    let new : c.add_version.new.self ≡ with_version held n c.args.taken.version =
    c.in_ok-add_version.ensures.ok ∙ ap (λ (t : Taken). with_version held t.number t.version) c.taken.view_is in
    ap (λ (h : Holdings). has_no_version h n) new
    ∙ ap (λ (o : Option Version). is_none o) (held-after held.versions n c.args.taken.version)

pub returns-clause-fit : goal.returns-clause-fit
returns-clause-fit c =
    let held = c.args.held.now in
    let n = c.args.taken.number in
    let v = c.args.taken.version in
    let new : c.add_version.new.self ≡ with_version held n v =
    c.in_ok-add_version.ensures.ok ∙ ap (λ (t : Taken). with_version held t.number t.version) c.taken.view_is in
    let version : version_of c.add_version.new.self n ≡ v =
    ap (λ (h : Holdings). version_of h n) new
    ∙ ap (λ (o : Option Version). unwrap_or o no_version) (held-after held.versions n v) in
    let stores : lineages c.taken.inside.stores.items ≡ c.args.taken.stores =
    ap (λ (t : Taken). t.stores) c.taken.view_is in
    subst (λ (w : Version). Fit w (lineages c.taken.inside.stores.items)) (sym version)
    (subst (λ (ks : List (Option NodeLineage)). Fit v ks) (sym stores) c.requires.fit)
