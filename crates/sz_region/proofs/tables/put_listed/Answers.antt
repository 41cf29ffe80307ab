-- The bytes of the longest runs are those of the set.
use Rattle.std.proofs.Common.{◌≡◌, List, [], ◌∷◌, ◌++◌, ap, sym, ◌∙◌, append_assoc, ℕ}
use Rattle.std.proofs.lemmas.Result.{on_ok_weaker, on_err_weaker}
use Rattle.sz_region.specs.Taking.{runs_bytes}
use Rattle.sz_region.specs.FullBytes.{listed_bytes}
use Rattle.sz_region.proofs.Appending.{kept-first}
use Rattle.sz_region.proofs.Listing.{listed-word}
use Rattle.sz_region.proofs.tables.put_listed.Goals as goal

pub returns-clause-ok : goal.returns-clause-ok
returns-clause-ok c =
    let set = c.set.inside in
    let old = c.args.to.now.items in
    let word : listed_bytes c.args.set.now ≡ set.array ∷ runs_bytes set.runs.now =
    ap listed_bytes (sym c.set.view_is) ∙ listed-word set.array set.shape set.runs.now c.set.invariant in
    on_ok_weaker c.put_runs.result
    (λ put. put ∙ ap (λ (xs : List ℕ). xs ++ runs_bytes set.runs.now) c.in_ok-push.ensures.items
    ∙ append_assoc old (set.array ∷ []) (runs_bytes set.runs.now) ∙ ap (λ (xs : List ℕ). old ++ xs) (sym word))
    c.put_runs.ensures.ok

pub returns-clause-err : goal.returns-clause-err
returns-clause-err c =
    on_err_weaker c.put_runs.result
    (λ kept. kept-first c.args.to.now.items (c.set.inside.array ∷ []) c.put_runs.new.to.items
    (rw c.in_ok-push.ensures.items at kept))
    c.put_runs.ensures.err
