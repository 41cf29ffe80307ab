-- The set stands behind the others, under the number of the names before.
use Rattle.std.proofs.Common.{◌∙◌, ◌≡◌, ◌++◌, ◌∷◌, [], ℕ, List, length, sym, ap, subst, arith}
use Rattle.std.proofs.lemmas.Result.{on_ok_weaker}
use Rattle.sz_region.specs.FullBytes.{Listed}
use Rattle.sz_merge.specs.Marks.{ArePut}
use Rattle.sz_merge.proofs.Numbered.{put-one}
use Rattle.sz_merge.proofs.tabled.put_set.Goals as goal

pub returns : goal.returns
returns c =
    let names = c.args.names.now.items in
    let old = c.args.to.now.items in
    let l : Listed = c.args.set.now in
    let named : c.push.new.self.items ≡ names ++ length names ∷ [] =
    c.in_ok-push.ensures.items ∙ ap (λ (n : ℕ). names ++ n ∷ []) (omega (arith, c.len.ensures)) in
    on_ok_weaker c.put_listed.result
    (λ added. subst (λ (ns : List ℕ). ArePut names ns old c.put_listed.new.to.items (l ∷ [])) (sym named)
    (subst (λ (bs : List ℕ). ArePut names (names ++ length names ∷ []) old bs (l ∷ [])) (sym added)
    (put-one names old l c.requires.set))) c.put_listed.ensures.ok
