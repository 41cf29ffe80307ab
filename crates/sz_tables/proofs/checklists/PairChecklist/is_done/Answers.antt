-- The names of what is kept are those of what was ticked, in another order.
use Rattle.std.proofs.Common.{◌≡◌, ◌∙◌, map, subst, ap, List}
use Rattle.std.specs.Prelude.{IsPermutation}
use Rattle.std.proofs.lemmas.List.Sorted.{IsPermutation-map}
use Rattle.sz_frame.specs.Parts.{Pairing}
use Rattle.sz_tables.specs.Rows.{RowTable, pairings}
use Rattle.sz_tables.specs.Checklists.{Checklist, pair_named}
use Rattle.sz_tables.proofs.checklists.PairChecklist.is_done.Goals as goal

pub returns : goal.returns
returns c done =
    let t = c.self.inside.table.now in
    let f = pair_named t in
    let left : map f c.deref_mut.result.now ≡ pairings t =
    ap (map f) c.deref_mut.ensures.value ∙ c.in_ok-put_names.ensures in
    let right : map f c.deref_mut-2.result.now ≡ map f c.self.inside.names.items =
    ap (map f) c.deref_mut-2.ensures.value in
    let one = IsPermutation-map f _ _ (c.are_one.ensures done) in
    subst (λ (s : Checklist RowTable Pairing). IsPermutation (pairings s.table) s.ticked) c.self.view_is
    (subst (λ (xs : List Pairing). IsPermutation xs (map f c.self.inside.names.items)) left
    (subst (λ (xs : List Pairing). IsPermutation (map f c.deref_mut.result.now) xs) right one))
