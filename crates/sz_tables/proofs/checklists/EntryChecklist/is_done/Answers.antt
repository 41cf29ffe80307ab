-- The rows of what is kept are those of what was ticked, in another order.
use Rattle.std.proofs.Common.{◌≡◌, ◌∙◌, map, subst, ap, List}
use Rattle.std.specs.Prelude.{IsPermutation}
use Rattle.std.proofs.lemmas.List.Sorted.{IsPermutation-map}
use Rattle.sz_frame.specs.Parts.{Entry}
use Rattle.sz_tables.specs.Entries.{EntryRows, entries, entry_named}
use Rattle.sz_tables.specs.Checklists.{Checklist}
use Rattle.sz_tables.proofs.checklists.EntryChecklist.is_done.Goals as goal

pub returns : goal.returns
returns c done =
    let t = c.self.inside.table.now in
    let f = entry_named t.sets t.payloads in
    let left : map f c.deref_mut.result.now ≡ entries t =
    ap (map f) (c.deref_mut.ensures.value ∙ c.in_ok-kept.ensures.items_if_clones_equal (λ x y same. same)
    ∙ c.rows.ensures) in
    let right : map f c.deref_mut-2.result.now ≡ map f c.self.inside.rows.items =
    ap (map f) c.deref_mut-2.ensures.value in
    let one = IsPermutation-map f _ _ (c.are_one_rows.ensures done) in
    subst (λ (s : Checklist EntryRows Entry). IsPermutation (entries s.table) s.ticked) c.self.view_is
    (subst (λ (xs : List Entry). IsPermutation xs (map f c.self.inside.rows.items)) left
    (subst (λ (xs : List Entry). IsPermutation (map f c.deref_mut.result.now) xs) right one))
