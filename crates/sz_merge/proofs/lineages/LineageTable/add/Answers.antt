-- A word that is there is that of an equal lineage.
use Rattle.std.proofs.Common.{◌≡◌, ◌∙◌, ◌++◌, ◌≤◌, ℕ, List, map, length, sym, ap, subst, arith, All}
use Rattle.std.specs.Arc.{arc_value}
use Rattle.std.specs.List.{slice_get}
use Rattle.sz_cells.specs.Cells.{Cells}
use Rattle.sz_cells.specs.SetBytes.{IsSetOf}
use Rattle.sz_tables.specs.Payloads.{PayloadsByNumber}
use Rattle.sz_merge.specs.Lineages.{Lineages, spelling}
use Rattle.sz_merge.specs.Spelled.{AreSetsOver}
use Rattle.sz_merge.proofs.Sets.{same-lineage}
use Rattle.sz_merge.proofs.lineages.LineageTable.add.Goals as goal

pub returns-else-len-clause-number : goal.returns-else-len-clause-number
returns-else-len-clause-number c =
    let n = c.add-number.result in
    let lists = c.self.inside.lists.items in
    let sets : List Cells = map (λ a. arc_value a) c.args.sets.items in
    let word = c.deref-2.result.now in
    let is : word ≡ spelling sets =
    c.deref-2.ensures.value ∙ c.in_ok-put_sets.ensures.ok
    ∙ ap (λ (b : List ℕ). b ++ spelling (map (λ a. arc_value a) c.deref.result.now)) c.new-word.ensures.items
    ∙ ap (λ (xs : _). spelling (map (λ a. arc_value a) xs)) c.deref.ensures.value in
    let over : AreSetsOver c.self.inside.ins.items sets = record {
      extents = c.requires ∙ sym (ap (λ (t : Lineages). t.ins) c.self.view_is);
      right =
          subst (λ (xs : _). All (λ (s : Cells). IsSetOf s.extent s) (map (λ a. arc_value a) xs)) c.deref.ensures.value
          c.in_ok-put_sets.ensures.right;
    } in
    let short : length c.add-number.new.self.payloads ≤ length lists =
    omega (
      arith,
      c.if-len.false,
      c.len-3.ensures,
      c.len-4.ensures.count,
      ap length c.in_ok-reserve-2.ensures.items,
    ) in
    ap (λ (ls : List (List Cells)). slice_get ls n) c.in_ok-reserve-2.ensures.items
    ∙ same-lineage c.self.inside.ins.items lists c.self.inside.words.payloads c.reserve.new.self.payloads
    c.add-number.new.self.payloads n word sets c.self.invariant
    (ap (λ (p : PayloadsByNumber). p.payloads) c.in_ok-reserve.ensures.kept) c.add-number.ensures.payloads short
    c.add-number.ensures.number is over
