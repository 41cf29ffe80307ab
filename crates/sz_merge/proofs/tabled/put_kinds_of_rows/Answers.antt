-- The rows are numbered, the cells are sorted by their numbers, and the sets of each kind are put.
use Rattle.std.proofs.Common.{◌≡◌, ◌<◌, ◌∙◌, ◌∷◌, [], ℕ, List, length, refl, sym, ap, subst}
use Rattle.std.proofs.Common.{arith, All, Option, ◌+◌}
use Rattle.std.specs.Prelude.{IfSome, OnSome}
use Rattle.std.proofs.lemmas.List.{length-map}
use Rattle.std.proofs.lemmas.List.Elements.{All-weaker}
use Rattle.sz_cells.specs.Cells.{Cells}
use Rattle.sz_cells.specs.Extent.{Extent}
use Rattle.sz_spec.specs.Values.{extent_at, no_extent}
use Rattle.sz_frame.specs.Parts.{Pairing}
use Rattle.sz_region.specs.Putting.{HasShapes}
use Rattle.sz_tables.specs.Rows.{pairings, sets_of}
use Rattle.sz_merge.specs.Lineages.{lists_of}
use Rattle.sz_merge.specs.Marks.{AreLabels, IsStorePut, kinds_below, kinds_behind}
use Rattle.sz_merge.proofs.Listed.{lists-sorted, single}
use Rattle.sz_merge.proofs.Marked.{labels-numbers}
use Rattle.sz_merge.proofs.Sorting.{AreSorted, sorted-longest, kinds-are, kinds-shapes, kinds-same}
use Rattle.sz_merge.proofs.tabled.put_kinds_of_rows.Goals as goal
use Rattle.sz_merge.proofs.tabled.put_kinds_of_rows.Goals.{In_ok-groups}

-- the sets that are left are those of the input
count : (c : In_ok-groups) → c.len-2.result ≡ length (sets_of c.args.table.now.sets 0)
count c = omega (arith, c.len-2.ensures.count, ap length c.in_sets-behind.ensures.sets)

-- each cell has the number of a lineage
pub group_cells-requires-clause-numbers : goal.group_cells-requires-clause-numbers
group_cells-requires-clause-numbers c =
    let t = c.args.table.now in
    let sets = sets_of t.sets 0 in
    let lists = lists_of t.ins sets in
    let labels = c.in-Some.labels.items in
    let numbers : AreLabels c.args.out t.ins (pairings t) labels lists =
    subst (λ (o : Option _). IfSome o (λ v. AreLabels c.args.out t.ins (pairings t) v.items lists)) c.in-Some.is
    c.in_ok-labels.ensures.labels in
    subst (All (λ (n : ℕ). n < c.len-2.result + 1)) (sym c.deref.ensures.value)
    (All-weaker (λ (n : ℕ). n < length lists) (λ (n : ℕ). n < c.len-2.result + 1)
    (λ n below.
    omega (
      arith,
      below,
      c.len-2.ensures.count,
      ap length c.in_sets-behind.ensures.sets,
      length-map sets (λ (x : Cells). x ∷ []),
    )) labels
    (labels-numbers c.args.out t.ins (pairings t) labels lists numbers))

-- the region pairs have the shapes
pairs-shapes : (c : In_ok-groups) → All (HasShapes c.args.out c.args.ins.now) (pairings c.args.table.now)
pairs-shapes c =
    let t = c.args.table.now in
    subst (λ (es : List Extent). All (HasShapes c.args.out es) (pairings t)) c.requires.ins
    (subst (λ (o : Option _). OnSome o (All (HasShapes c.args.out t.ins) (pairings t))) c.in-Some.is
    c.in_ok-labels.ensures.shapes)

sorted : (c : In_ok-groups) → AreSorted c.args.out c.args.ins.now (pairings c.args.table.now) c.in-Some.labels.items
    c.in_ok-groups.groups (lists_of c.args.ins.now (sets_of c.args.table.now.sets 0))
sorted c =
    let t = c.args.table.now in
    let ins = c.args.ins.now in
    let sets = sets_of t.sets 0 in
    let labels = c.in-Some.labels.items in
    let numbers : AreLabels c.args.out t.ins (pairings t) labels (lists_of t.ins sets) =
    subst (λ (o : Option _). IfSome o (λ v. AreLabels c.args.out t.ins (pairings t) v.items (lists_of t.ins sets)))
    c.in-Some.is c.in_ok-labels.ensures.labels in
    lists-sorted t c.args.out ins labels c.deref.result.now c.in_ok-groups.groups (c.len-2.result + 1)
    (lists_of ins sets) (omega (arith, c.if-ins-ne1.false)) c.requires.ins (pairs-shapes c) c.sets_of.ensures.different
    (c.if-not-have_cells.ensures.some refl) refl numbers c.deref.ensures.value
    (omega (arith, count c, length-map sets (λ (s : Cells). s ∷ []))) c.in_ok-groups.ensures

-- the kinds of the table
abbrev kinds : (c : In_ok-groups) → List Pairing
kinds c =
    let lists = lists_of c.args.ins.now (sets_of c.args.table.now.sets 0) in
    kinds_below c.args.out c.in_ok-groups.groups lists (length lists)

shapes : (c : In_ok-groups) → All (HasShapes c.args.out c.args.ins.now) (kinds c)
shapes c =
    kinds-shapes c.args.out c.args.ins.now (pairings c.args.table.now) c.in-Some.labels.items c.in_ok-groups.groups
    (lists_of c.args.ins.now (sets_of c.args.table.now.sets 0)) (sorted c)

-- the sets that are left are those of the one input
input : (c : In_ok-groups) → c.in_sets-behind.result.now.extent ∷ [] ≡ c.args.ins.now
input c =
    let ins = c.args.ins.now in
    ap (λ (e : Extent). e ∷ [])
    (c.in_sets-behind.ensures.extent ∙ ap (λ (es : List Extent). extent_at es 0) c.requires.ins)
    ∙ sym (single no_extent ins (omega (arith, c.if-ins-ne1.false)))

made : (c : In_ok-groups) → kinds_behind c.args.out c.in_ok-groups.groups c.in_sets-behind.result.now ≡ kinds c
made c =
    let out = c.args.out in
    let groups = c.in_ok-groups.groups in
    let sets = sets_of c.args.table.now.sets 0 in
    let lists = lists_of c.args.ins.now sets in
    let long : length groups ≡ length lists =
    omega (arith, c.in_ok-groups.ensures.many, count c, length-map sets (λ (s : Cells). s ∷ [])) in
    ap
    (λ (ss : List Cells).
    kinds_below out groups (lists_of (c.in_sets-behind.result.now.extent ∷ []) ss) (length groups))
    c.in_sets-behind.ensures.sets
    ∙ ap (λ (es : List Extent). kinds_below out groups (lists_of es sets) (length groups)) (input c)
    ∙ ap (kinds_below out groups lists) long

pub put_kinds-requires-clause-many : goal.put_kinds-requires-clause-many
put_kinds-requires-clause-many c = omega (arith, c.in_ok-groups.ensures.many, c.len-2.ensures.count)

pub put_kinds-requires-clause-few : goal.put_kinds-requires-clause-few
put_kinds-requires-clause-few c =
    omega (
      arith,
      c.in_ok-groups.ensures.many,
      c.len-2.ensures.count,
      ap length c.in_sets-behind.ensures.sets,
      c.sets_of.ensures.count,
      c.if-sets_of-len.false,
      c.len.ensures.count,
      c.len.ensures.few,
    )

pub put_kinds-requires-clause-groups : goal.put_kinds-requires-clause-groups
put_kinds-requires-clause-groups c =
    let s = (goal.at.put_kinds-requires-clause-groups c).In_ok-groups in
    sorted-longest c.args.out c.args.ins.now (pairings c.args.table.now) c.in-Some.labels.items c.in_ok-groups.groups
    (lists_of c.args.ins.now (sets_of c.args.table.now.sets 0)) (sorted s)

pub put_kinds-requires-clause-shapes : goal.put_kinds-requires-clause-shapes
put_kinds-requires-clause-shapes c =
    let s = (goal.at.put_kinds-requires-clause-shapes c).In_ok-groups in
    subst (λ (es : List Extent). All (HasShapes c.args.out es) (kinds_behind c.args.out c.in_ok-groups.groups
    c.in_sets-behind.result.now)) (sym (input s))
    (subst (All (HasShapes c.args.out c.args.ins.now)) (sym (made s)) (shapes s))

pub returns-clause-put : goal.returns-clause-put
returns-clause-put c =
    let s = (goal.at.returns-clause-put c).In_ok-groups in
    let t = c.args.table.now in
    let out = c.args.out in
    let ins = c.args.ins.now in
    let labels = c.in-Some.labels.items in
    let groups = c.in_ok-groups.groups in
    let lists = lists_of ins (sets_of t.sets 0) in
    let old = c.args.to.now.items in
    let new = c.put_kinds.new.to.items in
    let n = c.in_ok-kinds.kinds in
    let put : IsStorePut out ins (kinds s) n old new =
    subst (λ (es : List Extent). IsStorePut out es (kinds s) n old new) (input s)
    (subst (λ (ms : List Pairing). IsStorePut out (c.in_sets-behind.result.now.extent ∷ []) ms n old new) (made s)
    c.in_ok-kinds.ensures) in
    record {
      put = kinds s;
      kinds = kinds-are out ins (pairings t) labels groups lists (sorted s);
      shapes = shapes s;
      same = λ i o x inside. kinds-same out ins (pairings t) labels groups lists i o x (sorted s) inside;
      many = put.many;
      table = put.table;
      word = put.word;
      is_word = put.is_word;
      added = put.added;
    }
