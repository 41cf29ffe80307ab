-- What a look forward has added: cells that pass a test of places, and a test of what they stand for.
use Rattle.std.proofs.Common.{◌≡◌, ℕ, zero, suc, ◌+◌, ◌<◌, ◌≤◌, ◌==◌, Bool, true, false, true≢false, ◌&&◌, ◌||◌, not}
use Rattle.std.proofs.Common.{List, [], ◌∷◌, length, take, get_or, nat_le, nat_lt, ◌≢◌}
use Rattle.std.proofs.Common.{refl, sym, ap, ap₂, subst, ◌∙◌, arith, inl, inr}
use Rattle.std.proofs.lemmas.Bool.{cases_Bool, cases_eq, ne_eqb}
use Rattle.std.proofs.lemmas.Bool.Decides.{nat_tests}
use Rattle.std.proofs.lemmas.List.Folds.{list_any_more}
use Rattle.sz_cells.specs.declared.Cell.{Cell}
use Rattle.sz_cells.specs.declared.Run.{Run}
use Rattle.sz_cells.specs.Extent.{Extent, holds, index_of, cell_of}
use Rattle.sz_cells.specs.Cells.{Cells, any_cell, cells_where, has, is_same, union_of, with_cell, with_those}
use Rattle.sz_cells.specs.Runs.{covers, is_in, runs_of}
use Rattle.sz_cells.specs.SetBytes.{IsSetOf}
use Rattle.sz_cells.specs.Words.{cells_at}
use Rattle.sz_cells.proofs.Sets.{cell-index, index-below, index-is_same, is_same-flip, is_same-true, has-cells_where}
use Rattle.sz_spec.specs.declared.modes.Dir.TheVariants.{Forward}
use Rattle.sz_spec.specs.Lineage.{mapped}
use Rattle.sz_spec.specs.Modes.{has_mapping}
use Rattle.sz_spec.specs.Payloads.{mapped_by_payload}
use Rattle.sz_spec.specs.Shapes.{Site}
use Rattle.sz_spec.specs.Sides.{image_in}
use Rattle.sz_frame.specs.Parts.{Entry}
use Rattle.sz_frame.specs.Stands.{has_entry}
use Rattle.sz_frame.proofs.Added.{with-ext, with-more, with-none}
use Rattle.sz_frame.proofs.Passing.{met-none}
use Rattle.sz_tables.specs.Entries.{entry_at}
use Rattle.sz_tables.proofs.MetRuns.{runs-added, set-spelled}
use Rattle.sz_payload.specs.Kept.{entries_stand}
use Rattle.sz_payload.specs.Looks.{entry_adds, entries_add, lone}
use Rattle.sz_payload.proofs.Operators.{own-default, no-default}
use Rattle.sz_payload.proofs.Owning.{covers-has, entry-there}
use Rattle.sz_payload.proofs.Standing.{entries-met, comp-met}

-- ---- two tests

spread : (a b m : Bool) → ((a && m) || (b && m)) ≡ ((a || b) && m)
spread true true true = refl
spread true true false = refl
spread true false true = refl
spread true false false = refl
spread false b m = refl

pub tests-next : (to so_far new : Cells) (p q r m : Cell → Bool) → so_far ≡ with_those to (λ o. p o && m o)
    → new ≡ with_those so_far (λ o. q o && m o)
    → ((o : Cell) → holds to.extent o ≡ true → (p o || q o) ≡ r o) → new ≡ with_those to (λ o. r o && m o)
tests-next to so_far new p q r m is more both =
    more
    ∙ (rw is (with-more to (λ o. p o && m o) (λ o. q o && m o) (λ o. r o && m o)
    (λ o held. spread (p o) (q o) (m o) ∙ ap (λ b. b && m o) (both o held))))

pub tests-none : (to : Cells) (p m : Cell → Bool) → to ≡ cells_where to.extent (has to)
    → ((o : Cell) → p o ≡ false) → to ≡ with_those to (λ o. p o && m o)
tests-none to p m own none = with-none to (λ o. p o && m o) own (λ o held. rw (none o) refl)

pub tests-same : (to so_far : Cells) (p q m : Cell → Bool) → so_far ≡ with_those to (λ o. p o && m o)
    → ((o : Cell) → p o ≡ q o) → so_far ≡ with_those to (λ o. q o && m o)
tests-same to so_far p q m is same =
    is ∙ with-ext to (λ o. p o && m o) (λ o. q o && m o) (λ o held. ap (λ b. b && m o) (same o))

-- ---- one cell

here-only : (e : Extent) (o : Cell) (k : ℕ) → holds e o ≡ true → (index_of e o == k) ≡ is_same o (cell_of e k)
here-only e o k held = index-is_same e o k held ∙ is_same-flip (cell_of e k) o

pub cell-met : (to : Cells) (e : Extent) (cell : Cell) (k : ℕ) (m : Cell → Bool) → to.extent ≡ e → cell ≡ cell_of e k
    → m cell ≡ true → with_cell to cell ≡ with_those to (λ o. (index_of e o == k) && m o)
cell-met to e cell k m same at met =
    with-ext to (λ o. is_same o cell) (λ o. (index_of e o == k) && m o) (λ o held.
    let here = here-only e o k (subst (λ (d : Extent). holds d o ≡ true) same held)
    ∙ ap (is_same o) (sym at) in
    elim (cases_Bool (is_same o cell)) [
      | inl there ↦
          rw (there, here ∙ there) (sym (ap m (is_same-true o cell there) ∙ met))
      | inr other ↦ rw (other, here ∙ other) refl
    ])

pub cell-unmet : (to : Cells) (e : Extent) (cell : Cell) (k : ℕ) (m : Cell → Bool) → to.extent ≡ e
    → cell ≡ cell_of e k → m cell ≡ false → to ≡ cells_where to.extent (has to)
    → to ≡ with_those to (λ o. (index_of e o == k) && m o)
cell-unmet to e cell k m same at unmet own =
    with-none to (λ o. (index_of e o == k) && m o) own (λ o held.
    let here = here-only e o k (subst (λ (d : Extent). holds d o ≡ true) same held)
    ∙ ap (is_same o) (sym at) in
    elim (cases_Bool (is_same o cell)) [
      | inl there ↦ rw (here ∙ there) (ap m (is_same-true o cell there) ∙ unmet)
      | inr other ↦ rw (here ∙ other) refl
    ])

-- ---- runs

pub run-none : (first k : ℕ) → (nat_le first k && nat_lt k first) ≡ false
run-none first k = grind (arith, nat_tests)

pub run-next : (first i k : ℕ) → first ≤ i
    → ((nat_le first k && nat_lt k i) || (k == i)) ≡ (nat_le first k && nat_lt k (i + 1))
run-next first i k low =
    elim (cases_eq k i) [
      | inl same ↦ rw same (grind (arith, nat_tests))
      | inr other ↦ rw (ne_eqb k i other) (grind (arith, nat_tests))
    ]

pub run-all : (r : Run) (i k : ℕ) → i ≡ r.last + 1 → (nat_le r.first k && nat_lt k i) ≡ is_in r k
run-all r i k end = grind (arith, nat_tests)

pub runs-next : (runs : List Run) (i : ℕ) (d : Run) (k : ℕ) → i < length runs
    → (covers (take i runs) k || is_in (get_or runs i d) k) ≡ covers (take (i + 1) runs) k
runs-next runs i d k inside = sym (list_any_more (λ r. is_in r k) runs i d inside)

-- ---- entries

on : (b : Bool) → b ≡ (b && true)
on true = refl
on false = refl

off : (b : Bool) → (b && false) ≡ false
off true = refl
off false = refl

-- an entry adds the cells of its runs for which its payload stands for an asked cell
pub met-adds : (s : Site) (i : ℕ) (from to new : Cells) (e : Entry) (set : Cells) (payload : List ℕ) (runs : List Run)
    → IsSetOf s.out set → runs ≡ runs_of set.indexes → e.out ≡ set → e.payload ≡ payload → to.extent ≡ s.out
    → new ≡ with_those to (λ o. covers runs (index_of s.out o)
    && any_cell (mapped_by_payload s.op s.ins payload i o) from)
    → new ≡ with_those to (entry_adds s i from e)
met-adds s i from to new e set payload runs is at out own same added =
    added
    ∙ with-ext to (λ o. covers runs (index_of s.out o) && any_cell (mapped_by_payload s.op s.ins payload i o) from)
    (entry_adds s i from e)
    (λ o held.
    let inside = subst (λ (d : Extent). holds d o ≡ true) same held in
    ap₂ (λ (a b : Bool). a && b)
    (ap (λ (rs : List Run). covers rs (index_of s.out o)) at
    ∙ covers-has s.out set (runs_of set.indexes) (index_of s.out o) (set-spelled s.out set is) is.extent
    (index-below s.out o inside)
    ∙ ap (has set) (cell-index s.out o inside)
    ∙ ap (λ (c : Cells). has c o) (sym out))
    (ap (λ (p : List ℕ). any_cell (mapped_by_payload s.op s.ins p i o) from) (sym own)))

-- and all cells of its runs where its payload stands for one whichever the cell is
pub all-adds : (s : Site) (i : ℕ) (from to new : Cells) (e : Entry) (set : Cells) (payload : List ℕ) (runs : List Run)
    → IsSetOf s.out set → runs ≡ runs_of set.indexes → e.out ≡ set → e.payload ≡ payload → to.extent ≡ s.out
    → ((o : Cell) → true ≡ any_cell (mapped_by_payload s.op s.ins payload i o) from)
    → new ≡ union_of to (cells_at to.extent (covers runs)) → new ≡ with_those to (entry_adds s i from e)
all-adds s i from to new e set payload runs is at out own same met added =
    runs-added s.out set to new runs is same at added
    ∙ with-ext to (has set) (entry_adds s i from e)
    (λ o held.
    ap (λ (c : Cells). has c o) (sym out)
    ∙ on (has e.out o)
    ∙ ap (λ (b : Bool). has e.out o && b)
    (met o ∙ ap (λ (p : List ℕ). any_cell (mapped_by_payload s.op s.ins p i o) from) (sym own)))

pub nothing-adds : (s : Site) (i : ℕ) (from to : Cells) (e : Entry) (payload : List ℕ)
    → to ≡ cells_where to.extent (has to) → e.payload ≡ payload
    → ((o : Cell) → false ≡ any_cell (mapped_by_payload s.op s.ins payload i o) from)
    → to ≡ with_those to (entry_adds s i from e)
nothing-adds s i from to e payload own at unmet =
    with-none to (entry_adds s i from e) own (λ o held.
    ap (λ (b : Bool). has e.out o && b)
    (ap (λ (p : List ℕ). any_cell (mapped_by_payload s.op s.ins p i o) from) at ∙ sym (unmet o))
    ∙ off (has e.out o))

-- one entry more
pub entry-get : (es : List Entry) (n : ℕ) (d : Entry) → n < length es → get_or es n d ≡ entry_at es n
entry-get [] n d inside = absurd (omega arith)
entry-get (e ∷ es) zero d inside = refl
entry-get (e ∷ es) (suc n) d inside = entry-get es n d (omega arith)

pub entries-none : (s : Site) (i : ℕ) (from to : Cells) (es : List Entry) → to ≡ cells_where to.extent (has to)
    → to ≡ with_those to (entries_add s i from (take 0 es))
entries-none s i from to es own = with-none to (entries_add s i from (take 0 es)) own (λ o held. refl)

pub entries-next : (s : Site) (i : ℕ) (from to so_far new : Cells) (es : List Entry) (n : ℕ) → n < length es
    → so_far ≡ with_those to (entries_add s i from (take n es))
    → new ≡ with_those so_far (entry_adds s i from (entry_at es n))
    → new ≡ with_those to (entries_add s i from (take (n + 1) es))
entries-next s i from to so_far new es n inside is more =
    let d = entry_at es n in
    more
    ∙ (rw is (with-more to (entries_add s i from (take n es)) (entry_adds s i from d)
    (entries_add s i from (take (n + 1) es))
    (λ o held.
    sym
    (list_any_more (λ e. entry_adds s i from e o) es n d inside
    ∙ ap (λ e. entries_add s i from (take n es) o || entry_adds s i from e o) (entry-get es n d inside)))))

-- ---- the image

pub image-pay : (comp : Bool) (s : Site) (i : ℕ) (from to new : Cells) (es : List Entry) → comp ≡ false
    → to.extent ≡ s.out → new ≡ with_those to (entries_add s i from es)
    → new ≡ with_those to (has (image_in Forward s i (entries_stand comp s es i) from))
image-pay true s i from to new es pay same is = absurd (true≢false pay)
image-pay false s i from to new es pay same is =
    is
    ∙ with-ext to (entries_add s i from es) (has (image_in Forward s i (entries_stand false s es i) from))
    (λ o held.
    entries-met s i from es o
    ∙ sym (has-cells_where s.out (λ y. any_cell (λ c. entries_stand false s es i y c) from) o
    (subst (λ (d : Extent). holds d o ≡ true) same held)))

pub image-comp : (comp : Bool) (s : Site) (i : ℕ) (from to mid new : Cells) (es : List Entry) → comp ≡ true
    → to.extent ≡ s.out → mid ≡ with_those to (entries_add s i from es)
    → new ≡ with_those mid (has (image_in Forward s i (lone s es i) from))
    → new ≡ with_those to (has (image_in Forward s i (entries_stand comp s es i) from))
image-comp false s i from to mid new es comp same is more = absurd (true≢false (sym comp))
image-comp true s i from to mid new es comp same is more =
    more
    ∙ (rw is (with-more to (entries_add s i from es) (has (image_in Forward s i (lone s es i) from))
    (has (image_in Forward s i (entries_stand true s es i) from))
    (λ o held.
    let inside = subst (λ (d : Extent). holds d o ≡ true) same held in
    ap (λ (b : Bool). entries_add s i from es o || b)
    (has-cells_where s.out (λ y. any_cell (λ c. lone s es i y c) from) o inside)
    ∙ comp-met s i from es o
    ∙ sym (has-cells_where s.out (λ y. any_cell (λ c. entries_stand true s es i y c) from) o inside))))

-- ---- defaults

pub lone-other : (s : Site) (i : ℕ) (from to : Cells) (es : List Entry) → has_mapping s.op ≡ false → i ≢ 0
    → to.extent ≡ s.out → to ≡ cells_where to.extent (has to)
    → to ≡ with_those to (has (image_in Forward s i (lone s es i) from))
lone-other s i from to es none other same own =
    with-none to (has (image_in Forward s i (lone s es i) from)) own (λ o held.
    has-cells_where s.out (λ y. any_cell (λ c. lone s es i y c) from) o
    (subst (λ (d : Extent). holds d o ≡ true) same held)
    ∙ met-none from (λ c. lone s es i o c) (λ c. ap (λ (b : Bool). b && not (has_entry es o))
    (no-default s.op s.ins i o c none other)))

pub lone-set : (s : Site) (to : Cells) (es : List Entry) (cell o : Cell) → has_mapping s.op ≡ false
    → cell ≡ o → has_entry es o ≡ false → with_cell to cell ≡ with_those to (λ y. lone s es 0 y o)
lone-set s to es cell o none at out =
    with-ext to (λ y. is_same y cell) (λ y. lone s es 0 y o) (λ y held.
    let first : mapped s.op s.ins 0 y o ≡ is_same y cell =
    own-default s.op s.ins 0 y o none refl ∙ ap (is_same y) (sym at) in
    elim (cases_Bool (is_same y cell)) [
      | inl there ↦
          let free : has_entry es y ≡ false = ap (has_entry es) (is_same-true y cell there ∙ at) ∙ out in
          rw (there, first ∙ there, free) refl
      | inr other ↦ rw (other, first ∙ other) refl
    ])

pub lone-kept : (s : Site) (to : Cells) (es : List Entry) (n : ℕ) (o : Cell) → has_mapping s.op ≡ false
    → n < length es → has (entry_at es n).out o ≡ true → to ≡ cells_where to.extent (has to)
    → to ≡ with_those to (λ y. lone s es 0 y o)
lone-kept s to es n o none inside there own =
    with-none to (λ y. lone s es 0 y o) own (λ y held.
    let first = own-default s.op s.ins 0 y o none refl in
    elim (cases_Bool (is_same y o)) [
      | inl same ↦
          let taken : has_entry es y ≡ true =
          ap (has_entry es) (is_same-true y o same) ∙ entry-there es n o inside there in
          rw (first ∙ same, taken) refl
      | inr other ↦ rw (first ∙ other) refl
    ])
