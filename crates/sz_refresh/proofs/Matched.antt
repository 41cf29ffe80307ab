-- What follows of the keys of a lookup.
--
-- The key idea: a key names a cell of the table by its index, since the table has one row.
use Rattle.std.proofs.Common.{◌≡◌, ℕ, ◌-◌, ◌*◌, ◌<◌, ℤ, pos, negsuc, Bool, true, ◌&&◌, ◌||◌}
use Rattle.std.proofs.Common.{nat_le, nat_lt, List, Option, Some, None, Ok, refl, sym, ap, ap₂, subst, ◌∙◌, arith}
use Rattle.std.proofs.Common.{get_or, lt-ltb, le-leb, if◌then◌else◌, option_and_then}
use Rattle.std.specs.List.{list_any}
use Rattle.std.proofs.lemmas.Bool.{and_from}
use Rattle.std.proofs.lemmas.Option.{unwrap_or-slice_get}
use Rattle.sz_cells.specs.declared.Cell.{Cell}
use Rattle.sz_cells.specs.Extent.{Extent, size_of, holds, index_of, cell_of}
use Rattle.sz_cells.specs.Cells.{Cells, is_same, any_cell, cells_where, has, with_those}
use Rattle.sz_cells.proofs.Sets.{has-index, cell-index, any_cell-same_turned}
use Rattle.sz_frame.proofs.Added.{with-ext}
use Rattle.sz_frame.proofs.Passing.{met-none}
use Rattle.sz_spec.specs.declared.op.Op.{Op}
use Rattle.sz_spec.specs.declared.op.Op.TheVariants.{Lookup}
use Rattle.sz_spec.specs.Values.{Grid, input_at, value_at, extent_at}
use Rattle.sz_spec.specs.Shapes.{Site, shape_of}
use Rattle.sz_spec.specs.Lineage.{related}
use Rattle.sz_spec.specs.Operators.Lookup.{column_of, match_of, is_entry, entry_at}
use Rattle.sz_spec.specs.Work.{IsAtWork}
use Rattle.sz_spec.proofs.OutputShapes.{looked-up_shape}
use Rattle.sz_spec.proofs.PayloadLineage.{extent-of_site, match-below}
use Rattle.sz_refresh.specs.Changes.{reaches}
use Rattle.sz_refresh.specs.Names.{named, is_at, has_named, is_named}
use Rattle.sz_refresh.proofs.Changes.{reaches-either}
use Rattle.sz_refresh.proofs.Names.{none-found}

-- a key names the column that it is matched with
named-column : (n : ℕ) (v : Option ℤ) → named 0 n v ≡ option_and_then (column_of n) v
named-column n None = refl
named-column n (Some (negsuc k)) = refl
named-column n (Some (pos k)) =
    let low : nat_le 0 k ≡ true = le-leb 0 k (omega arith) in
    let same : k - 0 ≡ k = omega arith in
    let none : Option ℕ = None in
    let make : Bool → ℕ → Option ℕ = λ b j. if b && nat_lt j n then Some j else none in
    ap₂ make low same

-- the matched cell is in a set of a shape of one row exactly where its index is one of the set's
entry-found : (e : Extent) (from : Cells) (p : Option ℕ) → e.rows ≡ 1 → from ≡ cells_where e (has from)
    → ((k : ℕ) → p ≡ Some k → k < e.cols) → any_cell (is_entry p) from ≡ list_any (is_at p) from.indexes
entry-found e from None row own low = met-none from (is_entry None) (λ c. refl) ∙ sym (none-found from.indexes)
entry-found e from (Some k) row own low =
    let few : k < e.cols = low k refl in
    let cell : Cell = entry_at k in
    let held : holds e cell ≡ true =
    and_from (nat_lt 0 e.rows) (nat_lt k e.cols) (lt-ltb 0 e.rows (omega (arith, row))) (lt-ltb k e.cols few) in
    let index : index_of e cell ≡ k = omega arith in
    let same : e ≡ from.extent = ap (λ (z : Cells). z.extent) (sym own) in
    let whole : size_of e ≡ e.cols = ap (λ (r : ℕ). r * e.cols) row ∙ omega arith in
    let small : k < size_of e = subst (λ (n : ℕ). k < n) (sym whole) few in
    ap (any_cell (λ x. is_same x cell)) own
    ∙ any_cell-same_turned e (has from) cell held
    ∙ ap (has from) (sym (cell-index e cell held) ∙ ap (cell_of e) index)
    ∙ has-index from e k (sym same) small

side : (s : Site) (inputs : List Grid) (from : Cells) (keys : List (Option ℤ)) (o : Cell) → s.op ≡ Lookup
    → IsAtWork s inputs → from.extent ≡ extent_at s.ins 1 → from ≡ cells_where from.extent (has from)
    → keys ≡ (input_at inputs 0).values
    → any_cell (λ x. related s.op inputs 1 o x) from ≡ has_named 0 (get_or keys (index_of s.out o) None) from
side s inputs from keys o is work shape own read =
    let g : Grid = input_at inputs 0 in
    let table : Grid = input_at inputs 1 in
    let told : shape_of Lookup s.ins ≡ Ok s.out = ap (λ (op : Op). shape_of op s.ins) (sym is) ∙ work.site.shape in
    let both = looked-up_shape s.ins s.out told in
    let table_shape : table.extent ≡ from.extent = extent-of_site s inputs 1 work ∙ sym shape in
    let row : from.extent.rows ≡ 1 = ap (λ (e : Extent). e.rows) shape ∙ both.0 in
    let key_shape : g.extent ≡ s.out = extent-of_site s inputs 0 work ∙ both.1 in
    let p : Option ℕ = match_of g table o in
    let n : ℕ = size_of from.extent in
    let cols : table.extent.cols ≡ n =
    ap (λ (e : Extent). e.cols) table_shape
    ∙ sym (ap (λ (r : ℕ). r * from.extent.cols) row ∙ omega arith) in
    let value : get_or keys (index_of s.out o) None ≡ value_at g o =
    ap₂ (λ (vs : List (Option ℤ)) (e : Extent). get_or vs (index_of e o) None) read (sym key_shape)
    ∙ sym (unwrap_or-slice_get g.values (index_of g.extent o) None) in
    let found : p ≡ named 0 n (get_or keys (index_of s.out o) None) =
    ap (λ (m : ℕ). option_and_then (column_of m) (value_at g o)) cols
    ∙ sym (named-column n (value_at g o))
    ∙ ap (named 0 n) (sym value) in
    ap (λ (op : Op). any_cell (λ x. related op inputs 1 o x) from) is
    ∙ entry-found from.extent from p row own
    (λ k h. subst (λ (e : Extent). k < e.cols) table_shape (match-below g table o k h))
    ∙ ap (λ (q : Option ℕ). list_any (is_at q) from.indexes) found

-- what cells of the table reach by the old keys or by the new ones
pub matched-reaches : (s : Site) (a b : List Grid) (from to : Cells) (olds news : List (Option ℤ)) → s.op ≡ Lookup
    → IsAtWork s a → IsAtWork s b → from.extent ≡ extent_at s.ins 1 → from ≡ cells_where from.extent (has from)
    → olds ≡ (input_at a 0).values → news ≡ (input_at b 0).values → to.extent ≡ s.out
    → with_those to (λ o. is_named 0 olds from news from (index_of to.extent o))
    ≡ with_those to (reaches s.op a b 1 from)
matched-reaches s a b from to olds news is work_a work_b shape own read_a read_b same =
    with-ext to (λ o. is_named 0 olds from news from (index_of to.extent o)) (reaches s.op a b 1 from)
    (λ o held.
    ap (λ (e : Extent). is_named 0 olds from news from (index_of e o)) same
    ∙ sym (reaches-either s.op a b 1 from o
    ∙ ap₂ (λ (p q : Bool). p || q) (side s a from olds o is work_a shape own read_a)
    (side s b from news o is work_b shape own read_b)))
