-- What slice copies row by row, and what lookup reads from its table.
--
-- The key idea: the cells of one row of a slice lie side by side in the input.
use Rattle.std.proofs.Common.{◌≡◌, ℕ, ◌+◌, ◌*◌, ◌<◌, ◌≤◌, true, Option, Some, None, List, map, length}
use Rattle.std.proofs.Common.{◌++◌, get_or, refl, sym, ap, ap₂, ◌∙◌, arith}
use Rattle.std.specs.Prelude.{ℤ, option_and_then, Ok}
use Rattle.std.proofs.Common.{suc, take, ◌∷◌, []}
use Rattle.std.proofs.Math.Nat.{mul-le-mul_right}
use Rattle.std.proofs.Math.Seq.{take-suc, take-length}
use Rattle.std.proofs.lemmas.List.{map-append}
use Rattle.std.proofs.lemmas.Nat.{div-mul-add, mod-mul-add}
use Rattle.std.proofs.lemmas.Option.{unwrap_or-slice_get}
use Rattle.sz_cells.specs.declared.Cell.{Cell}
use Rattle.sz_cells.specs.Extent.{Extent, holds, layer_of, row_in, cell_of, cell_in, index_of, size_of, height_of}
use Rattle.sz_cells.proofs.Sets.{row-held}
use Rattle.sz_spec.specs.declared.op.Op.{Op}
use Rattle.sz_spec.specs.declared.op.Op.TheVariants.{Lookup, Slice}
use Rattle.sz_spec.specs.Values.{Grid, extent_at, input_at, value_at}
use Rattle.sz_spec.specs.Shapes.{Site, shape_of}
use Rattle.sz_spec.specs.Evaluation.{value_in, value_of}
use Rattle.sz_spec.specs.Operators.Lookup.{column_of, entry_at}
use Rattle.sz_spec.specs.Work.{IsAtWork}
use Rattle.sz_spec.proofs.OutputShapes.{looked-up_shape}
use Rattle.sz_frame.specs.Walks.{values_before}
use Rattle.sz_frame.proofs.Added.{out-at_work, values-append, values-mapped}
use Rattle.sz_frame.proofs.Inputs.{input-extent}
use Rattle.sz_ops_move.specs.Entries.{entry_of}
use Rattle.sz_ops_move.proofs.Windows.{windowed}

-- ---- slice

-- the cell of the input that the first cell of a row of the output is mapped to
abbrev pub start_of : Site → ℕ → ℕ → ℕ → Cell
start_of s r0 c0 row = let o : Cell = record { row = row; col = 0 } in
    cell_in (extent_at s.ins 0) (layer_of s.out o) (r0 + row_in s.out o) (c0 + 0)

-- the values of a row
sliced-value : (s : Site) (inputs : List Grid) (r0 c0 h w row k : ℕ) → s.op ≡ Slice r0 c0 h w → IsAtWork s inputs
    → k < s.out.cols
    → value_of s.op inputs (cell_of s.out (row * s.out.cols + k))
    ≡ get_or (input_at inputs 0).values (index_of (extent_at s.ins 0) (start_of s r0 c0 row) + k) None
sliced-value s inputs r0 c0 h w row k is work low =
    let e = extent_at s.ins 0 in
    let g = input_at inputs 0 in
    let make : ℕ → ℕ → Cell = λ a b. record { row = a; col = b } in
    let value : Cell → Option ℤ = λ o.
    value_at g (cell_in g.extent (layer_of s.out o) (r0 + row_in s.out o) (c0 + o.col)) in
    let o = make row k in
    let line = layer_of s.out o * height_of e + (r0 + row_in s.out o) in
    let along : line * e.cols + (c0 + k) ≡ (line * e.cols + (c0 + 0)) + k = omega arith in
    ap₂ (λ (d : Extent) (op : Op). value_in d op inputs (cell_of s.out (row * s.out.cols + k)))
    (out-at_work s inputs work) is
    ∙ ap₂ (λ (a b : ℕ). value (make a b)) (div-mul-add row s.out.cols k low) (mod-mul-add row s.out.cols k low)
    ∙ unwrap_or-slice_get g.values
    (index_of g.extent (cell_in g.extent (layer_of s.out o) (r0 + row_in s.out o) (c0 + k))) None
    ∙ ap (λ (n : ℕ). get_or g.values n None)
    (ap (λ (d : Extent). index_of d (cell_in d (layer_of s.out o) (r0 + row_in s.out o) (c0 + k)))
    (input-extent s inputs 0 work) ∙ along)

-- which lie in one row of the input
pub sliced-within : (s : Site) (r0 c0 h w row : ℕ) → s.op ≡ Slice r0 c0 h w → shape_of s.op s.ins ≡ Ok s.out
    → holds (extent_at s.ins 0) (start_of s r0 c0 row) ≡ true
    → index_of (extent_at s.ins 0) (start_of s r0 c0 row) + s.out.cols ≤ size_of (extent_at s.ins 0)
sliced-within s r0 c0 h w row is rule held =
    let e = extent_at s.ins 0 in
    let from = start_of s r0 c0 row in
    let told = windowed s r0 c0 h w is rule in
    let cols : s.out.cols ≡ w = sym (ap (λ (d : Extent). d.cols) told.2) in
    let below : from.row + 1 ≤ e.rows = omega (arith, (row-held e from held).0) in
    let whole : (from.row + 1) * e.cols ≤ e.rows * e.cols = mul-le-mul_right e.cols below in
    let next : (from.row + 1) * e.cols ≡ from.row * e.cols + e.cols = grind arith in
    omega (arith, whole, next, cols, told.1)

-- one row more
pub sliced-next : (s : Site) (inputs : List Grid) (r0 c0 h w row from : ℕ) (so_far xs : List (Option ℤ))
    → s.op ≡ Slice r0 c0 h w → IsAtWork s inputs → from ≡ index_of (extent_at s.ins 0) (start_of s r0 c0 row)
    → length xs ≡ s.out.cols
    → ((k : ℕ) → k < s.out.cols → get_or xs k None ≡ get_or (input_at inputs 0).values (from + k) None)
    → so_far ≡ values_before s inputs (row * s.out.cols)
    → so_far ++ xs ≡ values_before s inputs ((row + 1) * s.out.cols)
sliced-next s inputs r0 c0 h w row from so_far xs is work at long each made =
    let next : row * s.out.cols + s.out.cols ≡ (row + 1) * s.out.cols = grind arith in
    values-append s inputs (row * s.out.cols) s.out.cols so_far xs made long
    (λ k low.
    each k low ∙ ap (λ (n : ℕ). get_or (input_at inputs 0).values (n + k) None) at
    ∙ sym (sliced-value s inputs r0 c0 h w row k is work low))
    ∙ ap (values_before s inputs) next

-- ---- lookup

-- the entries of one number more
pub entries-next : (f : Option ℤ → Option ℤ) (xs so_far : List (Option ℤ)) (k : ℕ) (v : Option ℤ) → k < length xs
    → so_far ≡ map f (take k xs) → v ≡ f (get_or xs k None) → so_far ++ v ∷ [] ≡ map f (take (k + 1) xs)
entries-next f xs so_far k v low made is =
    let one : k + 1 ≡ suc k = omega arith in
    ap₂ (λ (a : List (Option ℤ)) (b : Option ℤ). a ++ b ∷ []) made is
    ∙ sym (map-append f (take k xs) (get_or xs k None ∷ []))
    ∙ sym (ap (λ n. map f (take n xs)) one ∙ ap (map f) (take-suc xs k None low))

-- those of all numbers
pub entries-all : (f : Option ℤ → Option ℤ) (xs made : List (Option ℤ)) (k : ℕ) → k ≡ length xs
    → made ≡ map f (take k xs) → made ≡ map f xs
entries-all f xs made k all is = is ∙ ap (λ n. map f (take n xs)) all ∙ ap (map f) (take-length xs)

then-same : (f f' : ℕ → Option ℤ) (x : Option ℕ) → ((k : ℕ) → f k ≡ f' k)
    → option_and_then f x ≡ option_and_then f' x
then-same f f' None same = refl
then-same f f' (Some k) same = same k

entry-value : (table : Grid) (k : ℕ) → value_at table (entry_at k) ≡ get_or table.values k None
entry-value table k =
    let first : index_of table.extent (entry_at k) ≡ k = grind arith in
    unwrap_or-slice_get table.values (index_of table.extent (entry_at k)) None
    ∙ ap (λ (n : ℕ). get_or table.values n None) first

pub looked-values : (s : Site) (inputs : List Grid) → s.op ≡ Lookup → IsAtWork s inputs
    → length (input_at inputs 0).values ≡ size_of (input_at inputs 0).extent
    → map (entry_of (input_at inputs 1).extent.cols (input_at inputs 1).values) (input_at inputs 0).values
    ≡ values_before s inputs (size_of s.out)
looked-values s inputs is work long =
    let g = input_at inputs 0 in
    let table = input_at inputs 1 in
    let rule : shape_of Lookup s.ins ≡ Ok s.out = ap (λ op. shape_of op s.ins) (sym is) ∙ work.site.shape in
    values-mapped s inputs (entry_of table.extent.cols table.values) g
    (input-extent s inputs 0 work ∙ (looked-up_shape s.ins s.out rule).1) long
    (λ o held.
    ap (λ (op : Op). value_of op inputs o) is
    ∙ then-same (λ k. value_at table (entry_at k)) (λ k. get_or table.values k None)
    (option_and_then (column_of table.extent.cols) (value_at g o)) (entry-value table))
