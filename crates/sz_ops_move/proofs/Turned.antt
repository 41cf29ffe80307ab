-- Transposing strip by strip.
--
-- The key idea: a strip has the rows of the output from one row on to before another one of the same layer, so its rows
-- are what comes behind the values so far.
use Rattle.std.proofs.Common.{◌≡◌, ◌≢◌, ℕ, ◌+◌, ◌-◌, ◌*◌, ◌/◌, ◌%◌, ◌<◌, ◌≤◌, true, None, List, Option, length}
use Rattle.std.proofs.Common.{◌++◌, get_or, sym, ap, ap₂, subst, ◌∙◌, arith}
use Rattle.std.specs.Prelude.{ℤ}
use Rattle.std.proofs.Math.Nat.{mul-le-mul_right}
use Rattle.std.proofs.lemmas.Nat.{div-mul-add, mod-mul-add, div-add-mod', div_below, mod_below}
use Rattle.std.proofs.lemmas.Option.{unwrap_or-slice_get}
use Rattle.sz_cells.specs.Extent.{Extent, height_of, is_extent, layer_of, row_in, cell_of, cell_in, index_of}
use Rattle.sz_spec.specs.declared.op.Op.{Op}
use Rattle.sz_spec.specs.declared.op.Op.TheVariants.{Transpose}
use Rattle.sz_spec.specs.Values.{Grid, extent_at, input_at}
use Rattle.sz_spec.specs.Shapes.{Site}
use Rattle.sz_spec.specs.Evaluation.{value_in, value_of}
use Rattle.sz_spec.specs.Work.{IsAtWork}
use Rattle.sz_frame.specs.Walks.{values_before}
use Rattle.sz_frame.proofs.Added.{out-at_work, values-append}
use Rattle.sz_frame.proofs.Inputs.{input-extent}
use Rattle.sz_ops_move.specs.Turning.{IsStrip}
use Rattle.sz_ops_move.proofs.Windows.{transposed, height-is}

-- ---- places of a strip

-- cells of one column, and of two columns, are apart
pub apart-rows : (h r i j : ℕ) → r < h → i ≢ j → i * h + r ≢ j * h + r
apart-rows h r i j low other =
    λ same. other (sym (div-mul-add i h r low) ∙ ap (λ (n : ℕ). n / h) same ∙ div-mul-add j h r low)

pub apart-cols : (h r j k : ℕ) → r < h → k % h ≢ r → k ≢ j * h + r
apart-cols h r j k low other = λ same. other (ap (λ (n : ℕ). n % h) same ∙ mod-mul-add j h r low)

pub column-of : (h r j : ℕ) → r < h → (j * h + r) % h ≡ r
column-of h r j low = mod-mul-add j h r low

pub in-rows : (j wide h r : ℕ) → j < wide → r < h → j * h + r < wide * h
in-rows j wide h r below low =
    let next : j + 1 ≤ wide = omega arith in
    let whole : (j + 1) * h ≤ wide * h = mul-le-mul_right h next in
    omega (arith, whole)

-- the cells of a strip are cells of the input
pub within : (layers h w row wide r : ℕ) → 0 < w → row < layers * w → wide ≤ w - row % w → r < h
    → row / w * h * w + row % w + r * w + wide ≤ (layers * h) * w
within layers h w row wide r some below narrow low =
    let layer = row / w in
    let col : row % w < w = mod_below row w some in
    let fewer : layer < layers = div_below row w layers some below in
    let under : layer + 1 ≤ layers = omega (arith, fewer) in
    let lines : (layer + 1) * h ≤ layers * h = mul-le-mul_right h under in
    let line : (layer * h + r) + 1 ≤ layers * h = omega (arith, lines, low) in
    let whole : ((layer * h + r) + 1) * w ≤ (layers * h) * w = mul-le-mul_right w line in
    let split : ((layer * h + r) + 1) * w ≡ layer * h * w + r * w + w = grind arith in
    omega (arith, whole, split, narrow, col)

-- and it ends before the rows of the output do
pub row-within : (layers w row wide : ℕ) → 0 < w → row < layers * w → wide ≤ w - row % w → row + wide ≤ layers * w
row-within layers w row wide some below narrow =
    let layer = row / w in
    let col : row % w < w = mod_below row w some in
    let fewer : layer < layers = div_below row w layers some below in
    let under : layer + 1 ≤ layers = omega (arith, fewer) in
    let lines : (layer + 1) * w ≤ layers * w = mul-le-mul_right w under in
    let whole : layer * w + row % w ≡ row = div-add-mod' row w in
    omega (arith, lines, whole, narrow, col)

-- ---- where a cell of the output comes from

-- the place of a cell of the output
place : (d : Extent) (w h layer c r : ℕ) → d.cols ≡ h → height_of d ≡ w → c < w → r < h
    → ((cell_of d ((layer * w + c) * h + r)).col ≡ r)
    × (row_in d (cell_of d ((layer * w + c) * h + r)) ≡ c)
    × (layer_of d (cell_of d ((layer * w + c) * h + r)) ≡ layer)
place d w h layer c r cols high narrow low =
    let k = (layer * w + c) * h + r in
    let row : k / d.cols ≡ layer * w + c =
    ap (λ (n : ℕ). k / n) cols ∙ div-mul-add (layer * w + c) h r low in (
      ap (λ (n : ℕ). k % n) cols ∙ mod-mul-add (layer * w + c) h r low,
      ap₂ (λ (m n : ℕ). m % n) row high ∙ mod-mul-add layer w c narrow,
      ap₂ (λ (m n : ℕ). m / n) row high ∙ div-mul-add layer w c narrow,
    )

-- the value of a cell of the output
pub turned-value : (s : Site) (inputs : List Grid) (layer c r : ℕ) → s.op ≡ Transpose → IsAtWork s inputs
    → is_extent (extent_at s.ins 0) ≡ true → c < (extent_at s.ins 0).cols → r < height_of (extent_at s.ins 0)
    → value_of s.op inputs
    (cell_of s.out ((layer * (extent_at s.ins 0).cols + c) * height_of (extent_at s.ins 0) + r))
    ≡ get_or (input_at inputs 0).values
    ((layer * height_of (extent_at s.ins 0) + r) * (extent_at s.ins 0).cols + c) None
turned-value s inputs layer c r is work right narrow low =
    let e = extent_at s.ins 0 in
    let g = input_at inputs 0 in
    let w = e.cols in
    let h = height_of e in
    let o = cell_of s.out ((layer * w + c) * h + r) in
    let made = transposed s is work.site.shape in
    let at = place s.out w h layer c r (sym (ap (λ (d : Extent). d.cols) made)) (height-is s.out e w h right made)
    narrow low in
    ap₂ (λ (d : Extent) (op : Op). value_in d op inputs o) (out-at_work s inputs work) is
    ∙ unwrap_or-slice_get g.values
    (index_of g.extent (cell_in g.extent (layer_of s.out o) o.col (row_in s.out o))) None
    ∙ ap (λ (n : ℕ). get_or g.values n None)
    (ap (λ (d : Extent). index_of d (cell_in d (layer_of s.out o) o.col (row_in s.out o)))
    (input-extent s inputs 0 work)
    ∙ ap (λ (n : ℕ). index_of e (cell_in e n o.col (row_in s.out o))) at.2
    ∙ ap (λ (n : ℕ). index_of e (cell_in e layer n (row_in s.out o))) at.0
    ∙ ap (λ (n : ℕ). index_of e (cell_in e layer r n)) at.1)

-- ---- one row more

-- a strip by the sides as they are read
pub strip-sides : (cells strip : List (Option ℤ)) (pitch h h' w w' row wide : ℕ) → h ≡ h' → w ≡ w'
    → IsStrip cells strip pitch w (row / w * h * w + row % w) wide h
    → IsStrip cells strip pitch w' (row / w' * h' * w' + row % w') wide h'
strip-sides cells strip pitch h h' w w' row wide high narrow has =
    subst (λ (n : ℕ). IsStrip cells strip pitch n (row / n * h' * n + row % n) wide h') narrow
    (subst (λ (n : ℕ). IsStrip cells strip pitch w (row / w * n * w + row % w) wide n) high has)

strip-place : (layer w col row j h k : ℕ) → layer * w + col ≡ row → (layer * w + (col + j)) * h + k ≡ (row + j) * h + k
strip-place layer w col row j h k at =
    let split : (layer * w + (col + j)) * h + k ≡ ((layer * w + col) + j) * h + k = grind arith in
    split ∙ ap (λ (n : ℕ). (n + j) * h + k) at

pub row-next : (s : Site) (inputs : List Grid) (strip so_far xs : List (Option ℤ)) (pitch row wide j : ℕ)
    → s.op ≡ Transpose → IsAtWork s inputs → is_extent (extent_at s.ins 0) ≡ true → 0 < (extent_at s.ins 0).cols
    → wide ≤ (extent_at s.ins 0).cols - row % (extent_at s.ins 0).cols → j < wide
    → IsStrip (input_at inputs 0).values strip pitch (extent_at s.ins 0).cols
    (row / (extent_at s.ins 0).cols * height_of (extent_at s.ins 0) * (extent_at s.ins 0).cols
    + row % (extent_at s.ins 0).cols) wide (height_of (extent_at s.ins 0))
    → length xs ≡ height_of (extent_at s.ins 0)
    → ((k : ℕ) → k < height_of (extent_at s.ins 0) → get_or xs k None ≡ get_or strip (j * pitch + k) None)
    → so_far ≡ values_before s inputs ((row + j) * height_of (extent_at s.ins 0))
    → so_far ++ xs ≡ values_before s inputs ((row + (j + 1)) * height_of (extent_at s.ins 0))
row-next s inputs strip so_far xs pitch row wide j is work right wider within under has long each made =
    let g = input_at inputs 0 in
    let e = extent_at s.ins 0 in
    let h = height_of e in
    let w = e.cols in
    let layer = row / w in
    let col = row % w in
    let at : layer * w + col ≡ row = div-add-mod' row w in
    let inside : col < w = mod_below row w wider in
    let short : col + j < w = omega (arith, under, within, inside) in
    let sum : (row + j) * h + h ≡ (row + (j + 1)) * h = grind arith in
    values-append s inputs ((row + j) * h) h so_far xs made long
    (λ k low.
    let source : (layer * h * w + col) + k * w + j ≡ (layer * h + k) * w + (col + j) = grind arith in
    let goes : (layer * w + (col + j)) * h + k ≡ (row + j) * h + k = strip-place layer w col row j h k at in
    each k low
    ∙ has j k under low
    ∙ ap (λ (n : ℕ). get_or g.values n None) source
    ∙ sym (turned-value s inputs layer (col + j) k is work right short low)
    ∙ ap (λ (n : ℕ). value_of s.op inputs (cell_of s.out n)) goes)
    ∙ ap (values_before s inputs) sum
