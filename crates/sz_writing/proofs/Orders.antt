-- The object of a line is read as the order of the array.
--
-- The key idea: layers that pass their tests have the sides of the array's shape, so its limits say that their cells
-- are neither bad nor too many, and that the text is short enough for a line.
use Rattle.std.proofs.Common.{◌≡◌, ◌≢◌, ◌≤◌, ◌<◌, ◌+◌, ◌*◌, ℕ, suc, ℤ, List, [], ◌∷◌, ◌++◌, ◌==◌, ◌&&◌, length, codes}
use Rattle.std.proofs.Common.{Bool, true, false, not, nat_lt, nat_le, if◌then◌else◌, cond, Option, Some, None}
use Rattle.std.proofs.Common.{unwrap_or, option_map, refl, sym, ap, ◌∙◌, subst, arith, rules, length-append, eq-eqb}
use Rattle.std.proofs.Common.{lt-ltb, le-leb, mul_comm, append-nil}
use Rattle.std.specs.Prelude.{Result, Ok, Err, IfOk}
use Rattle.std.specs.declared.alloc.AllocError.{AllocError}
use Rattle.std.specs.List.{list_all, flat_map}
use Rattle.std.specs.Str.{IsUtf8}
use Rattle.std.proofs.Math.Nat.{mul_assoc, mul-le-mul_right}
use Rattle.std.proofs.lemmas.Bool.{and_parts, and_from, eqb-true, leb-true, le-ltb, ne_eqb, false≢true}
use Rattle.serde_json.specs.Data.{Data, string, array}
use Rattle.serde_json.specs.Read.{read}
use Rattle.serde_json.specs.View.{items_of, view}
use Rattle.serde_json.specs.declared.value.Value.{Value}
use Rattle.serde_json.specs.Written.{compact_text}
use Rattle.serde_json.proofs.OnLiterals.{serde_json_on_literals}
use Rattle.sz_cells.specs.Extent.{Extent, is_extent, layered, size_of, height_of as rows_of}
use Rattle.sz_cells.proofs.Shapes.{sides, sides-within, whole-layers}
use Rattle.sz_spec.specs.Values.{Grid}
use Rattle.sz_script.specs.Names.{is_name, is_name_byte}
use Rattle.sz_script.specs.Right.{names_in, fault_in}
use Rattle.sz_script.specs.Fields.{passes, list_in, items_in, first_in}
use Rattle.sz_script.specs.Layers.{is_value, is_row, is_layer, values_of_layer, height_of, width_of, are_counted}
use Rattle.sz_script.specs.Layers.{are_bad_cells, are_too_many_cells, grid_of}
use Rattle.sz_script.specs.Drafts.{in_layers, reading_of_draft, reading_of_form, unless_fault}
use Rattle.sz_script.specs.Forms.{draft_of}
use Rattle.sz_script.specs.Forms.Array.{with_one_layer}
use Rattle.sz_script.specs.Forms.Layers.{with_layers}
use Rattle.sz_script.specs.Reading.{line_limit, json_of, reading_of_json, reading}
use Rattle.sz_script.specs.declared.command.Command.{Command}
use Rattle.sz_script.specs.declared.command.Command.TheVariants as order
use Rattle.sz_script.specs.declared.refusal.Refusal.TheVariants.{BadName, BadCells, TooManyCells, TooLong}
use Rattle.sz_script.proofs.Lines.{is_json}
use Rattle.sz_writing.specs.Orders.{array_order}
use Rattle.sz_writing.specs.Written.{IsWritten, AreWritten, AreLayers, IsOrder, order_data, layer_long}
use Rattle.sz_writing.proofs.Texts.{list-listed, list-written}
use Rattle.sz_writing.proofs.Sizes.{layer-short, layers-short}

-- ---- layers that pass their tests

list-passed : (test : Data → Bool) (count : ℕ) (o : Option (List Data))
    → passes (λ ds. (length ds == count) && list_all test ds) o ≡ true
    → (length (unwrap_or o []) ≡ count) × (list_all test (unwrap_or o []) ≡ true)
list-passed test count None passed = absurd (false≢true passed)
list-passed test count (Some ds) passed =
    let p = and_parts (length ds == count) (list_all test ds) passed in
    (eqb-true (length ds) count p.0, p.1)

first-passed : (test : Data → Bool) (ds : List Data) → 0 < length ds → list_all test ds ≡ true
    → test (first_in ds) ≡ true
first-passed test [] some passed = absurd (omega (arith, some))
first-passed test (d ∷ ds) some passed = (and_parts (test d) (list_all test ds) passed).0

-- layers that are the cells of an array
record AreCells (count height width : ℕ) (layers : List Data) : Type 0 where
  high : height_of layers ≡ height
  wide : width_of layers ≡ width
  good : are_bad_cells layers ≡ false
  few : are_too_many_cells layers ≡ false

are-cells : (count height width : ℕ) (layers : List Data) → 0 < count → count ≤ 16 → 0 < height → 0 < width
    → (count * height) * width ≤ 1048576 → length layers ≡ count
    → list_all (is_layer height width) layers ≡ true → AreCells count height width layers
are-cells count height width layers some few high wide small counted passed =
    let any : 0 < length layers = omega (arith, counted, some) in
    let layer = list-passed (is_row width) height (list_in (first_in layers))
    (first-passed (is_layer height width) layers any passed) in
    let rows = items_in (first_in layers) in
    let upper : 0 < length rows = omega (arith, layer.0, high) in
    let row = list-passed is_value width (list_in (first_in rows))
    (first-passed (is_row width) rows upper layer.1) in
    let tall : height_of layers ≡ height = layer.0 in
    let broad : width_of layers ≡ width = row.0 in
    let most : length layers ≤ 16 = omega (arith, counted, few) in
    let rising : 0 < height_of layers = omega (arith, tall, high) in
    let across : 0 < width_of layers = omega (arith, broad, wide) in
    let counts : are_counted layers ≡ true = and_from _ _ (and_from _ _ (and_from _ _
    (lt-ltb 0 (length layers) any) (le-leb (length layers) 16 most)) (lt-ltb 0 (height_of layers) rising))
    (lt-ltb 0 (width_of layers) across) in
    let alike : list_all (is_layer (height_of layers) (width_of layers)) layers ≡ true =
    ap (λ n. list_all (is_layer n (width_of layers)) layers) tall
    ∙ ap (λ n. list_all (is_layer height n) layers) broad ∙ passed in
    let size : (length layers * height_of layers) * width_of layers ≡ (count * height) * width =
    ap (λ n. (n * height_of layers) * width_of layers) counted
    ∙ ap (λ n. (count * n) * width_of layers) tall ∙ ap (λ n. (count * height) * n) broad in
    record {
      high = tall;
      wide = broad;
      good = ap not (and_from _ _ counts alike);
      few = le-ltb 1048576 ((length layers * height_of layers) * width_of layers) (omega (arith, size, small));
    }

-- ---- the draft of a line

draft-passed : (layers : List Data) (c : Command) → list_all is_name (names_in c) ≡ true → are_bad_cells layers ≡ false
    → are_too_many_cells layers ≡ false → fault_in c ≡ None
    → reading_of_draft (record { command = c; cells = in_layers layers }) ≡ Ok c
draft-passed layers c named good few right =
    ap (λ (b : Bool). if not b then Err BadName else if are_bad_cells layers then Err BadCells
    else if are_too_many_cells layers then Err TooManyCells else unless_fault (fault_in c) c) named
    ∙ ap (λ (b : Bool). if b then Err BadCells
    else if are_too_many_cells layers then Err TooManyCells else unless_fault (fault_in c) c) good
    ∙ ap (λ (b : Bool). if b then Err TooManyCells else unless_fault (fault_in c) c) few
    ∙ ap (λ (f : Option _). unless_fault f c) right

grid-same : (g : Grid) (layers : List Data) (count height width : ℕ) → length layers ≡ count
    → height_of layers ≡ height → width_of layers ≡ width → flat_map values_of_layer layers ≡ g.values
    → layered count height width ≡ g.extent → grid_of layers ≡ g
grid-same g layers count height width counted high wide given shaped =
    let make : Extent → List (Option ℤ) → Grid = λ e vs. record { extent = e; values = vs } in
    ap (λ n. make (layered n (height_of layers) (width_of layers)) (flat_map values_of_layer layers)) counted
    ∙ ap (λ n. make (layered count n (width_of layers)) (flat_map values_of_layer layers)) high
    ∙ ap (λ n. make (layered count height n) (flat_map values_of_layer layers)) wide
    ∙ ap (λ e. make e (flat_map values_of_layer layers)) shaped
    ∙ ap (make g.extent) given

-- ---- the length of a line

shorter : (b d : Bool) (xs ys zs : List ℕ) → length xs ≤ 6 → length ys ≤ 6 → length zs ≤ 6
    → length (34 ∷ ((cond b xs (cond d ys zs) ++ []) ++ 34 ∷ [])) ≤ 8
shorter true d xs ys zs first second third =
    omega (arith, length-append (xs ++ []) (34 ∷ []), length-append xs [])
shorter false true xs ys zs first second third =
    omega (arith, length-append (ys ++ []) (34 ∷ []), length-append ys [])
shorter false false xs ys zs first second third =
    omega (arith, length-append (zs ++ []) (34 ∷ []), length-append zs [])

-- a byte stands in a text as six at most
byte-short : (x : ℕ) → length (compact_text (string (x ∷ []))) ≤ 8
unfolding serde_json_on_literals
byte-short x = search (rules, shorter)

longer : (byte rest : List ℕ) (n : ℕ) → length (34 ∷ ((byte ++ []) ++ 34 ∷ [])) ≤ 8
    → length (34 ∷ (rest ++ 34 ∷ [])) ≤ 6 * n + 2 → length (34 ∷ ((byte ++ rest) ++ 34 ∷ [])) ≤ 6 * suc n + 2
longer byte rest n one others = omega (
  arith,
  one,
  others,
  length-append (byte ++ []) (34 ∷ []),
  length-append byte [],
  length-append rest (34 ∷ []),
  length-append (byte ++ rest) (34 ∷ []),
  length-append byte rest,
)

string-short : (s : List ℕ) → length (compact_text (string s)) ≤ 6 * length s + 2
string-short [] = omega arith
string-short (x ∷ s) = longer _ _ (length s) (byte-short x) (string-short s)

-- the text of an object with two members, a and b, and c and d
object-long : (a b c d : List ℕ)
    → length (123 ∷ (a ++ 58 ∷ (b ++ 44 ∷ (c ++ 58 ∷ (d ++ 125 ∷ [])))))
    ≡ ((length a + length b) + (length c + length d)) + 5
object-long a b c d = omega (
  arith,
  length-append d (125 ∷ []),
  length-append c (58 ∷ (d ++ 125 ∷ [])),
  length-append b (44 ∷ (c ++ 58 ∷ (d ++ 125 ∷ []))),
  length-append a (58 ∷ (b ++ 44 ∷ (c ++ 58 ∷ (d ++ 125 ∷ [])))),
)

name-short : (name : List ℕ) → is_name name ≡ true → length name ≤ 32
name-short name named =
    let p = and_parts (nat_lt 0 (length name) && nat_le (length name) 32) (list_all is_name_byte name) named in
    leb-true (length name) 32 (and_parts (nat_lt 0 (length name)) (nat_le (length name) 32) p.0).1

-- the texts of a word, of a name and of `cells`
texts-short : (word name : List ℕ) → length word ≤ 6 → is_name name ≡ true
    → (length (compact_text (string word)) + length (compact_text (string name)))
    + length (compact_text (string (codes "cells"))) ≤ 264
texts-short word name few named =
    omega (arith, string-short word, string-short name, string-short (codes "cells"), name-short name named, few)

area : (count height width : ℕ) → (width * height) * count ≡ (count * height) * width
area count height width =
    mul_comm (width * height) count ∙ ap (λ n. count * n) (mul_comm width height) ∙ sym (mul_assoc count height width)

-- ---- an array of one layer

list-there : (test : List Data → Bool) (o : Option (List Data)) → passes test o ≡ true
    → (ds : List Data) × (o ≡ Some ds)
list-there test None passed = absurd (false≢true passed)
list-there test (Some ds) passed = (ds, refl)

shape-same : (e : Extent) (count : ℕ) → e.layers ≡ count → count * rows_of e ≡ e.rows
    → layered count (rows_of e) e.cols ≡ e
shape-same e count counted whole =
    ap (λ n. record { layers = n; rows = count * rows_of e; cols = e.cols }) (sym counted)
    ∙ ap (λ n. record { layers = e.layers; rows = n; cols = e.cols }) whole

layer-read : (name : List ℕ) (g : Grid) (d : Data) → is_name name ≡ true → is_extent g.extent ≡ true
    → g.extent.layers ≡ 1 → is_layer (rows_of g.extent) g.extent.cols d ≡ true → values_of_layer d ≡ g.values
    → reading_of_form (draft_of (order_data (codes "array") name d)) ≡ Ok (array_order name g)
layer-read name g d named inside single passed given =
    let e = g.extent in
    let s = sides e inside in
    let rows = list-there (λ ds. (length ds == rows_of e) && list_all (is_row e.cols) ds) (list_in d) passed in
    let whole : 1 * rows_of e ≡ e.rows = ap (λ n. n * rows_of e) (sym single) ∙ s.4 in
    let small : (1 * rows_of e) * e.cols ≤ 1048576 = rw whole s.5 in
    let cells = are-cells 1 (rows_of e) e.cols (d ∷ []) (omega arith) (omega arith) s.1 s.3 small refl
    (ap (λ (b : Bool). b && true) passed) in
    let same : grid_of (d ∷ []) ≡ g = grid-same g (d ∷ []) 1 (rows_of e) e.cols refl cells.high cells.wide
    (append-nil (values_of_layer d) ∙ given) (shape-same e 1 single whole) in
    ap (λ (o : Option (List Data)). reading_of_form (option_map (with_one_layer name) (option_map (λ _. d ∷ []) o)))
    rows.1
    ∙ draft-passed (d ∷ []) (order.Array name (grid_of (d ∷ []))) (ap (λ (b : Bool). b && true) named) cells.good
    cells.few refl
    ∙ ap (λ (a : Grid). Ok (order.Array name a)) same
    ∙ ap (λ (b : Bool). Ok (if b then order.Array name g else order.Layers name g)) (sym (eq-eqb e.layers 1 single))

pub order-of_layer : (name : List ℕ) (g : Grid) (d : Data) → is_name name ≡ true → is_extent g.extent ≡ true
    → g.extent.layers ≡ 1
    → IsWritten (is_layer (rows_of g.extent) g.extent.cols) 2 (layer_long (rows_of g.extent) g.extent.cols) d
    → values_of_layer d ≡ g.values → IsOrder (array_order name g) (order_data (codes "array") name d)
order-of_layer name g d named inside single w given =
    let e = g.extent in
    let s = sides e inside in
    let whole : 1 * rows_of e ≡ e.rows = ap (λ n. n * rows_of e) (sym single) ∙ s.4 in
    let all : (1 * rows_of e) * e.cols ≡ size_of e = ap (λ n. n * e.cols) whole in
    let alone : (e.cols * rows_of e) * 1 ≡ e.cols * rows_of e = omega arith in
    let small : e.cols * rows_of e ≤ 1048576 = omega (arith, alone, area 1 (rows_of e) e.cols, all, s.5) in
    record {
      whole = rw w.whole refl;
      shallow = omega (arith, w.shallow);
      short = rw (object-long (compact_text (string (codes "array"))) (compact_text (string name))
          (compact_text (string (codes "cells"))) (compact_text d))
          (omega (
            arith,
            texts-short (codes "array") name (omega arith) named,
            w.short,
            layer-short (rows_of e) e.cols s.1 s.3,
            small,
          ));
      read = layer-read name g d named inside single w.tested given;
    }

-- ---- an array of more layers

layers-read : (name : List ℕ) (g : Grid) (layers : List Data) → is_name name ≡ true → is_extent g.extent ≡ true
    → g.extent.layers ≢ 1 → length layers ≡ g.extent.layers
    → list_all (is_layer (rows_of g.extent) g.extent.cols) layers ≡ true → flat_map values_of_layer layers ≡ g.values
    → reading_of_form (draft_of (order_data (codes "layers") name (array (items_of layers)))) ≡ Ok (array_order name g)
layers-read name g layers named inside more counted passed given =
    let e = g.extent in
    let s = sides e inside in
    let within = sides-within e.layers (rows_of e) e.cols (whole-layers e inside).0 in
    let cells = are-cells e.layers (rows_of e) e.cols layers s.0 within.1 s.1 s.3 within.4 counted passed in
    let same : grid_of layers ≡ g = grid-same g layers e.layers (rows_of e) e.cols counted cells.high cells.wide given
    (shape-same e e.layers refl s.4) in
    ap (λ (o : Option (List Data)). reading_of_form (option_map (with_layers name) o)) (list-listed layers)
    ∙ draft-passed layers (order.Layers name (grid_of layers)) (ap (λ (b : Bool). b && true) named) cells.good
    cells.few refl
    ∙ ap (λ (a : Grid). Ok (order.Layers name a)) same
    ∙ ap (λ (b : Bool). Ok (if b then order.Array name g else order.Layers name g)) (sym (ne_eqb e.layers 1 more))

layers-order : (name : List ℕ) (g : Grid) (layers : List Data) → is_name name ≡ true → is_extent g.extent ≡ true
    → g.extent.layers ≢ 1 → length layers ≡ g.extent.layers
    → AreWritten (is_layer (rows_of g.extent) g.extent.cols) 2 (layer_long (rows_of g.extent) g.extent.cols) layers
    → flat_map values_of_layer layers ≡ g.values
    → IsOrder (array_order name g) (order_data (codes "layers") name (array (items_of layers)))
layers-order name g layers named inside more counted all given =
    let e = g.extent in
    let s = sides e inside in
    let d = array (items_of layers) in
    let w = list-written (is_layer (rows_of e) e.cols) 2 (layer_long (rows_of e) e.cols) e.layers layers counted all in
    let within = sides-within e.layers (rows_of e) e.cols (whole-layers e inside).0 in
    let wide : 1 * rows_of e ≤ e.cols * rows_of e = mul-le-mul_right {m = 1} {n = e.cols} (rows_of e) s.3 in
    let full : 0 < e.cols * rows_of e = omega (arith, wide, s.1) in
    let small : (e.cols * rows_of e) * e.layers ≤ 1048576 = omega (arith, area e.layers (rows_of e) e.cols, within.4) in
    let long : length (compact_text d) ≤ 30408704 = omega (
      arith,
      w.short,
      small,
      layers-short e.layers (rows_of e) e.cols s.0 s.1 s.3 full,
    ) in
    record {
      whole = rw w.whole refl;
      shallow = omega (arith, w.shallow);
      short = rw (object-long (compact_text (string (codes "cells"))) (compact_text d)
          (compact_text (string (codes "layers"))) (compact_text (string name)))
          (omega (arith, texts-short (codes "layers") name (omega arith) named, long));
      read = layers-read name g layers named inside more counted all.tested given;
    }

pub order-of_layers : (name : List ℕ) (g : Grid) (d : Data) → is_name name ≡ true → is_extent g.extent ≡ true
    → g.extent.layers ≢ 1 → AreLayers g.extent.layers (rows_of g.extent) g.extent.cols g.values d
    → IsOrder (array_order name g) (order_data (codes "layers") name d)
order-of_layers name g d named inside more a =
    subst (λ (x : Data). IsOrder (array_order name g) (order_data (codes "layers") name x)) (sym a.is)
    (layers-order name g a.layers named inside more a.counted a.written a.given)

-- ---- the same of an array's shape and height as they were asked for

ordered : (r : Result Value AllocError) (c : Command) (d : Data) → IfOk r (λ v. view v ≡ d) → IsOrder c d
    → IfOk r (λ v. IsOrder c (view v))
ordered (Ok v) c d is o = subst (IsOrder c) (sym is) o
ordered (Err e) c d is o = tt

pub layer-ordered : (name : List ℕ) (g : Grid) (e : Extent) (height : ℕ) (cells : List (Option ℤ)) (d : Data)
    (r : Result Value AllocError) → is_name name ≡ true → e ≡ g.extent → height ≡ rows_of g.extent
    → cells ≡ g.values → is_extent e ≡ true → e.layers ≡ 1
    → IsWritten (is_layer height e.cols) 2 (layer_long height e.cols) d → values_of_layer d ≡ cells
    → IfOk r (λ v. view v ≡ order_data (codes "array") name d)
    → IfOk r (λ v. IsOrder (array_order name g) (view v))
layer-ordered name g e height cells d r named same tall held inside single w given made =
    ordered r (array_order name g) (order_data (codes "array") name d) made
    (order-of_layer name g d named (subst (λ (x : Extent). is_extent x ≡ true) same inside)
    (ap (λ (x : Extent). x.layers) (sym same) ∙ single)
    (subst (λ (n : ℕ). IsWritten (is_layer n g.extent.cols) 2 (layer_long n g.extent.cols) d) tall
    (subst (λ (x : Extent). IsWritten (is_layer height x.cols) 2 (layer_long height x.cols) d) same w))
    (given ∙ held))

pub layers-ordered : (name : List ℕ) (g : Grid) (e : Extent) (height : ℕ) (cells : List (Option ℤ)) (d : Data)
    (r : Result Value AllocError) → is_name name ≡ true → e ≡ g.extent → height ≡ rows_of g.extent
    → cells ≡ g.values → is_extent e ≡ true → e.layers ≢ 1 → AreLayers e.layers height e.cols cells d
    → IfOk r (λ v. view v ≡ order_data (codes "layers") name d)
    → IfOk r (λ v. IsOrder (array_order name g) (view v))
layers-ordered name g e height cells d r named same tall held inside more a made =
    ordered r (array_order name g) (order_data (codes "layers") name d) made
    (order-of_layers name g d named (subst (λ (x : Extent). is_extent x ≡ true) same inside)
    (subst (λ (x : Extent). x.layers ≢ 1) same more)
    (subst (λ (l : List (Option ℤ)). AreLayers g.extent.layers (rows_of g.extent) g.extent.cols l d) held
    (subst (λ (n : ℕ). AreLayers g.extent.layers n g.extent.cols cells d) tall
    (subst (λ (x : Extent). AreLayers x.layers height x.cols cells d) same a))))

-- ---- a line that is the text of an order

pub order-read : (line : List ℕ) (c : Command) (d : Data) → IsOrder c d → line ≡ compact_text d → IsUtf8 line
    → read line ≡ Some d → reading line ≡ Ok c
order-read line c d o text utf8 again =
    ap (λ (b : Bool). if b then Err TooLong else reading_of_json (json_of line))
    (le-ltb line_limit (length line) (omega (arith, ap length text, o.short)))
    ∙ ap reading_of_json (is_json line d utf8 again) ∙ o.read
