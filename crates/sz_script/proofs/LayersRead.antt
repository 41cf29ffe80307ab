-- Layers of cells: how many values they give, when they are bad or too many, and that a line of bad or too many cells
-- is refused for them.
use Rattle.std.proofs.Common.{◌≡◌, ◌<◌, ◌≤◌, ◌*◌, ℕ, ℤ, List, [], ◌&&◌, ◌==◌, length, map}
use Rattle.std.proofs.Common.{Bool, true, false, not, nat_lt, nat_le, if◌then◌else◌, Option, Some, None, option_map}
use Rattle.std.proofs.Common.{option_and_then, ap, ◌∙◌, refl, sym, arith, eq-eqb}
use Rattle.std.proofs.Common.{unwrap_or, mul-le-mul_right}
use Rattle.std.specs.Prelude.{Result, Ok, Err}
use Rattle.std.specs.List.{list_all, flat_map}
use Rattle.std.proofs.lemmas.Option.{none-some, same_Some}
use Rattle.std.proofs.lemmas.Bool.{eqb-true, false≢true, ltb-true, lt-ltb, leb-false}
use Rattle.std.proofs.Math.Nat.{mul_assoc}
use Rattle.std.proofs.lemmas.List.{length-map}
use Rattle.serde_json.specs.Data.{Data}
use Rattle.serde_json.specs.View.{view}
use Rattle.serde_json.specs.declared.value.Value.{Value}
use Rattle.sz_cells.specs.Extent.{Extent, is_shape, is_layered, layered, size_of}
use Rattle.sz_spec.specs.Values.{Grid}
use Rattle.sz_spec.specs.declared.flow.FlowFault.{FlowFault}
use Rattle.sz_script.specs.Fields.{passes, list_in}
use Rattle.sz_script.specs.Layers.{is_value, is_row, is_layer, value_of, values_of_row, values_of_layer, height_of}
use Rattle.sz_script.specs.Layers.{width_of, are_counted, are_bad_cells, are_too_many_cells, grid_of}
use Rattle.sz_script.specs.Layers.{filled, array_in}
use Rattle.sz_script.specs.Drafts.{Draft, in_layers, in_text, unless_fault, reading_of_draft, reading_of_form}
use Rattle.sz_script.specs.Records.{records_in, table_in, is_bad_text, has_too_many_fields, grid_of_text}
use Rattle.sz_script.specs.Names.{is_name}
use Rattle.sz_script.specs.Right.{names_in, fault_in}
use Rattle.sz_script.specs.Reading.{Reads}
use Rattle.sz_script.specs.declared.command.Command.{Command}
use Rattle.sz_script.specs.declared.command.LineFault.{LineFault}
use Rattle.sz_script.specs.declared.command.LineFault.TheVariants as line_fault
use Rattle.sz_script.specs.declared.refusal.Refusal.{Refusal}
use Rattle.sz_script.specs.declared.refusal.Refusal.TheVariants.{BadName, BadCells, TooManyCells}
use Rattle.sz_script.proofs.Walks.{all_seen, both_true, given_long}

-- ---- tests of lists

listed : (d : Data) (vs : List Value) (test : List Data → Bool) → Some (map view vs) ≡ list_in d
    → passes test (list_in d) ≡ test (map view vs)
listed d vs test e = ap (passes test) (sym e)

counted : (n width : ℕ) (b : Bool) → n ≡ width → ((n == width) && b) ≡ b
counted n width b e = ap (λ (t : Bool). t && b) (eq-eqb n width e)

pub row_tested : (width : ℕ) (d : Data) (vs : List Value) → Some (map view vs) ≡ list_in d → length vs ≡ width
    → is_row width d ≡ list_all (λ v. is_value (view v)) vs
row_tested width d vs e long = listed d vs (λ ds. (length ds == width) && list_all is_value ds) e
    ∙ counted (length (map view vs)) width _ (length-map vs view ∙ long) ∙ all_seen is_value vs

pub layer_tested : (height width : ℕ) (d : Data) (vs : List Value) → Some (map view vs) ≡ list_in d
    → length vs ≡ height
    → is_layer height width d ≡ list_all (λ v. is_row width (view v)) vs
layer_tested height width d vs e long =
    listed d vs (λ rows. (length rows == height) && list_all (is_row width) rows) e
    ∙ counted (length (map view vs)) height _ (length-map vs view ∙ long) ∙ all_seen (is_row width) vs

-- ---- how many values there are

row_long : (width : ℕ) (o : Option (List Data))
    → passes (λ ds. (length ds == width) && list_all is_value ds) o ≡ true
    → length (map value_of (unwrap_or o [])) ≡ width
row_long width None e = absurd (false≢true e)
row_long width (Some ds) e = length-map ds value_of
    ∙ eqb-true (length ds) width (both_true (length ds == width) (list_all is_value ds) e).0

rows_long : (width : ℕ) (rows : List Data) → list_all (is_row width) rows ≡ true
    → length (flat_map values_of_row rows) ≡ length rows * width
rows_long width rows e =
    given_long (is_row width) values_of_row width (λ r. row_long width (list_in r)) rows e

layer_long : (height width : ℕ) (o : Option (List Data))
    → passes (λ rows. (length rows == height) && list_all (is_row width) rows) o ≡ true
    → length (flat_map values_of_row (unwrap_or o [])) ≡ height * width
layer_long height width None e = absurd (false≢true e)
layer_long height width (Some rows) e =
    let p = both_true (length rows == height) (list_all (is_row width) rows) e in
    rows_long width rows p.1 ∙ ap (λ n. n * width) (eqb-true (length rows) height p.0)

pub layers_long : (height width : ℕ) (layers : List Data) → list_all (is_layer height width) layers ≡ true
    → length (flat_map values_of_layer layers) ≡ (length layers * height) * width
layers_long height width layers e =
    given_long (is_layer height width) values_of_layer (height * width)
    (λ l. layer_long height width (list_in l)) layers e
    ∙ sym (mul_assoc (length layers) height width)

pub filled_bad : (e : Extent) (height width : ℕ) (layers : List Data)
    → list_all (is_layer height width) layers ≡ false → filled e height width layers ≡ Err BadCells
filled_bad e height width layers bad = ap (λ (b : Bool). if b
    then Ok (record { extent = e; values = flat_map values_of_layer layers })
    else Err BadCells) bad

pub none_made : {A : Type 0} (values : List (Option ℤ)) (e : Extent) (g : Grid) → length values ≡ size_of e
    → ◌≡◌ {A = Option Grid} None (if length values == size_of e then Some g else None) → A
none_made values e g long none = absurd (none-some g (none
    ∙ ap (λ (b : Bool). if b then Some g else None) (eq-eqb (length values) (size_of e) long)))

-- ---- bad, or too many

pub record IsSided (layers : List Data) (height width : ℕ) : Type 0 where
  pub counted : are_counted layers ≡ true
  pub high : height ≡ height_of layers
  pub wide : width ≡ width_of layers

sides_where : (b : Bool) (h w height width : ℕ)
    → ◌≡◌ {A = Option (ℕ × ℕ)} (Some (height, width)) (if b then Some (h, w) else None)
    → (b ≡ true) × (height ≡ h) × (width ≡ w)
sides_where true h w height width e = let same = same_Some {A = ℕ × ℕ} (height, width) (h, w) e in
    (refl, ap (λ (p : ℕ × ℕ). p.0) same, ap (λ (p : ℕ × ℕ). p.1) same)
sides_where false h w height width e = absurd (none-some {A = ℕ × ℕ} (height, width) (sym e))

pub sides_found : (layers : List Data) (height width : ℕ)
    → ◌≡◌ {A = Option (ℕ × ℕ)} (Some (height, width))
    (if are_counted layers then Some (height_of layers, width_of layers) else None)
    → IsSided layers height width
sides_found layers height width e =
    let s = sides_where (are_counted layers) (height_of layers) (width_of layers) height width e in
    record { counted = s.0; high = s.1; wide = s.2 }

-- the array of layers, by what their tests give
array_by : (layers : List Data) (b m : Bool) → are_bad_cells layers ≡ b → are_too_many_cells layers ≡ m
    → array_in layers ≡ (if b then Err BadCells else if m then Err TooManyCells else Ok (grid_of layers))
array_by layers b m bad many =
    ap (λ (t : Bool). if t then Err BadCells else if are_too_many_cells layers
    then Err TooManyCells else Ok (grid_of layers)) bad
    ∙ ap (λ (t : Bool). if b then Err BadCells else if t then Err TooManyCells else Ok (grid_of layers)) many

-- layers that are counted are bad where one is not like the first
bad_by : (layers : List Data) (height width : ℕ) (b : Bool) → IsSided layers height width
    → list_all (is_layer height width) layers ≡ b → are_bad_cells layers ≡ not b
bad_by layers height width b s each =
    ap (λ (t : Bool). not (t && list_all (is_layer (height_of layers) (width_of layers)) layers)) s.counted
    ∙ ap (λ n. not (list_all (is_layer n (width_of layers)) layers)) (sym s.high)
    ∙ ap (λ n. not (list_all (is_layer height n) layers)) (sym s.wide) ∙ ap not each

pub bad_made : (layers : List Data) (height width : ℕ) → IsSided layers height width
    → list_all (is_layer height width) layers ≡ false → array_in layers ≡ Err BadCells
bad_made layers height width s each =
    array_by layers true (are_too_many_cells layers) (bad_by layers height width false s each) refl

refused_where : (b : Bool) (e : Extent) → ◌≡◌ {A = Option Extent} None (if b then Some e else None) → b ≡ false
refused_where true e same = absurd (none-some e same)
refused_where false e same = refl

-- what has sides and no shape is too much
too_much : (n height width : ℕ)
    → (nat_lt 0 n && nat_le n 16 && nat_lt 0 height && nat_lt 0 width) ≡ true
    → is_layered n height width ≡ false → nat_lt 1048576 ((n * height) * width) ≡ true
too_much n height width e none =
    let p = both_true (nat_lt 0 n && nat_le n 16 && nat_lt 0 height) (nat_lt 0 width) e in
    let q = both_true (nat_lt 0 n && nat_le n 16) (nat_lt 0 height) p.0 in
    let r = both_true (nat_lt 0 n) (nat_le n 16) q.0 in
    let layers : 1 ≤ n = ltb-true 0 n r.0 in
    let high : 0 < height = ltb-true 0 height q.1 in
    let rows : 1 * height ≤ n * height = mul-le-mul_right height layers in
    let some : 0 < n * height = omega arith in
    let left : is_layered n height width ≡ nat_le ((n * height) * width) 1048576 =
    ap (λ (t : Bool). t && is_shape (n * height) width) q.0
    ∙ ap (λ (t : Bool). t && nat_lt 0 width && nat_le ((n * height) * width) 1048576) (lt-ltb 0 (n * height) some)
    ∙ ap (λ (t : Bool). t && nat_le ((n * height) * width) 1048576) p.1 in
    lt-ltb 1048576 ((n * height) * width) (leb-false ((n * height) * width) 1048576 (sym left ∙ none))

pub many_made : (layers : List Data) (height width : ℕ) → IsSided layers height width
    → (vs : List Value) → map view vs ≡ layers
    → ◌≡◌ {A = Option Extent} None
    (if is_layered (length vs) height width then Some (layered (length vs) height width) else None)
    → list_all (is_layer height width) layers ≡ true → array_in layers ≡ Err TooManyCells
many_made layers height width s vs seen none each =
    let same : length vs ≡ length layers = sym (length-map vs view) ∙ ap length seen in
    let shapeless : is_layered (length layers) (height_of layers) (width_of layers) ≡ false =
    ap (λ n. is_layered n (height_of layers) (width_of layers)) (sym same)
    ∙ ap (λ n. is_layered (length vs) n (width_of layers)) (sym s.high)
    ∙ ap (λ n. is_layered (length vs) height n) (sym s.wide)
    ∙ refused_where (is_layered (length vs) height width) (layered (length vs) height width) none in
    array_by layers false true (bad_by layers height width true s each)
    (too_much (length layers) (height_of layers) (width_of layers) s.counted shapeless)

-- ---- lines

-- a fault of a part is one of the whole, where each refusal of the part is
pub reads_fault : {X Y : Type 0} (part : Result X Refusal) (all : Result Y Refusal) (fault : LineFault)
    → Reads part (Err fault) → ((r : Refusal) → part ≡ Err r → all ≡ Err r) → Reads all (Err fault)
reads_fault part all (line_fault.Refused r) e each = each r e
reads_fault part all line_fault.NoMemory e each = tt

-- what a look-up found, seen
pub found : {A X : Type 0} (f : A → X) (o : Option A) (x : A) (l : Option X) → o ≡ Some x → option_map f o ≡ l
    → Some (f x) ≡ l
found f o x l there seen = ap (option_map f) (sym there) ∙ seen

-- the draft of a name and cells that were found
pub drafted : {X : Type 0} (make : List ℕ → X → Draft) (name : List ℕ) (cells : X) (o : Option (List ℕ))
    (l : Option X) → Some name ≡ o → Some cells ≡ l
    → reading_of_form (option_and_then (λ n. option_map (make n) l) o) ≡ reading_of_draft (make name cells)
drafted make name cells o l named found =
    ap (λ (p : Option (List ℕ)). reading_of_form (option_and_then (λ n. option_map (make n) l) p)) (sym named)
    ∙ ap (λ (p : Option _). reading_of_form (option_map (make name) p)) (sym found)

abbrev refusal_in : Result Grid Refusal → Refusal
refusal_in (Ok g) = BadName
refusal_in (Err r) = r

refused_by : (n b m : Bool) (f : Option FlowFault) (c : Command) (g : Grid) (r : Refusal) → n ≡ false
    → ◌≡◌ {A = Result Grid Refusal} (if b then Err BadCells else if m then Err TooManyCells else Ok g) (Err r)
    → ◌≡◌ {A = Result Command Refusal}
    (if n then Err BadName else if b then Err BadCells else if m then Err TooManyCells else unless_fault f c)
    (Err r)
refused_by true b m f c g r named e = absurd (false≢true (sym named))
refused_by false true m f c g r named e = ap (λ (x : Result Grid Refusal). Err (refusal_in x)) e
refused_by false false true f c g r named e = ap (λ (x : Result Grid Refusal). Err (refusal_in x)) e
refused_by false false false f c g r named e = cc

pub array_refused : (layers : List Data) (c : Command) (r : Refusal) → list_all is_name (names_in c) ≡ true
    → array_in layers ≡ Err r
    → reading_of_draft (record { command = c; cells = in_layers layers }) ≡ Err r
array_refused layers c r named e =
    refused_by (not (list_all is_name (names_in c))) (are_bad_cells layers) (are_too_many_cells layers) (fault_in c) c
    (grid_of layers) r (ap not named) e

pub text_refused : (text : List ℕ) (c : Command) (r : Refusal) → list_all is_name (names_in c) ≡ true
    → table_in (records_in text) ≡ Err r
    → reading_of_draft (record { command = c; cells = in_text text }) ≡ Err r
text_refused text c r named e =
    refused_by (not (list_all is_name (names_in c))) (is_bad_text text) (has_too_many_fields text) (fault_in c) c
    (grid_of_text text) r (ap not named) e
