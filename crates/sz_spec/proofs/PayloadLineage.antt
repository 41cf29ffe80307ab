-- What follows of mappings, of payloads and of composite defaults.
--
-- The key idea: the same tests, high, hot and matched, say what a cell is related to and what is kept for it.
-- What is kept is read back: a column below 2^32 from four bytes, and a component, of which the indexes rise,
-- from the bytes of a set.
use Rattle.std.proofs.Common.{◌≡◌, ℕ, zero, suc, ◌*◌, ◌<◌, ◌≤◌, ℤ, pos, negsuc, Bool, true}
use Rattle.std.proofs.Common.{false, ◌&&◌, ◌||◌, ◌==◌}
use Rattle.std.proofs.Common.{nat_lt, List, [], ◌∷◌, length, Option, Some, None, refl, sym, ap}
use Rattle.std.proofs.Common.{subst}
use Rattle.std.proofs.Common.{◌∙◌, arith, inl, inr, lt-ltb, ltb-true}
use Rattle.std.specs.Prelude.{option_and_then}
use Rattle.std.specs.Option.{option_map_or}
use Rattle.std.proofs.Math.Nat.{mul-le-mul_right}
use Rattle.std.proofs.lemmas.Bool.{cases_Bool, and_parts, or_cases, eqb-true, true≢false}
use Rattle.std.proofs.lemmas.Bool.{false≢true}
use Rattle.std.proofs.lemmas.Nat.{from_be_bytes-to_be_bytes_4}
use Rattle.sz_cells.specs.declared.Cell.{Cell}
use Rattle.sz_cells.specs.Extent.{Extent, is_extent}
use Rattle.sz_cells.specs.Cells.{Cells, is_same, cells_where, has}
use Rattle.sz_cells.specs.SetBytes.{set_bytes, four_bytes}
use Rattle.sz_cells.specs.SetWords.{set_spelled, is_set_word}
use Rattle.sz_cells.proofs.Shapes.{sides}
use Rattle.sz_spec.specs.declared.op.Op.{Op}
use Rattle.sz_spec.specs.declared.op.Op.TheVariants.{Add, Sub, Mul, Min}
use Rattle.sz_spec.specs.declared.op.Op.TheVariants.{Max, Transpose, Slice, Block, Lookup}
use Rattle.sz_spec.specs.declared.op.Op.TheVariants.{Regions, Clean, FoldLayers}
use Rattle.sz_spec.specs.Values.{Grid, value_at, input_at, extent_at, extents_of}
use Rattle.sz_spec.specs.Shapes.{Site, arity}
use Rattle.sz_spec.specs.Lineage.{mapped, related}
use Rattle.sz_spec.specs.Modes.{has_mapping}
use Rattle.sz_spec.specs.Operators.Lookup.{column_of, match_of, is_entry}
use Rattle.sz_spec.specs.Operators.Regions.{is_high, component_of, is_connected}
use Rattle.sz_spec.specs.Operators.Clean.{is_hot, is_in_square}
use Rattle.sz_spec.specs.Payloads.{column_named, is_column, is_none_or, is_payload, entry_kept}
use Rattle.sz_spec.specs.Payloads.{mapped_by_payload, payload_of, overrides}
use Rattle.sz_spec.specs.LawsShapes.{AreExtents}
use Rattle.sz_spec.specs.Work.{IsAtWork}
use Rattle.sz_spec.specs.LawsLineage.{RelatedCellsAreOfInputs, MappingsAreTheRelation}
use Rattle.sz_spec.specs.LawsLineage.{PayloadsAreLawful}
use Rattle.sz_spec.specs.LawsLineage.{PayloadsAreTheRelation}
use Rattle.sz_spec.specs.LawsLineage.{DefaultsAreTheRelation}
use Rattle.sz_spec.proofs.OutputShapes.{extent-right}
use Rattle.sz_spec.proofs.Components.{component-made}
use Rattle.sz_cells.proofs.SetWords.{set-back, set-word}
use Rattle.sz_cells.proofs.LawsOfSets.{sets-rising}

-- ---- inputs

-- the shape of an input is that of its array
pub extent-of_input : (inputs : List Grid) (i : ℕ)
    → extent_at (extents_of inputs) i ≡ (input_at inputs i).extent
extent-of_input [] i = refl
extent-of_input (g ∷ inputs) zero = refl
extent-of_input (g ∷ inputs) (suc i) = extent-of_input inputs i

-- so at the shapes of a site it is that of the site
pub extent-of_site : (s : Site) (inputs : List Grid) (i : ℕ) → IsAtWork s inputs
    → (input_at inputs i).extent ≡ extent_at s.ins i
extent-of_site s inputs i known =
    sym (extent-of_input inputs i) ∙ ap (λ (ins : List Extent). extent_at ins i) known.shapes

-- ---- mappings

-- of an operator with a mapping the relation is the mapping
pub related-mapped : MappingsAreTheRelation
related-mapped Lookup inputs i o x h = absurd (false≢true h)
related-mapped (Regions t) inputs i o x h = absurd (false≢true h)
related-mapped (Clean t) inputs i o x h = absurd (false≢true h)
related-mapped _ inputs i o x h = refl

-- ---- the inputs that a cell is related to

of-first : (i : ℕ) (b : Bool) → ((i == 0) && b) ≡ true → i < 1
of-first i b h = omega (arith, eqb-true i 0 (and_parts (i == 0) b h).0)

of-both : (i : ℕ) (b : Bool) → (nat_lt i 2 && b) ≡ true → i < 2
of-both i b h = ltb-true i 2 (and_parts (nat_lt i 2) b h).0

-- a cell is related to cells of the operator's inputs alone
pub related-inputs : RelatedCellsAreOfInputs
related-inputs Add inputs i o x h = of-both i _ h
related-inputs Sub inputs i o x h = of-both i _ h
related-inputs Mul inputs i o x h = of-both i _ h
related-inputs Min inputs i o x h = of-both i _ h
related-inputs Max inputs i o x h = of-both i _ h
related-inputs Transpose inputs i o x h = of-first i _ (and_parts _ _ (and_parts _ _ h).0).0
related-inputs (Slice r0 c0 height width) inputs i o x h = of-first i _ (and_parts _ _ (and_parts _ _ h).0).0
related-inputs (Block fold height width) inputs i o x h = of-first i _ (and_parts _ _ (and_parts _ _ h).0).0
related-inputs Lookup inputs i o x h =
    let entry = is_entry (match_of (input_at inputs 0) (input_at inputs 1) o) x in
    elim (or_cases ((i == 0) && is_same x o) ((i == 1) && entry) h) [
      | inl own ↦ let first : i < 1 = of-first i (is_same x o) own in omega arith
      | inr other ↦ let second : i ≡ 1 = eqb-true i 1 (and_parts (i == 1) entry other).0 in omega arith
    ]
related-inputs (FoldLayers fold) inputs i o x h = of-first i _ (and_parts _ _ h).0
related-inputs _ inputs i o x h = of-first i _ h

-- ---- lookup

-- a number that names a column is below the number of columns
column-below : (cols : ℕ) (z : ℤ) (k : ℕ) → column_of cols z ≡ Some k → k < cols
column-below cols (pos n) k h =
    elim (cases_Bool (nat_lt n cols)) [
      | inl t ↦ let told = rw t at h in let same : n ≡ k = cc in
          subst (λ (m : ℕ). m < cols) same (ltb-true n cols t)
      | inr f ↦ let told = rw f at h in (cc)
    ]
column-below cols (negsuc n) k h = (cc)

matched-below : (cols : ℕ) (v : Option ℤ) (k : ℕ) → option_and_then (column_of cols) v ≡ Some k
    → k < cols
matched-below cols None k h = (cc)
matched-below cols (Some z) k h = column-below cols z k h

-- so is the column that a cell is matched with
pub match-below : (a table : Grid) (o : Cell) (k : ℕ) → match_of a table o ≡ Some k → k < table.extent.cols
match-below a table o k h = matched-below table.extent.cols (value_at a o) k h

-- where the table has this shape
match-within : (a table : Grid) (o : Cell) (e : Extent) → table.extent ≡ e
    → (k : ℕ) → match_of a table o ≡ Some k → k < e.cols
match-within a table o e same k told = subst (λ (d : Extent). k < d.cols) same (match-below a table o k told)

-- a right shape has no more than 1,048,576 columns
cols-few : (e : Extent) → is_extent e ≡ true → e.cols ≤ 1048576
cols-few e right =
    let s = sides e right in
    let less : 1 * e.cols ≤ e.rows * e.cols = mul-le-mul_right e.cols s.2 in
    omega (arith, less, s.5)

-- a column of a right shape is read back from its four bytes
column-back : (e : Extent) (k : ℕ) → is_extent e ≡ true → k < e.cols → column_named (four_bytes k) ≡ k
column-back e k right inside = from_be_bytes-to_be_bytes_4 k (omega (arith, cols-few e right))

-- what is kept for a match is lawful, and stands for it
column-lawful : (e : Extent) (m : Option ℕ) → is_extent e ≡ true
    → ((k : ℕ) → m ≡ Some k → k < e.cols)
    → is_none_or (is_column e) (option_map_or four_bytes m []) ≡ true
column-lawful e None right below = refl
column-lawful e (Some k) right below =
    let inside = below k refl in
    ap (λ (n : ℕ). nat_lt n e.cols) (column-back e k right inside) ∙ lt-ltb k e.cols inside

column-stands : (e : Extent) (m : Option ℕ) (x : Cell) → is_extent e ≡ true
    → ((k : ℕ) → m ≡ Some k → k < e.cols)
    → entry_kept (option_map_or four_bytes m []) x ≡ is_entry m x
column-stands e None x right below = refl
column-stands e (Some k) x right below =
    ap (λ (n : ℕ). (x.row == 0) && (x.col == n)) (column-back e k right (below k refl))

column-default : (m : Option ℕ) (x : Cell) → option_map_or (λ k. true) m false ≡ false
    → is_entry m x ≡ false
column-default None x h = refl
column-default (Some k) x h = absurd (true≢false h)

none-more : (a b : Bool) → (a || (b && false)) ≡ a
none-more true b = refl
none-more false true = refl
none-more false false = refl

-- ---- regions

-- a component is read back from its bytes, and these are its one spelling
component-back : (t : ℤ) (g : Grid) (o : Cell) → is_extent g.extent ≡ true
    → set_spelled g.extent (set_bytes (component_of t g o)) ≡ component_of t g o
component-back t g o right =
    let e = g.extent in
    let s = sides e right in
    let back = set-back e (cells_where e (is_connected t g o)).indexes (omega (arith, s.5))
    (sets-rising e (is_connected t g o)) in
    subst (λ (z : Cells). set_spelled e (set_bytes z) ≡ z) (sym (component-made t g o)) back

component-word : (t : ℤ) (g : Grid) (o : Cell) → is_extent g.extent ≡ true
    → is_set_word g.extent (set_bytes (component_of t g o)) ≡ true
component-word t g o right =
    let e = g.extent in
    let s = sides e right in
    let word = set-word e (cells_where e (is_connected t g o)).indexes (omega (arith, s.5))
    (sets-rising e (is_connected t g o)) in
    subst (λ (z : Cells). is_set_word e (set_bytes z) ≡ true) (sym (component-made t g o)) word

-- ---- the laws, operator by operator

lawful-of : (op : Op) (ins : List Extent) (inputs : List Grid) (o : Cell) → length ins ≡ arity op
    → ((i : ℕ) → (input_at inputs i).extent ≡ extent_at ins i) → AreExtents ins
    → has_mapping op ≡ false
    → is_payload op ins (payload_of op inputs o) ≡ true
lawful-of Lookup ins inputs o few same right h =
    let below = match-within (input_at inputs 0) (input_at inputs 1) o (extent_at ins 1) (same 1) in
    column-lawful (extent_at ins 1) (match_of (input_at inputs 0) (input_at inputs 1) o)
    (extent-right ins 1 right (omega arith)) below
lawful-of (Regions t) ins inputs o few same right h =
    let g = input_at inputs 0 in
    elim (cases_Bool (is_high t g o)) [
      | inl high ↦
          let here : is_extent g.extent ≡ true = ap is_extent (same 0)
          ∙ extent-right ins 0 right (omega arith) in
          rw high (subst (λ (e : Extent). is_set_word e (set_bytes (component_of t g o)) ≡ true) (same 0)
          (component-word t g o here))
      | inr low ↦ rw low refl
    ]
lawful-of (Clean t) ins inputs o few same right h =
    elim (cases_Bool (is_hot t (input_at inputs 0) o)) [ inl hot ↦ rw hot refl | inr cold ↦ rw cold refl ]
lawful-of _ ins inputs o few same right h = absurd (true≢false h)

stands-of : (op : Op) (ins : List Extent) (inputs : List Grid) (i : ℕ) (o x : Cell) → length ins ≡ arity op
    → ((j : ℕ) → (input_at inputs j).extent ≡ extent_at ins j) → AreExtents ins
    → has_mapping op ≡ false
    → mapped_by_payload op ins (payload_of op inputs o) i o x ≡ related op inputs i o x
stands-of Lookup ins inputs i o x few same right h =
    let below = match-within (input_at inputs 0) (input_at inputs 1) o (extent_at ins 1) (same 1) in
    ap (λ (b : Bool). ((i == 0) && is_same x o) || ((i == 1) && b))
    (column-stands (extent_at ins 1) (match_of (input_at inputs 0) (input_at inputs 1) o) x
    (extent-right ins 1 right (omega arith)) below)
stands-of (Regions t) ins inputs i o x few same right h =
    let g = input_at inputs 0 in
    elim (cases_Bool (is_high t g o)) [
      | inl high ↦
          let here : is_extent g.extent ≡ true = ap is_extent (same 0)
          ∙ extent-right ins 0 right (omega arith) in
          let back = subst (λ (e : Extent). set_spelled e (set_bytes (component_of t g o)) ≡ component_of t g o)
          (same 0) (component-back t g o here) in
          rw high (ap (λ (z : Cells). (i == 0) && has z x) back)
      | inr low ↦ rw low refl
    ]
stands-of (Clean t) ins inputs i o x few same right h =
    let g = input_at inputs 0 in
    elim (cases_Bool (is_hot t g o)) [
      | inl hot ↦ rw hot (ap (λ (e : Extent). (i == 0) && is_in_square e o x) (sym (same 0)))
      | inr cold ↦ rw cold refl
    ]
stands-of _ ins inputs i o x few same right h = absurd (true≢false h)

default-of : (op : Op) (inputs : List Grid) (i : ℕ) (o x : Cell) → overrides op inputs o ≡ false
    → related op inputs i o x ≡ mapped op (extents_of inputs) i o x
default-of Lookup inputs i o x h =
    rw (column-default (match_of (input_at inputs 0) (input_at inputs 1) o) x h)
    (none-more ((i == 0) && is_same x o) (i == 1))
default-of (Regions t) inputs i o x h = rw h refl
default-of (Clean t) inputs i o x h = rw h refl
default-of _ inputs i o x h = refl

-- ---- the laws

-- what is kept for a cell is a payload of the operator
pub payload-lawful : PayloadsAreLawful
payload-lawful s inputs o known h =
    lawful-of s.op s.ins inputs o known.site.arity (λ i. extent-of_site s inputs i known) known.right h

-- it stands for the cells to which the cell is related
pub payload-stands : PayloadsAreTheRelation
payload-stands s inputs i o x known h =
    stands-of s.op s.ins inputs i o x known.site.arity (λ j. extent-of_site s inputs j known) known.right h

-- where no payload overrides it, the default is the relation
pub default-related : DefaultsAreTheRelation
default-related s inputs i o x known h =
    default-of s.op inputs i o x h ∙ ap (λ (ins : List Extent). mapped s.op ins i o x) known.shapes
