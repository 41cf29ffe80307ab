-- The records of a text as a table. The key idea: only the first values are kept, one more than an array has cells, so
-- their number tells whether there are too many, and where there are not they are all.
use Rattle.std.proofs.Common.{◌≡◌, ◌≢◌, ◌<◌, ◌≤◌, ◌+◌, ◌*◌, ◌/◌, ℕ, ℤ, suc, zero, List, [], ◌∷◌, ◌++◌, length, map}
use Rattle.std.proofs.Common.{take, min, get_or, ◌==◌, Bool, true, false, not, ◌&&◌, nat_lt, nat_le, if◌then◌else◌}
use Rattle.std.proofs.Common.{Option, Some, None, is_some, unwrap_or, ap, ◌∙◌, refl, sym, subst, arith}
use Rattle.std.proofs.Common.{append_assoc, append-nil, eq-eqb, ne_eqb}
use Rattle.std.specs.Prelude.{IfSome, Ok, Err}
use Rattle.std.specs.List.{list_all, flat_map}
use Rattle.std.proofs.lemmas.Option.{none-some, same_Some}
use Rattle.std.proofs.lemmas.Bool.{eqb-true, false≢true, lt-ltb, le-ltb, le-leb}
use Rattle.std.proofs.lemmas.List.{length-map, length-take, take_all, take_more, map-append}
use Rattle.std.proofs.lemmas.List.Folds.{list_all-append, list_all_at}
use Rattle.std.proofs.lemmas.Grind.{flat_map-append}
use Rattle.std.proofs.Math.Nat.{mul-div_cancel}
use Rattle.csv.specs.Machine.{Read, next_record}
use Rattle.csv.specs.Reading.{Reached, ReadsNext, NextIs, ExplainsRead, default_config, source_of, strip_bom}
use Rattle.csv.specs.declared.error.ErrorKind.{ErrorKind}
use Rattle.csv.specs.declared.error.ErrorKind.TheVariants as kind
use Rattle.csv.specs.declared.parser.Config.{Config}
use Rattle.csv.specs.declared.reader.Reader.{Reader}
use Rattle.csv.proofs.ReadFacts.{reached-more}
use Rattle.csv.specs.declared.parser.State.{State}
use Rattle.csv.specs.declared.parser.State.TheVariants as st
use Rattle.sz_cells.specs.Extent.{Extent, layered, is_layered, size_of}
use Rattle.sz_spec.specs.Values.{Grid}
use Rattle.sz_script.specs.declared.refusal.Refusal.TheVariants.{BadCells, TooManyCells}
use Rattle.sz_script.specs.Records.{records_in, value_in, value_of, is_value, is_row, width_of, values_of_row}
use Rattle.sz_script.specs.Records.{are_rows, are_too_many, table_of, table_in, first_values, IsTable, fault_of}
use Rattle.sz_script.specs.Reading.{Reads}
use Rattle.sz_script.proofs.RecordsRead.{begins}
use Rattle.sz_script.proofs.Walks.{both_true, given_long}

abbrev Record : Type 0
Record = List (List ℕ)

and_false : (b : Bool) → (b && false) ≡ false
and_false true = refl
and_false false = refl

-- ---- the first values

pub first_all : (vs : List (Option ℤ)) → length vs ≤ 1048577 → first_values vs ≡ vs
first_all vs few = take_all 1048577 vs few

pub first_few : (vs : List (Option ℤ)) → length (first_values vs) ≤ 1048577
first_few vs = omega (arith, length-take 1048577 vs)

front : {X : Type 0} (n : ℕ) (xs ys : List X) → take n (take n xs ++ ys) ≡ take n (xs ++ ys)
front zero xs ys = refl
front (suc n) [] ys = refl
front (suc n) (x ∷ xs) ys = ap (λ (l : List _). x ∷ l) (front n xs ys)

first_more : (vs ws : List (Option ℤ)) → first_values (first_values vs ++ ws) ≡ first_values (vs ++ ws)
first_more vs ws = front 1048577 vs ws

-- ---- fields taken one after another

pub record IsTakenUpTo (fields : Record) (i : ℕ) (old new : List (Option ℤ)) : Type 0 where
  pub passed : list_all is_value (take i fields) ≡ true
  pub given : new ≡ first_values (old ++ map value_of (take i fields))
  pub few : length new ≤ 1048577

pub taken_none : (fields : Record) (old : List (Option ℤ)) → length old ≤ 1048577 → IsTakenUpTo fields 0 old old
taken_none fields old few = record {
  passed = refl;
  given = sym (ap first_values (append-nil old) ∙ first_all old few);
  few = few;
}

pub taken_more : (fields : Record) (i : ℕ) (old new more : List (Option ℤ)) (v : Option ℤ) → i < length fields
    → Some v ≡ value_in (get_or fields i []) → more ≡ first_values (new ++ v ∷ []) → IsTakenUpTo fields i old new
    → IsTakenUpTo fields (i + 1) old more
taken_more fields i old new more v lt some gives w =
    let f : List ℕ = get_or fields i [] in
    let front : List (Option ℤ) = map value_of (take i fields) in
    let next : take (i + 1) fields ≡ take i fields ++ f ∷ [] = take_more fields i [] lt in
    let is : v ≡ value_of f = ap (λ (o : Option (Option ℤ)). unwrap_or o None) some in
    record {
      passed = ap (list_all is_value) next ∙ list_all-append is_value (take i fields) (f ∷ [])
          ∙ ap (λ (b : Bool). b && (is_value f && true)) w.passed
          ∙ ap (λ (b : Bool). b && true) (ap is_some (sym some));
      given = gives ∙ ap (λ (l : List (Option ℤ)). first_values (l ++ v ∷ [])) w.given
          ∙ first_more (old ++ front) (v ∷ [])
          ∙ ap first_values (append_assoc old front (v ∷ []))
          ∙ ap (λ (y : Option ℤ). first_values (old ++ (front ++ y ∷ []))) is
          ∙ ap (λ (l : List (Option ℤ)). first_values (old ++ l)) (sym (map-append value_of (take i fields) (f ∷ [])))
          ∙ ap (λ (l : Record). first_values (old ++ map value_of l)) (sym next);
      few = subst (λ (l : List (Option ℤ)). length l ≤ 1048577) (sym gives) (first_few (new ++ v ∷ []));
    }

pub taken_bad : (fields : Record) (i : ℕ) → i < length fields → None ≡ value_in (get_or fields i [])
    → list_all is_value fields ≡ false
taken_bad fields i lt none = list_all_at is_value fields i [] lt (ap is_some (sym none))

pub taken_passed : (fields : Record) (i : ℕ) (old new : List (Option ℤ)) → length fields ≤ i
    → IsTakenUpTo fields i old new → list_all is_value fields ≡ true
taken_passed fields i old new end w = ap (list_all is_value) (sym (take_all i fields end)) ∙ w.passed

pub taken_given : (fields : Record) (i : ℕ) (old new : List (Option ℤ)) → length fields ≤ i
    → IsTakenUpTo fields i old new → new ≡ first_values (old ++ map value_of fields)
taken_given fields i old new end w =
    w.given ∙ ap (λ (l : Record). first_values (old ++ map value_of l)) (take_all i fields end)

-- ---- records taken one after another

-- how long the next record is to be
abbrev pub expected_of : List Record → Option ℕ
expected_of [] = None
expected_of (r ∷ rows) = Some (length r)

pub table_none : (values : List (Option ℤ)) → values ≡ [] → IsTable [] 0 values
table_none values none = record { wide = refl; each = refl; first = none }

pub next_expected : (rows : List Record) (f : Record) (x y : Option ℕ) → x ≡ expected_of rows
    → IfSome x (λ e. y ≡ Some e) → y ≡ Some (length f) → y ≡ expected_of (rows ++ f ∷ [])
next_expected [] f x y same kept here = here
next_expected (r ∷ rows) f x y same kept here = subst (λ (o : Option ℕ). IfSome o (λ e. y ≡ Some e)) same kept

agrees : (rows : List Record) (f : Record) (y : Option ℕ) → y ≡ expected_of (rows ++ f ∷ []) → y ≡ Some (length f)
    → width_of (rows ++ f ∷ []) ≡ length f
agrees [] f y kept here = refl
agrees (r ∷ rows) f y kept here = same_Some (length r) (length f) (sym kept ∙ here)

each_same : (rows : List Record) (f : Record) (width : ℕ) → width ≡ width_of rows
    → width_of (rows ++ f ∷ []) ≡ length f → list_all (is_row width) rows ≡ true
    → list_all (is_row (length f)) rows ≡ true
each_same [] f width wide agree e = refl
each_same (r ∷ rows) f width wide agree e =
    subst (λ (n : ℕ). list_all (is_row n) (r ∷ rows) ≡ true) (wide ∙ agree) e

pub table_more : (rows : List Record) (f : Record) (width n : ℕ) (old new : List (Option ℤ)) (y : Option ℕ)
    → y ≡ expected_of (rows ++ f ∷ []) → y ≡ Some (length f) → list_all is_value f ≡ true
    → new ≡ first_values (old ++ map value_of f) → n ≡ length f → IsTable rows width old
    → IsTable (rows ++ f ∷ []) n new
table_more rows f width n old new y kept here good gives long t =
    let agree = agrees rows f y kept here in
    let row : is_row (length f) f ≡ true =
    ap (λ (b : Bool). b && list_all is_value f) (eq-eqb (length f) (length f) refl) ∙ good in
    let all = flat_map values_of_row rows in
    subst (λ (k : ℕ). IsTable (rows ++ f ∷ []) k new) (sym long) (record {
      wide = sym agree;
      each = list_all-append (is_row (length f)) rows (f ∷ [])
          ∙ ap (λ (b : Bool). b && (is_row (length f) f && true)) (each_same rows f width t.wide agree t.each)
          ∙ ap (λ (b : Bool). b && true) row;
      first = gives ∙ ap (λ (l : List (Option ℤ)). first_values (l ++ map value_of f)) t.first
          ∙ first_more all (map value_of f)
          ∙ ap (λ (l : List (Option ℤ)). first_values (all ++ l)) (sym (append-nil (map value_of f)))
          ∙ ap first_values (sym (flat_map-append values_of_row rows (f ∷ [])));
    })

-- ---- bad texts

some_bad : (test : Record → Bool) (rows : List Record) (f : Record) (more : List Record) → test f ≡ false
    → list_all test ((rows ++ f ∷ []) ++ more) ≡ false
some_bad test [] f more e = ap (λ (b : Bool). b && list_all test more) e
some_bad test (r ∷ rows) f more e =
    ap (λ (b : Bool). test r && b) (some_bad test rows f more e) ∙ and_false (test r)

table_bad : (rows : List Record) → list_all (is_row (width_of rows)) rows ≡ false → table_in rows ≡ Err BadCells
table_bad rows e =
    let sides = nat_lt 0 (length rows) && nat_lt 0 (width_of rows) in
    let bad : are_rows rows ≡ false = ap (λ (b : Bool). sides && b) e ∙ and_false sides in
    ap (λ (b : Bool). if not b then Err BadCells else if are_too_many rows then Err TooManyCells
    else Ok (table_of rows)) bad

bad_of : (text : List ℕ) (rows : List Record) (f : Record) (s : State) (ys : List ℕ)
    → Reached default_config st.StartRecord (strip_bom text) (rows ++ f ∷ []) s ys
    → ((more : List Record) → is_row (width_of ((rows ++ f ∷ []) ++ more)) f ≡ false)
    → table_in (records_in text) ≡ Err BadCells
bad_of text rows f s ys h bad =
    let b = begins text (rows ++ f ∷ []) s ys h in
    ap table_in b.1
    ∙ table_bad ((rows ++ f ∷ []) ++ b.0)
    (some_bad (is_row (width_of ((rows ++ f ∷ []) ++ b.0))) rows f b.0 (bad b.0))

-- a record with a field that is no value
pub value_is_bad : (text : List ℕ) (rows : List Record) (f : Record) (s : State) (ys : List ℕ)
    → Reached default_config st.StartRecord (strip_bom text) (rows ++ f ∷ []) s ys → list_all is_value f ≡ false
    → table_in (records_in text) ≡ Err BadCells
value_is_bad text rows f s ys h bad = bad_of text rows f s ys h
    (λ more. let n = width_of ((rows ++ f ∷ []) ++ more) in
    ap (λ (b : Bool). (length f == n) && b) bad ∙ and_false (length f == n))

-- a record that is longer or shorter than the first
longer : (rows : List Record) (f : Record) (more : List Record) (e : ℕ) → Some e ≡ expected_of rows → e ≢ length f
    → is_row (width_of ((rows ++ f ∷ []) ++ more)) f ≡ false
longer [] f more e first ne = absurd (none-some e (sym first))
longer (r ∷ rows) f more e first ne =
    ap (λ (b : Bool). b && list_all is_value f)
    (ne_eqb (length f) (length r) (λ same. ne (same_Some e (length r) first ∙ sym same)))

pub ragged_is_bad : (text : List ℕ) (rows : List Record) (f : Record) (s : State) (ys : List ℕ) (e : ℕ)
    → Reached default_config st.StartRecord (strip_bom text) (rows ++ f ∷ []) s ys → Some e ≡ expected_of rows
    → e ≢ length f → table_in (records_in text) ≡ Err BadCells
ragged_is_bad text rows f s ys e h first ne = bad_of text rows f s ys h (λ more. longer rows f more e first ne)

-- ---- faults

took : (cfg : Config) (s0 a b : State) (xs y : List ℕ) (rows : List Record) (f : Record) (k : Option (List ℕ))
    → ReadsNext cfg a (Some y) k true f b → Reached cfg s0 xs rows a y
    → (s : State) × (z : List ℕ) × Reached cfg s0 xs (rows ++ f ∷ []) s z
took cfg s0 a b xs y rows f None r h = absurd r
took cfg s0 a b xs y rows f (Some z) r h = by (next_record cfg a [] [] y) refl r
  where
    by : (o : Option Read) → next_record cfg a [] [] y ≡ o → NextIs o true f b z
        → (s : State) × (z : List ℕ) × Reached cfg s0 xs (rows ++ f ∷ []) s z
    by None e n = absurd (false≢true (sym n))
    by (Some p) e n = (
      p.1,
      p.2,
      subst (λ (t : Record). Reached cfg s0 xs (rows ++ t ∷ []) p.1 p.2) (sym n.1)
          (reached-more cfg s0 a xs y rows p h e),
    )

-- why a reader stopped is told by the rule that the text breaks
pub fault_told : {R : Type 0} (rem : R → Option (List ℕ)) (old new : Reader R) (text rest : List ℕ)
    (rows : List Record) (k : ErrorKind) → old.config ≡ default_config → source_of rem old ≡ Some rest
    → Reached default_config st.StartRecord (strip_bom text) rows old.state rest → old.expected ≡ expected_of rows
    → ExplainsRead rem old new false k → Reads (table_in (records_in text)) (Err (fault_of k))
fault_told rem old new text rest rows (kind.Io e) config source reached same x = tt
fault_told rem old new text rest rows kind.OutOfMemory config source reached same x = tt
fault_told rem old new text rest rows (kind.UnequalLengths place expected len) config source reached same x =
    let t = took default_config st.StartRecord old.state new.state (strip_bom text) rest rows x.3 _
    (rw (config, source) at x.4) reached in
    ragged_is_bad text rows x.3 t.0 t.1 expected t.2 (sym x.1 ∙ same) (λ e. x.2 (e ∙ x.5))
fault_told rem old new text rest rows (kind.Utf8 place err) config source reached same x =
    absurd (false≢true x.0)
fault_told rem old new text rest rows (kind.Serialize why) config source reached same x = absurd x
fault_told rem old new text rest rows (kind.Deserialize place err) config source reached same x = absurd x

-- ---- the array

row_long : (width : ℕ) (f : Record) → is_row width f ≡ true → length (values_of_row f) ≡ width
row_long width f e = length-map f value_of
    ∙ eqb-true (length f) width (both_true (length f == width) (list_all is_value f) e).0

rows_long : (width : ℕ) (rows : List Record) → list_all (is_row width) rows ≡ true
    → length (flat_map values_of_row rows) ≡ length rows * width
rows_long width rows e = given_long (is_row width) values_of_row width (row_long width) rows e

-- no field, or no record
pub none_is_bad : (rows : List Record) (width : ℕ) (values : List (Option ℤ)) → IsTable rows width values
    → width ≡ 0 → table_in rows ≡ Err BadCells
none_is_bad rows width values t none =
    let a = nat_lt 0 (length rows) in
    let l = list_all (is_row (width_of rows)) rows in
    let bad : are_rows rows ≡ false =
    ap (λ (n : ℕ). (a && nat_lt 0 n) && l) (sym t.wide ∙ none) ∙ ap (λ (b : Bool). b && l) (and_false a) in
    ap (λ (b : Bool). if not b then Err BadCells else if are_too_many rows then Err TooManyCells
    else Ok (table_of rows)) bad

some_record : (rows : List Record) (width : ℕ) → width ≡ width_of rows → 0 < width → 0 < length rows
some_record [] width wide some = absurd (omega (arith, wide, some))
some_record (r ∷ rows) width wide some = omega arith

rows_are : (rows : List Record) (width : ℕ) (values : List (Option ℤ)) → IsTable rows width values → 0 < width
    → are_rows rows ≡ true
rows_are rows width values t some =
    let l = list_all (is_row (width_of rows)) rows in
    let wide : 0 < width_of rows = subst (λ (n : ℕ). 0 < n) t.wide some in
    ap (λ (b : Bool). (b && nat_lt 0 (width_of rows)) && l)
    (lt-ltb 0 (length rows) (some_record rows width t.wide some))
    ∙ ap (λ (b : Bool). b && l) (lt-ltb 0 (width_of rows) wide)
    ∙ subst (λ (n : ℕ). list_all (is_row n) rows ≡ true) t.wide t.each

good_by : (rows : List Record) (m : Bool) → are_rows rows ≡ true → are_too_many rows ≡ m
    → table_in rows ≡ (if m then Err TooManyCells else Ok (table_of rows))
good_by rows m good many =
    ap (λ (b : Bool). if not b then Err BadCells else if are_too_many rows then Err TooManyCells
    else Ok (table_of rows)) good
    ∙ ap (λ (b : Bool). if b then Err TooManyCells else Ok (table_of rows)) many

-- how many values there are in all, where the first are so many
in_all : (rows : List Record) (width : ℕ) (values : List (Option ℤ)) → IsTable rows width values
    → length values ≡ min 1048577 (length rows * width)
in_all rows width values t =
    ap length t.first ∙ length-take 1048577 (flat_map values_of_row rows)
    ∙ ap (min 1048577) (rows_long width rows t.each)

pub many_are_too_many : (rows : List Record) (width : ℕ) (values : List (Option ℤ)) → IsTable rows width values
    → 0 < width → 1048576 < length values → table_in rows ≡ Err TooManyCells
many_are_too_many rows width values t some many =
    let all = in_all rows width values t in
    let more : 1048576 < length rows * width = omega (arith, all, many) in
    good_by rows true (rows_are rows width values t some)
    (ap (λ (n : ℕ). nat_lt 1048576 (length rows * n)) (sym t.wide)
    ∙ lt-ltb 1048576 (length rows * width) more)

pub record IsMade (rows : List Record) (width : ℕ) (values : List (Option ℤ)) : Type 0 where
  pub high : length values / width ≡ length rows
  pub shaped : is_layered 1 (length values / width) width ≡ true
  pub long : length values ≡ size_of (layered 1 (length values / width) width)
  pub table : table_in rows
      ≡ Ok (record { extent = layered 1 (length values / width) width; values = values })

pub made : (rows : List Record) (width : ℕ) (values : List (Option ℤ)) → IsTable rows width values
    → 0 < width → length values ≤ 1048576 → IsMade rows width values
made rows width values t some few =
    let all = in_all rows width values t in
    let n = length rows in
    let long : length values ≡ n * width = omega (arith, all, few) in
    let high : length values / width ≡ n = ap (λ (k : ℕ). k / width) long ∙ mul-div_cancel n some in
    let h = length values / width in
    let one : 1 * h ≡ n = omega (arith, high) in
    let rows_some = some_record rows width t.wide some in
    let whole : values ≡ flat_map values_of_row rows =
    t.first ∙ first_all (flat_map values_of_row rows) (omega (arith, rows_long width rows t.each, long, few)) in
    let size : (1 * h) * width ≡ n * width = ap (λ (k : ℕ). k * width) one in
    record {
      high = high;
      shaped = ap (λ (k : ℕ). nat_lt 0 k && nat_lt 0 width && nat_le (k * width) 1048576) one
          ∙ ap (λ (b : Bool). b && nat_lt 0 width && nat_le (n * width) 1048576) (lt-ltb 0 n rows_some)
          ∙ ap (λ (b : Bool). b && nat_le (n * width) 1048576) (lt-ltb 0 width some)
          ∙ le-leb (n * width) 1048576 (omega (arith, long, few));
      long = long ∙ sym size;
      table = good_by rows false (rows_are rows width values t some)
          (ap (λ (k : ℕ). nat_lt 1048576 (length rows * k)) (sym t.wide)
          ∙ le-ltb 1048576 (length rows * width) (omega (arith, long, few)))
          ∙ ap (λ (k : ℕ). Ok (record { extent = layered 1 (length rows) k; values = flat_map values_of_row rows }))
          (sym t.wide)
          ∙ ap (λ (k : ℕ). Ok (record { extent = layered 1 k width; values = flat_map values_of_row rows })) (sym high)
          ∙ ap (λ (l : List (Option ℤ)). Ok (record { extent = layered 1 (length values / width) width; values = l }))
          (sym whole);
    }

-- what was made of them
some-where : {A : Type 0} (b : Bool) (x y : A) → ◌≡◌ {A = Option A} (Some x) (if b then Some y else None) → x ≡ y
some-where true x y e = same_Some x y e
some-where false x y e = absurd (none-some x (sym e))

pub none-where : {A B : Type 0} (b : Bool) (y : A) → b ≡ true → ◌≡◌ {A = Option A} None (if b then Some y else None)
    → B
none-where true y holds e = absurd (none-some y e)
none-where false y holds e = absurd (false≢true holds)

pub shape_is : (h width : ℕ) (e : Extent)
    → ◌≡◌ {A = Option Extent} (Some e) (if is_layered 1 h width then Some (layered 1 h width) else None)
    → e ≡ layered 1 h width
shape_is h width e some = some-where (is_layered 1 h width) e (layered 1 h width) some

pub array_is : (e : Extent) (values : List (Option ℤ)) (g : Grid)
    → ◌≡◌ {A = Option Grid} (Some g)
    (if length values == size_of e then Some (record { extent = e; values = values }) else None)
    → g ≡ record { extent = e; values = values }
array_is e values g some = some-where (length values == size_of e) g (record { extent = e; values = values }) some

pub read_as_array : (rows : List Record) (width : ℕ) (values : List (Option ℤ)) (e : Extent) (g : Grid)
    → IsMade rows width values
    → ◌≡◌ {A = Option Extent} (Some e) (if is_layered 1 (length values / width) width
    then Some (layered 1 (length values / width) width) else None)
    → ◌≡◌ {A = Option Grid} (Some g)
    (if length values == size_of e then Some (record { extent = e; values = values }) else None)
    → table_in rows ≡ Ok g
read_as_array rows width values e g m shape array =
    m.table
    ∙ ap (λ (x : Extent). Ok (record { extent = x; values = values }))
    (sym (shape_is (length values / width) width e shape))
    ∙ ap (λ (x : Grid). Ok x) (sym (array_is e values g array))

pub no_shape : {A : Type 0} (rows : List Record) (width : ℕ) (values : List (Option ℤ)) → IsMade rows width values
    → ◌≡◌ {A = Option Extent} None (if is_layered 1 (length values / width) width
    then Some (layered 1 (length values / width) width) else None) → A
no_shape rows width values m none = none-where (is_layered 1 (length values / width) width) _ m.shaped none

pub no_array : {A : Type 0} (rows : List Record) (width : ℕ) (values : List (Option ℤ)) (e : Extent)
    → IsMade rows width values
    → ◌≡◌ {A = Option Extent} (Some e) (if is_layered 1 (length values / width) width
    then Some (layered 1 (length values / width) width) else None)
    → ◌≡◌ {A = Option Grid} None
    (if length values == size_of e then Some (record { extent = e; values = values }) else None) → A
no_array rows width values e m shape none =
    none-where (length values == size_of e) (record { extent = e; values = values })
    (eq-eqb (length values) (size_of e) (m.long ∙ ap size_of (sym (shape_is (length values / width) width e shape))))
    none
