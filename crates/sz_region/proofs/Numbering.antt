-- Sets are numbered one after another.
--
-- The key idea: what a table names is named still when the table goes on, so a step of one set can be put behind the
-- steps before it.
use Rattle.std.proofs.Common.{◌≡◌, ℕ, zero, suc, ◌+◌, ◌*◌, ◌^◌, ◌<◌, ◌≤◌, List, [], ◌∷◌, ◌++◌, length, map, Some, refl}
use Rattle.std.proofs.Common.{sym}
use Rattle.std.proofs.Common.{ap, ap₂, subst, ◌∙◌, arith, append_assoc, length-append}
use Rattle.std.specs.List.{All, AllZip, flat_map, slice_get}
use Rattle.std.proofs.lemmas.List.{append-nil, length-map}
use Rattle.std.proofs.lemmas.List.Concat.{flat_map-append}
use Rattle.std.proofs.lemmas.List.Elements.{All-head, All-tail, All-nil, All-cons, All-append, All-push, length_all_zip}
use Rattle.std.proofs.lemmas.Option.{slice_get_within}
use Rattle.sz_cells.specs.Extent.{Extent}
use Rattle.sz_cells.specs.Cells.{Cells}
use Rattle.sz_cells.specs.SetBytes.{IsSetOf}
use Rattle.sz_cells.proofs.LawsOfSets.{split-same}
use Rattle.sz_spec.specs.Values.{extent_at}
use Rattle.sz_frame.specs.Parts.{Pairing}
use Rattle.sz_region.specs.Counted.{counted, rows_bytes}
use Rattle.sz_region.specs.FullBytes.{Listed, IsListed, listed_bytes, listed_from, listed_of, AreNumbersOf, AreNamesOf}
use Rattle.sz_region.specs.FullBytes.{IsFullWord}
use Rattle.sz_region.specs.Putting.{HasShape, HasShapes, AreNumbered, AreRegionsNumbered, AreRows}
use Rattle.sz_region.proofs.Appending.{rows-count}

-- ---- tables that go on

-- what is in a list is in a longer one
pub get-longer : {X : Type 0} (xs more : List X) (n : ℕ) (x : X) → slice_get xs n ≡ Some x
    → slice_get (xs ++ more) n ≡ Some x
get-longer [] more n x is = cc
get-longer (y ∷ xs) more zero x is = is
get-longer (y ∷ xs) more (suc n) x is = get-longer xs more n x is

-- the one behind a list is at its length
pub get-last : {X : Type 0} (xs : List X) (x : X) → slice_get (xs ++ x ∷ []) (length xs) ≡ Some x
get-last [] x = refl
get-last (y ∷ xs) x = get-last xs x

pub numbers-longer : {X : Type 0} (table more : List X) (ns : List ℕ) (xs : List X) → AreNumbersOf table ns xs
    → AreNumbersOf (table ++ more) ns xs
numbers-longer table more [] [] are = are
numbers-longer table more [] (x ∷ xs) are = are
numbers-longer table more (n ∷ ns) [] are = are
numbers-longer table more (n ∷ ns) (x ∷ xs) are =
    (get-longer table more n x are.0, numbers-longer table more ns xs are.1)

-- facts of two lists, one behind the other
pub zip-append : {A B : Type 0} (R : A → B → Type 0) (xs cs : List A) (bs ds : List B) → AllZip R xs bs → AllZip R cs ds
    → AllZip R (xs ++ cs) (bs ++ ds)
zip-append R [] cs [] ds first second = second
zip-append R [] cs (b ∷ bs) ds first second = elim first [ ]
zip-append R (a ∷ xs) cs [] ds first second = elim first [ ]
zip-append R (a ∷ xs) cs (b ∷ bs) ds first second = (first.0, zip-append R xs cs bs ds first.1 second)

pub zip-weaker : {A B : Type 0} (R S : A → B → Type 0) → ((a : A) (b : B) → R a b → S a b) → (xs : List A) (bs : List B)
    → AllZip R xs bs → AllZip S xs bs
zip-weaker R S so [] [] all = all
zip-weaker R S so [] (b ∷ bs) all = elim all [ ]
zip-weaker R S so (a ∷ xs) [] all = elim all [ ]
zip-weaker R S so (a ∷ xs) (b ∷ bs) all = (so a b all.0, zip-weaker R S so xs bs all.1)

pub zip-length : {A B : Type 0} (R : A → B → Type 0) (xs : List A) (bs : List B) → AllZip R xs bs → length xs
    ≡ length bs
zip-length R [] [] all = refl
zip-length R [] (b ∷ bs) all = elim all [ ]
zip-length R (a ∷ xs) [] all = elim all [ ]
zip-length R (a ∷ xs) (b ∷ bs) all = ap suc (zip-length R xs bs all.1)

-- ---- one set after another

pub numbered-known : (table : List Listed) (names : List ℕ) (n : ℕ) (l : Listed) → slice_get table n ≡ Some l
    → AreNumbered table table names (names ++ n ∷ []) (l ∷ [])
numbered-known table names n l is = record {
  more = [];
  longer = sym (append-nil table);
  few = omega arith;
  listed = λ out ins shapes. All-nil (IsListed out ins);
  numbers = n ∷ [];
  added = refl;
  named = (is, tt);
}

pub numbered-new : (table : List Listed) (names : List ℕ) (l : Listed) → IsSetOf l.set.extent l.set
    → AreNumbered table (table ++ l ∷ []) names (names ++ length table ∷ []) (l ∷ [])
numbered-new table names l is = record {
  more = l ∷ [];
  longer = refl;
  few = omega arith;
  listed = λ out ins shapes.
      let has = All-head (HasShape out ins) l [] shapes in
      All-cons (IsListed out ins) l [] (record {
        array = has.array;
        set = subst (λ (e : Extent). IsSetOf e l.set) has.shape is;
      }) (All-nil (IsListed out ins));
  numbers = length table ∷ [];
  added = refl;
  named = (get-last table l, tt);
}

pub all-left : {X : Type 0} (P : X → Type 0) (xs ys : List X) → All P (xs ++ ys) → All P xs
all-left P [] ys all = All-nil P
all-left P (x ∷ xs) ys all =
    All-cons P x xs (All-head P x (xs ++ ys) all) (all-left P xs ys (All-tail P x (xs ++ ys) all))

pub all-right : {X : Type 0} (P : X → Type 0) (xs ys : List X) → All P (xs ++ ys) → All P ys
all-right P [] ys all = all
all-right P (x ∷ xs) ys all = all-right P xs ys (All-tail P x (xs ++ ys) all)

pub numbered-more : (t u v : List Listed) (names mid now : List ℕ) (xs ys : List Listed) → AreNumbered t u names mid xs
    → AreNumbered u v mid now ys → AreNumbered t v names now (xs ++ ys)
numbered-more t u v names mid now xs ys first second =
    let longer : v ≡ t ++ (first.more ++ second.more) =
    second.longer ∙ ap (λ (ls : List Listed). ls ++ second.more) first.longer
    ∙ append_assoc t first.more second.more in
    record {
      more = first.more ++ second.more;
      longer = longer;
      few = omega (
        arith,
        first.few,
        second.few,
        length-append first.more second.more,
        length-append xs ys,
      );
      listed = λ out ins shapes.
          All-append (IsListed out ins) first.more second.more
          (first.listed out ins (all-left (HasShape out ins) xs ys shapes))
          (second.listed out ins (all-right (HasShape out ins) xs ys shapes));
      numbers = first.numbers ++ second.numbers;
      added = second.added ∙ ap (λ (ns : List ℕ). ns ++ second.numbers) first.added
          ∙ append_assoc names first.numbers second.numbers;
      named = zip-append (λ (n : ℕ) (l : Listed). slice_get v n ≡ Some l) first.numbers second.numbers xs ys
          (subst (λ (table : List Listed). AreNumbersOf table first.numbers xs) (sym second.longer)
          (numbers-longer u second.more first.numbers xs first.named)) second.named;
    }

-- ---- the sets of a region pair

-- one more set has the array behind
pub listed-more : (a : ℕ) (sets : List Cells) (set : Cells)
    → listed_from a (sets ++ set ∷ []) ≡ listed_from a sets ++ record { array = a + length sets; set = set } ∷ []
listed-more a [] set = ap (λ (n : ℕ). listed_from n (set ∷ [])) (omega arith)
listed-more a (x ∷ sets) set =
    let far : a + 1 + length sets ≡ a + suc (length sets) = omega arith in
    ap (λ (ls : List Listed). record { array = a; set = x } ∷ ls) (listed-more (a + 1) sets set
    ∙ ap (λ (n : ℕ). listed_from (a + 1) sets ++ record { array = n; set = set } ∷ []) far)

pub listed-length : (a : ℕ) (sets : List Cells) → length (listed_from a sets) ≡ length sets
listed-length a [] = refl
listed-length a (x ∷ sets) = ap suc (listed-length (a + 1) sets)

extent-behind : (before : List Extent) (e : Extent) (after : List Extent)
    → extent_at (before ++ e ∷ after) (length before) ≡ e
extent-behind [] e after = refl
extent-behind (x ∷ before) e after = extent-behind before e after

-- sets of these shapes, from an array on, have the shapes of their arrays
shapes-from : (out : Extent) (ins : List Extent) (before after : List Extent) (sets : List Cells) → out ∷ ins
    ≡ before ++ after
    → map (λ s. s.extent) sets ≡ after → All (HasShape out ins) (listed_from (length before) sets)
shapes-from out ins before after [] all are = All-nil (HasShape out ins)
shapes-from out ins before after (s ∷ sets) all are =
    let rest : List Extent = map (λ x. x.extent) sets in
    let whole : out ∷ ins ≡ before ++ s.extent ∷ rest = all ∙ ap (λ (es : List Extent). before ++ es) (sym are) in
    let one : length (before ++ s.extent ∷ []) ≡ length before + 1 = length-append before (s.extent ∷ []) in
    let next = shapes-from out ins (before ++ s.extent ∷ []) rest sets (whole
    ∙ sym (append_assoc before (s.extent ∷ []) rest)) refl in
    All-cons (HasShape out ins) (record { array = length before; set = s }) (listed_from (length before + 1) sets)
    (record {
      array = omega (arith, ap length whole, length-append before (s.extent ∷ rest));
      shape = sym (ap (λ (es : List Extent). extent_at es (length before)) whole ∙ extent-behind before s.extent rest);
    })
    (subst (λ (n : ℕ). All (HasShape out ins) (listed_from n sets)) one next)

pub pair-shapes : (out : Extent) (ins : List Extent) (r : Pairing) → HasShapes out ins r
    → All (HasShape out ins) (listed_of r)
pair-shapes out ins r has =
    shapes-from out ins [] (out ∷ ins) (r.out ∷ r.ins) refl
    (ap₂ (λ (e : Extent) (es : List Extent). e ∷ es) has.out has.ins)

-- ---- region pair after region pair

pub regions-none : AreRegionsNumbered [] [] []
regions-none = record {
  few = omega arith;
  listed = λ out ins shapes. All-nil (IsListed out ins);
  rows = [];
  flat = refl;
  named = tt;
}

pub regions-more : (table after : List Listed) (names now : List ℕ) (regions : List Pairing) (r : Pairing)
    → AreRegionsNumbered table names regions → AreNumbered table after names now (listed_of r)
    → AreRegionsNumbered after now (regions ++ r ∷ [])
regions-more table after names now regions r done next = record {
  few = omega (
    arith,
    done.few,
    next.few,
    ap length next.longer,
    length-append table next.more,
    ap length next.added,
    length-append names next.numbers,
    zip-length (λ (n : ℕ) (l : Listed). slice_get after n ≡ Some l) next.numbers (listed_of r) next.named,
  );
  listed = λ out ins shapes.
      subst (All (IsListed out ins)) (sym next.longer)
      (All-append (IsListed out ins) table next.more
      (done.listed out ins (all-left (HasShapes out ins) regions (r ∷ []) shapes))
      (next.listed out ins (pair-shapes out ins r
      (All-head (HasShapes out ins) r [] (all-right (HasShapes out ins) regions (r ∷ []) shapes)))));
  rows = done.rows ++ next.numbers ∷ [];
  flat = flat_map-append (λ (row : List ℕ). row) done.rows (next.numbers ∷ [])
      ∙ ap₂ (λ (xs ys : List ℕ). xs ++ ys) done.flat (append-nil next.numbers) ∙ sym next.added;
  named = zip-append (λ (row : List ℕ) (p : Pairing). AreNumbersOf after row (listed_of p)) done.rows
      (next.numbers ∷ []) regions (r ∷ [])
      (zip-weaker (λ (row : List ℕ) (p : Pairing). AreNumbersOf table row (listed_of p))
      (λ (row : List ℕ) (p : Pairing). AreNumbersOf after row (listed_of p))
      (λ row p are. subst (λ (t : List Listed). AreNumbersOf t row (listed_of p)) (sym next.longer)
      (numbers-longer table next.more row (listed_of p) are)) done.rows regions done.named)
      (next.named, tt);
}

-- ---- all of them

zip-all : {A B : Type 0} (R : A → B → Type 0) (Q : B → Type 0) (P : A → Type 0) → ((a : A) (b : B) → R a b → Q b → P a)
    → (xs : List A) (ys : List B) → AllZip R xs ys → All Q ys → All P xs
zip-all R Q P so [] [] all each = All-nil P
zip-all R Q P so [] (b ∷ ys) all each = elim all [ ]
zip-all R Q P so (a ∷ xs) [] all each = elim all [ ]
zip-all R Q P so (a ∷ xs) (b ∷ ys) all each =
    All-cons P a xs (so a b all.0 (All-head Q b ys each)) (zip-all R Q P so xs ys all.1 (All-tail Q b ys each))

zip-both : {A B : Type 0} (R : A → B → Type 0) (Q : B → Type 0) (S : A → B → Type 0)
    → ((a : A) (b : B) → R a b → Q b → S a b) → (xs : List A) (ys : List B) → AllZip R xs ys → All Q ys → AllZip S xs ys
zip-both R Q S so [] [] all each = tt
zip-both R Q S so [] (b ∷ ys) all each = elim all [ ]
zip-both R Q S so (a ∷ xs) [] all each = elim all [ ]
zip-both R Q S so (a ∷ xs) (b ∷ ys) all each =
    (so a b all.0 (All-head Q b ys each), zip-both R Q S so xs ys all.1 (All-tail Q b ys each))

-- the names of region pairs with so many inputs are rows, one for each
pub record HasRows (names : List ℕ) (regions : List Pairing) (inputs : ℕ) (rows : List (List ℕ)) : Type 0 where
  pub are : AreRows (inputs + 1) names rows
  pub each : length rows ≡ length regions
  pub all : length names ≡ length regions * (1 + inputs)

pub regions-rows : (table : List Listed) (names : List ℕ) (regions : List Pairing) (inputs : ℕ)
    → (done : AreRegionsNumbered table names regions) → All (λ r. length r.ins ≡ inputs) regions
    → HasRows names regions inputs done.rows
regions-rows table names regions inputs done same =
    let wide : All (λ row. length row ≡ inputs + 1) done.rows =
    zip-all (λ (row : List ℕ) (r : Pairing). AreNumbersOf table row (listed_of r)) (λ r. length r.ins ≡ inputs)
    (λ row. length row ≡ inputs + 1)
    (λ row r are whole. zip-length (λ (n : ℕ) (l : Listed). slice_get table n ≡ Some l) row (listed_of r) are
    ∙ listed-length 0 (r.out ∷ r.ins) ∙ omega (arith, whole)) done.rows regions done.named same in
    let each = zip-length (λ (row : List ℕ) (r : Pairing). AreNumbersOf table row (listed_of r)) done.rows regions
    done.named in
    let one : inputs + 1 ≡ 1 + inputs = omega arith in
    record {
      are = record { wide = wide; flat = done.flat };
      each = each;
      all = ap length (sym done.flat) ∙ rows-count (inputs + 1) done.rows wide
          ∙ ap₂ (λ (m n : ℕ). m * n) each one;
    }

-- and the table and the names make the word
pub numbered-word : (out : Extent) (ins : List Extent) (table : List Listed) (names : List ℕ) (regions : List Pairing)
    → (done : AreRegionsNumbered table names regions) → All (HasShapes out ins) regions → length table < 2 ^ 32
    → length regions ≤ 2 ^ 30
    → IsFullWord out ins table regions (counted listed_bytes table ++ rows_bytes done.rows)
numbered-word out ins table names regions done shapes few_sets few = record {
  each = done.listed out ins shapes;
  few_sets = few_sets;
  few = few;
  names = done.rows;
  named = zip-both (λ (row : List ℕ) (r : Pairing). AreNumbersOf table row (listed_of r)) (HasShapes out ins)
      (AreNamesOf table (length ins))
      (λ row r are has. record { whole = sym (length-map r.ins (λ s. s.extent)) ∙ ap length has.ins; named = are })
      done.rows regions done.named shapes;
  spelled = refl;
}
