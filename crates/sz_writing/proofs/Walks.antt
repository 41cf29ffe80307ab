-- A walk over cells makes a value of each part of them: what was made so far gives the cells before those that are
-- left.
use Rattle.std.proofs.Common.{◌≡◌, ◌≤◌, ◌<◌, ◌+◌, ◌*◌, ℕ, suc, ℤ, List, [], ◌∷◌, ◌++◌, length, map, drop, get_or}
use Rattle.std.proofs.Common.{refl, sym, ap, ◌∙◌, subst, arith, append_assoc, append-nil, length-append, drop-cons}
use Rattle.std.proofs.Common.{mul-le-mul_right, Bool, Option, unwrap_or, Vec, Global}
use Rattle.std.specs.List.{flat_map}
use Rattle.std.proofs.lemmas.List.{map-append, length-map}
use Rattle.std.proofs.lemmas.Grind.{flat_map-append}
use Rattle.serde_json.specs.Data.{Data}
use Rattle.serde_json.specs.View.{view}
use Rattle.serde_json.specs.declared.value.Value.{Value, Array}
use Rattle.serde_json.proofs.Views.{view-Array}
use Rattle.sz_script.specs.Fields.{items_in}
use Rattle.sz_writing.specs.Written.{IsWritten, AreWritten, list_long}
use Rattle.sz_writing.proofs.Texts.{none-written, more-written, is_list, list-listed, list-written}

-- The values of the first i parts, of so many cells each, are written: they give the cells before the rest.
pub record IsWrittenUpTo (test : Data → Bool) (give : Data → List (Option ℤ)) (deep long size : ℕ) (vs : List Value)
    (i : ℕ) (rest cells : List (Option ℤ)) : Type 0 where
  pub counted : length vs ≡ i
  pub written : AreWritten test deep long (map view vs)
  pub given : flat_map give (map view vs) ++ rest ≡ cells
  pub left : length rest + i * size ≡ length cells

-- before the first part
pub walk-none : (test : Data → Bool) (give : Data → List (Option ℤ)) (deep long size : ℕ)
    (cells : List (Option ℤ)) → IsWrittenUpTo test give deep long size [] 0 cells cells
walk-none test give deep long size cells = record {
  counted = refl;
  written = none-written test deep long;
  given = refl;
  left = omega arith;
}

given-more : (give : Data → List (Option ℤ)) (ds : List Data) (d : Data) (part rest more cells : List (Option ℤ))
    → give d ≡ part → rest ≡ part ++ more → flat_map give ds ++ rest ≡ cells
    → flat_map give (ds ++ d ∷ []) ++ more ≡ cells
given-more give ds d part rest more cells here parted before =
    ap (λ (l : List (Option ℤ)). l ++ more) (flat_map-append give ds (d ∷ []))
    ∙ ap (λ (l : List (Option ℤ)). (flat_map give ds ++ l) ++ more) (append-nil (give d))
    ∙ append_assoc (flat_map give ds) (give d) more
    ∙ ap (λ (l : List (Option ℤ)). flat_map give ds ++ (l ++ more)) here
    ∙ ap (λ (l : List (Option ℤ)). flat_map give ds ++ l) (sym parted)
    ∙ before

left-more : (i j size rest more cells : ℕ) → j ≡ i + 1 → more + size ≡ rest → rest + i * size ≡ cells
    → more + j * size ≡ cells
left-more i j size rest more cells next parted before =
    let times : (i + 1) * size ≡ i * size + size = omega arith in
    rw next (omega (arith, times))

-- one part more
pub walk-more : (test : Data → Bool) (give : Data → List (Option ℤ)) (deep long size : ℕ) (vs news : List Value)
    (i : ℕ) (rest cells : List (Option ℤ)) (v : Value) (part more : List (Option ℤ))
    → IsWrittenUpTo test give deep long size vs i rest cells → news ≡ vs ++ v ∷ []
    → IsWritten test deep long (view v) → give (view v) ≡ part → rest ≡ part ++ more → length part ≡ size
    → IsWrittenUpTo test give deep long size news (i + 1) more cells
walk-more test give deep long size vs news i rest cells v part more w pushed one here parted whole =
    let next : map view news ≡ map view vs ++ view v ∷ [] = ap (map view) pushed ∙ map-append view vs (v ∷ []) in
    let fewer : length more + size ≡ length rest = omega (arith, ap length parted, length-append part more, whole) in
    record {
      counted = omega (arith, ap length pushed, length-append vs (v ∷ []), w.counted);
      written = subst (AreWritten test deep long) (sym next)
          (more-written test deep long (map view vs) (view v) w.written one);
      given = ap (λ (ds : List Data). flat_map give ds ++ more) next
          ∙ given-more give (map view vs) (view v) part rest more cells here parted w.given;
      left = left-more i (i + 1) size (length rest) (length more) (length cells) refl fewer w.left;
    }

-- a part of one cell
pub walk-cell : (test : Data → Bool) (f : Data → Option ℤ) (deep long : ℕ) (vs news : List Value) (i : ℕ)
    (cells : List (Option ℤ)) (v : Value) (cell : Option ℤ) → i < length cells
    → IsWrittenUpTo test (λ d. f d ∷ []) deep long 1 vs i (drop i cells) cells → news ≡ vs ++ v ∷ []
    → IsWritten test deep long (view v) → f (view v) ≡ get_or cells i cell
    → IsWrittenUpTo test (λ d. f d ∷ []) deep long 1 news (i + 1) (drop (i + 1) cells) cells
walk-cell test f deep long vs news i cells v cell before w pushed one here =
    let next : suc i ≡ i + 1 = omega arith in
    walk-more test (λ d. f d ∷ []) deep long 1 vs news i (drop i cells) cells v (get_or cells i cell ∷ [])
    (drop (i + 1) cells) w pushed one (ap (λ (x : Option ℤ). x ∷ []) here)
    (drop-cons cells i cell before ∙ ap (λ (n : ℕ). get_or cells i cell ∷ drop n cells) next) refl

-- there is a part more
pub walk-room : (i count size rest cells : ℕ) → i < count → rest + i * size ≡ cells → cells ≡ count * size
    → size ≤ rest
walk-room i count size rest cells before left whole =
    let up : i + 1 ≤ count = omega arith in
    let times : (i + 1) * size ≡ i * size + size = omega arith in
    omega (arith, mul-le-mul_right {m = i + 1} {n = count} size up, times)

no_cells : (rest : List (Option ℤ)) → length rest ≡ 0 → rest ≡ []
no_cells [] none = refl
no_cells (x ∷ rest) none = absurd (omega (arith, none))

-- after the last part
pub walk-given : (test : Data → Bool) (give : Data → List (Option ℤ)) (deep long size count : ℕ) (vs : List Value)
    (i : ℕ) (rest cells : List (Option ℤ)) → i ≡ count → length cells ≡ count * size
    → IsWrittenUpTo test give deep long size vs i rest cells → flat_map give (map view vs) ≡ cells
walk-given test give deep long size count vs i rest cells end whole w =
    let same : i * size ≡ count * size = ap (λ (n : ℕ). n * size) end in
    let none : rest ≡ [] = no_cells rest (omega (arith, w.left, whole, same)) in
    sym (append-nil (flat_map give (map view vs)))
    ∙ ap (λ (l : List (Option ℤ)). flat_map give (map view vs) ++ l) (sym none) ∙ w.given

-- ---- the list of what was made

-- its items
pub items-made : (v : Vec Value Global) → items_in (view (Array v)) ≡ map view v.items
items-made v =
    ap items_in (view-Array v) ∙ ap (λ (o : Option (List Data)). unwrap_or o []) (list-listed (map view v.items))

-- it is written too
pub list-made : (test : Data → Bool) (give : Data → List (Option ℤ)) (deep long size count : ℕ) (v : Vec Value Global)
    (i : ℕ) (rest cells : List (Option ℤ)) → i ≡ count → IsWrittenUpTo test give deep long size v.items i rest cells
    → IsWritten (is_list test count) (suc deep) (list_long count long) (view (Array v))
list-made test give deep long size count v i rest cells end w =
    subst (IsWritten (is_list test count) (suc deep) (list_long count long)) (sym (view-Array v))
    (list-written test deep long count (map view v.items) (length-map v.items view ∙ w.counted ∙ end) w.written)
