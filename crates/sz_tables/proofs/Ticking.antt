-- Names of region pairs say these.
use Rattle.std.proofs.Common.{◌≡◌, ℕ, ◌+◌, ◌<◌, ◌≤◌, List, [], ◌∷◌, ◌++◌, map, length, take, refl}
use Rattle.std.proofs.Common.{sym, ap, ◌∙◌, arith, unwrap_or, get_or, slice_index, Option, Some}
use Rattle.std.specs.List.{slice_get, zip}
use Rattle.std.proofs.lemmas.List.{take_more, map-append}
use Rattle.std.proofs.lemmas.Option.{unwrap_or-slice_get}
use Rattle.sz_cells.specs.Extent.{Extent}
use Rattle.sz_cells.specs.Cells.{Cells, no_cells}
use Rattle.sz_spec.specs.Values.{no_extent}
use Rattle.sz_frame.specs.Parts.{Pairing}
use Rattle.sz_tables.specs.Rows.{RowTable, Row, set_at, sets_of, pairing_of, row_at, number_in}
use Rattle.sz_tables.specs.Scans.{pairing_at}
use Rattle.sz_tables.specs.Checklists.{pair_named}
use Rattle.sz_tables.specs.declared.checklists.PairName.{PairName}

-- the first of two sets, as many as there are inputs
abbrev firsts : List Extent → List (List Cells) → ℕ → ℕ → List Cells
firsts ins sets a b = take (length ins) (set_at (sets_of sets 0) a ∷ set_at (sets_of sets 1) b ∷ [])

-- the sets of the numbers of a row
of-numbers : (ins : List Extent) (sets : List (List Cells)) (ks : List ℕ) (a b : ℕ) → length ins ≤ 2
    → length sets ≡ length ins → length ks ≡ length ins → (0 < length ins → a ≡ slice_index ks 0)
    → (1 < length ins → b ≡ slice_index ks 1) → firsts ins sets a b ≡ map (λ p. set_at p.0 p.1) (zip sets ks)
of-numbers [] [] ks a b few as_many arity first second = refl
of-numbers [] (s ∷ sets) ks a b few as_many arity first second = absurd (omega (arith, as_many))
of-numbers (e ∷ ins) [] ks a b few as_many arity first second = absurd (omega (arith, as_many))
of-numbers (e ∷ ins) (s ∷ sets) [] a b few as_many arity first second = absurd (omega (arith, arity))
of-numbers (e ∷ []) (s ∷ []) (k ∷ ks) a b few as_many arity first second =
    ap (λ (n : ℕ). set_at s n ∷ []) (first (omega arith))
of-numbers (e ∷ []) (s ∷ t ∷ sets) (k ∷ ks) a b few as_many arity first second = absurd (omega (arith, as_many))
of-numbers (e ∷ f ∷ ins) (s ∷ []) (k ∷ ks) a b few as_many arity first second = absurd (omega (arith, as_many))
of-numbers (e ∷ f ∷ ins) (s ∷ t ∷ sets) (k ∷ []) a b few as_many arity first second = absurd (omega (arith, arity))
of-numbers (e ∷ f ∷ []) (s ∷ t ∷ []) (k ∷ l ∷ ks) a b few as_many arity first second =
    ap (λ (n : ℕ). set_at s n ∷ set_at t b ∷ []) (first (omega arith))
    ∙ ap (λ (n : ℕ). set_at s k ∷ set_at t n ∷ []) (second (omega arith))
of-numbers (e ∷ f ∷ []) (s ∷ t ∷ u ∷ sets) (k ∷ l ∷ ks) a b few as_many arity first second =
    absurd (omega (arith, as_many))
of-numbers (e ∷ f ∷ g ∷ ins) (s ∷ t ∷ sets) (k ∷ l ∷ ks) a b few as_many arity first second =
    absurd (omega (arith, few))

-- the name of a row says its region pair
pub named-row : (t : RowTable) (n : PairName) (row : Row) → length t.ins ≤ 2 → length t.sets ≡ length t.ins
    → length row.ins ≡ length t.ins → n.out ≡ row.out → (0 < length t.ins → n.first ≡ number_in row 0)
    → (1 < length t.ins → n.second ≡ number_in row 1) → pair_named t n ≡ pairing_of t.outs t.sets row
named-row t n row few as_many arity out first second =
    let one : set_at t.outs n.out ≡ set_at t.outs row.out = ap (set_at t.outs) out in
    let others = of-numbers t.ins t.sets row.ins n.first n.second few as_many arity first second in
    rw (one, others) refl

-- the sets that have these numbers
abbrev IsNumbered : List (List Cells) → List Cells → ℕ → ℕ → Type 0
IsNumbered sets xs i n = i < length xs → slice_get (sets_of sets i) n ≡ Some (set_at xs i)

of-sets : (ins : List Extent) (sets : List (List Cells)) (xs : List Cells) (a b : ℕ) → length ins ≤ 2
    → length xs ≡ length ins → IsNumbered sets xs 0 a → IsNumbered sets xs 1 b → firsts ins sets a b ≡ xs
of-sets [] sets [] a b few arity first second = refl
of-sets [] sets (x ∷ xs) a b few arity first second = absurd (omega (arith, arity))
of-sets (e ∷ ins) sets [] a b few arity first second = absurd (omega (arith, arity))
of-sets (e ∷ []) sets (x ∷ []) a b few arity first second =
    ap (λ (o : Option Cells). unwrap_or o (no_cells no_extent) ∷ []) (first (omega arith))
of-sets (e ∷ []) sets (x ∷ y ∷ xs) a b few arity first second = absurd (omega (arith, arity))
of-sets (e ∷ f ∷ ins) sets (x ∷ []) a b few arity first second = absurd (omega (arith, arity))
of-sets (e ∷ f ∷ []) sets (x ∷ y ∷ []) a b few arity first second =
    ap (λ (o : Option Cells). unwrap_or o (no_cells no_extent) ∷ set_at (sets_of sets 1) b ∷ []) (first (omega arith))
    ∙ ap (λ (o : Option Cells). x ∷ unwrap_or o (no_cells no_extent) ∷ []) (second (omega arith))
of-sets (e ∷ f ∷ []) sets (x ∷ y ∷ z ∷ xs) a b few arity first second = absurd (omega (arith, arity))
of-sets (e ∷ f ∷ g ∷ ins) sets (x ∷ y ∷ xs) a b few arity first second = absurd (omega (arith, few))

-- the name of a region pair says it
pub named-pair : (t : RowTable) (n : PairName) (r : Pairing) → length t.ins ≤ 2 → length r.ins ≡ length t.ins
    → slice_get t.outs n.out ≡ Some r.out → IsNumbered t.sets r.ins 0 n.first → IsNumbered t.sets r.ins 1 n.second
    → pair_named t n ≡ r
named-pair t n r few arity out first second =
    let one : set_at t.outs n.out ≡ r.out = ap (λ (o : Option Cells). unwrap_or o (no_cells no_extent)) out in
    let others = of-sets t.ins t.sets r.ins n.first n.second few arity first second in
    rw (one, others) refl

-- one name more
pub names-more : (t : RowTable) (names : List PairName) (n : PairName) (i : ℕ) → i < length t.rows
    → map (pair_named t) names ≡ map (pairing_of t.outs t.sets) (take i t.rows)
    → pair_named t n ≡ pairing_at t i
    → map (pair_named t) (names ++ n ∷ []) ≡ map (pairing_of t.outs t.sets) (take (i + 1) t.rows)
names-more t names n i inside before more =
    let f = pair_named t in
    let g = pairing_of t.outs t.sets in
    let d : Row = record { out = 0; ins = [] } in
    let at : row_at t.rows i ≡ get_or t.rows i d = unwrap_or-slice_get t.rows i d in
    map-append f names (n ∷ [])
    ∙ ap (λ (ps : List Pairing). ps ++ f n ∷ []) before
    ∙ ap (λ (p : Pairing). map g (take i t.rows) ++ p ∷ []) (more ∙ ap g at)
    ∙ sym (ap (map g) (take_more t.rows i d inside) ∙ map-append g (take i t.rows) (get_or t.rows i d ∷ []))
