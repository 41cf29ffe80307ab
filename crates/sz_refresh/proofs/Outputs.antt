-- The values of an output, of which some are computed and the others copied.
--
-- The key idea: the indexes of a set are those that its runs cover. At each index that the runs so far cover the
-- values are the operator's, and at the others they are the old ones; and where no run covers an index at all, the old
-- value is the operator's too.
use Rattle.std.proofs.Common.{◌≡◌, ℕ, ◌+◌, ◌-◌, ◌<◌, ◌≤◌, Bool, true, false, List, [], ◌∷◌, length, take, None}
use Rattle.std.proofs.Common.{Option, get_or, refl, sym, ap, ap₂, ◌∙◌, arith, inl, inr, ◌||◌, ◌&&◌, ◌==◌, nat_le}
use Rattle.std.proofs.Common.{nat_lt}
use Rattle.std.proofs.Common.{lt-ltb, ltb-true, le-leb, eq-eqb, eqb-true, true≢false}
use Rattle.std.specs.Prelude.{ℤ, if◌then◌else◌}
use Rattle.std.specs.List.{list_any, flat_map}
use Rattle.std.proofs.lemmas.Bool.{cases_Bool, or_cases, and_parts, and_from, false_from_ne_true}
use Rattle.std.proofs.lemmas.List.{ext_get_or, take_more, get_or-set_other}
use Rattle.std.proofs.lemmas.List.Folds.{length-flat_map-take}
use Rattle.std.proofs.lemmas.Grind.{get_or-set_at}
use Rattle.std.proofs.Math.ListN.{set}
use Rattle.std.proofs.lemmas.List.FromFn.{get_or-map-range_with_len, length-map-range_with_len}
use Rattle.std.proofs.lemmas.List.FromFn.{length-range_with_len}
use Rattle.sz_cells.specs.declared.Run.{Run}
use Rattle.sz_cells.specs.Extent.{Extent, size_of, cell_of}
use Rattle.sz_cells.specs.Cells.{Cells}
use Rattle.sz_cells.specs.Runs.{is_in, covers, indexes_of, AreRunsFrom, Spells}
use Rattle.sz_cells.proofs.Runs.{any-covers, covers-push, spelled-length}
use Rattle.sz_spec.specs.Values.{Grid}
use Rattle.sz_spec.specs.Shapes.{Site}
use Rattle.sz_spec.specs.Evaluation.{value_of, output_of}
use Rattle.sz_spec.specs.Work.{IsAtWork}
use Rattle.sz_frame.specs.Walks.{values_before}
use Rattle.sz_frame.proofs.Added.{values-all}
use Rattle.sz_refresh.specs.Outputs.{KeepsOthers, renewed}

-- the value of the cell of an index
abbrev pub value : Site → List Grid → ℕ → Option ℤ
value s inputs k = value_of s.op inputs (cell_of s.out k)

-- the values of the cells of the first n runs are computed, and the others are as they were
pub record IsComputed (s : Site) (inputs : List Grid) (old values : List (Option ℤ)) (runs : List Run) (n : ℕ)
    : Type 0 where
  pub long : length values ≡ size_of s.out
  pub made : (k : ℕ) → covers (take n runs) k ≡ true → get_or values k None ≡ value s inputs k
  pub kept : (k : ℕ) → covers (take n runs) k ≡ false → get_or values k None ≡ get_or old k None

-- one run more
pub computed-next : (s : Site) (inputs : List Grid) (old values new : List (Option ℤ)) (runs : List Run) (n : ℕ)
    (d : Run) → IsComputed s inputs old values runs n → n < length runs
    → length new ≡ length values
    → ((k : ℕ) → is_in (get_or runs n d) k ≡ true → get_or new k None ≡ value s inputs k)
    → ((k : ℕ) → is_in (get_or runs n d) k ≡ false → get_or new k None ≡ get_or values k None)
    → IsComputed s inputs old new runs (n + 1)
computed-next s inputs old values new runs n d so_far inside same made kept =
    let r : Run = get_or runs n d in
    let more : (k : ℕ) → covers (take (n + 1) runs) k ≡ (covers (take n runs) k || is_in r k) =
    λ k. ap (λ (rs : List Run). covers rs k) (take_more runs n d inside) ∙ covers-push (take n runs) r k in
    record {
      long = same ∙ so_far.long;
      made = λ k there.
          elim (cases_Bool (is_in r k)) [
            | inl here ↦ made k here
            | inr not_here ↦
                elim (or_cases (covers (take n runs) k) (is_in r k) (sym (more k) ∙ there)) [
                  | inl before ↦ kept k not_here ∙ so_far.made k before
                  | inr here ↦ made k here
                ]
          ];
      kept = λ k out.
          let both = neither (covers (take n runs) k) (is_in r k) (sym (more k) ∙ out) in
          kept k both.1 ∙ so_far.kept k both.0;
    } where
      neither : (a b : Bool) → (a || b) ≡ false → (a ≡ false) × (b ≡ false)
      neither true b h = (cc)
      neither false b h = (refl, h)

-- no run yet
pub computed-none : (s : Site) (inputs : List Grid) (old : List (Option ℤ)) (runs : List Run)
    → length old ≡ size_of s.out → IsComputed s inputs old old runs 0
computed-none s inputs old runs long = record { long = long; made = λ k there. (cc); kept = λ k out. refl }

-- values that hold the operator's at each index are its values
pub values-all_made : (s : Site) (inputs : List Grid) (values : List (Option ℤ)) → length values ≡ size_of s.out
    → ((k : ℕ) → k < size_of s.out → get_or values k None ≡ value s inputs k)
    → values ≡ values_before s inputs (size_of s.out)
values-all_made s inputs values long each =
    ext_get_or None values (values_before s inputs (size_of s.out))
    (long ∙ sym (length-map-range_with_len (value s inputs) 0 (size_of s.out)))
    (λ k low.
    let inside : k < size_of s.out = omega (arith, long) in
    let same : 0 + k ≡ k = omega arith in
    each k inside ∙ sym (get_or-map-range_with_len (value s inputs) 0 (size_of s.out) k k None inside same))

-- all runs
pub computed-all : (s : Site) (inputs : List Grid) (old : Grid) (values : List (Option ℤ))
    (runs : List Run) (set : Cells)
    → IsComputed s inputs old.values values runs (length runs) → Spells runs set → set.extent ≡ s.out
    → KeepsOthers s inputs old set → values ≡ values_before s inputs (size_of s.out)
computed-all s inputs old values runs set done spelled same others =
    values-all_made s inputs values done.long
    (λ k low.
    let all : covers (take (length runs) runs) k ≡ covers runs k =
    ap (λ (rs : List Run). covers rs k) (take-all runs) in
    let found : list_any (λ x. x == k) set.indexes ≡ covers runs k =
    ap (λ (ks : List ℕ). list_any (λ x. x == k) ks) (sym spelled.spelled)
    ∙ any-covers 0 (size_of set.extent) k runs spelled.longest in
    elim (cases_Bool (covers runs k)) [
      | inl there ↦ done.made k (all ∙ there)
      | inr out ↦ done.kept k (all ∙ out) ∙ others k low (found ∙ out)
    ]) where
      take-all : (rs : List Run) → take (length rs) rs ≡ rs
      take-all [] = refl
      take-all (r ∷ rs) = ap (λ (xs : List Run). r ∷ xs) (take-all rs)

-- each value renewed
pub renewed-all : (s : Site) (inputs : List Grid) (old : Grid) (values : List (Option ℤ)) (set : Cells)
    → length values ≡ size_of s.out
    → ((k : ℕ) → k < size_of s.out → get_or values k None ≡ renewed s inputs set k (get_or old.values k None))
    → KeepsOthers s inputs old set → values ≡ values_before s inputs (size_of s.out)
renewed-all s inputs old values set long each others =
    values-all_made s inputs values long
    (λ k low.
    let here : Bool → Option ℤ = λ b. if b then value s inputs k else get_or old.values k None in
    elim (cases_Bool (list_any (λ i. i == k) set.indexes)) [
      | inl there ↦ each k low ∙ ap here there
      | inr out ↦ each k low ∙ ap here out ∙ others k low out
    ])

-- ---- one value more

-- a number of a range that ends one later is one of the range, or its last
in-more : (f k i : ℕ) → (nat_le f k && nat_lt k (i + 1)) ≡ true → (k ≡ i → ⊥) → (nat_le f k && nat_lt k i) ≡ true
in-more f k i h other =
    let both = and_parts (nat_le f k) (nat_lt k (i + 1)) h in
    let low = ltb-true k (i + 1) both.1 in
    let less : k < i = omega arith in
    and_from (nat_le f k) (nat_lt k i) both.0 (lt-ltb k i less)

out-other : (f k i : ℕ) → f ≤ i → (nat_le f k && nat_lt k (i + 1)) ≡ false → k ≡ i → ⊥
out-other f k i low h same =
    let first : f ≤ k = omega arith in
    let last : k < i + 1 = omega arith in
    true≢false (sym (and_from (nat_le f k) (nat_lt k (i + 1)) (le-leb f k first) (lt-ltb k (i + 1) last)) ∙ h)

out-less : (f k i : ℕ) → (nat_le f k && nat_lt k (i + 1)) ≡ false → (nat_le f k && nat_lt k i) ≡ false
out-less f k i h =
    false_from_ne_true (nat_le f k && nat_lt k i)
    (λ inside.
    let both = and_parts (nat_le f k) (nat_lt k i) inside in
    let less = ltb-true k i both.1 in
    let last : k < i + 1 = omega arith in
    true≢false (sym (and_from (nat_le f k) (nat_lt k (i + 1)) both.0 (lt-ltb k (i + 1) last)) ∙ h))

-- the value at index i is written
pub written-made : (s : Site) (inputs : List Grid) (values : List (Option ℤ)) (f i : ℕ) (v : Option ℤ)
    → i < length values → v ≡ value s inputs i
    → ((k : ℕ) → (nat_le f k && nat_lt k i) ≡ true → get_or values k None ≡ value s inputs k)
    → (k : ℕ) → (nat_le f k && nat_lt k (i + 1)) ≡ true → get_or (set values i v) k None ≡ value s inputs k
written-made s inputs values f i v inside is made k h =
    elim (cases_Bool (k == i)) [
      | inl t ↦
          let same : k ≡ i = eqb-true k i t in
          get_or-set_at values i k v None same inside ∙ is ∙ ap (value s inputs) (sym same)
      | inr other ↦
          let apart : k ≡ i → ⊥ = λ same. true≢false (sym (eq-eqb k i same) ∙ other) in
          get_or-set_other values i k v None apart ∙ made k (in-more f k i h apart)
    ]

pub written-kept : (values first : List (Option ℤ)) (f i : ℕ) (v : Option ℤ) → f ≤ i
    → ((k : ℕ) → (nat_le f k && nat_lt k i) ≡ false → get_or values k None ≡ get_or first k None)
    → (k : ℕ) → (nat_le f k && nat_lt k (i + 1)) ≡ false → get_or (set values i v) k None ≡ get_or first k None
written-kept values first f i v low kept k h =
    get_or-set_other values i k v None (out-other f k i low h) ∙ kept k (out-less f k i h)

-- an array that holds each value already is the output
pub held-all : (s : Site) (inputs : List Grid) (old : Grid) (set : Cells) → IsAtWork s inputs → old.extent ≡ s.out
    → length old.values ≡ size_of s.out → set.indexes ≡ [] → KeepsOthers s inputs old set → old ≡ output_of s.op inputs
held-all s inputs old set work shape long none others =
    let make : Extent → List (Option ℤ) → Grid = λ e vs. record { extent = e; values = vs } in
    let values : old.values ≡ values_before s inputs (size_of s.out) =
    values-all_made s inputs old.values long
    (λ k low. others k low (ap (λ (ks : List ℕ). list_any (λ x. x == k) ks) none)) in
    ap₂ make shape values ∙ values-all s inputs work

-- the runs' cells are no more than the shape has
pub room-left : (bound : ℕ) (runs : List Run) (n : ℕ) (d : Run) → AreRunsFrom 0 bound runs → n < length runs
    → length (flat_map indexes_of (take n runs)) + ((get_or runs n d).last - (get_or runs n d).first + 1) ≤ bound
room-left bound runs n d spell inside =
    let r : Run = get_or runs n d in
    omega (
      arith,
      length-flat_map-take indexes_of runs n d inside,
      spelled-length bound runs spell,
      length-range_with_len r.first (r.last - r.first + 1),
    )
