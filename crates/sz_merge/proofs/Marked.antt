-- Cells that get a region pair's input sets more.
--
-- The key idea: to be marked is a relation between labels before and after for a test of indexes, so one cell after
-- another makes a run, one run after another a set, and a set more is a region pair more.
use Rattle.std.proofs.Common.{◌≡◌, ℕ, ◌+◌, ◌<◌, ◌≤◌, Bool, true, false, ◌&&◌, ◌||◌, ◌==◌, Some, inl, inr}
use Rattle.std.proofs.Common.{nat_le, nat_lt, take}
use Rattle.std.proofs.Common.{List, [], ◌∷◌, ◌++◌, length, get_or, set, refl, sym, ap, subst, ◌∙◌, arith}
use Rattle.std.proofs.Common.{eqb-true, eq-eqb, true≢false, get_or-set_other, length-set}
use Rattle.std.specs.List.{slice_get, list_any}
use Rattle.std.specs.Prelude.{replicate}
use Rattle.std.proofs.lemmas.Bool.{cases_Bool}
use Rattle.std.proofs.lemmas.Bool.Decides.{nat_tests}
use Rattle.std.proofs.lemmas.List.{take_more}
use Rattle.sz_cells.specs.declared.Run.{Run}
use Rattle.sz_cells.specs.Runs.{is_in, covers, Spells}
use Rattle.sz_cells.proofs.Runs.{any-covers}
use Rattle.sz_cells.proofs.Sets.{has-index}
use Rattle.std.proofs.lemmas.List.{get_or-set_same, get_or-replicate, length-replicate}
use Rattle.std.proofs.lemmas.List.Elements.{All-from_get_or}
use Rattle.std.proofs.lemmas.List.Folds.{list_any-append}
use Rattle.std.proofs.lemmas.Option.{slice_get_within, slice_get-get_or, unwrap_or-slice_get, same_Some}
use Rattle.std.proofs.lemmas.Option.{get_or_from_slice_get}
use Rattle.sz_cells.specs.declared.Cell.{Cell}
use Rattle.sz_cells.specs.Extent.{Extent, size_of, cell_of}
use Rattle.sz_cells.specs.Cells.{Cells, has}
use Rattle.sz_frame.specs.Parts.{Pairing}
use Rattle.sz_frame.specs.Stands.{set_of, full_stands}
use Rattle.sz_merge.specs.Lineages.{sets_where, nothing, behind, joined, list_at, KeepsNumbers}
use Rattle.sz_merge.specs.Marks.{IsNext, AreMarked, AreLabels, AreNumbers, has_in, has_index}
use Rattle.sz_merge.proofs.Sets.{sets_where-ext, joined-where, or-false}

-- ---- one step

-- what is at a number after more were added
kept-same : {X : Type 0} (before after : List X) (n : ℕ) (x : X) → n < length before → KeepsNumbers before after
    → slice_get after n ≡ Some x → slice_get before n ≡ Some x
kept-same before after n x inside kept at =
    let here = slice_get-get_or before n x inside in
    here ∙ ap Some (same_Some (get_or before n x) x (sym (kept n (get_or before n x) here) ∙ at))

kept-within : {X : Type 0} (before after : List X) (n : ℕ) (x : X) → n < length before → KeepsNumbers before after
    → n < length after
kept-within before after n x inside kept =
    slice_get_within after n (get_or before n x) (kept n (get_or before n x) (slice_get-get_or before n x inside))

pub next-kept : (ins : List Extent) (r : Pairing) (before after : List (List Cells)) (a b : ℕ)
    → IsNext ins r before a b → KeepsNumbers before after → IsNext ins r after a b
next-kept ins r before after a b next kept = record {
  there = kept-within before after a [] next.there kept;
  then = kept-within before after b [] next.then kept;
  more = λ test at.
      kept b (sets_where ins (λ i x. test i x || has_in r i x))
      (next.more test (kept-same before after a (sets_where ins test) next.there kept at));
}

-- a lineage that was joined is the next
pub next-joined : (ins : List Extent) (r : Pairing) (before after : List (List Cells)) (a b : ℕ) → a < length before
    → KeepsNumbers before after → slice_get after b ≡ Some (joined (list_at before a) r.ins) → IsNext ins r after a b
next-joined ins r before after a b inside kept number = record {
  there = kept-within before after a [] inside kept;
  then = slice_get_within after b (joined (list_at before a) r.ins) number;
  more = λ test at.
      let is : list_at before a ≡ sets_where ins test =
      unwrap_or-slice_get before a []
      ∙ get_or_from_slice_get before a (sets_where ins test) []
      (kept-same before after a (sets_where ins test) inside kept at) in
      number
      ∙ ap Some (ap (λ (s : List Cells). joined s r.ins) is ∙ joined-where ins test r.ins);
}

-- ---- marks

pub marked-none : (ins : List Extent) (r : Pairing) (labels : List ℕ) (before after : List (List Cells))
    → KeepsNumbers before after → AreMarked ins r (λ k. false) labels labels before after
marked-none ins r labels before after kept = record {
  long = refl;
  kept = kept;
  each = λ k test inside at.
      kept (get_or labels k 0) (sets_where ins test) at ∙ ap Some
      (sets_where-ext ins test (λ i x. test i x || (false && has_in r i x)) (λ i x. sym (or-false (test i x))));
}

pub marked-ext : (ins : List Extent) (r : Pairing) (c d : ℕ → Bool) (old new : List ℕ)
    (before after : List (List Cells)) → ((k : ℕ) → k < length old → c k ≡ d k)
    → AreMarked ins r c old new before after → AreMarked ins r d old new before after
marked-ext ins r c d old new before after same marked = record {
  long = marked.long;
  kept = marked.kept;
  each = λ k test inside at.
      marked.each k test inside at
      ∙ ap Some (sets_where-ext ins (λ i x. test i x || (c k && has_in r i x))
      (λ i x. test i x || (d k && has_in r i x))
      (λ i x. ap (λ b. test i x || (b && has_in r i x)) (same k inside)));
}

both-times : (t c d h : Bool) → ((t || (c && h)) || (d && h)) ≡ (t || ((c || d) && h))
both-times true c d h = refl
both-times false false d h = refl
both-times false true true true = refl
both-times false true true false = refl
both-times false true false true = refl
both-times false true false false = refl

pub marked-both : (ins : List Extent) (r : Pairing) (c d : ℕ → Bool) (old mid new : List ℕ)
    (before between after : List (List Cells)) → AreMarked ins r c old mid before between
    → AreMarked ins r d mid new between after → AreMarked ins r (λ k. c k || d k) old new before after
marked-both ins r c d old mid new before between after first second = record {
  long = second.long ∙ first.long;
  kept = λ n x at. second.kept n x (first.kept n x at);
  each = λ k test inside at.
      second.each k (λ i x. test i x || (c k && has_in r i x)) (omega (arith, first.long, inside))
      (first.each k test inside at)
      ∙ ap Some (sets_where-ext ins (λ i x. (test i x || (c k && has_in r i x)) || (d k && has_in r i x))
      (λ i x. test i x || ((c k || d k) && has_in r i x))
      (λ i x. both-times (test i x) (c k) (d k) (has_in r i x)));
}

-- one cell is marked by the step from its number
pub marked-one : (ins : List Extent) (r : Pairing) (labels : List ℕ) (before after : List (List Cells)) (n a b : ℕ)
    → n < length labels → a ≡ get_or labels n 0 → KeepsNumbers before after → IsNext ins r after a b
    → AreMarked ins r (λ k. k == n) labels (set labels n b) before after
marked-one ins r labels before after n a b inside is kept next = record {
  long = length-set labels n b;
  kept = kept;
  each = λ k test within at.
      elim (cases_Bool (k == n)) [
        | inl same ↦
            let e : k ≡ n = eqb-true k n same in
            let there : slice_get after a ≡ Some (sets_where ins test) =
            rw is (subst (λ (j : ℕ). slice_get after (get_or labels j 0) ≡ Some (sets_where ins test)) e
            (kept (get_or labels k 0) (sets_where ins test) at)) in
            let new : get_or (set labels n b) k 0 ≡ b = rw e (get_or-set_same labels n b 0 inside) in
            rw (new, same) (next.more test there)
        | inr other ↦
            let new : get_or (set labels n b) k 0 ≡ get_or labels k 0 =
            get_or-set_other labels n k b 0 (λ e. true≢false (sym (eq-eqb k n e) ∙ other)) in
            rw (new, other)
            (kept (get_or labels k 0) (sets_where ins test) at
            ∙ ap Some (sets_where-ext ins test (λ i x. test i x || (false && has_in r i x))
            (λ i x. sym (or-false (test i x)))))
      ];
}

-- ---- runs of cells

run-step : (f k j : ℕ) → f ≤ k → ((nat_le f j && nat_lt j k) || (j == k)) ≡ (nat_le f j && nat_lt j (k + 1))
run-step f k j low = grind (arith, nat_tests)

run-none : (f j : ℕ) → false ≡ (nat_le f j && nat_lt j f)
run-none f j = grind (arith, nat_tests)

run-whole : (f l k j : ℕ) → k ≡ l + 1 → (nat_le f j && nat_lt j k) ≡ (nat_le f j && nat_le j l)
run-whole f l k j end = grind (arith, nat_tests)

-- no cell of a run is marked
pub run-first : (ins : List Extent) (r : Pairing) (f : ℕ) (labels : List ℕ) (lists : List (List Cells))
    → AreMarked ins r (λ j. nat_le f j && nat_lt j f) labels labels lists lists
run-first ins r f labels lists =
    marked-ext ins r (λ k. false) (λ j. nat_le f j && nat_lt j f) labels labels lists lists (λ j inside. run-none f j)
    (marked-none ins r labels lists lists (λ n x at. at))

-- one more
pub run-more : (ins : List Extent) (r : Pairing) (f k : ℕ) (old labels : List ℕ)
    (before between after : List (List Cells)) (a b : ℕ)
    → AreMarked ins r (λ j. nat_le f j && nat_lt j k) old labels before between → f ≤ k → k < length old
    → a ≡ get_or labels k 0 → KeepsNumbers between after → IsNext ins r after a b
    → AreMarked ins r (λ j. nat_le f j && nat_lt j (k + 1)) old (set labels k b) before after
run-more ins r f k old labels before between after a b was low inside is kept next =
    marked-ext ins r (λ j. (nat_le f j && nat_lt j k) || (j == k)) (λ j. nat_le f j && nat_lt j (k + 1)) old
    (set labels k b)
    before after (λ j within. run-step f k j low)
    (marked-both ins r (λ j. nat_le f j && nat_lt j k) (λ j. j == k) old labels
    (set labels k b) before between after was
    (marked-one ins r labels between after k a b (omega (arith, was.long, inside)) is kept next))

-- all of them
pub run-all : (ins : List Extent) (r : Pairing) (run : Run) (k : ℕ) (old new : List ℕ)
    (before after : List (List Cells)) → k ≡ run.last + 1
    → AreMarked ins r (λ j. nat_le run.first j && nat_lt j k) old new before after
    → AreMarked ins r (is_in run) old new before after
run-all ins r run k old new before after end was =
    marked-ext ins r (λ j. nat_le run.first j && nat_lt j k) (is_in run) old new before after
    (λ j inside. run-whole run.first run.last k j end) was

-- the runs before a place, and one more
pub covers-more : (runs : List Run) (i j : ℕ) (run : Run) → i < length runs → run ≡ get_or runs i run
    → (covers (take i runs) j || is_in run j) ≡ covers (take (i + 1) runs) j
covers-more runs i j run inside read =
    sym (ap (λ (rs : List Run). covers rs j) (take_more runs i run inside)
    ∙ list_any-append (λ (r : Run). is_in r j) (take i runs) (get_or runs i run ∷ [])
    ∙ ap (λ b. covers (take i runs) j || b)
    (or-false (is_in (get_or runs i run) j) ∙ ap (λ (r : Run). is_in r j) (sym read)))

pub runs-more : (ins : List Extent) (r : Pairing) (runs : List Run) (i : ℕ) (run : Run) (old mid new : List ℕ)
    (before between after : List (List Cells)) → i < length runs → run ≡ get_or runs i run
    → AreMarked ins r (covers (take i runs)) old mid before between
    → AreMarked ins r (is_in run) mid new between after
    → AreMarked ins r (covers (take (i + 1) runs)) old new before after
runs-more ins r runs i run old mid new before between after inside read was more =
    marked-ext ins r (λ j. covers (take i runs) j || is_in run j) (covers (take (i + 1) runs)) old new before after
    (λ j within. covers-more runs i j run inside read)
    (marked-both ins r (covers (take i runs)) (is_in run) old mid new before between after was more)

-- all runs of a set
pub runs-all : (ins : List Extent) (r : Pairing) (runs : List Run) (old new : List ℕ)
    (before after : List (List Cells)) → Spells runs r.out → length old ≡ size_of r.out.extent
    → AreMarked ins r (covers runs) old new before after → AreMarked ins r (has_index r) old new before after
runs-all ins r runs old new before after spells size was =
    marked-ext ins r (covers runs) (has_index r) old new before after
    (λ j inside.
    sym (has-index r.out r.out.extent j refl (omega (arith, size, inside))
    ∙ ap (λ (ks : List ℕ). list_any (λ k. k == j) ks) (sym spells.spelled)
    ∙ any-covers 0 (size_of r.out.extent) j runs spells.longest)) was

-- ---- numbers

pub numbers-kept : (labels : List ℕ) (before after : List (List Cells)) → AreNumbers labels before
    → KeepsNumbers before after → AreNumbers labels after
numbers-kept labels before after are kept =
    λ k d inside. kept-within before after (get_or labels k d) [] (are k d inside) kept

pub numbers-set : (labels : List ℕ) (lists : List (List Cells)) (n b : ℕ) → AreNumbers labels lists → b < length lists
    → AreNumbers (set labels n b) lists
numbers-set labels lists n b are below =
    λ k d inside.
    let within : k < length labels = omega (arith, length-set labels n b, inside) in
    elim (cases_Bool (k == n)) [
      | inl same ↦
          let e : k ≡ n = eqb-true k n same in
          let new : get_or (set labels n b) k d ≡ b =
          ap (λ (j : ℕ). get_or (set labels n b) j d) e ∙ get_or-set_same labels n b d (omega (arith, e, within)) in
          rw new below
      | inr other ↦
          let new : get_or (set labels n b) k d ≡ get_or labels k d =
          get_or-set_other labels n k b d (λ e. true≢false (sym (eq-eqb k n e) ∙ other)) in
          rw new (are k d within)
    ]

-- ---- labels

pub labels-none : (out : Extent) (ins : List Extent) (lists : List (List Cells))
    → slice_get lists 0 ≡ Some (nothing ins) → AreLabels out ins [] (replicate (size_of out) 0) lists
labels-none out ins lists zero = record {
  long = length-replicate (size_of out) 0;
  zero = zero;
  each = λ k inside.
      let first : get_or (replicate (size_of out) 0) k 0 ≡ 0 = get_or-replicate {A = ℕ} (size_of out) k 0 0 inside in
      rw first zero;
}

pub labels-numbers : (out : Extent) (ins : List Extent) (rs : List Pairing) (labels : List ℕ)
    (lists : List (List Cells)) → AreLabels out ins rs labels lists → AreNumbers labels lists
labels-numbers out ins rs labels lists are =
    All-from_get_or (λ n. n < length lists) labels 0
    (λ k inside. slice_get_within lists (get_or labels k 0) (behind ins rs (cell_of out k))
    (are.each k (omega (arith, are.long, inside))))

stands-more : (rs : List Pairing) (r : Pairing) (i : ℕ) (o x : Cell)
    → full_stands (rs ++ r ∷ []) i o x ≡ (full_stands rs i o x || (has r.out o && has (set_of r i) x))
stands-more rs r i o x =
    list_any-append (λ (p : Pairing). has p.out o && has (set_of p i) x) rs (r ∷ [])
    ∙ ap (λ b. full_stands rs i o x || b) (or-false (has r.out o && has (set_of r i) x))

pub labels-more : (out : Extent) (ins : List Extent) (rs : List Pairing) (r : Pairing) (labels new : List ℕ)
    (before after : List (List Cells)) → AreLabels out ins rs labels before → r.out.extent ≡ out
    → AreMarked ins r (has_index r) labels new before after → AreLabels out ins (rs ++ r ∷ []) new after
labels-more out ins rs r labels new before after are shape marked = record {
  long = marked.long ∙ are.long;
  zero = marked.kept 0 (nothing ins) are.zero;
  each = λ k inside.
      let o = cell_of out k in
      marked.each k (λ i x. full_stands rs i o x) (omega (arith, are.long, inside)) (are.each k inside)
      ∙ ap Some (sets_where-ext ins (λ i x. full_stands rs i o x || (has_index r k && has_in r i x))
      (λ i x. full_stands (rs ++ r ∷ []) i o x)
      (λ i x.
      ap (λ (e : Extent). full_stands rs i o x || (has r.out (cell_of e k) && has (set_of r i) x)) shape
      ∙ sym (stands-more rs r i o x)));
}
