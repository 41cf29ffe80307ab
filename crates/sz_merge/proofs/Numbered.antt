-- Sets of kinds of lineage, numbered and put one after another.
--
-- The key idea: a number that some cell has gives the sets of one region pair more, and another gives none. As each set
-- has a name of its own, there are as many names as sets, so the next set's number is known from the names alone.
use Rattle.std.proofs.Common.{◌≡◌, ◌∙◌, ℕ, ◌+◌, ◌<◌, ◌≤◌, Bool, true, false, inl, inr, not, nat_lt, List, [], ◌∷◌}
use Rattle.std.proofs.Common.{length, get_or, refl, sym, ap, subst, lt-ltb, ◌==◌, ◌++◌, append-nil, arith}
use Rattle.std.proofs.Common.{length-append, append_assoc, ◌*◌, ◌^◌, All}
use Rattle.std.proofs.lemmas.List.{length-map}
use Rattle.std.proofs.lemmas.List.Concat.{flat_map-append}
use Rattle.std.proofs.lemmas.List.Elements.{All-weaker}
use Rattle.std.specs.List.{flat_map}
use Rattle.std.proofs.lemmas.Bool.{cases_Bool}
use Rattle.sz_cells.specs.declared.Run.{Run}
use Rattle.sz_cells.specs.Extent.{Extent}
use Rattle.sz_cells.specs.Cells.{Cells}
use Rattle.sz_cells.specs.SetBytes.{IsSetOf}
use Rattle.sz_frame.specs.Parts.{Pairing}
use Rattle.sz_region.specs.Counted.{counted, rows_bytes}
use Rattle.sz_region.specs.FullBytes.{Listed, IsFullWord, listed_bytes, listed_of}
use Rattle.sz_region.specs.Putting.{AreNumbered, AreRegionsNumbered, AreRows, HasShapes}
use Rattle.sz_region.proofs.Numbering.{regions-none, regions-more, regions-rows, numbered-word, numbered-new}
use Rattle.sz_region.proofs.Numbering.{numbered-more, listed-length}
use Rattle.sz_tables.specs.Tables.{spelled}
use Rattle.sz_merge.specs.Lineages.{list_at}
use Rattle.sz_merge.specs.Marks.{kinds_below, kind_of, ArePut, IsKindPut, AreSetsPut}
use Rattle.sz_merge.proofs.Sorting.{kinds-more}

-- one set more
pub put-one : (names old : List ℕ) (l : Listed) → IsSetOf l.set.extent l.set
    → ArePut names (names ++ length names ∷ []) old (old ++ listed_bytes l) (l ∷ [])
put-one names old l is = record {
  numbered = λ table same.
      subst (λ (n : ℕ). AreNumbered table (table ++ l ∷ []) names (names ++ n ∷ []) (l ∷ [])) same
      (numbered-new table names l is);
  each = length-append names (length names ∷ []);
  added = ap (λ (bs : List ℕ). old ++ bs) (sym (append-nil (listed_bytes l)));
}

-- bytes of sets behind those of others
bytes-more : (old mid new : List ℕ) (xs ys : List Listed) → mid ≡ old ++ flat_map listed_bytes xs
    → new ≡ mid ++ flat_map listed_bytes ys → new ≡ old ++ flat_map listed_bytes (xs ++ ys)
bytes-more old mid new xs ys first second =
    second ∙ ap (λ (bs : List ℕ). bs ++ flat_map listed_bytes ys) first
    ∙ append_assoc old (flat_map listed_bytes xs) (flat_map listed_bytes ys)
    ∙ ap (λ (bs : List ℕ). old ++ bs) (sym (flat_map-append listed_bytes xs ys))

-- sets are put behind others
pub put-more : (names mid now old half new : List ℕ) (xs ys : List Listed) → ArePut names mid old half xs
    → ArePut mid now half new ys → ArePut names now old new (xs ++ ys)
put-more names mid now old half new xs ys first second = record {
  numbered = λ table same.
      let long : length (table ++ xs) ≡ length mid = omega (arith, length-append table xs, same, first.each) in
      subst (λ (t : List Listed). AreNumbered table t names now (xs ++ ys)) (append_assoc table xs ys)
      (numbered-more table (table ++ xs) ((table ++ xs) ++ ys) names mid now xs ys (first.numbered table same)
      (second.numbered (table ++ xs) long));
  each = omega (arith, first.each, second.each, length-append xs ys);
  added = bytes-more old half new xs ys first.added second.added;
}

-- no set is put yet
pub sets-none : (names old : List ℕ) → names ≡ [] → AreSetsPut names [] old old
sets-none names old none = record {
  table = [];
  numbered = subst (λ (ns : List ℕ). AreRegionsNumbered [] ns []) (sym none) regions-none;
  each = ap length (sym none);
  added = sym (append-nil old);
}

pub kind-put : (out : Extent) (groups : List (List Run)) (lists : List (List Cells)) (n : ℕ)
    (names now old mid new : List ℕ) (runs : List Run) (s : Cells)
    → AreSetsPut names (kinds_below out groups lists n) old mid → runs ≡ get_or groups n [] → 0 < n
    → list_at lists n ≡ s ∷ []
    → IsKindPut (not (length runs == 0)) names now mid new (kind_of out runs s)
    → AreSetsPut now (kinds_below out groups lists (n + 1)) old new
kind-put out groups lists n names now old mid new runs s done own above list next =
    let before = kinds_below out groups lists n in
    let r = kind_of out runs s in
    let low : nat_lt 0 n ≡ true = lt-ltb 0 n above in
    elim (cases_Bool (length runs == 0)) [
      | inl none ↦
          let kept : (now ≡ names) × (new ≡ mid) = rw none at next in
          let same : before ≡ kinds_below out groups lists (n + 1) =
          kinds-more out groups lists n before before runs refl own (rw (low, none) (sym (append-nil before))) in
          record {
            table = done.table;
            numbered = subst (AreRegionsNumbered done.table now) same
                (subst (λ (ns : List ℕ). AreRegionsNumbered done.table ns before) (sym kept.0) done.numbered);
            each = done.each ∙ ap length (sym kept.0);
            added = kept.1 ∙ done.added;
          }
      | inr some ↦
          let put : ArePut names now mid new (listed_of r) = rw some at next in
          let more : before ++ r ∷ [] ≡ kinds_below out groups lists (n + 1) =
          kinds-more out groups lists n before (before ++ r ∷ []) runs refl own
          (rw (low, some)
          (ap (λ (l : List Cells). before ++ record { out = spelled out runs; ins = l } ∷ []) (sym list))) in
          record {
            table = done.table ++ listed_of r;
            numbered = subst (AreRegionsNumbered (done.table ++ listed_of r) now) more
                (regions-more done.table (done.table ++ listed_of r) names now before r done.numbered
                (put.numbered done.table done.each));
            each = omega (arith, length-append done.table (listed_of r), done.each, put.each);
            added = bytes-more old mid new done.table (listed_of r) done.added put.added;
          }
    ]

-- two names more at most
pub kind-few : (some : Bool) (names now old new : List ℕ) (r : Pairing) → length r.ins ≡ 1
    → IsKindPut some names now old new r → length now ≤ length names + 2
kind-few true names now old new r one next = omega (arith, one, next.each, listed-length 0 (r.out ∷ r.ins))
kind-few false names now old new r one next = omega (arith, ap length next.0)

-- ---- all kinds

-- region pairs of one input are listed, and their names are rows of two
pub record AreListedKinds (out : Extent) (ins : List Extent) (ms : List Pairing) (sets : List Listed) (names : List ℕ)
    : Type 0 where
  pub done : AreRegionsNumbered sets names ms
  pub rows : AreRows 2 names done.rows
  pub few : length done.rows ≤ 2 ^ 30
  pub many : length names ≡ length ms * 2
  pub is_word : IsFullWord out ins sets ms (counted listed_bytes sets ++ rows_bytes done.rows)

pub kinds-listed : (out : Extent) (ins : List Extent) (ms : List Pairing) (sets : List Listed) (names : List ℕ)
    → length ins ≡ 1 → All (HasShapes out ins) ms → length names ≤ 2 ^ 31 → AreRegionsNumbered sets names ms
    → AreListedKinds out ins ms sets names
kinds-listed out ins ms sets names one shapes few done =
    let rows = regions-rows sets names ms 1 done
    (All-weaker (HasShapes out ins) (λ r. length r.ins ≡ 1)
    (λ r has. sym (length-map r.ins (λ (s : Cells). s.extent)) ∙ (ap length has.ins ∙ one)) ms shapes) in
    record {
      done = done;
      rows = rows.are;
      few = omega (arith, rows.each, rows.all, few);
      many = omega (arith, rows.all);
      is_word =
          numbered-word out ins sets names ms done shapes (omega (arith, done.few, few)) (omega (arith, rows.all, few));
    }
