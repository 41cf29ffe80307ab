-- Which entry a cell is in, when an entry more comes behind the others.
use Rattle.std.proofs.Common.{◌≡◌, ℕ, zero, suc, ◌+◌, ◌<◌, ◌≤◌, ◌==◌, Bool, true, false, ◌&&◌, ◌||◌, cond}
use Rattle.std.proofs.Common.{List, [], ◌∷◌, ◌++◌, length, take, get_or, Option, Some, None, set}
use Rattle.std.proofs.Common.{get_or-set_same, get_or-set_other}
use Rattle.std.proofs.Common.{refl, sym, ap, ◌∙◌, arith, inl, inr, nat_le, nat_lt}
use Rattle.std.specs.List.{AllWithin, list_any, flat_map}
use Rattle.std.proofs.Math.Bool.{or-false}
use Rattle.std.proofs.lemmas.Bool.{cases_Bool, cases_eq, false_from_ne_true, or_right}
use Rattle.std.proofs.lemmas.Bool.Decides.{nat_tests}
use Rattle.std.proofs.lemmas.List.Folds.{list_any_more}
use Rattle.std.proofs.lemmas.Slice.Zip.{all_zipped_more, AllZip-long}
use Rattle.sz_cells.specs.declared.Bounds.{Bounds}
use Rattle.sz_cells.specs.declared.Cell.{Cell}
use Rattle.sz_cells.specs.declared.Run.{Run}
use Rattle.sz_cells.specs.Extent.{Extent, size_of, cell_of}
use Rattle.sz_cells.specs.Cells.{Cells, has}
use Rattle.sz_cells.specs.Runs.{AreRunsFrom, Spells, covers, is_in, runs_of, indexes_of}
use Rattle.sz_cells.specs.SetBytes.{IsSetOf}
use Rattle.sz_cells.specs.Laws.{IsInBounds}
use Rattle.sz_cells.proofs.Sets.{has-index}
use Rattle.sz_cells.proofs.Runs.{any-covers, runs_of-longest, spelled-runs_of}
use Rattle.sz_frame.specs.Parts.{Entry}
use Rattle.sz_frame.specs.Stands.{has_entry}
use Rattle.sz_rtree.specs.Rectangles.{Overlaps}
use Rattle.sz_tables.specs.Entries.{entry_at}
use Rattle.sz_tables.specs.Filed.{told}
use Rattle.sz_tables.specs.Sets.{IsRound}
use Rattle.sz_payload.specs.Owned.{IsOwnerOf, AreSlotsOf, AreRound}

-- ---- entries by number

more : (a b c d : Bool) → d ≡ (b || c) → (a || d) ≡ ((a || b) || c)
more true b c d is = refl
more false b c d is = is

-- one entry more
pub entry-more : (es : List Entry) (e : Entry) (o : Cell) → has_entry (es ++ e ∷ []) o ≡ (has_entry es o || has e.out o)
entry-more [] e o = or-false (has e.out o)
entry-more (d ∷ es) e o = more (has d.out o) (has_entry es o) (has e.out o) (has_entry (es ++ e ∷ []) o)
    (entry-more es e o)

pub entry-kept : (es : List Entry) (e : Entry) (n : ℕ) → n < length es → entry_at (es ++ e ∷ []) n ≡ entry_at es n
entry-kept [] e n inside = absurd (omega arith)
entry-kept (d ∷ es) e zero inside = refl
entry-kept (d ∷ es) e (suc n) inside = entry-kept es e n (omega arith)

pub entry-last : (es : List Entry) (e : Entry) (n : ℕ) → n ≡ length es → entry_at (es ++ e ∷ []) n ≡ e
entry-last [] e zero same = refl
entry-last [] e (suc n) same = absurd (omega arith)
entry-last (d ∷ es) e zero same = absurd (omega arith)
entry-last (d ∷ es) e (suc n) same = entry-last es e n (omega arith)

-- the entry of a number has what it has
pub entry-there : (es : List Entry) (n : ℕ) (o : Cell) → n < length es → has (entry_at es n).out o ≡ true
    → has_entry es o ≡ true
entry-there [] n o inside there = absurd (omega arith)
entry-there (d ∷ es) zero o inside there = rw there refl
entry-there (d ∷ es) (suc n) o inside there =
    or_right (has d.out o) (has_entry es o) (entry-there es n o (omega arith) there)

-- and where none of them has a cell, no entry has it
pub none-there : (es : List Entry) (o : Cell) → ((n : ℕ) → n < length es → has (entry_at es n).out o ≡ false)
    → has_entry es o ≡ false
none-there [] o none = refl
none-there (d ∷ es) o none =
    rw (none 0 (omega arith)) (none-there es o (λ n inside. none (suc n) (omega arith)))

-- ---- owners

pub long-more : (es : List Entry) (e : Entry) → length (es ++ e ∷ []) ≡ length es + 1
long-more [] e = refl
long-more (d ∷ es) e = omega (arith, long-more es e)

owner-kept : (es : List Entry) (e : Entry) (o : Cell) (found : Option ℕ) → has e.out o ≡ false
    → IsOwnerOf es o found → IsOwnerOf (es ++ e ∷ []) o found
owner-kept es e o None out none = entry-more es e o ∙ (rw (none, out) refl)
owner-kept es e o (Some n) out own =
    (omega (arith, long-more es e, own.0), ap (λ (d : Entry). has d.out o) (entry-kept es e n own.0) ∙ own.1)

owner-last : (es : List Entry) (e : Entry) (o : Cell) (n : ℕ) → has e.out o ≡ true → length es ≡ n
    → IsOwnerOf (es ++ e ∷ []) o (Some n)
owner-last es e o n there same =
    (omega (arith, long-more es e), ap (λ (d : Entry). has d.out o) (entry-last es e n (sym same)) ∙ there)

-- an index is in some of a set's runs where its cell is in the set
pub covers-has : (e : Extent) (set : Cells) (runs : List Run) (k : ℕ) → Spells runs set → set.extent ≡ e
    → k < size_of e → covers runs k ≡ has set (cell_of e k)
covers-has e set runs k spells same below =
    sym (any-covers 0 (size_of set.extent) k runs spells.longest)
    ∙ ap (list_any (λ x. x == k)) spells.spelled
    ∙ sym (has-index set e k same below)

pub slots-more : (shape : Extent) (es : List Entry) (e : Entry) (set : Cells) (runs : List Run) (old new : List ℕ)
    (row : ℕ) → Spells runs set → set.extent ≡ shape → length new ≡ length old
    → ((k : ℕ) → k < length old → get_or new k 0 ≡ cond (covers runs k) (row + 1) (get_or old k 0))
    → e.out ≡ set → length es ≡ row → AreSlotsOf shape es old → AreSlotsOf shape (es ++ e ∷ []) new
slots-more shape es e set runs old new row spells same long filled at count slots = record {
  count = long ∙ slots.count;
  each = λ k below.
      let here = filled k (omega (arith, slots.count)) in
      let covered : covers runs k ≡ has e.out (cell_of shape k) =
      covers-has shape set runs k spells same below ∙ ap (λ (s : Cells). has s (cell_of shape k)) (sym at) in
      elim (cases_Bool (covers runs k)) [
        | inl inside ↦
            let slot : get_or new k 0 ≡ suc row = here ∙ (rw inside (omega arith)) in
            rw slot (owner-last es e (cell_of shape k) row (sym covered ∙ inside) count)
        | inr outside ↦
            let slot : get_or new k 0 ≡ get_or old k 0 = here ∙ (rw outside refl) in
            rw slot (owner-kept es e (cell_of shape k) (told (get_or old k 0)) (sym covered ∙ outside)
            (slots.each k below))
      ];
}

pub round-more : (es : List Entry) (rectangles : List Bounds) (e : Entry) (b : Bounds) → AreRound es rectangles
    → IsRound b e.out → AreRound (es ++ e ∷ []) (rectangles ++ b ∷ [])
round-more es rectangles e b round one = all_zipped_more (λ x c. IsRound c x.out) es rectangles e b round one

pub round-long : (es : List Entry) (rectangles : List Bounds) → AreRound es rectangles
    → length rectangles ≡ length es
round-long es rectangles round = AllZip-long (λ x c. IsRound c x.out) es rectangles round

-- ---- searches by rectangles

round-at : (es : List Entry) (rectangles : List Bounds) (k : ℕ) (d : Bounds) → AreRound es rectangles
    → k < length es → IsRound (get_or rectangles k d) (entry_at es k).out
round-at [] rectangles k d round inside = absurd (omega arith)
round-at (e ∷ es) [] k d round inside = absurd round
round-at (e ∷ es) (b ∷ rectangles) zero d round inside = round.0
round-at (e ∷ es) (b ∷ rectangles) (suc k) d round inside = round-at es rectangles k d round.1 (omega arith)

-- the rectangle of one cell
abbrev pub only : Cell → Bounds
only c = record { top = c.row; left = c.col; bottom = c.row; right = c.col }

over : (b : Bounds) (c : Cell) → IsInBounds b c → Overlaps b (only c)
over b c inside = (omega arith, omega arith, omega arith, omega arith)

-- entries whose rectangles do not overlap that of a cell do not have it
pub passed : (es : List Entry) (rectangles : List Bounds) (c : Cell) (a b : ℕ) → AreRound es rectangles
    → b ≤ length es → AllWithin (λ r. Overlaps r (only c) → ⊥) rectangles a b
    → (k : ℕ) → a ≤ k → k < b → has (entry_at es k).out c ≡ false
passed es rectangles c a b round within apart k low high =
    false_from_ne_true (has (entry_at es k).out c)
    (λ there. apart k (only c) low high (over (get_or rectangles k (only c)) c
    (round-at es rectangles k (only c) round (omega arith) c there)))

-- ---- the runs of an entry

pub runs-longest : (out : Extent) (set : Cells) (runs : List Run) → IsSetOf out set → runs ≡ runs_of set.indexes
    → AreRunsFrom 0 (size_of out) runs
runs-longest out set runs is at = rw at (runs_of-longest 0 (size_of out) set.indexes is.rising)

pub runs-has : (out : Extent) (set : Cells) (runs : List Run) (k : ℕ) → IsSetOf out set → runs ≡ runs_of set.indexes
    → k < size_of out → list_any (λ x. x == k) (flat_map indexes_of runs) ≡ has set (cell_of out k)
runs-has out set runs k is at below =
    ap (λ rs. list_any (λ x. x == k) (flat_map indexes_of rs)) at
    ∙ ap (list_any (λ x. x == k)) (spelled-runs_of 0 (size_of out) set.indexes is.rising)
    ∙ sym (has-index set out k is.extent below)

-- ---- slots that are filled

pub filled-none : (old : List ℕ) (first number k : ℕ) → k < length old
    → get_or old k 0 ≡ cond (nat_le first k && nat_lt k first) number (get_or old k 0)
filled-none old first number k inside =
    let none : (nat_le first k && nat_lt k first) ≡ false = grind (arith, nat_tests) in
    rw none refl

pub filled-more : (old slots : List ℕ) (first index number : ℕ) → index < length slots → first ≤ index
    → ((k : ℕ) → k < length old → get_or slots k 0 ≡ cond (nat_le first k && nat_lt k index) number (get_or old k 0))
    → (k : ℕ) → k < length old
    → get_or (set slots index number) k 0 ≡ cond (nat_le first k && nat_lt k (index + 1)) number (get_or old k 0)
filled-more old slots first index number there low filled k inside =
    elim (cases_eq k index) [
      | inl same ↦
          let here : (nat_le first k && nat_lt k (index + 1)) ≡ true = grind (arith, nat_tests) in
          rw (here, same) (get_or-set_same slots index number 0 there)
      | inr other ↦
          let tests : (nat_le first k && nat_lt k (index + 1)) ≡ (nat_le first k && nat_lt k index) =
          grind (arith, nat_tests) in
          rw tests (rw get_or-set_other (filled k inside))
    ]

pub filled-all : (old slots : List ℕ) (r : Run) (index number : ℕ) → index ≡ r.last + 1
    → ((k : ℕ) → k < length old → get_or slots k 0 ≡ cond (nat_le r.first k && nat_lt k index) number (get_or old k 0))
    → (k : ℕ) → k < length old → get_or slots k 0 ≡ cond (is_in r k) number (get_or old k 0)
filled-all old slots r index number end filled k inside =
    let tests : (nat_le r.first k && nat_lt k index) ≡ is_in r k = grind (arith, nat_tests) in
    filled k inside ∙ (rw tests refl)

both : (a b : Bool) (number x : ℕ) → cond b number (cond a number x) ≡ cond (a || b) number x
both true true number x = refl
both true false number x = refl
both false b number x = refl

pub filled-run : (old slots new : List ℕ) (runs : List Run) (i : ℕ) (d : Run) (number : ℕ) → i < length runs
    → length slots ≡ length old
    → ((k : ℕ) → k < length old → get_or slots k 0 ≡ cond (covers (take i runs) k) number (get_or old k 0))
    → ((k : ℕ) → k < length slots → get_or new k 0 ≡ cond (is_in (get_or runs i d) k) number (get_or slots k 0))
    → (k : ℕ) → k < length old → get_or new k 0 ≡ cond (covers (take (i + 1) runs) k) number (get_or old k 0)
filled-run old slots new runs i d number there long filled more k inside =
    more k (omega arith)
    ∙ ap (cond (is_in (get_or runs i d) k) number) (filled k inside)
    ∙ both (covers (take i runs) k) (is_in (get_or runs i d) k) number (get_or old k 0)
    ∙ ap (λ (b : Bool). cond b number (get_or old k 0)) (sym (list_any_more (λ r. is_in r k) runs i d there))
