-- Bytes that are those of a set: as many runs as their number says, the longest ones of the set.
use Rattle.std.proofs.Common.{◌≡◌, ℕ, ◌+◌, ◌*◌, ◌/◌, ◌%◌, ◌<◌, ◌≤◌, true, List, [], ◌∷◌, ◌++◌, length, take, drop}
use Rattle.std.proofs.Common.{get_or, refl, sym, ap, ap₂, subst, ◌∙◌, arith}
use Rattle.std.specs.List.{flat_map, list_any}
use Rattle.std.specs.Int.{w32, from_be_bytes}
use Rattle.std.proofs.lemmas.Bool.{and_parts, leb-true, ltb-true}
use Rattle.std.proofs.lemmas.Nat.{from_be_bytes-to_be_bytes_4, be_bytes_4}
use Rattle.std.proofs.lemmas.Slice.Eq.{bytes_eq-Decides}
use Rattle.sz_cells.specs.declared.Run.{Run}
use Rattle.sz_cells.specs.Extent.{Extent, size_of}
use Rattle.sz_cells.specs.Cells.{Cells, any_cell, has}
use Rattle.sz_cells.specs.Rising.{AreRising}
use Rattle.sz_cells.specs.Runs.{AreRunsFrom, Spells, covers, indexes_of, runs_of}
use Rattle.sz_cells.specs.SetBytes.{IsSetOf, four_bytes, run_bytes, set_bytes}
use Rattle.sz_cells.specs.SetWords.{runs_spelled, set_spelled, are_rising, is_set_word}
use Rattle.sz_cells.proofs.Runs.{runs_of-longest, runs-length, runs_of-spelled, runs-rising}
use Rattle.sz_cells.specs.Words.{cells_at}
use Rattle.sz_cells.proofs.Bitmaps.{spelled-at as covers-spelled}
use Rattle.sz_cells.proofs.LawsOfSets.{split-same}
use Rattle.sz_cells.proofs.SetWords.{runs-back, set-word}
use Rattle.sz_region.specs.Taking.{number_at, run_at, runs_bytes}
use Rattle.sz_region.proofs.Spelling.{bytes-again, spelled-at, spelled-count, small-left, small-right, runs-long}
use Rattle.sz_tables.proofs.MetRuns.{runs-met}
use Rattle.sz_payload.specs.Words.{IsBodyOf}

-- indexes that pass the test rise
risen : (least bound : ℕ) (xs : List ℕ) → are_rising least bound xs ≡ true → AreRising least bound xs
risen least bound [] passes = tt
risen least bound (x ∷ xs) passes =
    let both = and_parts _ _ passes in
    let first = and_parts _ _ both.0 in
    (leb-true least x first.0, ltb-true x bound first.1, risen (x + 1) bound xs both.1)

-- what the bytes of a set are made of: rising indexes, of which they are the bytes
pub record IsWordOf (e : Extent) (bytes xs : List ℕ) : Type 0 where
  pub rising : AreRising 0 (size_of e) xs
  pub spelled : runs_bytes (runs_of xs) ≡ bytes

pub word-set : (e : Extent) (bytes : List ℕ) → is_set_word e bytes ≡ true
    → IsWordOf e bytes (set_spelled e bytes).indexes
word-set e bytes word =
    let both = and_parts _ _ word in
    record {
      rising = risen 0 (size_of e) (set_spelled e bytes).indexes both.0;
      spelled = (bytes_eq-Decides (set_bytes (set_spelled e bytes)) bytes).0 both.1;
    }

-- the runs that they spell are the longest ones of the set
pub word-body : (e : Extent) (bytes body : List ℕ) → size_of e ≤ 1048576 → IsBodyOf bytes body
    → is_set_word e bytes ≡ true → AreRunsFrom 0 (size_of e) (runs_spelled body)
word-body e bytes body few has word =
    let xs = (set_spelled e bytes).indexes in
    let is = word-set e bytes word in
    let runs = runs_of xs in
    let are = runs_of-longest 0 (size_of e) xs is.rising in
    let same : has.head ++ body ≡ four_bytes (length runs) ++ flat_map run_bytes runs =
    sym has.spelled ∙ sym is.spelled in
    let parts = split-same has.head (four_bytes (length runs)) body (flat_map run_bytes runs) has.four same in
    subst (AreRunsFrom 0 (size_of e))
    (sym (ap runs_spelled parts.1 ∙ runs-back 0 (size_of e) runs (omega arith) are)) are

-- bytes that spell the longest runs of a set, and no others, are its bytes
pub body-word : (e : Extent) (bytes body : List ℕ) → size_of e ≤ 1048576 → ((i : ℕ) → get_or bytes i 0 < 256)
    → IsBodyOf bytes body → AreRunsFrom 0 (size_of e) (runs_spelled body) → is_set_word e bytes ≡ true
body-word e bytes body few small has are =
    let runs = runs_spelled body in
    let xs = flat_map indexes_of runs in
    let n = from_be_bytes w32 has.head in
    let pieces = subst (λ (ys : List ℕ). (i : ℕ) → get_or ys i 0 < 256) has.spelled small in
    let again = bytes-again n body has.long (small-right has.head body pieces) in
    let count = spelled-count n body has.long in
    let head : four_bytes (length runs) ≡ has.head =
    be_bytes_4 has.head (length runs) has.four (small-left has.head body pieces) count in
    let back : runs_of xs ≡ runs = runs_of-spelled 0 (size_of e) runs are in
    let spelled : set_bytes (record { extent = e; indexes = xs }) ≡ bytes =
    ap runs_bytes back ∙ ap₂ (λ (ys zs : List ℕ). ys ++ zs) head again ∙ sym has.spelled in
    subst (λ (bs : List ℕ). is_set_word e bs ≡ true) spelled
    (set-word e xs (omega arith) (runs-rising 0 (size_of e) runs are))

-- they are four for a number, and eight for each of so many runs
pub record IsLong (bytes : List ℕ) : Type 0 where
  pub four : 4 ≤ length bytes
  pub runs : length (drop 4 bytes) ≡ 8 * number_at (take 4 bytes) 0

pub word-long : (e : Extent) (bytes : List ℕ) → size_of e ≤ 1048576 → is_set_word e bytes ≡ true → IsLong bytes
word-long e bytes few word =
    let xs = (set_spelled e bytes).indexes in
    let is = word-set e bytes word in
    let runs = runs_of xs in
    let are = runs_of-longest 0 (size_of e) xs is.rising in
    let count = runs-length (size_of e) runs are in
    let number : number_at (take 4 (runs_bytes runs)) 0 ≡ length runs =
    from_be_bytes-to_be_bytes_4 (length runs) (omega arith) in
    let long : IsLong (runs_bytes runs) = record {
      four = omega arith;
      runs = runs-long runs ∙ ap (λ (n : ℕ). 8 * n) (sym number);
    } in
    subst IsLong is.spelled long

-- behind four bytes
behind : (head body : List ℕ) → length head ≡ 4 → drop 4 (head ++ body) ≡ body
behind (a ∷ b ∷ c ∷ d ∷ []) body four = refl
behind [] body four = absurd (omega arith)
behind (a ∷ []) body four = absurd (omega arith)
behind (a ∷ b ∷ []) body four = absurd (omega arith)
behind (a ∷ b ∷ c ∷ []) body four = absurd (omega arith)
behind (a ∷ b ∷ c ∷ d ∷ e ∷ body') body four = absurd (omega arith)

-- the set that they spell is that of the runs behind the number
pub spelled-body : (e : Extent) (bytes body : List ℕ) → IsBodyOf bytes body
    → set_spelled e bytes ≡ record { extent = e; indexes = flat_map indexes_of (runs_spelled body) }
spelled-body e bytes body has =
    let make : List ℕ → Cells = λ ys. record { extent = e; indexes = flat_map indexes_of (runs_spelled ys) } in
    ap make (ap (drop 4) has.spelled ∙ behind has.head body has.four)

-- the run of the eight bytes at a place is that of its number
pub record IsHere (body : List ℕ) (i : ℕ) (r : Run) : Type 0 where
  pub inside : i < length (runs_spelled body)
  pub at : get_or (runs_spelled body) i r ≡ r

pub run-here : (body : List ℕ) (i : ℕ) (r : Run) → length body % 8 ≡ 0 → i < length body / 8
    → r ≡ run_at body (i * 8) → IsHere body i r
run-here body i r whole below is =
    let long : length body ≡ 8 * (length body / 8) = omega (arith, whole) in
    record {
      inside = omega (arith, spelled-count (length body / 8) body long);
      at = spelled-at i (i * 8) body r (omega arith) (omega (arith, below)) ∙ sym is;
    }

-- what their runs add is the set that the bytes spell, and they have an asked index where it has an asked cell
pub word-added : (e : Extent) (bytes body : List ℕ) → size_of e ≤ 1048576 → IsBodyOf bytes body
    → is_set_word e bytes ≡ true → cells_at e (covers (runs_spelled body)) ≡ set_spelled e bytes
word-added e bytes body few has word =
    let set : Cells = record { extent = e; indexes = flat_map indexes_of (runs_spelled body) } in
    let spells : Spells (runs_spelled body) set = record {
      longest = word-body e bytes body few has word;
      spelled = refl;
    } in
    covers-spelled (runs_spelled body) set spells ∙ sym (spelled-body e bytes body has)

pub word-met : (from : Cells) (bytes body : List ℕ) → size_of from.extent ≤ 1048576
    → AreRising 0 (size_of from.extent) from.indexes → IsBodyOf bytes body → is_set_word from.extent bytes ≡ true
    → list_any (covers (runs_spelled body)) from.indexes ≡ any_cell (has (set_spelled from.extent bytes)) from
word-met from bytes body few rises there word =
    let e = from.extent in
    let are = word-body e bytes body few there word in
    let set : Cells = record { extent = e; indexes = flat_map indexes_of (runs_spelled body) } in
    let is : IsSetOf e set = record { extent = refl; rising = runs-rising 0 (size_of e) (runs_spelled body) are } in
    runs-met e set from (runs_spelled body) is refl rises (sym (runs_of-spelled 0 (size_of e) (runs_spelled body) are))
    ∙ ap (λ (s : Cells). any_cell (has s) from) (sym (spelled-body e bytes body there))
