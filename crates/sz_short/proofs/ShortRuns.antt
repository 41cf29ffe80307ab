-- What follows of the short bytes of runs and of sets: they are read back, and do not begin one another.
--
-- The key idea: from which index on a run may begin is known from the runs before it, so its gap and its length say
-- which run it is; and so the runs of two lists that begin one list of bytes are the same one after another.
use Rattle.std.proofs.Common.{◌≡◌, ℕ, ◌+◌, ◌-◌, ◌<◌, ◌≤◌, List, [], ◌∷◌, ◌++◌, length, drop, refl, sym, ap, ap₂}
use Rattle.std.proofs.Common.{subst, ◌∙◌, arith, append_assoc, length-append, length-drop}
use Rattle.std.specs.List.{flat_map}
use Rattle.std.proofs.Math.Seq.{drop-drop, drop-append_seam}
use Rattle.std.proofs.lemmas.List.{append-nil}
use Rattle.sz_cells.specs.declared.Run.{Run}
use Rattle.sz_cells.specs.Extent.{Extent, size_of}
use Rattle.sz_cells.specs.Cells.{Cells}
use Rattle.sz_cells.specs.Rising.{AreRising}
use Rattle.sz_cells.specs.Runs.{AreRunsFrom, indexes_of, runs_of}
use Rattle.sz_cells.specs.SetBytes.{IsSetOf}
use Rattle.sz_cells.proofs.Shapes.{sides}
use Rattle.sz_cells.proofs.Runs.{runs_of-longest, runs-length, runs_of-spelled, runs-rising, spelled-runs_of}
use Rattle.sz_region.specs.Counted.{IsAt}
use Rattle.sz_region.specs.Stores.{NoneAt}
use Rattle.sz_region.proofs.Spans.{IsPrefixFree, at-both}
use Rattle.sz_region.proofs.Spelling.{end_of}
use Rattle.sz_short.specs.ShortNumber.{short_number, IsSmall}
use Rattle.sz_short.specs.ShortSets.{short_run, short_runs, short_runs_bytes, short_set_bytes, BeginsShortSet}
use Rattle.sz_short.specs.ShortSets.{NoShortSetBegins, IsRunFrom}
use Rattle.sz_short.specs.Laws.{BytesAreOneShortSet, OneShortSetBegins, WrittenShortSetsAreRead}
use Rattle.sz_short.proofs.ShortNumbers.{short-free, number-some}

-- ---- one run

-- a run is known by its bytes, whatever follows
run-free : (from bound : ℕ) → bound ≤ 1048576 → IsPrefixFree (IsRunFrom from bound) (short_run from)
run-free from bound few r s x y is are same =
    let behind = short_number (r.last - r.first) in
    let other = short_number (s.last - s.first) in
    let whole : short_number (r.first - from) ++ (behind ++ x) ≡ short_number (s.first - from) ++ (other ++ y) =
    sym (append_assoc (short_number (r.first - from)) behind x) ∙ same
    ∙ append_assoc (short_number (s.first - from)) other y in
    let gaps = short-free (r.first - from) (s.first - from) (behind ++ x) (other ++ y)
    (omega (arith, is.order, is.ends)) (omega (arith, are.order, are.ends)) whole in
    let longs = short-free (r.last - r.first) (s.last - s.first) x y (omega (arith, is.ends))
    (omega (arith, are.ends)) gaps.1 in
    let make : ℕ → ℕ → Run = λ f l. record { first = f; last = l } in
    let first : r.first ≡ s.first = omega (arith, gaps.0, is.begins, are.begins) in
    let last : r.last ≡ s.last = omega (arith, longs.0, is.order, are.order) in
    (ap₂ make first last, longs.1)

-- no gap is there
pub none-gap : (from bound : ℕ) (bytes : List ℕ) (at : ℕ) → bound ≤ 1048576 → NoneAt IsSmall short_number bytes at
    → NoneAt (IsRunFrom from bound) (short_run from) bytes at
none-gap from bound bytes at few none r rest is spelled =
    none (r.first - from) (short_number (r.last - r.first) ++ rest) (omega (arith, is.order, is.ends))
    (spelled ∙ append_assoc (short_number (r.first - from)) (short_number (r.last - r.first)) rest)

-- a gap that was read is that of any run that begins there
gap-read : (from bound : ℕ) (bytes : List ℕ) (at place gap : ℕ) (r : Run) (rest : List ℕ) → bound ≤ 1048576
    → IsSmall gap → IsAt bytes at place (short_number gap) → IsRunFrom from bound r
    → drop at bytes ≡ short_run from r ++ rest
    → (gap ≡ r.first - from) × (drop place bytes ≡ short_number (r.last - r.first) ++ rest)
gap-read from bound bytes at place gap r rest few small read is spelled =
    short-free gap (r.first - from) (drop place bytes) (short_number (r.last - r.first) ++ rest) small
    (omega (arith, is.order, is.ends))
    (sym read.spelled ∙ spelled ∙ append_assoc (short_number (r.first - from)) (short_number (r.last - r.first)) rest)

-- nothing is said of the cells behind the first
pub none-behind : (from bound : ℕ) (bytes : List ℕ) (at place gap : ℕ) → bound ≤ 1048576 → IsSmall gap
    → IsAt bytes at place (short_number gap) → NoneAt IsSmall short_number bytes place
    → NoneAt (IsRunFrom from bound) (short_run from) bytes at
none-behind from bound bytes at place gap few small read none r rest is spelled =
    none (r.last - r.first) rest (omega (arith, is.ends))
    (gap-read from bound bytes at place gap r rest few small read is spelled).1

-- the run ends too far behind
pub none-far : (from bound : ℕ) (bytes : List ℕ) (at place next gap behind : ℕ) → bound ≤ 1048576 → IsSmall gap
    → IsSmall behind → IsAt bytes at place (short_number gap) → IsAt bytes place next (short_number behind)
    → bound ≤ from + gap + behind → NoneAt (IsRunFrom from bound) (short_run from) bytes at
none-far from bound bytes at place next gap behind few small little read more far r rest is spelled =
    let first = gap-read from bound bytes at place gap r rest few small read is spelled in
    let last = short-free behind (r.last - r.first) (drop next bytes) rest little (omega (arith, is.ends))
    (sym more.spelled ∙ first.1) in
    omega (arith, first.0, last.0, is.begins, is.order, is.ends)

-- both numbers of a run
pub reads-run : (from : ℕ) (bytes : List ℕ) (at place next gap behind : ℕ) → IsAt bytes at place (short_number gap)
    → IsAt bytes place next (short_number behind)
    → IsAt bytes at next (short_run from (record { first = from + gap; last = from + gap + behind }))
reads-run from bytes at place next gap behind read more =
    let first : gap ≡ from + gap - from = omega arith in
    let last : behind ≡ from + gap + behind - (from + gap) = omega arith in
    subst (IsAt bytes at next) (ap₂ (λ (m n : ℕ). short_number m ++ short_number n) first last)
    (at-both bytes at place next (short_number gap) (short_number behind) read more)

-- ---- runs one after another

-- what is left of runs that begin with others
abbrev pub RunsGoOn : ℕ → ℕ → List Run → List Run → List ℕ → List ℕ → Type 0
RunsGoOn from bound xs ys a b = (zs : List Run) × (ys ≡ xs ++ zs) × AreRunsFrom (end_of from xs) bound zs
    × (a ≡ short_runs (end_of from xs) zs ++ b)

runs-go-on : (from bound : ℕ) (xs ys : List Run) (a b : List ℕ) → bound ≤ 1048576 → AreRunsFrom from bound xs
    → AreRunsFrom from bound ys → length xs ≤ length ys → short_runs from xs ++ a ≡ short_runs from ys ++ b
    → RunsGoOn from bound xs ys a b
runs-go-on from bound [] ys a b few are be long same = (ys, refl, be, same)
runs-go-on from bound (r ∷ xs) [] a b few are be long same = absurd (omega arith)
runs-go-on from bound (r ∷ xs) (s ∷ ys) a b few are be long same =
    let one = run-free from bound few r s (short_runs (r.last + 2) xs ++ a) (short_runs (s.last + 2) ys ++ b)
    (record { begins = are.0; order = are.1; ends = are.2 }) (record { begins = be.0; order = be.1; ends = be.2 })
    (sym (append_assoc (short_run from r) (short_runs (r.last + 2) xs) a) ∙ same
    ∙ append_assoc (short_run from s) (short_runs (s.last + 2) ys) b) in
    let last : s.last ≡ r.last = ap (λ (t : Run). t.last) (sym one.0) in
    let rest = runs-go-on (r.last + 2) bound xs ys a b few are.3
    (subst (λ (k : ℕ). AreRunsFrom (k + 2) bound ys) last be.3) (omega arith)
    (one.1 ∙ ap (λ (k : ℕ). short_runs (k + 2) ys ++ b) last) in
    (rest.0, ap₂ (λ (z : Run) (zs : List Run). z ∷ zs) (sym one.0) rest.1, rest.2, rest.3)

-- as many runs are the same ones
runs-same : (from bound : ℕ) (xs ys : List Run) (a b : List ℕ) → bound ≤ 1048576 → AreRunsFrom from bound xs
    → AreRunsFrom from bound ys → length xs ≡ length ys → short_runs from xs ++ a ≡ short_runs from ys ++ b
    → (xs ≡ ys) × (a ≡ b)
runs-same from bound xs ys a b few are be long same =
    let on = runs-go-on from bound xs ys a b few are be (omega arith) same in
    let next : (zs : List Run) → ys ≡ xs ++ zs → a ≡ short_runs (end_of from xs) zs ++ b → (xs ≡ ys) × (a ≡ b) = elim [
      | [] ↦ λ one there. (sym (one ∙ append-nil xs), there)
      | z ∷ zs ↦ λ one there. absurd (omega (arith, ap length one, length-append xs (z ∷ zs), long))
    ] in
    next on.0 on.1 on.3

-- one more run
pub runs-read : (from : ℕ) (runs : List Run) (r : Run)
    → short_runs from (runs ++ r ∷ []) ≡ short_runs from runs ++ short_run (end_of from runs) r
runs-read from [] r = append-nil (short_run from r)
runs-read from (x ∷ runs) r =
    ap (λ (w : List ℕ). short_run from x ++ w) (runs-read (x.last + 2) runs r)
    ∙ sym (append_assoc (short_run from x) (short_runs (x.last + 2) runs) (short_run (end_of (x.last + 2) runs) r))

-- ---- sets

pub set-free : (e : Extent) → size_of e ≤ 1048576 → IsPrefixFree (IsSetOf e) short_set_bytes
set-free e few a b x y is are same =
    let rs = runs_of a.indexes in
    let ss = runs_of b.indexes in
    let longest = runs_of-longest 0 (size_of e) a.indexes is.rising in
    let other = runs_of-longest 0 (size_of e) b.indexes are.rising in
    let whole : short_number (length rs) ++ (short_runs 0 rs ++ x) ≡ short_number (length ss) ++ (short_runs 0 ss ++ y)
    = sym (append_assoc (short_number (length rs)) (short_runs 0 rs) x) ∙ same
    ∙ append_assoc (short_number (length ss)) (short_runs 0 ss) y in
    let count = short-free (length rs) (length ss) (short_runs 0 rs ++ x) (short_runs 0 ss ++ y)
    (omega (arith, few, runs-length (size_of e) rs longest))
    (omega (arith, few, runs-length (size_of e) ss other)) whole in
    let runs = runs-same 0 (size_of e) rs ss x y few longest other count.0 count.1 in
    let indexes : a.indexes ≡ b.indexes =
    sym (spelled-runs_of 0 (size_of e) a.indexes is.rising) ∙ ap (flat_map indexes_of) runs.0
    ∙ spelled-runs_of 0 (size_of e) b.indexes are.rising in
    let make : Extent → List ℕ → Cells = λ f xs. record { extent = f; indexes = xs } in
    (ap₂ make (is.extent ∙ sym are.extent) indexes, runs.1)

-- no number of runs is there
pub none-number : (e : Extent) (bytes : List ℕ) (at : ℕ) → size_of e ≤ 1048576 → NoneAt IsSmall short_number bytes at
    → NoShortSetBegins e bytes at
none-number e bytes at few none next set begins =
    let runs = runs_of set.indexes in
    let are = runs_of-longest 0 (size_of e) set.indexes begins.is_set.rising in
    none (length runs) (short_runs 0 runs ++ begins.rest) (omega (arith, few, runs-length (size_of e) runs are))
    (begins.spelled ∙ append_assoc (short_number (length runs)) (short_runs 0 runs) begins.rest)

-- the next run is not there
pub none-next : (e : Extent) (bytes : List ℕ) (at first place count : ℕ) (xs : List Run) → size_of e ≤ 1048576
    → IsSmall count → IsAt bytes at first (short_number count) → AreRunsFrom 0 (size_of e) xs
    → IsAt bytes first place (short_runs 0 xs) → length xs < count
    → NoneAt (IsRunFrom (end_of 0 xs) (size_of e)) (short_run (end_of 0 xs)) bytes place → NoShortSetBegins e bytes at
none-next e bytes at first place count xs few small number are read less none next set begins =
    let runs = runs_of set.indexes in
    let be = runs_of-longest 0 (size_of e) set.indexes begins.is_set.rising in
    let counts = short-free count (length runs) (drop first bytes) (short_runs 0 runs ++ begins.rest) small
    (omega (arith, few, runs-length (size_of e) runs be))
    (sym number.spelled ∙ begins.spelled ∙ append_assoc (short_number (length runs)) (short_runs 0 runs) begins.rest) in
    let on = runs-go-on 0 (size_of e) xs runs (drop place bytes) begins.rest few are be (omega (arith, counts.0))
    (sym read.spelled ∙ counts.1) in
    let last : (zs : List Run) → runs ≡ xs ++ zs → AreRunsFrom (end_of 0 xs) (size_of e) zs
    → drop place bytes ≡ short_runs (end_of 0 xs) zs ++ begins.rest → ⊥ = elim [
      | [] ↦ λ same rest there. omega (arith, ap length same, length-append xs [], counts.0)
      | z ∷ zs ↦ λ same rest there.
          none z (short_runs (z.last + 2) zs ++ begins.rest)
          (record { begins = rest.0; order = rest.1; ends = rest.2 })
          (there ∙ append_assoc (short_run (end_of 0 xs) z) (short_runs (z.last + 2) zs) begins.rest)
    ] in
    last on.0 on.1 on.2 on.3

-- all runs are there
pub reads-set : (e : Extent) (bytes : List ℕ) (at next : ℕ) (runs : List Run) (set : Cells)
    → AreRunsFrom 0 (size_of e) runs → IsAt bytes at next (short_runs_bytes runs)
    → set ≡ record { extent = e; indexes = flat_map indexes_of runs } → BeginsShortSet e bytes at next set
reads-set e bytes at next runs set are read is =
    let back : runs_of set.indexes ≡ runs = ap (λ (s : Cells). runs_of s.indexes) is
    ∙ runs_of-spelled 0 (size_of e) runs are in
    record {
      is_set = record {
        extent = ap (λ (s : Cells). s.extent) is;
        rising = subst (λ (s : Cells). AreRising 0 (size_of e) s.indexes) (sym is)
            (runs-rising 0 (size_of e) runs are);
      };
      rest = drop next bytes;
      spelled = read.spelled ∙ ap (λ (rs : List Run). short_runs_bytes rs ++ drop next bytes) (sym back);
      ends = refl;
    }

-- ---- the laws

pub sets-one : BytesAreOneShortSet
sets-one e a b x y within is are same = set-free e (sides e within).5 a b x y is are same

set-some : (set : Cells) → 0 < length (short_set_bytes set)
set-some set =
    let runs = runs_of set.indexes in
    omega (arith, number-some (length runs), length-append (short_number (length runs)) (short_runs 0 runs))

pub begins-one : OneShortSetBegins
begins-one e bytes at next other a b within first second inside there =
    let one = sets-one e a b first.rest second.rest within first.is_set second.is_set (sym first.spelled
    ∙ second.spelled) in
    let long = ap length first.spelled ∙ length-append (short_set_bytes a) first.rest in
    let some = set-some a in
    let ends = ap length first.ends in
    let others = ap length second.ends in
    let rests = ap length one.1 in (
      one.0,
      omega (arith, length-drop next bytes, length-drop other bytes, ends, others, rests),
      omega (arith, length-drop next bytes, length-drop at bytes, ends, long, some),
    )

pub written-read : WrittenShortSetsAreRead
written-read e set before rest within is =
    let word = short_set_bytes set in
    let bytes = before ++ (word ++ rest) in
    let start = drop-append_seam before (word ++ rest) in
    let begins : BeginsShortSet e bytes (length before) (length before + length word) set = record {
      is_set = is;
      rest = rest;
      spelled = start;
      ends = sym (drop-drop (length word) (length before) bytes) ∙ ap (λ (xs : List ℕ). drop (length word) xs) start
          ∙ drop-append_seam word rest;
    } in (
      begins,
      λ other next second inside.
          let one = begins-one e bytes (length before) (length before + length word) next set other within begins second
          (omega (arith, length-append before (word ++ rest), length-append word rest)) inside in
          (sym one.0, sym one.1),
    )
