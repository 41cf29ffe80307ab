-- What follows of the bytes of runs: they spell the runs, and from which least index on a further run may begin.
use Rattle.std.proofs.Common.{◌≡◌, ℕ, zero, suc, ◌+◌, ◌*◌, ◌<◌, ◌≤◌, List, [], ◌∷◌, ◌++◌, length}
use Rattle.std.proofs.Common.{take, drop, get_or, refl, sym, ap, ap₂, subst, ◌∙◌, arith, append_assoc}
use Rattle.std.proofs.Common.{length-append, length-drop}
use Rattle.std.specs.List.{flat_map}
use Rattle.std.specs.Int.{w32, from_be_bytes}
use Rattle.std.proofs.Math.Seq.{drop-drop, drop-append_seam}
use Rattle.std.proofs.lemmas.List.{get_or-drop}
use Rattle.std.proofs.lemmas.List.{take-append-drop}
use Rattle.std.proofs.Common.{drop-cons}
use Rattle.std.proofs.lemmas.Nat.{from_be_bytes-to_be_bytes_4, be_bytes_4}
use Rattle.sz_cells.specs.declared.Run.{Run}
use Rattle.sz_cells.specs.Extent.{Extent, size_of}
use Rattle.sz_cells.specs.Cells.{Cells}
use Rattle.sz_cells.specs.Runs.{AreRunsFrom, indexes_of, runs_of}
use Rattle.sz_cells.specs.Rising.{AreRising}
use Rattle.sz_cells.specs.SetBytes.{run_bytes, four_bytes, set_bytes, BeginsSet}
use Rattle.sz_cells.specs.SetWords.{runs_spelled}
use Rattle.sz_cells.proofs.Runs.{runs_of-longest, runs-length, runs_of-spelled, runs-rising}
use Rattle.sz_cells.proofs.LawsOfSets.{split-same, begins-one}
use Rattle.sz_cells.proofs.SetWords.{runs-back}
use Rattle.sz_region.specs.Taking.{number_at, run_at, runs_bytes, HasBody, HasNoRuns, NoneBegins}
use Rattle.sz_region.specs.LawsStores.{WrittenSetsAreRead}

-- the least index at which a run may begin behind these
abbrev pub end_of : ℕ → List Run → ℕ
end_of least [] = least
end_of least (r ∷ runs) = end_of (r.last + 2) runs

-- a further run that begins no earlier
pub runs-more : (least bound : ℕ) (runs : List Run) (r : Run) → AreRunsFrom least bound runs
    → end_of least runs ≤ r.first → r.first ≤ r.last → r.last < bound
    → AreRunsFrom least bound (runs ++ r ∷ [])
runs-more least bound [] r are low order high = (low, order, high, tt)
runs-more least bound (x ∷ runs) r are low order high =
    (are.0, are.1, are.2, runs-more (x.last + 2) bound runs r are.3 low order high)

-- what any further run has to keep
pub runs-next : (least bound : ℕ) (runs : List Run) (r : Run) (rest : List Run)
    → AreRunsFrom least bound (runs ++ r ∷ rest)
    → (end_of least runs ≤ r.first) × (r.first ≤ r.last) × (r.last < bound)
runs-next least bound [] r rest are = (are.0, are.1, are.2)
runs-next least bound (x ∷ runs) r rest are = runs-next (x.last + 2) bound runs r rest are.3

pub end-more : (least : ℕ) (runs : List Run) (r : Run) → end_of least (runs ++ r ∷ []) ≡ r.last + 2
end-more least [] r = refl
end-more least (x ∷ runs) r = end-more (x.last + 2) runs r

-- there is a run for each eight bytes
pub spelled-count : (n : ℕ) (body : List ℕ) → length body ≡ 8 * n → length (runs_spelled body) ≡ n
spelled-count zero [] long = refl
spelled-count zero (a ∷ body) long = absurd (omega arith)
spelled-count (suc n) (a ∷ b ∷ c ∷ d ∷ e ∷ f ∷ g ∷ h ∷ body) long =
    ap suc (spelled-count n body (omega arith))
spelled-count (suc n) [] long = absurd (omega arith)
spelled-count (suc n) (a ∷ []) long = absurd (omega arith)
spelled-count (suc n) (a ∷ b ∷ []) long = absurd (omega arith)
spelled-count (suc n) (a ∷ b ∷ c ∷ []) long = absurd (omega arith)
spelled-count (suc n) (a ∷ b ∷ c ∷ d ∷ []) long = absurd (omega arith)
spelled-count (suc n) (a ∷ b ∷ c ∷ d ∷ e ∷ []) long = absurd (omega arith)
spelled-count (suc n) (a ∷ b ∷ c ∷ d ∷ e ∷ f ∷ []) long = absurd (omega arith)
spelled-count (suc n) (a ∷ b ∷ c ∷ d ∷ e ∷ f ∷ g ∷ []) long = absurd (omega arith)

-- ---- the runs at their places

shift : (a b c d e f g h : ℕ) (body : List ℕ) (k j : ℕ) → k ≡ suc (suc (suc (suc (suc (suc (suc (suc j)))))))
    → get_or (a ∷ b ∷ c ∷ d ∷ e ∷ f ∷ g ∷ h ∷ body) k 0 ≡ get_or body j 0
shift a b c d e f g h body k j at = ap (λ (n : ℕ). get_or (a ∷ b ∷ c ∷ d ∷ e ∷ f ∷ g ∷ h ∷ body) n 0) at

number-shift : (a b c d e f g h : ℕ) (body : List ℕ) (k j : ℕ) → k ≡ j + 8
    → number_at (a ∷ b ∷ c ∷ d ∷ e ∷ f ∷ g ∷ h ∷ body) k ≡ number_at body j
number-shift a b c d e f g h body k j at =
    let make : ℕ → ℕ → ℕ → ℕ → ℕ = λ p q r s. from_be_bytes w32 (p ∷ q ∷ r ∷ s ∷ []) in
    let first = shift a b c d e f g h body k j (omega arith) in
    let second = shift a b c d e f g h body (k + 1) (j + 1) (omega arith) in
    let third = shift a b c d e f g h body (k + 2) (j + 2) (omega arith) in
    let fourth = shift a b c d e f g h body (k + 3) (j + 3) (omega arith) in
    let whole : List ℕ = a ∷ b ∷ c ∷ d ∷ e ∷ f ∷ g ∷ h ∷ body in
    ap (λ (z : ℕ). make z (get_or whole (k + 1) 0) (get_or whole (k + 2) 0) (get_or whole (k + 3) 0)) first
    ∙ ap (λ (z : ℕ). make (get_or body j 0) z (get_or whole (k + 2) 0) (get_or whole (k + 3) 0)) second
    ∙ ap (λ (z : ℕ). make (get_or body j 0) (get_or body (j + 1) 0) z (get_or whole (k + 3) 0)) third
    ∙ ap (λ (z : ℕ). make (get_or body j 0) (get_or body (j + 1) 0) (get_or body (j + 2) 0) z) fourth

-- the run of a number is that of the eight bytes at its place
pub spelled-at : (i k : ℕ) (body : List ℕ) (d : Run) → k ≡ 8 * i → k + 8 ≤ length body
    → get_or (runs_spelled body) i d ≡ run_at body k
spelled-at zero k (a ∷ b ∷ c ∷ e ∷ f ∷ g ∷ h ∷ j ∷ body) d at long =
    let none : k ≡ 0 = omega arith in
    sym (ap (run_at (a ∷ b ∷ c ∷ e ∷ f ∷ g ∷ h ∷ j ∷ body)) none)
spelled-at (suc i) k (a ∷ b ∷ c ∷ e ∷ f ∷ g ∷ h ∷ j ∷ body) d at long =
    let make : ℕ → ℕ → Run = λ x y. record { first = x; last = y } in
    spelled-at i (8 * i) body d refl (omega arith)
    ∙ sym (ap₂ make (number-shift a b c e f g h j body k (8 * i) (omega arith))
    (number-shift a b c e f g h j body (k + 4) (8 * i + 4) (omega arith)))
spelled-at i k [] d at long = absurd (omega arith)
spelled-at i k (a ∷ []) d at long = absurd (omega arith)
spelled-at i k (a ∷ b ∷ []) d at long = absurd (omega arith)
spelled-at i k (a ∷ b ∷ c ∷ []) d at long = absurd (omega arith)
spelled-at i k (a ∷ b ∷ c ∷ e ∷ []) d at long = absurd (omega arith)
spelled-at i k (a ∷ b ∷ c ∷ e ∷ f ∷ []) d at long = absurd (omega arith)
spelled-at i k (a ∷ b ∷ c ∷ e ∷ f ∷ g ∷ []) d at long = absurd (omega arith)
spelled-at i k (a ∷ b ∷ c ∷ e ∷ f ∷ g ∷ h ∷ []) d at long = absurd (omega arith)

-- where all runs are the longest ones of a set, the run at a place begins no earlier than it may, and is within
pub run-kept : (bound i : ℕ) (runs : List Run) (d : Run) → i < length runs → AreRunsFrom 0 bound runs
    → (end_of 0 (take i runs) ≤ (get_or runs i d).first) × ((get_or runs i d).first ≤ (get_or runs i d).last)
    × ((get_or runs i d).last < bound)
run-kept bound i runs d inside are =
    let parts : runs ≡ take i runs ++ get_or runs i d ∷ drop (suc i) runs =
    sym (take-append-drop i runs) ∙ ap (λ (xs : List Run). take i runs ++ xs) (drop-cons runs i d inside) in
    runs-next 0 bound (take i runs) (get_or runs i d) (drop (suc i) runs)
    (subst (AreRunsFrom 0 bound) parts are)

-- ---- the bytes again

four-small : (x y z w : ℕ) → x < 256 → y < 256 → z < 256 → w < 256 → (i : ℕ)
    → get_or (x ∷ y ∷ z ∷ w ∷ []) i 0 < 256
four-small x y z w p q r s zero = p
four-small x y z w p q r s (suc zero) = q
four-small x y z w p q r s (suc (suc zero)) = r
four-small x y z w p q r s (suc (suc (suc zero))) = s
four-small x y z w p q r s (suc (suc (suc (suc i)))) = omega arith

-- bytes of runs, each below 256, are those of the runs that they spell
pub bytes-again : (n : ℕ) (body : List ℕ) → length body ≡ 8 * n → ((i : ℕ) → get_or body i 0 < 256)
    → flat_map run_bytes (runs_spelled body) ≡ body
bytes-again zero [] long small = refl
bytes-again zero (a ∷ body) long small = absurd (omega arith)
bytes-again (suc n) (a ∷ b ∷ c ∷ d ∷ e ∷ f ∷ g ∷ h ∷ body) long small =
    let first = be_bytes_4 (a ∷ b ∷ c ∷ d ∷ []) (from_be_bytes w32 (a ∷ b ∷ c ∷ d ∷ [])) refl
    (four-small a b c d (small 0) (small 1) (small 2) (small 3)) refl in
    let last = be_bytes_4 (e ∷ f ∷ g ∷ h ∷ []) (from_be_bytes w32 (e ∷ f ∷ g ∷ h ∷ [])) refl
    (four-small e f g h (small 4) (small 5) (small 6) (small 7)) refl in
    let rest = bytes-again n body (omega arith)
    (λ i. small (suc (suc (suc (suc (suc (suc (suc (suc i))))))))) in
    ap₂ (λ (xs ys : List ℕ). xs ++ ys) (ap₂ (λ (xs ys : List ℕ). xs ++ ys) first last) rest
bytes-again (suc n) [] long small = absurd (omega arith)
bytes-again (suc n) (a ∷ []) long small = absurd (omega arith)
bytes-again (suc n) (a ∷ b ∷ []) long small = absurd (omega arith)
bytes-again (suc n) (a ∷ b ∷ c ∷ []) long small = absurd (omega arith)
bytes-again (suc n) (a ∷ b ∷ c ∷ d ∷ []) long small = absurd (omega arith)
bytes-again (suc n) (a ∷ b ∷ c ∷ d ∷ e ∷ []) long small = absurd (omega arith)
bytes-again (suc n) (a ∷ b ∷ c ∷ d ∷ e ∷ f ∷ []) long small = absurd (omega arith)
bytes-again (suc n) (a ∷ b ∷ c ∷ d ∷ e ∷ f ∷ g ∷ []) long small = absurd (omega arith)

-- how long the bytes of runs are
pub runs-long : (runs : List Run) → length (flat_map run_bytes runs) ≡ 8 * length runs
runs-long [] = refl
runs-long (r ∷ runs) = omega (arith, runs-long runs)

-- a part of small bytes is small
pub small-drop : (n : ℕ) (xs : List ℕ) → ((i : ℕ) → get_or xs i 0 < 256) → (i : ℕ) → get_or (drop n xs) i 0 < 256
small-drop n xs small i = omega (arith, get_or-drop n xs i 0, small (n + i))

pub small-left : (xs ys : List ℕ) → ((i : ℕ) → get_or (xs ++ ys) i 0 < 256) → (i : ℕ) → get_or xs i 0 < 256
small-left [] ys small i = omega arith
small-left (x ∷ xs) ys small zero = small 0
small-left (x ∷ xs) ys small (suc i) = small-left xs ys (λ k. small (suc k)) i

pub small-right : (xs ys : List ℕ) → ((i : ℕ) → get_or (xs ++ ys) i 0 < 256) → (i : ℕ) → get_or ys i 0 < 256
small-right [] ys small i = small i
small-right (x ∷ xs) ys small i = small-right xs ys (λ k. small (suc k)) i

-- ---- reading

-- where there are too few bytes for any runs, no set begins
pub none-begins : (e : Extent) (bytes : List ℕ) (at : ℕ) → size_of e ≤ 1048576 → HasNoRuns bytes at
    → NoneBegins e bytes at
none-begins e bytes at few none next set begins =
    let is = begins.is_set in
    let are = runs_of-longest 0 (size_of e) set.indexes is.rising in
    none (runs_of set.indexes) begins.rest
    (omega (arith, runs-length (size_of e) (runs_of set.indexes) are)) begins.spelled

-- where the bytes of runs spell none that are the longest ones of a set, no set begins
pub none-spelled : (e : Extent) (bytes : List ℕ) (at : ℕ) (body : List ℕ) → size_of e ≤ 1048576
    → HasBody bytes at body → (AreRunsFrom 0 (size_of e) (runs_spelled body) → ⊥) → NoneBegins e bytes at
none-spelled e bytes at body few has none next set begins =
    let runs = runs_of set.indexes in
    let are = runs_of-longest 0 (size_of e) set.indexes begins.is_set.rising in
    let count = runs-length (size_of e) runs are in
    let same : has.head ++ (body ++ has.rest) ≡ four_bytes (length runs) ++ (flat_map run_bytes runs ++ begins.rest) =
    sym has.spelled ∙ begins.spelled in
    let outer = split-same has.head (four_bytes (length runs)) (body ++ has.rest)
    (flat_map run_bytes runs ++ begins.rest) has.four same in
    let number : from_be_bytes w32 has.head ≡ length runs =
    ap (from_be_bytes w32) outer.0 ∙ from_be_bytes-to_be_bytes_4 (length runs) (omega arith) in
    let inner = split-same body (flat_map run_bytes runs) has.rest begins.rest
    (omega (arith, has.long, runs-long runs, number)) outer.1 in
    none (subst (AreRunsFrom 0 (size_of e)) (sym (ap runs_spelled inner.0
    ∙ runs-back 0 (size_of e) runs (omega arith) are)) are)

-- what is behind two parts
ends-behind : (at : ℕ) (bytes head body rest : List ℕ) → length head ≡ 4
    → drop at bytes ≡ head ++ (body ++ rest) → drop (at + 4 + length body) bytes ≡ rest
ends-behind at bytes head body rest four spelled =
    let far : at + 4 + length body ≡ at + length (head ++ body) = omega (arith, length-append head body) in
    ap (λ (n : ℕ). drop n bytes) far ∙ sym (drop-drop (length (head ++ body)) at bytes)
    ∙ ap (λ (xs : List ℕ). drop (length (head ++ body)) xs) (spelled ∙ sym (append_assoc head body rest))
    ∙ drop-append_seam (head ++ body) rest

-- where they spell the longest ones of a set, that set begins, and ends behind them
pub begins-spelled : (e : Extent) (bytes : List ℕ) (at : ℕ) (body : List ℕ) (set : Cells)
    → ((i : ℕ) → get_or bytes i 0 < 256) → size_of e ≤ 1048576
    → HasBody bytes at body → AreRunsFrom 0 (size_of e) (runs_spelled body)
    → set ≡ record { extent = e; indexes = flat_map indexes_of (runs_spelled body) }
    → BeginsSet e bytes at (at + 4 + length body) set
begins-spelled e bytes at body set small few has are is =
    let runs = runs_spelled body in
    let pieces = subst (λ (xs : List ℕ). (i : ℕ) → get_or xs i 0 < 256) has.spelled (small-drop at bytes small) in
    let small_body = small-left body has.rest (small-right has.head (body ++ has.rest) pieces) in
    let again = bytes-again (from_be_bytes w32 has.head) body has.long small_body in
    let count = spelled-count (from_be_bytes w32 has.head) body has.long in
    let head : four_bytes (length runs) ≡ has.head =
    be_bytes_4 has.head (length runs) has.four (small-left has.head (body ++ has.rest) pieces) count in
    let back : runs_of set.indexes ≡ runs = ap (λ (s : Cells). runs_of s.indexes) is
    ∙ runs_of-spelled 0 (size_of e) runs are in
    let spelled : set_bytes set ≡ has.head ++ body =
    ap runs_bytes back ∙ ap₂ (λ (xs ys : List ℕ). xs ++ ys) head again in
    record {
      is_set = record {
        extent = ap (λ (s : Cells). s.extent) is;
        rising = subst (λ (s : Cells). AreRising 0 (size_of e) s.indexes) (sym is)
            (runs-rising 0 (size_of e) runs are);
      };
      rest = has.rest;
      spelled = has.spelled ∙ sym (append_assoc has.head body has.rest)
          ∙ ap (λ (xs : List ℕ). xs ++ has.rest) (sym spelled);
      ends = ends-behind at bytes has.head body has.rest has.four has.spelled;
    }

-- and how far it reaches
pub reaches : (at : ℕ) (bytes body : List ℕ) → HasBody bytes at body
    → at + 4 + length body ≤ length bytes
reaches at bytes body has =
    omega (
      arith,
      ap length has.spelled,
      length-drop at bytes,
      length-append has.head (body ++ has.rest),
      has.four,
      length-append body has.rest,
    )

-- ---- the laws

-- what is written is read again, and nothing else
pub written-read : WrittenSetsAreRead
written-read e before set rest within is =
    let start = drop-append_seam before (set_bytes set ++ rest) in
    let begins : BeginsSet e (before ++ (set_bytes set ++ rest)) (length before)
    (length before + length (set_bytes set)) set = record {
      is_set = is;
      rest = rest;
      spelled = start;
      ends = sym (drop-drop (length (set_bytes set)) (length before) (before ++ (set_bytes set ++ rest)))
          ∙ ap (λ (xs : List ℕ). drop (length (set_bytes set)) xs) start
          ∙ drop-append_seam (set_bytes set) rest;
    } in (
      begins,
      λ other next second inside.
          let one = begins-one e (before ++ (set_bytes set ++ rest)) (length before)
          (length before + length (set_bytes set)) next set other within begins second
          (omega (arith, length-append before (set_bytes set ++ rest), length-append (set_bytes set) rest)) inside in
          (sym one.0, sym one.1),
    )
