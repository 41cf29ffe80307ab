-- What the cells of a piece write fits it.
--
-- The key idea: each cell of the piece that is kept is in the group of just one that leads. So whatever is looked for
-- among the entries of those that lead, "some entry has o and passes", is the test of o, since a test of the lineage or
-- of the payload is the same for all cells of a kind.
use Rattle.std.proofs.Common.{inl, inr, true≢false, ◌≡◌, ℕ, zero, suc, ◌+◌, ◌*◌, ◌/◌, ◌-◌, ◌<◌}
use Rattle.std.proofs.Common.{◌≤◌, ◌==◌, Bool, true, false, not, ◌&&◌, List, Some, None, Option}
use Rattle.std.proofs.Common.{[], ◌∷◌, ◌++◌, length, map, refl, sym, ap, ap₂, subst, ◌∙◌, arith}
use Rattle.std.proofs.Common.{eqb-true, eq-eqb}
use Rattle.std.specs.Prelude.{if◌then◌else◌, unwrap_or, min}
use Rattle.std.specs.List.{All, filter, list_any, range_with_len, slice_get}
use Rattle.std.proofs.Math.Bool.{and_comm}
use Rattle.std.proofs.lemmas.Bool.{cases_Bool, and_parts, and_from, or_cases, false_from_ne_true}
use Rattle.std.proofs.lemmas.List.{map-append, append-nil, length-map}
use Rattle.std.proofs.lemmas.List.Elements.{All-nil, All-cons, All-head, All-tail, filter-append}
use Rattle.std.proofs.lemmas.List.FromFn.{map-range_with_len_more, get_or-map-range_with_len}
use Rattle.std.proofs.lemmas.List.FromFn.{length-map-range_with_len, length-range_with_len}
use Rattle.std.proofs.lemmas.List.Sums.{length-filter, count_by-le-length}
use Rattle.std.proofs.lemmas.Option.{slice_get-get_or}
use Rattle.sz_cells.specs.declared.Cell.{Cell}
use Rattle.sz_cells.specs.Extent.{Extent, size_of, holds, index_of, cell_of}
use Rattle.sz_cells.specs.Cells.{Cells, has, no_cells}
use Rattle.sz_cells.proofs.Sets.{cell-index, cell-held, index-below, has-cells_where, has-cells_where_any}
use Rattle.sz_spec.specs.declared.modes.Mode.{Mode}
use Rattle.sz_spec.specs.declared.modes.Mode.TheVariants as mode
use Rattle.sz_spec.specs.declared.modes.Strategy.{Strategy}
use Rattle.sz_spec.specs.declared.op.Op.{Op}
use Rattle.sz_spec.specs.Values.{Grid, no_extent, extent_at}
use Rattle.sz_spec.specs.Shapes.{Site}
use Rattle.sz_spec.specs.Lineage.{related, mapped}
use Rattle.sz_spec.specs.Work.{IsAtWork}
use Rattle.sz_spec.specs.Modes.{has_mapping, has_mode, mode_of, supports}
use Rattle.sz_spec.specs.Payloads.{payload_of, overrides, mapped_by_payload}
use Rattle.sz_spec.specs.Pieces.{is_in_piece, pieces_of}
use Rattle.sz_spec.proofs.PayloadLineage.{payload-lawful, payload-stands, default-related}
use Rattle.sz_frame.specs.declared.groups.Keeping.{Keeping}
use Rattle.sz_frame.specs.declared.groups.Keeping.TheVariants.{Nothing, Alone, Kind}
use Rattle.sz_frame.specs.Parts.{Pairing, Entry, Parts, no_parts}
use Rattle.sz_frame.specs.Stands.{set_of, has_entry, pay_stands}
use Rattle.sz_frame.specs.Fits.{Measure, IsInside, IsRegion, IsEntry, AreApart, FitsFull, FitsPay}
use Rattle.sz_frame.specs.Fits.{FitsComp, Fits, is_mode, needs}
use Rattle.sz_frame.specs.Images.{measure_of, related_cells}
use Rattle.sz_frame.specs.Groups.{lineage_kind, payload_kind, keeping_of, are_together, keeping_at}
use Rattle.sz_frame.specs.Groups.{leads, is_with, group_at}
use Rattle.sz_frame.specs.Written.{full_keeping, pay_keeping, comp_keeping, keepings, leaders_below}
use Rattle.sz_frame.specs.Written.{region_by, regions_by, entry_by, entries_by, with_entries}
use Rattle.sz_frame.specs.Written.{cells_in_piece}
use Rattle.sz_frame.proofs.Added.{any-filter, any-range_ext}
use Rattle.sz_frame.proofs.Passing.{any-map, any-ext}
use Rattle.sz_frame.proofs.Grouping.{is_kept, with-inside, leaders-apart, led, keepings-length, keepings-at}
use Rattle.sz_frame.proofs.Grouping.{leaders-none, later-passes}
use Rattle.sz_frame.proofs.OneKind.{lineage-same, payload-same}

-- ---- lists

-- a range with one number more
range-more : (a n j : ℕ) → a + n ≡ j → range_with_len a (n + 1) ≡ range_with_len a n ++ j ∷ []
range-more a zero j at = let same : a ≡ j = omega arith in ap (λ (k : ℕ). k ∷ []) same
range-more a (suc n) j at =
    let more : suc n + 1 ≡ suc (n + 1) = omega arith in
    ap (λ m. range_with_len a m) more ∙ ap (λ xs. a ∷ xs) (range-more (a + 1) n j (omega arith))

-- what holds of each number of a range that passes
All-range : {X : Type 0} (P : X → Type 0) (f : ℕ → X) (p : ℕ → Bool) (a n : ℕ) → ((j : ℕ) → a ≤ j
    → j < a + n → P (f j))
    → All P (map f (filter p (range_with_len a n)))
All-range P f p a zero h = All-nil P
All-range P f p a (suc n) h =
    let rest = All-range P f p (a + 1) n (λ j low high. h j (omega arith) (omega arith)) in
    elim (cases_Bool (p a)) [
      | inl t ↦
          rw t (All-cons P (f a) (map f (filter p (range_with_len (a + 1) n))) (h a (omega arith) (omega arith)) rest)
      | inr skips ↦ rw skips rest
    ]

-- what f makes of a number of a range, by its place
at-range : {X : Type 0} (f : ℕ → X) (n i : ℕ) (d : X) → i < n
    → unwrap_or (slice_get (map f (range_with_len 0 n)) i) d ≡ f i
at-range f n i d inside =
    ap (λ o. unwrap_or o d)
    (slice_get-get_or (map f (range_with_len 0 n)) i d (omega (arith, length-map-range_with_len f 0 n)))
    ∙ get_or-map-range_with_len f 0 n i i d inside (omega arith)

-- ---- pieces

-- a cell of a piece is that at a place of it
piece-place : (e : Extent) (k : ℕ) (o : Cell) → is_in_piece e k o ≡ true
    → (holds e o ≡ true) × ((q : ℕ) × (q < cells_in_piece e k) × (k * 64 + q ≡ index_of e o))
piece-place e k o h =
    let both = and_parts (holds e o) (index_of e o / 64 == k) h in
    let at = eqb-true (index_of e o / 64) k both.1 in
    let below = index-below e o both.0 in
    (both.0, (index_of e o - k * 64, omega (arith, at, below), omega (arith, at)))

-- the cell of an index of a piece is one of it
index-piece : (e : Extent) (k : ℕ) (o : Cell) → holds e o ≡ true → k * 64 ≤ index_of e o
    → index_of e o < k * 64 + cells_in_piece e k → is_in_piece e k o ≡ true
index-piece e k o held low high =
    and_from (holds e o) (index_of e o / 64 == k) held (eq-eqb (index_of e o / 64) k (omega arith))

-- a group is inside its piece
group-inside : (m : Measure) (k : ℕ) (kept : List Keeping) (p : ℕ) → length kept ≡ cells_in_piece m.out k
    → p < length kept → IsInside m k (group_at m.out (k * 64) kept p)
group-inside m k kept p long inside = record {
  shape = refl;
  inside = λ o there.
      let both = and_parts (holds m.out o) (is_with (k * 64) kept p (index_of m.out o))
      (sym (has-cells_where_any m.out (λ c. is_with (k * 64) kept p (index_of m.out c)) o) ∙ there) in
      let within = with-inside (k * 64) kept p (index_of m.out o) inside both.1 in
      index-piece m.out k o both.0 within.0 (omega (arith, within.1, long));
}

-- ---- region pairs

-- the shapes of sets made from one place on
shapes-of : (f : ℕ → Cells) (xs ys : List Extent) (a : ℕ) → ((i : ℕ) → (f i).extent ≡ extent_at xs i)
    → ((i : ℕ) → extent_at xs (a + i) ≡ extent_at ys i) → map (λ c. c.extent) (map f (range_with_len a
    (length ys))) ≡ ys
shapes-of f xs [] a same at = refl
shapes-of f xs (y ∷ ys) a same at =
    let here : a ≡ a + 0 = omega arith in
    let there : (i : ℕ) → a + 1 + i ≡ a + suc i = λ i. omega arith in
    ap₂ (λ (e : Extent) (es : List Extent). e ∷ es) (same a ∙ ap (extent_at xs) here ∙ at 0)
    (shapes-of f xs ys (a + 1) same (λ i. ap (extent_at xs) (there i) ∙ at (suc i)))

-- a region pair is one of the operator's shapes
region-right : (s : Site) (inputs : List Grid) (k : ℕ) (kept : List Keeping) (p : ℕ)
    → length kept ≡ cells_in_piece s.out k → p < length kept
    → IsRegion (measure_of s inputs) k (region_by s inputs (k * 64) kept p)
region-right s inputs k kept p long inside = record {
  out = group-inside (measure_of s inputs) k kept p long inside;
  ins = shapes-of (λ i. related_cells s inputs i (cell_of s.out (k * 64 + p))) s.ins s.ins 0 (λ i. refl)
      (λ i. let same : 0 + i ≡ i = omega arith in ap (extent_at s.ins) same);
}

-- what a region pair tells of o and x
region-tells : (s : Site) (inputs : List Grid) (start : ℕ) (kept : List Keeping) (i p : ℕ) (o x : Cell)
    → i < length s.ins → holds s.out o ≡ true → holds (extent_at s.ins i) x ≡ true
    → (has (region_by s inputs start kept p).out o && has (set_of (region_by s inputs start kept p) i) x)
    ≡ (is_with start kept p (index_of s.out o) && related s.op inputs i (cell_of s.out (start + p)) x)
region-tells s inputs start kept i p o x few held there =
    let c = cell_of s.out (start + p) in
    ap₂ (λ (a b : Bool). a && b)
    (has-cells_where s.out (λ y. is_with start kept p (index_of s.out y)) o held)
    (ap (λ (t : Cells). has t x)
    (at-range (λ j. related_cells s inputs j c) (length s.ins) i (no_cells no_extent) few)
    ∙ has-cells_where (extent_at s.ins i) (related s.op inputs i c) x there)

-- cells that are kept together in the part for full lineage have one lineage
keeping-kind : (a b : Option ℕ) → are_together (keeping_of true a) (keeping_of true b) ≡ true
    → (n : ℕ) × (a ≡ Some n) × (b ≡ Some n)
keeping-kind None b h = absurd (true≢false (sym h))
keeping-kind (Some n) None h = absurd (true≢false (sym h))
keeping-kind (Some n) (Some m) h = (n, refl, ap (λ (j : ℕ). Some j) (eqb-true m n h))

keeping-kept : (wanted : Bool) (a : Option ℕ) → is_kept (keeping_of wanted a) ≡ wanted
keeping-kept false a = refl
keeping-kept true None = refl
keeping-kept true (Some n) = refl

-- the region pairs of all cells of a piece fit
full-fits : (s : Site) (inputs : List Grid) (k : ℕ) (kept : List Keeping)
    → kept ≡ keepings s.out (full_keeping true s.op inputs) (k * 64) (cells_in_piece s.out k)
    → FitsFull (measure_of s inputs) k (regions_by s inputs (k * 64) kept)
full-fits s inputs k kept is =
    let start = k * 64 in
    let n = cells_in_piece s.out k in
    let keep = full_keeping true s.op inputs in
    let long = keepings-length s.out keep start n kept is in
    let at : (p : ℕ) → p < length kept → keeping_at kept p ≡ keep (cell_of s.out (start + p)) = λ p below.
    keepings-at s.out keep start n kept p is (omega (arith, long)) in
    record {
      each = All-range (IsRegion (measure_of s inputs) k) (region_by s inputs start kept) (leads kept) 0 (length kept)
          (λ p low high. region-right s inputs k kept p long (omega arith));
      stands = λ i o x few inside there.
          let place = piece-place s.out k o inside in
          let q = place.1.0 in
          let below : q < length kept = omega (arith, place.1.1, long) in
          let found : ℕ → Bool = λ p. related s.op inputs i (cell_of s.out (start + p)) x in
          let here : cell_of s.out (start + q) ≡ o = ap (cell_of s.out) place.1.2 ∙ cell-index s.out o place.0 in
          any-map (λ (r : Pairing). has r.out o && has (set_of r i) x) (region_by s inputs start kept)
          (leaders_below kept (length kept))
          ∙ any-ext
          (λ p. has (region_by s inputs start kept p).out o && has (set_of (region_by s inputs start kept p) i) x)
          (λ p. is_with start kept p (start + q) && found p)
          (λ p. region-tells s inputs start kept i p o x few place.0 there
          ∙ ap (λ (j : ℕ). is_with start kept p j && found p) (sym place.1.2)) (leaders_below kept (length kept))
          ∙ led start kept q found below
          (λ p under with.
          let one = keeping-kind (lineage_kind s.op inputs (cell_of s.out (start + p)))
          (lineage_kind s.op inputs (cell_of s.out (start + q)))
          (sym (ap₂ (λ (a b : Keeping). are_together a b) (at p under) (at q below)) ∙ with) in
          lineage-same s.op inputs i (cell_of s.out (start + p)) (cell_of s.out (start + q)) x one.0 one.1 one.2)
          ∙ ap (λ (b : Bool). b && found q) (ap is_kept (at q below)
          ∙ keeping-kept true (lineage_kind s.op inputs (cell_of s.out (start + q))))
          ∙ ap (λ (c : Cell). related s.op inputs i c x) here;
    }

-- ---- entries

-- how the cells of a piece are kept in a part for payloads: those that pass a test, by the kind of their payload
abbrev pub tested_keeping : Site → List Grid → (Cell → Bool) → Cell → Keeping
tested_keeping s inputs test o = pay_keeping (test o) s.op inputs o

-- of the entries of a piece some has o exactly where o passes the test
record Kept (s : Site) (inputs : List Grid) (test : Cell → Bool) (k : ℕ) (kept : List Keeping) : Type 0 where
  work : IsAtWork s inputs
  is : kept ≡ keepings s.out (tested_keeping s inputs test) (k * 64) (cells_in_piece s.out k)

kept-long : (s : Site) (inputs : List Grid) (test : Cell → Bool) (k : ℕ) (kept : List Keeping)
    → Kept s inputs test k kept → length kept ≡ cells_in_piece s.out k
kept-long s inputs test k kept known =
    keepings-length s.out (tested_keeping s inputs test) (k * 64) (cells_in_piece s.out k) kept known.is

kept-at : (s : Site) (inputs : List Grid) (test : Cell → Bool) (k : ℕ) (kept : List Keeping) (p : ℕ)
    → Kept s inputs test k kept → p < length kept
    → keeping_at kept p ≡ tested_keeping s inputs test (cell_of s.out (k * 64 + p))
kept-at s inputs test k kept p known below =
    keepings-at s.out (tested_keeping s inputs test) (k * 64) (cells_in_piece s.out k) kept p known.is
    (omega (arith, kept-long s inputs test k kept known))

-- the cell at a place of a piece is one of the output
place-held : (s : Site) (k p : ℕ) → p < cells_in_piece s.out k → holds s.out (cell_of s.out (k * 64 + p)) ≡ true
place-held s k p below = cell-held s.out (k * 64 + p) (omega arith)

kind-of : (a b : Bool) (c d : Option ℕ) → are_together (keeping_of a c) (keeping_of b d) ≡ true
    → (n : ℕ) × (c ≡ Some n) × (d ≡ Some n)
kind-of false b c d h = absurd (true≢false (sym h))
kind-of true b None d h = absurd (true≢false (sym h))
kind-of true false (Some n) d h = absurd (true≢false (sym h))
kind-of true true (Some n) d h = keeping-kind (Some n) d h

-- cells that are kept together have one payload
together-payload : (s : Site) (inputs : List Grid) (test : Cell → Bool) (k : ℕ) (kept : List Keeping) (p q : ℕ)
    → Kept s inputs test k kept → p < length kept → q < length kept
    → are_together (keeping_at kept p) (keeping_at kept q) ≡ true
    → payload_of s.op inputs (cell_of s.out (k * 64 + p)) ≡ payload_of s.op inputs (cell_of s.out (k * 64 + q))
together-payload s inputs test k kept p q known under below with =
    let c = cell_of s.out (k * 64 + p) in
    let d = cell_of s.out (k * 64 + q) in
    let long = kept-long s inputs test k kept known in
    let one = kind-of (test c) (test d) (payload_kind s.op inputs c) (payload_kind s.op inputs d)
    (sym (ap₂ (λ (a b : Keeping). are_together a b) (kept-at s inputs test k kept p known under)
    (kept-at s inputs test k kept q known below)) ∙ with) in
    payload-same s inputs c d one.0 known.work (place-held s k p (omega (arith, long)))
    (place-held s k q (omega (arith, long))) one.1 one.2

-- what is looked for of o among the entries of a piece, and is the same for all cells of one payload
entry-led : (s : Site) (inputs : List Grid) (test : Cell → Bool) (k : ℕ) (kept : List Keeping) (o : Cell)
    (looked : List ℕ → Bool) → Kept s inputs test k kept → is_in_piece s.out k o ≡ true
    → list_any (λ e. has e.out o && looked e.payload) (entries_by s inputs (k * 64) kept)
    ≡ (test o && looked (payload_of s.op inputs o))
entry-led s inputs test k kept o looked known inside =
    let start = k * 64 in
    let long = kept-long s inputs test k kept known in
    let place = piece-place s.out k o inside in
    let q = place.1.0 in
    let below : q < length kept = omega (arith, place.1.1, long) in
    let found : ℕ → Bool = λ p. looked (payload_of s.op inputs (cell_of s.out (start + p))) in
    let here : cell_of s.out (start + q) ≡ o = ap (cell_of s.out) place.1.2 ∙ cell-index s.out o place.0 in
    any-map (λ (e : Entry). has e.out o && looked e.payload) (entry_by s inputs start kept)
    (leaders_below kept (length kept))
    ∙ any-ext (λ p. has (group_at s.out start kept p) o && found p) (λ p. is_with start kept p (start + q) && found p)
    (λ p. ap (λ (b : Bool). b && found p)
    (has-cells_where s.out (λ y. is_with start kept p (index_of s.out y)) o place.0
    ∙ ap (is_with start kept p) (sym place.1.2))) (leaders_below kept (length kept))
    ∙ led start kept q found below
    (λ p under with. ap looked (together-payload s inputs test k kept p q known under below with))
    ∙ ap (λ (b : Bool). b && found q) (ap is_kept (kept-at s inputs test k kept q known below)
    ∙ keeping-kept (test (cell_of s.out (start + q))) (payload_kind s.op inputs (cell_of s.out (start + q))))
    ∙ ap (λ (c : Cell). test c && looked (payload_of s.op inputs c)) here

and-yes : (b : Bool) → (b && true) ≡ b
and-yes true = refl
and-yes false = refl

entry-inside : (s : Site) (inputs : List Grid) (test : Cell → Bool) (k : ℕ) (kept : List Keeping) (o : Cell)
    → Kept s inputs test k kept → is_in_piece s.out k o ≡ true
    → has_entry (entries_by s inputs (k * 64) kept) o ≡ test o
entry-inside s inputs test k kept o known inside =
    any-ext (λ (e : Entry). has e.out o) (λ e. has e.out o && true) (λ e. sym (and-yes (has e.out o)))
    (entries_by s inputs (k * 64) kept)
    ∙ entry-led s inputs test k kept o (λ payload. true) known inside
    ∙ and-yes (test o)

-- a later one that leads and has o in its group
later-leads : (start : ℕ) (kept : List Keeping) (e : Extent) (o : Cell) (a n : ℕ) → a + suc n ≡ length kept
    → list_any (λ p. has (group_at e start kept p) o) (filter (leads kept) (range_with_len (a + 1) n)) ≡ true
    → (r : ℕ) × (a < r) × (r < length kept) × (leads kept r ≡ true) × (is_with start kept r (index_of e o) ≡ true)
later-leads start kept e o a n upto met =
    let test : ℕ → Bool = λ p. has (group_at e start kept p) o in
    let one = later-passes (leads kept) test (a + 1) n met in
    let both = and_parts (holds e o) (is_with start kept one.0 (index_of e o))
    (sym (has-cells_where_any e (λ c. is_with start kept one.0 (index_of e c)) o) ∙ one.4) in
    (one.0, omega (arith, one.1), omega (arith, one.2), one.3, both.1)

-- no cell is in two of the entries
apart-from : (s : Site) (inputs : List Grid) (start : ℕ) (kept : List Keeping) (a n : ℕ) → a + n ≡ length kept
    → AreApart (map (entry_by s inputs start kept) (filter (leads kept) (range_with_len a n)))
apart-from s inputs start kept a zero upto = tt
apart-from s inputs start kept a (suc n) upto =
    let rest = apart-from s inputs start kept (a + 1) n (omega arith) in
    elim (cases_Bool (leads kept a)) [
      | inl t ↦
          rw t (
            λ o there.
                let one = and_parts (holds s.out o) (is_with start kept a (index_of s.out o))
                (sym (has-cells_where_any s.out (λ c. is_with start kept a (index_of s.out c)) o) ∙ there) in
                let test : ℕ → Bool = λ p. has (group_at s.out start kept p) o in
                any-map (λ (e : Entry). has e.out o) (entry_by s inputs start kept)
                (filter (leads kept) (range_with_len (a + 1) n))
                ∙ false_from_ne_true (list_any test (filter (leads kept) (range_with_len (a + 1) n)))
                (λ met.
                let other = later-leads start kept s.out o a n upto met in
                leaders-apart start kept a other.0 (index_of s.out o) other.1 other.2 other.3 one.1 other.4),
            rest,
          )
      | inr f ↦ rw f rest
    ]

apart : (s : Site) (inputs : List Grid) (start : ℕ) (kept : List Keeping) → AreApart (entries_by s inputs start kept)
apart s inputs start kept = apart-from s inputs start kept 0 (length kept) (omega arith)

-- an entry of a piece is one of the operator's
entry-right : (s : Site) (inputs : List Grid) (k : ℕ) (kept : List Keeping) (p : ℕ) → IsAtWork s inputs
    → has_mapping s.op ≡ false → length kept ≡ cells_in_piece s.out k → p < length kept
    → IsEntry (measure_of s inputs) k (entry_by s inputs (k * 64) kept p)
entry-right s inputs k kept p work none long inside = record {
  out = group-inside (measure_of s inputs) k kept p long inside;
  payload = payload-lawful s inputs (cell_of s.out (k * 64 + p)) work none;
}

entries-right : (s : Site) (inputs : List Grid) (test : Cell → Bool) (k : ℕ) (kept : List Keeping)
    → Kept s inputs test k kept → has_mapping s.op ≡ false
    → All (IsEntry (measure_of s inputs) k) (entries_by s inputs (k * 64) kept)
entries-right s inputs test k kept known none =
    All-range (IsEntry (measure_of s inputs) k) (entry_by s inputs (k * 64) kept) (leads kept) 0 (length kept)
    (λ p low high.
    entry-right s inputs k kept p known.work none (kept-long s inputs test k kept known) (omega arith))

-- the entries of all cells of a piece fit, as a payload part
pay-fits : (s : Site) (inputs : List Grid) (k : ℕ) (kept : List Keeping) → IsAtWork s inputs
    → has_mapping s.op ≡ false
    → kept ≡ keepings s.out (pay_keeping true s.op inputs) (k * 64) (cells_in_piece s.out k)
    → FitsPay (measure_of s inputs) k (entries_by s inputs (k * 64) kept)
pay-fits s inputs k kept work none is =
    let test : Cell → Bool = λ o. true in
    let known : Kept s inputs test k kept = record { work = work; is = is } in
    record {
      each = entries-right s inputs test k kept known none;
      apart = apart s inputs (k * 64) kept;
      every = λ o inside. entry-inside s inputs test k kept o known inside;
      stands = λ i o x few inside there.
          entry-led s inputs test k kept o (λ payload. mapped_by_payload s.op s.ins payload i o x) known inside
          ∙ payload-stands s inputs i o x work none;
    }

-- those of the cells that override the default fit, as a composite part
comp-fits : (s : Site) (inputs : List Grid) (k : ℕ) (kept : List Keeping) → IsAtWork s inputs
    → has_mapping s.op ≡ false
    → kept ≡ keepings s.out (comp_keeping true s.op inputs) (k * 64) (cells_in_piece s.out k)
    → FitsComp (measure_of s inputs) k (entries_by s inputs (k * 64) kept)
comp-fits s inputs k kept work none is =
    let test = overrides s.op inputs in
    let known : Kept s inputs test k kept = record { work = work; is = is } in
    record {
      each = entries-right s inputs test k kept known none;
      apart = apart s inputs (k * 64) kept;
      stands = λ i o x few inside there.
          let entries = entries_by s inputs (k * 64) kept in
          let stood = entry-led s inputs test k kept o (λ payload. mapped_by_payload s.op s.ins payload i o x) known
          inside in
          ap (λ b. if b then pay_stands (mapped_by_payload s.op s.ins) entries i o x else mapped s.op s.ins i o x)
          (entry-inside s inputs test k kept o known inside)
          ∙ (elim (cases_Bool (test o)) [
            | inl t ↦ rw t (stood ∙ (rw t (payload-stands s inputs i o x work none)))
            | inr f ↦ rw f (sym (default-related s inputs i o x work f))
          ]);
    }

-- ---- a part that is not wanted

-- it keeps no cell
unkept-at : (e : Extent) (keep : Cell → Keeping) (start n : ℕ) (kept : List Keeping)
    → ((o : Cell) → keep o ≡ Nothing) → kept ≡ keepings e keep start n → leaders_below kept (length kept) ≡ []
unkept-at e keep start n kept none is =
    leaders-none kept (length kept)
    (λ p below. keepings-at e keep start n kept p is (omega (arith, keepings-length e keep start n kept is))
    ∙ none (cell_of e (start + p)))

-- so it is empty
no-regions : (s : Site) (inputs : List Grid) (start n : ℕ) (kept : List Keeping)
    → kept ≡ keepings s.out (full_keeping false s.op inputs) start n → regions_by s inputs start kept ≡ []
no-regions s inputs start n kept is =
    ap (map (region_by s inputs start kept))
    (unkept-at s.out (full_keeping false s.op inputs) start n kept (λ o. refl) is)

no-pays : (s : Site) (inputs : List Grid) (start n : ℕ) (kept : List Keeping)
    → kept ≡ keepings s.out (pay_keeping false s.op inputs) start n → entries_by s inputs start kept ≡ []
no-pays s inputs start n kept is =
    ap (map (entry_by s inputs start kept))
    (unkept-at s.out (pay_keeping false s.op inputs) start n kept (λ o. refl) is)

no-comps : (s : Site) (inputs : List Grid) (start n : ℕ) (kept : List Keeping)
    → kept ≡ keepings s.out (comp_keeping false s.op inputs) start n → entries_by s inputs start kept ≡ []
no-comps s inputs start n kept is =
    ap (map (entry_by s inputs start kept))
    (unkept-at s.out (comp_keeping false s.op inputs) start n kept (λ o. refl) is)

-- ---- a walk over the places of a piece

-- one place more, that leads or does not
leaders-more : (kept : List Keeping) (p : ℕ) → leads kept p ≡ true
    → leaders_below kept (p + 1) ≡ leaders_below kept p ++ p ∷ []
leaders-more kept p leading =
    ap (filter (leads kept)) (range-more 0 p p (omega arith))
    ∙ filter-append (leads kept) (range_with_len 0 p) (p ∷ []) ∙ (rw leading refl)

leaders-same : (kept : List Keeping) (p : ℕ) → leads kept p ≡ false → leaders_below kept p ≡ leaders_below kept (p + 1)
leaders-same kept p other =
    sym (ap (filter (leads kept)) (range-more 0 p p (omega arith))
    ∙ filter-append (leads kept) (range_with_len 0 p) (p ∷ []) ∙ (rw other (append-nil (leaders_below kept p))))

-- what each that leads writes, with one place more
written-more : {X : Type 0} (f : ℕ → X) (kept : List Keeping) (p : ℕ) (x : X) → leads kept p ≡ true → x ≡ f p
    → map f (leaders_below kept p) ++ x ∷ [] ≡ map f (leaders_below kept (p + 1))
written-more f kept p x leading is =
    ap (λ y. map f (leaders_below kept p) ++ y ∷ []) is
    ∙ sym (map-append f (leaders_below kept p) (p ∷ [])) ∙ sym (ap (map f) (leaders-more kept p leading))

pub regions-more : (f : ℕ → Pairing) (kept : List Keeping) (p : ℕ) (first old new : Parts) (r : Pairing)
    → old ≡ record first { regions = map f (leaders_below kept p) } → leads kept p ≡ true → r ≡ f p
    → new ≡ record old { regions = old.regions ++ r ∷ [] }
    → new ≡ record first { regions = map f (leaders_below kept (p + 1)) }
regions-more f kept p first old new r so_far leading is more =
    more ∙ ap (λ (q : Parts). record q { regions = q.regions ++ r ∷ [] }) so_far
    ∙ ap (λ (xs : List Pairing). record first { regions = xs }) (written-more f kept p r leading is)

pub regions-same : (f : ℕ → Pairing) (kept : List Keeping) (p : ℕ) (first old : Parts)
    → old ≡ record first { regions = map f (leaders_below kept p) } → leads kept p ≡ false
    → old ≡ record first { regions = map f (leaders_below kept (p + 1)) }
regions-same f kept p first old so_far other =
    so_far ∙ ap (λ (xs : List ℕ). record first { regions = map f xs }) (leaders-same kept p other)

pub entries-more : (f : ℕ → Entry) (kept : List Keeping) (p : ℕ) (comp : Bool) (first old new : Parts) (e : Entry)
    → old ≡ with_entries comp (map f (leaders_below kept p)) first → leads kept p ≡ true → e ≡ f p
    → new ≡ (if comp then record old { comps = old.comps ++ e ∷ [] } else record old { pays = old.pays ++ e ∷ [] })
    → new ≡ with_entries comp (map f (leaders_below kept (p + 1))) first
entries-more f kept p true first old new e so_far leading is more =
    more ∙ ap (λ (q : Parts). record q { comps = q.comps ++ e ∷ [] }) so_far
    ∙ ap (λ (xs : List Entry). record first { comps = xs }) (written-more f kept p e leading is)
entries-more f kept p false first old new e so_far leading is more =
    more ∙ ap (λ (q : Parts). record q { pays = q.pays ++ e ∷ [] }) so_far
    ∙ ap (λ (xs : List Entry). record first { pays = xs }) (written-more f kept p e leading is)

pub entries-same : (f : ℕ → Entry) (kept : List Keeping) (p : ℕ) (comp : Bool) (first old : Parts)
    → old ≡ with_entries comp (map f (leaders_below kept p)) first → leads kept p ≡ false
    → old ≡ with_entries comp (map f (leaders_below kept (p + 1))) first
entries-same f kept p comp first old so_far other =
    so_far ∙ ap (λ (xs : List ℕ). with_entries comp (map f xs) first) (leaders-same kept p other)

-- how many there are
leaders-few : {X : Type 0} (f : ℕ → X) (kept : List Keeping) (p : ℕ) → length (map f (leaders_below kept p)) ≤ p
leaders-few f kept p =
    omega (
      arith,
      length-map (leaders_below kept p) f,
      length-filter (leads kept) (range_with_len 0 p),
      count_by-le-length (leads kept) (range_with_len 0 p),
      length-range_with_len 0 p,
    )

pub regions-few : (f : ℕ → Pairing) (kept : List Keeping) (p : ℕ) (first old : Parts)
    → old ≡ record first { regions = map f (leaders_below kept p) } → length old.regions ≤ p
regions-few f kept p first old so_far = rw so_far (leaders-few f kept p)

pub entries-few : (f : ℕ → Entry) (kept : List Keeping) (p : ℕ) (comp : Bool) (first old : Parts)
    → old ≡ with_entries comp (map f (leaders_below kept p)) first
    → length (if comp then old.comps else old.pays) ≤ p
entries-few f kept p true first old so_far = rw so_far (leaders-few f kept p)
entries-few f kept p false first old so_far = rw so_far (leaders-few f kept p)

-- ---- modes

-- an operator that supports each strategy of a list supports the mode of one of them
mode-tells : (op : Op) (m : Mode) (list : List Strategy)
    → ((n : Mode) → is_mode m n ≡ true → has_mode op n ≡ true → has_mapping op ≡ false)
    → All (λ t. supports op t ≡ true) list → needs list m ≡ true → has_mapping op ≡ false
mode-tells op m [] tells all need = absurd (true≢false (sym need))
mode-tells op m (t ∷ list) tells all need =
    elim (or_cases (is_mode m (mode_of t)) (needs list m) need) [
      | inl here ↦ tells (mode_of t) here (All-head (λ t. supports op t ≡ true) t list all)
      | inr later ↦ mode-tells op m list tells (All-tail (λ t. supports op t ≡ true) t list all) later
    ]

not-true : (b : Bool) → not b ≡ true → b ≡ false
not-true true h = absurd (true≢false (sym h))
not-true false h = refl

pay-tells : (op : Op) (n : Mode) → is_mode mode.Pay n ≡ true → has_mode op n ≡ true → has_mapping op ≡
    false
pay-tells op mode.Full is has = absurd (true≢false (sym is))
pay-tells op mode.Map is has = absurd (true≢false (sym is))
pay-tells op mode.Pay is has = not-true (has_mapping op) has
pay-tells op mode.Comp is has = absurd (true≢false (sym is))
pay-tells op mode.BlackBox is has = absurd (true≢false (sym is))

comp-tells : (op : Op) (n : Mode) → is_mode mode.Comp n ≡ true → has_mode op n ≡ true → has_mapping op ≡
    false
comp-tells op mode.Full is has = absurd (true≢false (sym is))
comp-tells op mode.Map is has = absurd (true≢false (sym is))
comp-tells op mode.Pay is has = absurd (true≢false (sym is))
comp-tells op mode.Comp is has = not-true (has_mapping op) has
comp-tells op mode.BlackBox is has = absurd (true≢false (sym is))

pay-unmapped : (op : Op) (list : List Strategy) → All (λ t. supports op t ≡ true) list → needs list
    mode.Pay ≡ true → has_mapping op ≡ false
pay-unmapped op list = mode-tells op mode.Pay list (pay-tells op)

comp-unmapped : (op : Op) (list : List Strategy) → All (λ t. supports op t ≡ true) list → needs list
    mode.Comp ≡ true → has_mapping op ≡ false
comp-unmapped op list = mode-tells op mode.Comp list (comp-tells op)

-- ---- how long a piece is

-- the cells of a piece are looked at up to its end, or to the end of the output
pub all-looked : (e : Extent) (k size end : ℕ) → k < pieces_of e → size ≡ size_of e → end ≡ min size (k * 64 + 64)
    → end - k * 64 ≡ cells_in_piece e k
all-looked e k size end below whole upto = omega (arith, whole, upto)

-- ---- the whole lineage of a piece

-- each part that is needed fits, and each other one is empty
pub piece-fits : (s : Site) (inputs : List Grid) (list : List Strategy) (k : ℕ) (full pay comp : List Keeping)
    → IsAtWork s inputs → All (λ t. supports s.op t ≡ true) list
    → full ≡ keepings s.out (full_keeping (needs list mode.Full) s.op inputs) (k * 64) (cells_in_piece s.out k)
    → pay ≡ keepings s.out (pay_keeping (needs list mode.Pay) s.op inputs) (k * 64) (cells_in_piece s.out k)
    → comp ≡ keepings s.out (comp_keeping (needs list mode.Comp) s.op inputs) (k * 64) (cells_in_piece s.out k)
    → Fits (measure_of s inputs) list k (with_entries true (entries_by s inputs (k * 64) comp)
    (with_entries false (entries_by s inputs (k * 64) pay)
    (record (no_parts k) { regions = regions_by s inputs (k * 64) full })))
piece-fits s inputs list k full pay comp work all full_is pay_is comp_is =
    let n = cells_in_piece s.out k in
    record {
      full = λ need.
          full-fits s inputs k full
          (full_is ∙ ap (λ (b : Bool). keepings s.out (full_keeping b s.op inputs) (k * 64) n) need);
      pay = λ need.
          pay-fits s inputs k pay work (pay-unmapped s.op list all need)
          (pay_is ∙ ap (λ (b : Bool). keepings s.out (pay_keeping b s.op inputs) (k * 64) n) need);
      comp = λ need.
          comp-fits s inputs k comp work (comp-unmapped s.op list all need)
          (comp_is ∙ ap (λ (b : Bool). keepings s.out (comp_keeping b s.op inputs) (k * 64) n) need);
      no_full = λ need.
          no-regions s inputs (k * 64) n full
          (full_is ∙ ap (λ (b : Bool). keepings s.out (full_keeping b s.op inputs) (k * 64) n) need);
      no_pay = λ need.
          no-pays s inputs (k * 64) n pay
          (pay_is ∙ ap (λ (b : Bool). keepings s.out (pay_keeping b s.op inputs) (k * 64) n) need);
      no_comp = λ need.
          no-comps s inputs (k * 64) n comp
          (comp_is ∙ ap (λ (b : Bool). keepings s.out (comp_keeping b s.op inputs) (k * 64) n) need);
    }

-- ---- sets of one region pair

pub sets-next : {A : Type 0} (view : A → Cells) (f : ℕ → Cells) (n : ℕ) (xs new : List A) (x : A)
    → map view xs ≡ map f (range_with_len 0 n) → view x ≡ f n → new ≡ xs ++ x ∷ []
    → map view new ≡ map f (range_with_len 0 (n + 1))
sets-next view f n xs new x so_far at more =
    ap (map view) more ∙ map-append view xs (x ∷ [])
    ∙ ap₂ (λ (ys : List Cells) (y : Cells). ys ++ y ∷ []) so_far at
    ∙ sym (map-range_with_len_more f 0 n n (omega arith))
