-- What stays true of a node's stores.
--
-- The key idea: each cell of an entry that is kept is one of a placed piece. So the entries of a further piece have no
-- cell of theirs, and all stay apart; and once every piece is placed nothing is added.
use Rattle.std.proofs.Common.{◌≡◌, ℕ, ◌+◌, ◌/◌, ◌<◌, ◌≤◌, Bool, true, false, ◌||◌, List, [], ◌∷◌, ◌++◌}
use Rattle.std.proofs.Common.{refl, sym, ap, ap₂, subst, ◌∙◌, true≢false, inl, inr, arith}
use Rattle.std.proofs.Common.{get_or, set, length, length-set}
use Rattle.std.proofs.Common.{map, length-append}
use Rattle.std.specs.Prelude.{replicate}
use Rattle.std.specs.List.{All, AllZip}
use Rattle.std.proofs.lemmas.Bool.{and_parts}
use Rattle.std.proofs.lemmas.List.{get_or-map, get_or-replicate, length-map, length-replicate}
use Rattle.std.proofs.lemmas.List.Elements.{All-nil, All-cons, All-map, All-weaker, All-filter}
use Rattle.std.proofs.lemmas.List.Elements.{filter_passes}
use Rattle.std.proofs.lemmas.List.Folds.{list_any_at}
use Rattle.std.proofs.lemmas.Option.{slice_get_within, get_or_from_slice_get}
use Rattle.sz_cells.specs.declared.Cell.{Cell}
use Rattle.sz_cells.specs.Extent.{Extent, holds, index_of}
use Rattle.sz_cells.specs.Cells.{Cells, has}
use Rattle.sz_cells.specs.SetBytes.{IsSetOf}
use Rattle.sz_spec.specs.declared.modes.Mode.{Mode}
use Rattle.sz_spec.specs.declared.modes.Mode.TheVariants as mode
use Rattle.sz_spec.specs.declared.modes.Strategy.{Strategy}
use Rattle.sz_spec.specs.declared.modes.Strategy.TheVariants as strategy
use Rattle.sz_spec.specs.Shapes.{Site}
use Rattle.sz_spec.specs.Modes.{mode_of, is_stored, supports}
use Rattle.sz_spec.specs.Pieces.{pieces_of, is_in_piece}
use Rattle.sz_frame.specs.Parts.{Pairing, Entry, Parts}
use Rattle.sz_frame.specs.Stands.{has_entry}
use Rattle.sz_frame.specs.Fits.{IsRegion, IsEntry, AreApart, needs, is_mode}
use Rattle.sz_region.specs.PayBytes.{IsPayWord, AreNamesOfEntry}
use Rattle.sz_tables.specs.Stores.{IsPairOf, most_given}
use Rattle.sz_store.specs.Kept.{Holding, regions, entries, Keep, with_part, keep_with, is_placed}
use Rattle.sz_store.specs.Kept.{empty_keep, stored_in, nothing_for, shapes_of, AreEntriesOf, AreParts, IsPartFor}
use Rattle.sz_store.specs.Stocks.{stock_of, keep_of, site_of, mode_in, count_in, more_in, CanGrow, IsPartOf}
use Rattle.sz_payload.specs.Kept.{IsEntryOf, part_of}
use Rattle.sz_frame.specs.Images.{measure_of}
use Rattle.sz_spec.specs.Values.{Grid}
use Rattle.sz_store.specs.Laws.{FittingLineagesCanBePlaced}
use Rattle.sz_store.specs.Needed.{FitsAsNeeded}
use Rattle.sz_store.specs.Stocked.{AreOfPlaced, IsStocked, AreStocked}
use Rattle.sz_store.specs.Words.{Begins, BeginEach}
use Rattle.sz_store.specs.declared.stores.ListedStore.{ListedStore}
use Rattle.sz_store.proofs.Parting.{any-inside, or-cases, piece-number, apart-more, has-more}
use Rattle.sz_store.proofs.Reading.{payloads-begin}
use Rattle.sz_store.proofs.Placed.{placed-same, placed-more, is-false, own-piece}

-- what is so of each that is made of an element, by the element
pub all-of_map : {X Y : Type 0} (P : Y → Type 0) (f : X → Y) (xs : List X) → All P (map f xs) → All (λ x. P (f x)) xs
all-of_map P f xs all k d inside =
    subst P (get_or-map f xs k d (f d) inside) (all k (f d) (omega (arith, length-map xs f)))

-- ---- the part of a lineage

-- what is so of a region pair or an entry by the shapes, whatever the values are
region-shapes : (s : Site) (inputs : List Grid) (k : ℕ) (r : Pairing) → IsRegion (measure_of s inputs) k r
    → IsRegion (shapes_of s) k r
region-shapes s inputs k r is = record {
  out = record { shape = is.out.shape; inside = is.out.inside };
  ins = is.ins;
}

entry-shapes : (s : Site) (inputs : List Grid) (k : ℕ) (e : Entry) → IsEntry (measure_of s inputs) k e
    → IsEntry (shapes_of s) k e
entry-shapes s inputs k e is = record {
  out = record { shape = is.out.shape; inside = is.out.inside };
  payload = is.payload;
}

pub needed-part : (s : Site) (inputs : List Grid) (list : List Strategy) (p : Parts) (m : Mode)
    → FitsAsNeeded (measure_of s inputs) list p.piece p → needs list m ≡ true → IsPartFor s p m
needed-part s inputs list p mode.Full fits need =
    All-weaker (IsRegion (measure_of s inputs) p.piece) (IsRegion (shapes_of s) p.piece)
    (region-shapes s inputs p.piece) p.regions (fits.full need).each
needed-part s inputs list p mode.Pay fits need = record {
  each =
      All-weaker (IsEntry (measure_of s inputs) p.piece) (IsEntry (shapes_of s) p.piece)
      (entry-shapes s inputs p.piece) p.pays (fits.pay need).each;
  apart = (fits.pay need).apart;
}
needed-part s inputs list p mode.Comp fits need = record {
  each =
      All-weaker (IsEntry (measure_of s inputs) p.piece) (IsEntry (shapes_of s) p.piece)
      (entry-shapes s inputs p.piece) p.comps (fits.comp need).each;
  apart = (fits.comp need).apart;
}
needed-part s inputs list p mode.Map fits need = tt
needed-part s inputs list p mode.BlackBox fits need = tt

pub fitting-placed : FittingLineagesCanBePlaced
fitting-placed s inputs list p fits m need =
    needed-part s inputs list p m (record { full = fits.full; pay = fits.pay; comp = fits.comp }) need

pairs-of : (s : Site) (k : ℕ) (rs : List Pairing) → All (IsRegion (shapes_of s) k) rs → All (IsPairOf s) rs
pairs-of s k rs all =
    All-weaker (IsRegion (shapes_of s) k) (IsPairOf s) (λ r is. record { out = is.out.shape; ins = is.ins }) rs all

entries-of : (s : Site) (k : ℕ) (es : List Entry) → All (IsEntry (shapes_of s) k) es → All (IsEntryOf s) es
entries-of s k es all =
    All-weaker (IsEntry (shapes_of s) k) (IsEntryOf s) (λ e is. record { out = is.out.shape; payload = is.payload }) es
    all

entry-inside : (s : Site) (k : ℕ) (es : List Entry) (o : Cell) → All (IsEntry (shapes_of s) k) es
    → has_entry es o ≡ true → is_in_piece s.out k o ≡ true
entry-inside s k es o all there =
    any-inside s.out k o (IsEntry (shapes_of s) k) (λ (e : Entry). has e.out o) es (λ e is. is.out.inside o) all there

-- the entries of a further piece have no cell of those that are kept
others-apart : (s : Site) (k : ℕ) (placed : List Bool) (es more : List Entry) (o : Cell)
    → ((c : Cell) → has_entry es c ≡ true → is_placed placed (index_of s.out c / 64) ≡ true)
    → is_placed placed k ≡ false → All (IsEntry (shapes_of s) k) more → has_entry es o ≡ true
    → has_entry more o ≡ false
others-apart s k placed es more o own new all there =
    is-false (has_entry more o)
    (λ had.
    let number = piece-number s.out k o (entry-inside s k more o all had) in
    true≢false (sym (own o there) ∙ ap (is_placed placed) number ∙ new))

entries-apart : (s : Site) (k : ℕ) (placed : List Bool) (comp : Bool) (es more : List Entry)
    → AreOfPlaced s placed (entries comp es) → is_placed placed k ≡ false → AreEntriesOf s k more
    → AreApart (es ++ more)
entries-apart s k placed comp es more own new part =
    apart-more es more own.0 part.apart (λ o there. others-apart s k placed es more o own.1 new part.each there)

-- so the part of a lineage of a further piece can be given to a store
part-of : (s : Site) (list : List Strategy) (placed : List Bool) (p : Parts) (h : Holding)
    → AreOfPlaced s placed h → is_placed placed p.piece ≡ false → needs list (mode_in h) ≡ true → AreParts s list p
    → IsPartOf s p h
part-of s list placed p (regions rs) own new need parts = pairs-of s p.piece p.regions (parts mode.Full need)
part-of s list placed p (entries false es) own new need parts =
    let part : AreEntriesOf s p.piece p.pays = parts mode.Pay need in
    (entries-of s p.piece p.pays part.each, entries-apart s p.piece placed false es p.pays own new part)
part-of s list placed p (entries true es) own new need parts =
    let part : AreEntriesOf s p.piece p.comps = parts mode.Comp need in
    (entries-of s p.piece p.comps part.each, entries-apart s p.piece placed true es p.comps own new part)

-- ---- one lineage more

cells-more : (s : Site) (placed : List Bool) (k : ℕ) (es more : List Entry) (o : Cell) → k < length placed
    → ((c : Cell) → has_entry es c ≡ true → is_placed placed (index_of s.out c / 64) ≡ true)
    → All (IsEntry (shapes_of s) k) more → (has_entry es o || has_entry more o) ≡ true
    → is_placed (set placed k true) (index_of s.out o / 64) ≡ true
cells-more s placed k es more o below own all there =
    elim (or-cases (has_entry es o) (has_entry more o) there) [
      | inl old ↦ placed-more placed k (index_of s.out o / 64) below (own o old)
      | inr further ↦
          rw (piece-number s.out k o (entry-inside s k more o all further)) (placed-same placed k below)
    ]

placed-part : (s : Site) (list : List Strategy) (placed : List Bool) (p : Parts) (h : Holding)
    → AreOfPlaced s placed h → is_placed placed p.piece ≡ false → p.piece < length placed
    → needs list (mode_in h) ≡ true → AreParts s list p → AreOfPlaced s (set placed p.piece true) (with_part p h)
placed-part s list placed p (regions rs) own new below need parts = tt
placed-part s list placed p (entries false es) own new below need parts =
    let part : AreEntriesOf s p.piece p.pays = parts mode.Pay need in (
      entries-apart s p.piece placed false es p.pays own new part,
      λ o there.
          cells-more s placed p.piece es p.pays o below own.1 part.each (sym (has-more p (entries false es) o) ∙ there),
    )
placed-part s list placed p (entries true es) own new below need parts =
    let part : AreEntriesOf s p.piece p.comps = parts mode.Comp need in (
      entries-apart s p.piece placed true es p.comps own new part,
      λ o there.
          cells-more s placed p.piece es p.comps o below own.1 part.each (sym (has-more p (entries true es) o) ∙ there),
    )

mode-more : (p : Parts) (h : Holding) → mode_in (with_part p h) ≡ mode_in h
mode-more p (regions rs) = refl
mode-more p (entries false es) = refl
mode-more p (entries true es) = refl

count-more : (p : Parts) (h : Holding) → count_in (with_part p h) ≡ count_in h + more_in p h
count-more p (regions rs) = length-append rs p.regions
count-more p (entries comp es) = length-append es (part_of comp p)

-- no part is longer than the longest
pub record IsMost (p : Parts) (most : ℕ) : Type 0 where
  pub regions : length p.regions ≤ most
  pub pays : length p.pays ≤ most
  pub comps : length p.comps ≤ most

more-most : (p : Parts) (h : Holding) (most : ℕ) → IsMost p most → more_in p h ≤ most
more-most p (regions rs) most is = is.regions
more-most p (entries false es) most is = is.pays
more-most p (entries true es) most is = is.comps

own-mode : (t : Strategy) → is_stored t ≡ true → is_mode (mode_of t) (mode_of t) ≡ true
own-mode strategy.Map stored = absurd (true≢false (sym stored))
own-mode strategy.FullOneB stored = refl
own-mode strategy.FullOneF stored = refl
own-mode strategy.FullManyB stored = refl
own-mode strategy.FullManyF stored = refl
own-mode strategy.PayOne stored = refl
own-mode strategy.PayMany stored = refl
own-mode strategy.CompOne stored = refl
own-mode strategy.CompMany stored = refl
own-mode strategy.BlackBox stored = absurd (true≢false (sym stored))

-- each stored strategy of a list needs its own mode
needed-stored : (list : List Strategy) → All (λ t. needs list (mode_of t) ≡ true) (stored_in list)
needed-stored list k d inside =
    All-filter is_stored (λ (u : Strategy). is_stored u ≡ true → needs list (mode_of u) ≡ true) list
    (λ j e within stored.
    list_any_at (λ (u : Strategy). is_mode (mode_of (get_or list j e)) (mode_of u)) list j e within
    (own-mode (get_or list j e) stored))
    k d inside (filter_passes is_stored list k d inside)

needed-each : (list : List Strategy) (fs : List Keep) → map (λ f. f.strategy) fs ≡ stored_in list
    → All (λ f. needs list (mode_of f.strategy) ≡ true) fs
needed-each list fs stored =
    all-of_map (λ (t : Strategy). needs list (mode_of t) ≡ true) (λ f. f.strategy) fs
    (subst (All (λ (t : Strategy). needs list (mode_of t) ≡ true)) (sym stored) (needed-stored list))

stocked-needs : (s : Site) (list : List Strategy) (placed : List Bool) (spare : ℕ) (fs : List Keep) (sites : List Site)
    → AreStocked s list placed spare fs sites → All (λ f. needs list (mode_in f.holding) ≡ true) fs
stocked-needs s list placed spare fs sites are k d inside =
    ap (needs list) (sym (are.each k d inside).mode) ∙ needed-each list fs are.stored k d inside

strategies-more : (p : Parts) (fs : List Keep)
    → map (λ f. f.strategy) (map (keep_with p) fs) ≡ map (λ f. f.strategy) fs
strategies-more p [] = refl
strategies-more p (f ∷ fs) = ap (λ (ts : List Strategy). f.strategy ∷ ts) (strategies-more p fs)

-- each store can be given its part of a lineage of a further piece
pub all-grow : (s : Site) (list : List Strategy) (placed : List Bool) (spare most : ℕ) (p : Parts)
    (stores : List ListedStore) → AreStocked s list placed spare (map keep_of stores) (map site_of stores)
    → AreParts s list p → is_placed placed p.piece ≡ false → IsMost p most → most ≤ spare
    → All (λ l. CanGrow p (stock_of l.kept)) stores
all-grow s list placed spare most p stores are parts new is few k d inside =
    let l = get_or stores k d in
    let stocked : IsStocked s placed spare (keep_of l) =
    all-of_map (IsStocked s placed spare) keep_of stores are.each k d inside in
    let need : needs list (mode_in (keep_of l).holding) ≡ true =
    all-of_map (λ (f : Keep). needs list (mode_in f.holding) ≡ true) keep_of stores
    (stocked-needs s list placed spare (map keep_of stores) (map site_of stores) are) k d inside in
    let site : site_of l ≡ s = all-of_map (λ (x : Site). x ≡ s) site_of stores are.same k d inside in
    let more = more-most p (stock_of l.kept).holding most is in
    let own = stocked.few in
    record {
      few = omega arith;
      part =
          subst (λ (x : Site). IsPartOf x p (stock_of l.kept).holding) (sym site)
          (part-of s list placed p (stock_of l.kept).holding stocked.apart new need parts);
    }

-- and what is true of the stores is then true of them with it
pub stocked-more : (s : Site) (list : List Strategy) (placed : List Bool) (spare rest most : ℕ) (p : Parts)
    (fs : List Keep) (sites : List Site) → AreStocked s list placed spare fs sites → AreParts s list p
    → is_placed placed p.piece ≡ false → p.piece < length placed → IsMost p most → rest + most ≤ spare
    → AreStocked s list (set placed p.piece true) rest (map (keep_with p) fs) sites
stocked-more s list placed spare rest most p fs sites are parts new below is few = record {
  supported = are.supported;
  stored = strategies-more p fs ∙ are.stored;
  same = are.same;
  pieces = length-set placed p.piece true ∙ are.pieces;
  each =
      All-map (IsStocked s (set placed p.piece true) rest) (keep_with p) fs
      (λ k d inside.
      let f = get_or fs k d in
      let own = are.each k d inside in
      let need = stocked-needs s list placed spare fs sites are k d inside in
      let more = more-most p f.holding most is in
      let count = count-more p f.holding in
      let kept = own.few in
      record {
        mode = own.mode ∙ sym (mode-more p f.holding);
        few = omega arith;
        apart = placed-part s list placed p f.holding own.apart new below need parts;
      });
}

-- the same of stores of the code, once they have it
pub placed-stocked : (s : Site) (list : List Strategy) (placed : List Bool) (spare rest most : ℕ) (p : Parts)
    (stores new : List ListedStore) → AreStocked s list placed spare (map keep_of stores) (map site_of stores)
    → AreParts s list p → is_placed placed p.piece ≡ false → p.piece < length placed → IsMost p most
    → rest + most ≤ spare → map keep_of new ≡ map (keep_with p) (map keep_of stores)
    → map site_of new ≡ map site_of stores
    → AreStocked s list (set placed p.piece true) rest (map keep_of new) (map site_of new)
placed-stocked s list placed spare rest most p stores new are parts free below is few keeps sites =
    rw (keeps, sites)
    (stocked-more s list placed spare rest most p (map keep_of stores) (map site_of stores) are parts free below is
    few)

-- ---- before the first

empty-mode : (t : Strategy) → is_stored t ≡ true → mode_of t ≡ mode_in (nothing_for (mode_of t))
empty-mode strategy.Map stored = absurd (true≢false (sym stored))
empty-mode strategy.FullOneB stored = refl
empty-mode strategy.FullOneF stored = refl
empty-mode strategy.FullManyB stored = refl
empty-mode strategy.FullManyF stored = refl
empty-mode strategy.PayOne stored = refl
empty-mode strategy.PayMany stored = refl
empty-mode strategy.CompOne stored = refl
empty-mode strategy.CompMany stored = refl
empty-mode strategy.BlackBox stored = absurd (true≢false (sym stored))

empty-count : (m : Mode) → count_in (nothing_for m) ≡ 0
empty-count mode.Full = refl
empty-count mode.Map = refl
empty-count mode.Pay = refl
empty-count mode.Comp = refl
empty-count mode.BlackBox = refl

empty-apart : (s : Site) (placed : List Bool) (m : Mode) → AreOfPlaced s placed (nothing_for m)
empty-apart s placed mode.Full = tt
empty-apart s placed mode.Map = tt
empty-apart s placed mode.Pay = (tt, λ o there. absurd (true≢false (sym there)))
empty-apart s placed mode.Comp = (tt, λ o there. absurd (true≢false (sym there)))
empty-apart s placed mode.BlackBox = tt

empty-strategies : (ts : List Strategy) → map (λ f. f.strategy) (map empty_keep ts) ≡ ts
empty-strategies [] = refl
empty-strategies (t ∷ ts) = ap (λ (us : List Strategy). t ∷ us) (empty-strategies ts)

pub stocked-empty : (s : Site) (list : List Strategy) (placed : List Bool) (spare : ℕ) (sites : List Site)
    → All (λ t. supports s.op t ≡ true) list → All (λ x. x ≡ s) sites → length placed ≡ pieces_of s.out
    → spare ≤ most_given → AreStocked s list placed spare (map empty_keep (stored_in list)) sites
stocked-empty s list placed spare sites supported same pieces few = record {
  supported = supported;
  stored = empty-strategies (stored_in list);
  same = same;
  pieces = pieces;
  each =
      All-map (IsStocked s placed spare) empty_keep (stored_in list)
      (λ k d inside.
      let t = get_or (stored_in list) k d in
      let none = empty-count (mode_of t) in
      record {
        mode = empty-mode t (filter_passes is_stored list k d inside);
        few = omega arith;
        apart = empty-apart s placed (mode_of t);
      });
}

-- ---- what is read

-- an entry that is spelled has a set of the output's shape
names-shape : (out : Extent) (sets : List Cells) (payloads : List (List ℕ)) (ns : List ℕ) (e : Entry)
    → All (IsSetOf out) sets → AreNamesOfEntry sets payloads ns e → e.out.extent ≡ out
names-shape out sets payloads [] e all named = absurd named
names-shape out sets payloads (a ∷ []) e all named = absurd named
names-shape out sets payloads (a ∷ b ∷ []) e all named =
    (subst (IsSetOf out) (get_or_from_slice_get sets a e.out e.out named.0)
    (all a e.out (slice_get_within sets a e.out named.0))).extent
names-shape out sets payloads (a ∷ b ∷ c ∷ ns) e all named = absurd named

entry-held : (out : Extent) (e : Entry) (o : Cell) → e.out.extent ≡ out → has e.out o ≡ true → holds out o ≡ true
entry-held out e o same there =
    ap (λ (x : Extent). holds x o) (sym same)
    ∙ (and_parts (holds e.out.extent o) _ there).0

named-held : (out : Extent) (sets : List Cells) (payloads : List (List ℕ)) (names : List (List ℕ)) (es : List Entry)
    (o : Cell) → All (IsSetOf out) sets → AllZip (AreNamesOfEntry sets payloads) names es → has_entry es o ≡ true
    → holds out o ≡ true
named-held out sets payloads [] [] o all named there = absurd (true≢false (sym there))
named-held out sets payloads [] (e ∷ es) o all named there = absurd named
named-held out sets payloads (ns ∷ names) [] o all named there = absurd named
named-held out sets payloads (ns ∷ names) (e ∷ es) o all named there =
    elim (or-cases (has e.out o) (has_entry es o) there) [
      | inl here ↦ entry-held out e o (names-shape out sets payloads ns e all named.0) here
      | inr later ↦ named-held out sets payloads names es o all named.1 later
    ]

-- where each piece is placed, so is that of each such cell
entries-placed : (s : Site) (es : List Entry) (payloads : List (List ℕ)) (sets : List Cells) (word : List ℕ) (o : Cell)
    → IsPayWord s.out payloads sets es word → has_entry es o ≡ true
    → is_placed (replicate (pieces_of s.out) true) (index_of s.out o / 64) ≡ true
entries-placed s es payloads sets word o is there =
    let held = named-held s.out sets payloads is.names es o is.each is.named there in
    get_or-replicate (pieces_of s.out) (index_of s.out o / 64) true false (own-piece s.out o held).0

begun-stocked : (s : Site) (t : Strategy) (bytes : List ℕ) (a b : ℕ) (m : Mode) (h : Holding) → mode_of t ≡ m
    → Begins s m bytes a b h → IsStocked s (replicate (pieces_of s.out) true) 0 (record { strategy = t; holding = h })
begun-stocked s t bytes a b mode.Full (regions rs) is begins = record {
  mode = is;
  few = let few = begins.is_word.few in omega arith;
  apart = tt;
}
begun-stocked s t bytes a b mode.Full (entries comp es) is begins = absurd begins
begun-stocked s t bytes a b mode.Pay (regions rs) is begins = absurd begins
begun-stocked s t bytes a b mode.Pay (entries true es) is begins = absurd begins
begun-stocked s t bytes a b mode.Pay (entries false es) is begins =
    let own = payloads-begin s bytes a b es begins in record {
      mode = is;
      few = let few = own.is_word.few in omega arith;
      apart = (
        own.is_word.apart,
        λ o there. entries-placed s es own.payloads own.sets own.word o own.is_word there,
      );
    }
begun-stocked s t bytes a b mode.Comp (regions rs) is begins = absurd begins
begun-stocked s t bytes a b mode.Comp (entries false es) is begins = absurd begins
begun-stocked s t bytes a b mode.Comp (entries true es) is begins =
    let own = payloads-begin s bytes a b es begins in record {
      mode = is;
      few = let few = own.is_word.few in omega arith;
      apart = (
        own.is_word.apart,
        λ o there. entries-placed s es own.payloads own.sets own.word o own.is_word there,
      );
    }
begun-stocked s t bytes a b mode.Map h is begins = absurd begins
begun-stocked s t bytes a b mode.BlackBox h is begins = absurd begins

begun-each : (s : Site) (ts : List Strategy) (bytes : List ℕ) (a b : ℕ) (fs : List Keep)
    → BeginEach s ts bytes a b fs → All (IsStocked s (replicate (pieces_of s.out) true) 0) fs
begun-each s [] bytes a b [] begin = All-nil (IsStocked s (replicate (pieces_of s.out) true) 0)
begun-each s [] bytes a b (f ∷ fs) begin = absurd begin
begun-each s (t ∷ ts) bytes a b [] begin = absurd begin
begun-each s (t ∷ ts) bytes a b (f ∷ fs) begin =
    All-cons (IsStocked s (replicate (pieces_of s.out) true) 0) f fs
    (begun-stocked s f.strategy bytes a begin.0 (mode_of t) f.holding (ap mode_of begin.2) begin.3)
    (begun-each s ts bytes begin.0 b fs begin.4)

begun-strategies : (s : Site) (ts : List Strategy) (bytes : List ℕ) (a b : ℕ) (fs : List Keep)
    → BeginEach s ts bytes a b fs → map (λ f. f.strategy) fs ≡ ts
begun-strategies s [] bytes a b [] begin = refl
begun-strategies s [] bytes a b (f ∷ fs) begin = absurd begin
begun-strategies s (t ∷ ts) bytes a b [] begin = absurd begin
begun-strategies s (t ∷ ts) bytes a b (f ∷ fs) begin =
    ap₂ (λ (x : Strategy) (xs : List Strategy). x ∷ xs) begin.2 (begun-strategies s ts bytes begin.0 b fs begin.4)

pub stocked-read : (s : Site) (list : List Strategy) (bytes : List ℕ) (a b : ℕ) (fs : List Keep) (sites : List Site)
    → All (λ t. supports s.op t ≡ true) list → All (λ x. x ≡ s) sites
    → BeginEach s (stored_in list) bytes a b fs
    → AreStocked s list (replicate (pieces_of s.out) true) 0 fs sites
stocked-read s list bytes a b fs sites supported same begin = record {
  supported = supported;
  stored = begun-strategies s (stored_in list) bytes a b fs begin;
  same = same;
  pieces = length-replicate (pieces_of s.out) true;
  each = begun-each s (stored_in list) bytes a b fs begin;
}
