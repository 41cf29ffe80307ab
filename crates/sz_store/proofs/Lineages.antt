-- Lineages that fit, placed one after another: what the stores then stand for, on placed pieces and elsewhere.
--
-- The key idea: what a store keeps is of placed pieces alone, and on each placed piece it stands for the relation. A
-- lineage of a further piece has cells of that piece alone, so it changes nothing on the others; and of the further
-- piece's cells the store had nothing.
use Rattle.std.proofs.Common.{◌≡◌, ℕ, ◌/◌, ◌<◌, ◌==◌, ◌||◌, Bool, true, false, ◌⊎◌, List, [], ◌∷◌, length}
use Rattle.std.proofs.Common.{refl, sym, ap, ◌∙◌, true≢false, eqb-true, eq-eqb, inl, inr}
use Rattle.std.proofs.Common.{arith, get_or, set, length-set}
use Rattle.std.specs.Prelude.{replicate}
use Rattle.std.specs.List.{All, list_any}
use Rattle.std.proofs.lemmas.Bool.{cases_Bool, cases_lt}
use Rattle.std.proofs.lemmas.List.{get_or-replicate, get_or_past, length-replicate}
use Rattle.std.proofs.lemmas.List.Folds.{list_any_at}
use Rattle.std.proofs.lemmas.List.Elements.{All-head, All-tail, All-map, All-weaker}
use Rattle.std.proofs.lemmas.List.Elements.{All-filter, filter_passes}
use Rattle.sz_cells.specs.declared.Cell.{Cell}
use Rattle.sz_cells.specs.Extent.{index_of}
use Rattle.sz_cells.specs.Cells.{has}
use Rattle.sz_spec.specs.declared.modes.Mode.{Mode}
use Rattle.sz_spec.specs.declared.modes.Mode.TheVariants as mode
use Rattle.sz_spec.specs.declared.modes.Strategy.{Strategy}
use Rattle.sz_spec.specs.declared.modes.Strategy.TheVariants as strategy
use Rattle.sz_spec.specs.Values.{Grid}
use Rattle.sz_spec.specs.Shapes.{Site}
use Rattle.sz_spec.specs.Modes.{mode_of, is_stored}
use Rattle.sz_spec.specs.Pieces.{pieces_of, is_in_piece}
use Rattle.sz_frame.specs.Parts.{Pairing, Entry, Parts}
use Rattle.sz_frame.specs.Fits.{Fits, StandsOn, IsRegion, IsEntry, needs, is_mode}
use Rattle.sz_frame.specs.Images.{measure_of}
use Rattle.sz_frame.specs.Laws.{IsTheRelation}
use Rattle.sz_store.specs.Kept.{Holding, regions, entries, NodeLineage, with_part, keep_with, with_lineage}
use Rattle.sz_store.specs.Kept.{with_lineages, empty_keep, no_lineage, stored_in, nothing_for, is_placed}
use Rattle.sz_store.specs.Kept.{holding_stands, is_whole}
use Rattle.sz_store.specs.Laws.{HasEachPiece, PlacedPiecesMakeTheRelation}
use Rattle.sz_store.specs.Stocks.{mode_in}
use Rattle.sz_store.specs.Needed.{FitsAsNeeded, AllFitAsNeeded}
use Rattle.sz_store.proofs.Parting.{holding_has, part_in, or-cases, has-more, stands-old, stands-new, any-inside}
use Rattle.sz_store.proofs.Parting.{piece-number}
use Rattle.sz_store.proofs.Placed.{placed-same, placed-more, placed-cases, is-false, all-placed, own-piece}

-- a store of the list is right so far
pub record IsRight (s : Site) (inputs : List Grid) (list : List Strategy) (placed : List Bool)
    (h : Holding) : Type 0 where
  pub needed : needs list (mode_in h) ≡ true
  pub inside : (o : Cell) → holding_has h o ≡ true → is_placed placed (index_of s.out o / 64) ≡ true
  pub stands : (k : ℕ) → is_placed placed k ≡ true → StandsOn (measure_of s inputs) k (holding_stands s h)

pub record AreRight (s : Site) (inputs : List Grid) (list : List Strategy) (st : NodeLineage) : Type 0 where
  pub long : length st.placed ≡ pieces_of s.out
  pub each : All (λ f. IsRight s inputs list st.placed f.holding) st.stores

-- ---- the part of a lineage that fits

part-inside : (s : Site) (inputs : List Grid) (list : List Strategy) (p : Parts) (h : Holding) (o : Cell)
    → FitsAsNeeded (measure_of s inputs) list p.piece p → needs list (mode_in h) ≡ true
    → holding_has (part_in p h) o ≡ true → is_in_piece s.out p.piece o ≡ true
part-inside s inputs list p (regions rs) o fits need there =
    any-inside s.out p.piece o (IsRegion (measure_of s inputs) p.piece) (λ (r : Pairing). has r.out o) p.regions
    (λ r is. is.out.inside o) (fits.full need).each there
part-inside s inputs list p (entries false es) o fits need there =
    any-inside s.out p.piece o (IsEntry (measure_of s inputs) p.piece) (λ (e : Entry). has e.out o) p.pays
    (λ e is. is.out.inside o) (fits.pay need).each there
part-inside s inputs list p (entries true es) o fits need there =
    any-inside s.out p.piece o (IsEntry (measure_of s inputs) p.piece) (λ (e : Entry). has e.out o) p.comps
    (λ e is. is.out.inside o) (fits.comp need).each there

part-stands : (s : Site) (inputs : List Grid) (list : List Strategy) (p : Parts) (h : Holding)
    → FitsAsNeeded (measure_of s inputs) list p.piece p → needs list (mode_in h) ≡ true
    → StandsOn (measure_of s inputs) p.piece (holding_stands s (part_in p h))
part-stands s inputs list p (regions rs) fits need = (fits.full need).stands
part-stands s inputs list p (entries false es) fits need = (fits.pay need).stands
part-stands s inputs list p (entries true es) fits need = (fits.comp need).stands

mode-more : (p : Parts) (h : Holding) → mode_in (with_part p h) ≡ mode_in h
mode-more p (regions rs) = refl
mode-more p (entries false es) = refl
mode-more p (entries true es) = refl

-- ---- one lineage more

right-more : (s : Site) (inputs : List Grid) (list : List Strategy) (placed : List Bool) (p : Parts) (h : Holding)
    → is_placed placed p.piece ≡ false → p.piece < length placed → FitsAsNeeded (measure_of s inputs) list p.piece p
    → IsRight s inputs list placed h → IsRight s inputs list (set placed p.piece true) (with_part p h)
right-more s inputs list placed p h new below fits right = record {
  needed = ap (needs list) (mode-more p h) ∙ right.needed;
  inside =
      λ o there.
      elim (or-cases (holding_has h o) (holding_has (part_in p h) o) (sym (has-more p h o) ∙ there)) [
        | inl old ↦ placed-more placed p.piece (index_of s.out o / 64) below (right.inside o old)
        | inr more ↦
            rw (piece-number s.out p.piece o (part-inside s inputs list p h o fits right.needed more))
            (placed-same placed p.piece below)
      ];
  stands =
      λ k there i o x few here held.
      elim (placed-cases placed p.piece k there) [
        | inl same ↦
            let own : is_in_piece s.out p.piece o ≡ true = sym (ap (λ (j : ℕ). is_in_piece s.out j o) same) ∙ here in
            stands-new s p h i o x
            (is-false (holding_has h o)
            (λ had.
            true≢false
            (sym (right.inside o had)
            ∙ ap (is_placed placed) (piece-number s.out p.piece o own) ∙ new)))
            ∙ part-stands s inputs list p h fits right.needed i o x few own held
        | inr before ↦
            stands-old s p h i o x
            (is-false (holding_has (part_in p h) o)
            (λ has.
            let inside = part-inside s inputs list p h o fits right.needed has in
            let same : p.piece ≡ k = sym (piece-number s.out p.piece o inside) ∙ piece-number s.out k o here in
            true≢false (sym before ∙ ap (is_placed placed) (sym same) ∙ new)))
            ∙ right.stands k before i o x few here held
      ];
}

-- what one lineage more leaves
record IsStep (s : Site) (inputs : List Grid) (list : List Strategy) (k : ℕ) (st next : NodeLineage) : Type 0 where
  right : AreRight s inputs list next
  own : is_placed next.placed k ≡ true
  others : (j : ℕ) → is_placed st.placed j ≡ true → is_placed next.placed j ≡ true
  back : (j : ℕ) → is_placed next.placed j ≡ true → (j ≡ k) ⊎ (is_placed st.placed j ≡ true)

step-more : (s : Site) (inputs : List Grid) (list : List Strategy) (st : NodeLineage) (p : Parts)
    → AreRight s inputs list st → p.piece < pieces_of s.out → FitsAsNeeded (measure_of s inputs) list p.piece p
    → IsStep s inputs list p.piece st (with_lineage st p)
step-more s inputs list st p right below fits =
    elim (cases_Bool (is_placed st.placed p.piece)) [
      | inl there ↦
          rw there (record { right = right; own = there; others = λ j placed. placed; back = λ j placed. inr placed })
      | inr new ↦
          let long = right.long in
          let inside : p.piece < length st.placed = omega arith in
          rw new (record {
            right = record {
              long = length-set st.placed p.piece true ∙ right.long;
              each =
                  All-map (λ f. IsRight s inputs list (set st.placed p.piece true) f.holding) (keep_with p) st.stores
                  (All-weaker (λ f. IsRight s inputs list st.placed f.holding)
                  (λ f. IsRight s inputs list (set st.placed p.piece true) (with_part p f.holding))
                  (λ f is. right-more s inputs list st.placed p f.holding new inside fits is) st.stores right.each);
            };
            own = placed-same st.placed p.piece inside;
            others = λ j placed. placed-more st.placed p.piece j inside placed;
            back = λ j placed. placed-cases st.placed p.piece j placed;
          })
    ]

-- all of them
pub record IsRun (s : Site) (inputs : List Grid) (list : List Strategy) (ps : List Parts)
    (st last : NodeLineage) : Type 0 where
  pub right : AreRight s inputs list last
  pub own : (k : ℕ) → list_any (λ p. p.piece == k) ps ≡ true → is_placed last.placed k ≡ true
  pub others : (j : ℕ) → is_placed st.placed j ≡ true → is_placed last.placed j ≡ true
  pub back : (j : ℕ) → is_placed last.placed j ≡ true
      → (list_any (λ p. p.piece == j) ps ≡ true) ⊎ (is_placed st.placed j ≡ true)

or-right : (b c : Bool) → c ≡ true → (b || c) ≡ true
or-right true c there = refl
or-right false c there = there

pub run-all : (s : Site) (inputs : List Grid) (list : List Strategy) (ps : List Parts) (st : NodeLineage)
    → AreRight s inputs list st → AllFitAsNeeded s inputs list ps → IsRun s inputs list ps st (with_lineages st ps)
run-all s inputs list [] st right fit = record {
  right = right;
  own = λ k none. absurd (true≢false (sym none));
  others = λ j placed. placed;
  back = λ j placed. inr placed;
}
run-all s inputs list (p ∷ ps) st right fit =
    let Q : Parts → Type 0 = λ q. (q.piece < pieces_of s.out) × FitsAsNeeded (measure_of s inputs) list q.piece q in
    let first = All-head Q p ps fit in
    let step = step-more s inputs list st p right first.0 first.1 in
    let rest = run-all s inputs list ps (with_lineage st p) step.right (All-tail Q p ps fit) in
    record {
      right = rest.right;
      own =
          λ k some.
          elim (or-cases (p.piece == k) (list_any (λ q. q.piece == k) ps) some) [
            | inl here ↦
                rest.others k
                (ap (is_placed (with_lineage st p).placed) (sym (eqb-true p.piece k here)) ∙ step.own)
            | inr later ↦ rest.own k later
          ];
      others = λ j placed. rest.others j (step.others j placed);
      back =
          λ j placed.
          elim (rest.back j placed) [
            | inl later ↦ inl (or-right (p.piece == j) (list_any (λ q. q.piece == j) ps) later)
            | inr before ↦
                elim (step.back j before) [
                  | inl same ↦
                      inl
                      (ap (λ (b : Bool). b || list_any (λ q. q.piece == j) ps) (eq-eqb p.piece j (sym same)))
                  | inr old ↦ inr old
                ]
          ];
    }

-- ---- before the first

is-own : (t : Strategy) → is_stored t ≡ true → is_mode (mode_in (nothing_for (mode_of t))) (mode_of t) ≡ true
is-own strategy.Map stored = absurd (true≢false (sym stored))
is-own strategy.FullOneB stored = refl
is-own strategy.FullOneF stored = refl
is-own strategy.FullManyB stored = refl
is-own strategy.FullManyF stored = refl
is-own strategy.PayOne stored = refl
is-own strategy.PayMany stored = refl
is-own strategy.CompOne stored = refl
is-own strategy.CompMany stored = refl
is-own strategy.BlackBox stored = absurd (true≢false (sym stored))

none-has : (m : Mode) (o : Cell) → holding_has (nothing_for m) o ≡ false
none-has mode.Full o = refl
none-has mode.Map o = refl
none-has mode.Pay o = refl
none-has mode.Comp o = refl
none-has mode.BlackBox o = refl

pub none-placed : (n k : ℕ) → is_placed (replicate n false) k ≡ false
none-placed n k =
    elim (cases_lt k n) [
      | inl below ↦ get_or-replicate n k false false below
      | inr past ↦
          let long = length-replicate n false in
          get_or_past (replicate n false) k false (omega arith)
    ]

any-own : (list : List Strategy) (k : ℕ) (d : Strategy) → k < length list → is_stored (get_or list k d) ≡ true
    → needs list (mode_in (nothing_for (mode_of (get_or list k d)))) ≡ true
any-own list k d inside stored =
    let t = get_or list k d in
    list_any_at (λ (u : Strategy). is_mode (mode_in (nothing_for (mode_of t))) (mode_of u)) list k d inside
    (is-own t stored)

pub empty-right : (s : Site) (inputs : List Grid) (list : List Strategy) → AreRight s inputs list (no_lineage s list)
empty-right s inputs list =
    let n = pieces_of s.out in
    record {
      long = length-replicate n false;
      each =
          All-map (λ f. IsRight s inputs list (replicate n false) f.holding) empty_keep (stored_in list)
          (λ k d inside.
          let t = get_or (stored_in list) k d in
          let stored : is_stored t ≡ true = filter_passes is_stored list k d inside in
          let own : is_stored t ≡ true → needs list (mode_in (nothing_for (mode_of t))) ≡ true =
          All-filter is_stored
          (λ (u : Strategy). is_stored u ≡ true → needs list (mode_in (nothing_for (mode_of u))) ≡ true) list
          (any-own list) k d inside in
          record {
            needed = own stored;
            inside = λ o there. absurd (true≢false (sym there ∙ none-has (mode_of t) o));
            stands = λ j there. absurd (true≢false (sym there ∙ none-placed n j));
          });
    }

-- ---- all pieces

pub needed-make-relation : (s : Site) (inputs : List Grid) (list : List Strategy) (ps : List Parts)
    → AllFitAsNeeded s inputs list ps → HasEachPiece s ps
    → let kept = with_lineages (no_lineage s list) ps in (is_whole kept ≡ true)
    × All (λ f. IsTheRelation (measure_of s inputs) (holding_stands s f.holding)) kept.stores
needed-make-relation s inputs list ps fit each =
    let last = with_lineages (no_lineage s list) ps in
    let run = run-all s inputs list ps (no_lineage s list) (empty-right s inputs list) fit in
    let long = run.right.long in (
      all-placed last.placed (λ k below. run.own k (each k (omega (arith, long, below)))),
      λ k d inside i o x few held there.
          let right = run.right.each k d inside in
          let own = own-piece s.out o held in
          right.stands (index_of s.out o / 64) (run.own (index_of s.out o / 64) (each (index_of s.out o / 64) own.0))
          i o x few own.1 there,
    )

-- lineages that fit do so as needed
pub pieces-make-relation : PlacedPiecesMakeTheRelation
pieces-make-relation s inputs list ps fit each =
    needed-make-relation s inputs list ps
    (All-weaker (λ p. (p.piece < pieces_of s.out) × Fits (measure_of s inputs) list p.piece p)
    (λ p. (p.piece < pieces_of s.out) × FitsAsNeeded (measure_of s inputs) list p.piece p)
    (λ p both. (both.0, record { full = both.1.full; pay = both.1.pay; comp = both.1.comp })) ps fit) each
