-- The stores of a tag: what they stand for while pieces are placed, and once every piece is.
--
-- The key idea: what is open is made of lineages that fit, one of each placed piece; so it stands for the relation on
-- these pieces, and where none is missing, on all. What is shared stands for the relation from the start.
use Rattle.std.proofs.Common.{◌≡◌, ℕ, ◌/◌, ◌<◌, ◌==◌, Bool, true, false, List, [], ◌∷◌, length, map}
use Rattle.std.proofs.Common.{get_or, ◌++◌, Some, None}
use Rattle.std.proofs.Common.{refl, sym, ap, subst, ◌∙◌, true≢false, inl, inr}
use Rattle.std.specs.List.{All, list_any}
use Rattle.std.specs.Arc.{arc_value}
use Rattle.std.proofs.lemmas.Bool.{cases_Bool, and_parts}
use Rattle.std.proofs.lemmas.List.Elements.{All-head, All-tail, All-append, All-cons, All-nil}
use Rattle.sz_cells.specs.declared.Cell.{Cell}
use Rattle.sz_cells.specs.Extent.{Extent, holds, index_of}
use Rattle.sz_cells.specs.Cells.{Cells, cells_where, any_cell, has, with_those}
use Rattle.sz_cells.proofs.Sets.{cells_where-ext, any_cell-ext}
use Rattle.sz_spec.specs.declared.modes.Dir.{Dir}
use Rattle.sz_spec.specs.declared.modes.Dir.TheVariants.{Back, Forward}
use Rattle.sz_spec.specs.declared.modes.Strategy.{Strategy}
use Rattle.sz_spec.specs.Values.{extent_at}
use Rattle.sz_spec.specs.Shapes.{Site}
use Rattle.sz_spec.specs.Modes.{number_of, is_stored, is_listed}
use Rattle.sz_spec.specs.Pieces.{pieces_of}
use Rattle.sz_spec.specs.Sides.{near_side, image_in}
use Rattle.sz_frame.specs.Parts.{Parts}
use Rattle.sz_store.specs.Needed.{FitsAsNeeded}
use Rattle.sz_frame.specs.Images.{measure_of}
use Rattle.sz_frame.specs.Laws.{IsTheRelation}
use Rattle.sz_frame.proofs.Passing.{any-map}
use Rattle.sz_store.specs.Kept.{Holding, regions, entries, Keep, NodeLineage, keep_with, with_lineage, with_lineages}
use Rattle.sz_store.specs.Kept.{empty_keep, no_lineage, stored_in, is_placed, holding_for, holding_stands}
use Rattle.sz_store.proofs.Listed.{listed-stored}
use Rattle.sz_store.proofs.Parting.{holding_has, stands-old}
use Rattle.sz_store.proofs.Placed.{is-false, own-piece}
use Rattle.sz_shelf.specs.Tags.{Tag, StandsFor, tag_pieces, tag_relation, tag_image}
use Rattle.sz_shelf.specs.Contents.{is_in, missing_in}
use Rattle.sz_shelf.specs.LawsStores.{LineagesStandOnTheirPieces, LineagesOfAllPiecesStandForTheTag}
use Rattle.sz_shelf.specs.LawsStores.{WholeStoresStandOnPlacedPieces, EachStrategyStandsForTheTag}
use Rattle.sz_shelf.specs.LawsStores.{ImagesByStoresAreTheTags}
use Rattle.sz_shelf.specs.Placed.{StandsOnPlaced, unplaced_stands}
use Rattle.sz_shelf.specs.Keeping.{IsMadeOf, AreStores, store_in, IsSharedFrom, CanTake, with_more}
use Rattle.sz_shelf.specs.declared.stored.Stored.{Stored}
use Rattle.sz_shelf.specs.declared.stored.Stored.TheVariants.{Open, Shared, Moved}
use Rattle.sz_shelf.proofs.Fitting.{needed-placed}
use Rattle.sz_store.proofs.Lineages.{run-all, empty-right, none-placed, needed-make-relation}
use Rattle.sz_shelf.proofs.Marks.{each-placed}

-- ---- what lineages leave as it is

strategies-with : (p : Parts) (fs : List Keep) → map (λ f. f.strategy) (map (keep_with p) fs) ≡ map (λ f. f.strategy) fs
strategies-with p [] = refl
strategies-with p (f ∷ fs) = ap (λ (ts : List Strategy). f.strategy ∷ ts) (strategies-with p fs)

strategies-empty : (ts : List Strategy) → map (λ f. f.strategy) (map empty_keep ts) ≡ ts
strategies-empty [] = refl
strategies-empty (t ∷ ts) = ap (λ (us : List Strategy). t ∷ us) (strategies-empty ts)

-- operator, list and strategies stay
record IsSame (st last : NodeLineage) : Type 0 where
  site : last.site ≡ st.site
  list : last.list ≡ st.list
  stored : map (λ f. f.strategy) last.stores ≡ map (λ f. f.strategy) st.stores

same-one : (st : NodeLineage) (p : Parts) → IsSame st (with_lineage st p)
same-one st p =
    elim (cases_Bool (is_placed st.placed p.piece)) [
      | inl there ↦ rw there (record { site = refl; list = refl; stored = refl })
      | inr new ↦ rw new (record { site = refl; list = refl; stored = strategies-with p st.stores })
    ]

same-all : (st : NodeLineage) (ps : List Parts) → IsSame st (with_lineages st ps)
same-all st [] = record { site = refl; list = refl; stored = refl }
same-all st (p ∷ ps) =
    let one = same-one st p in
    let rest = same-all (with_lineage st p) ps in
    record { site = rest.site ∙ one.site; list = rest.list ∙ one.list; stored = rest.stored ∙ one.stored }

-- ---- what is made of lineages

-- what a store stands for on a cell that it has not
stands-unplaced : (s : Site) (h : Holding) (i : ℕ) (o x : Cell) → holding_has h o ≡ false
    → holding_stands s h i o x ≡ unplaced_stands s h i o x
stands-unplaced s (regions rs) i o x none =
    stands-old s (record { piece = 0; regions = rs; pays = []; comps = [] }) (regions []) i o x none
stands-unplaced s (entries false es) i o x none =
    stands-old s (record { piece = 0; regions = []; pays = es; comps = [] }) (entries false []) i o x none
stands-unplaced s (entries true es) i o x none =
    stands-old s (record { piece = 0; regions = []; pays = []; comps = es }) (entries true []) i o x none

-- a piece is placed by some of the lineages exactly where it is in the list of their pieces
piece-in : (ps : List Parts) (k : ℕ) → is_in (map (λ p. p.piece) ps) k ≡ list_any (λ p. p.piece == k) ps
piece-in ps k = any-map (λ (j : ℕ). j == k) (λ (p : Parts). p.piece) ps

pub made-placed : LineagesStandOnTheirPieces
made-placed t ps fit =
    let start = no_lineage t.site t.list in
    let same = same-all start ps in
    let run = run-all t.site t.inputs t.list ps start (empty-right t.site t.inputs t.list) fit in
    record {
      site = same.site;
      list = same.list;
      stored = same.stored ∙ strategies-empty (stored_in t.list);
      exact =
          λ k there j f inside.
          (run.right.each j f inside).stands k (run.own k (sym (piece-in ps k) ∙ there));
      nothing =
          λ i o x held out j f inside.
          let right = run.right.each j f inside in
          let h = (get_or (with_lineages start ps).stores j f).holding in
          stands-unplaced t.site h i o x
          (is-false (holding_has h o)
          (λ had.
          elim (run.back (index_of t.site.out o / 64) (right.inside o had)) [
            | inl some ↦ true≢false (sym (piece-in ps (index_of t.site.out o / 64) ∙ some) ∙ out)
            | inr none ↦ true≢false (sym none ∙ none-placed (pieces_of t.site.out) (index_of t.site.out o / 64))
          ]));
    }

pub made-whole : LineagesOfAllPiecesStandForTheTag
made-whole t ps fit none =
    let start = no_lineage t.site t.list in
    let same = same-all start ps in
    let made = needed-make-relation t.site t.inputs t.list ps fit
    (λ k below. sym (piece-in ps k) ∙ each-placed (tag_pieces t) (map (λ p. p.piece) ps) none k below) in
    record {
      site = same.site;
      list = same.list;
      stored = same.stored ∙ strategies-empty (stored_in t.list);
      whole = made.0;
      exact = made.1;
    }

-- ---- the stores of a tag

-- what stands for the relation stands for it on each piece
pub whole-placed : WholeStoresStandOnPlacedPieces
whole-placed t placed kept none is = record {
  site = is.site;
  list = is.list;
  stored = is.stored;
  exact =
      λ k there j f inside i o x few here held.
      is.exact j f inside i o x few (and_parts (holds t.site.out o) (index_of t.site.out o / 64 == k) here).0 held;
  nothing =
      λ i o x held out.
      absurd
      (true≢false
      (sym (each-placed (tag_pieces t) placed none (index_of t.site.out o / 64) (own-piece t.site.out o held).0)
      ∙ out));
}

pub stores-placed : (t : Tag) (placed : List ℕ) (sealed : Bool) (s : Stored) (kept : NodeLineage)
    → (sealed ≡ true → missing_in (tag_pieces t) placed ≡ None) → AreStores t placed sealed s
    → store_in s ≡ Some kept → StandsOnPlaced t placed kept
stores-placed t placed sealed (Open k) kept whole are is =
    let same : k ≡ kept = cc in
    subst (λ (x : NodeLineage). StandsOnPlaced t placed x) (sym are.made ∙ same)
    (subst (λ (xs : List ℕ). StandsOnPlaced t xs (with_lineages (no_lineage t.site t.list) are.lineages)) are.pieces
    (made-placed t are.lineages are.fit))
stores-placed t placed sealed (Shared a) kept whole are is =
    let same : arc_value a ≡ kept = cc in
    whole-placed t placed kept (whole are.0) (subst (λ (x : NodeLineage). StandsFor t x) same are.1)
stores-placed t placed sealed Moved kept whole are is = absurd are

pub stores-whole : (t : Tag) (placed : List ℕ) (sealed : Bool) (s : Stored) (kept : NodeLineage)
    → missing_in (tag_pieces t) placed ≡ None → AreStores t placed sealed s
    → store_in s ≡ Some kept → StandsFor t kept
stores-whole t placed sealed (Open k) kept none are is =
    let same : k ≡ kept = cc in
    subst (λ (x : NodeLineage). StandsFor t x) (sym are.made ∙ same)
    (made-whole t are.lineages are.fit
    (subst (λ (xs : List ℕ). missing_in (tag_pieces t) xs ≡ None) (sym are.pieces) none))
stores-whole t placed sealed (Shared a) kept none are is =
    let same : arc_value a ≡ kept = cc in subst (λ (x : NodeLineage). StandsFor t x) same are.1
stores-whole t placed sealed Moved kept none are is = absurd are

-- shared, they are still the tag's
pub stores-shared : (t : Tag) (placed : List ℕ) (before after : Stored)
    → missing_in (tag_pieces t) placed ≡ None → AreStores t placed true before → IsSharedFrom before after
    → AreStores t placed true after
stores-shared t placed before (Open k) none are from = subst (λ (s : Stored). AreStores t placed true s) (sym from) are
stores-shared t placed before (Shared a) none are from =
    (refl, stores-whole t placed true before (arc_value a) none are from)
stores-shared t placed before Moved none are from = subst (λ (s : Stored). AreStores t placed true s) (sym from) are

-- ---- one lineage more

with-last : (st : NodeLineage) (ps : List Parts) (p : Parts)
    → with_lineages st (ps ++ p ∷ []) ≡ with_lineage (with_lineages st ps) p
with-last st [] p = refl
with-last st (q ∷ ps) p = with-last (with_lineage st q) ps p

pieces-last : (ps : List Parts) (p : Parts) → map (λ q. q.piece) (ps ++ p ∷ []) ≡ map (λ q. q.piece) ps ++ p.piece ∷ []
pieces-last [] p = refl
pieces-last (q ∷ ps) p = ap (λ (ks : List ℕ). q.piece ∷ ks) (pieces-last ps p)

pub made-more : (t : Tag) (placed : List ℕ) (kept : NodeLineage) (p : Parts) → IsMadeOf t placed kept
    → p.piece < tag_pieces t → FitsAsNeeded (measure_of t.site t.inputs) t.list p.piece p
    → IsMadeOf t (placed ++ p.piece ∷ []) (with_lineage kept p)
made-more t placed kept p made below fits =
    let Q : Parts → Type 0 =
    λ q. (q.piece < pieces_of t.site.out) × FitsAsNeeded (measure_of t.site t.inputs) t.list q.piece q in
    record {
      lineages = made.lineages ++ p ∷ [];
      fit = All-append Q made.lineages (p ∷ []) made.fit (All-cons Q p [] (below, fits) (All-nil Q));
      pieces = pieces-last made.lineages p ∙ ap (λ (ks : List ℕ). ks ++ p.piece ∷ []) made.pieces;
      made =
          ap (λ (x : NodeLineage). with_lineage x p) made.made
          ∙ sym (with-last (no_lineage t.site t.list) made.lineages p);
    }

-- open stores can be given a lineage that fits
pub can-take : (t : Tag) (placed : List ℕ) (sealed : Bool) (s : Stored) (p : Parts) → sealed ≡ false
    → AreStores t placed sealed s → p.piece < tag_pieces t
    → FitsAsNeeded (measure_of t.site t.inputs) t.list p.piece p → CanTake p s
can-take t placed sealed (Open kept) p free are below fits =
    let same = same-all (no_lineage t.site t.list) are.lineages in
    let site : kept.site ≡ t.site = ap (λ (x : NodeLineage). x.site) are.made ∙ same.site in
    let list : kept.list ≡ t.list = ap (λ (x : NodeLineage). x.list) are.made ∙ same.list in (
      rw site below,
      rw (site, list) (needed-placed t.site t.inputs t.list p fits),
    )
can-take t placed sealed (Shared a) p free are below fits = absurd (true≢false (sym are.0 ∙ free))
can-take t placed sealed Moved p free are below fits = absurd are

-- and are then the tag's still
pub stores-more : (t : Tag) (placed : List ℕ) (sealed : Bool) (s : Stored) (p : Parts) → sealed ≡ false
    → AreStores t placed sealed s → p.piece < tag_pieces t
    → FitsAsNeeded (measure_of t.site t.inputs) t.list p.piece p
    → AreStores t (placed ++ p.piece ∷ []) sealed (with_more p s)
stores-more t placed sealed (Open kept) p free are below fits = made-more t placed kept p are below fits
stores-more t placed sealed (Shared a) p free are below fits = absurd (true≢false (sym are.0 ∙ free))
stores-more t placed sealed Moved p free are below fits = absurd are

pub made-none : (t : Tag) → IsMadeOf t [] (no_lineage t.site t.list)
made-none t = record {
  lineages = [];
  fit =
      All-nil
      (λ (q : Parts). (q.piece < pieces_of t.site.out) × FitsAsNeeded (measure_of t.site t.inputs) t.list q.piece q);
  pieces = refl;
  made = refl;
}

-- ---- the store of a strategy

-- what is so of each store is so of that of a strategy
for-found : (P : Holding → Type 0) (t : Strategy) (fs : List Keep) → All (λ f. P f.holding) fs
    → list_any (λ f. number_of f.strategy == number_of t) fs ≡ true → P (holding_for t fs)
for-found P t [] all some = absurd (true≢false (sym some))
for-found P t (f ∷ fs) all some =
    elim (cases_Bool (number_of f.strategy == number_of t)) [
      | inl here ↦ rw here (All-head (λ (g : Keep). P g.holding) f fs all)
      | inr later ↦
          rw later
          (for-found P t fs (All-tail (λ (g : Keep). P g.holding) f fs all) (rw later at some))
    ]

-- the store of a stored strategy of the list stands for the relation
pub strategy-stands : EachStrategyStandsForTheTag
strategy-stands t kept u is listed stored =
    for-found (λ h. IsTheRelation (measure_of t.site t.inputs) (holding_stands t.site h)) u kept.stores is.exact
    (sym (any-map (λ (v : Strategy). number_of v == number_of u) (λ (f : Keep). f.strategy) kept.stores)
    ∙ ap (λ (us : List Strategy). is_listed us u) is.stored ∙ listed-stored u t.list stored listed)

-- ---- images

any-same : (from : Cells) (p q : Cell → Bool) → from ≡ cells_where from.extent (has from)
    → ((c : Cell) → holds from.extent c ≡ true → p c ≡ q c) → any_cell p from ≡ any_cell q from
any-same from p q own same =
    ap (any_cell p) own ∙ any_cell-ext from.extent (has from) p q (λ c held passes. same c held)
    ∙ sym (ap (any_cell q) own)

-- relations that agree on the cells of the shapes have one image
pub image-same : (dir : Dir) (s : Site) (i : ℕ) (r q : Cell → Cell → Bool) (from : Cells)
    → from ≡ cells_where from.extent (has from) → from.extent ≡ near_side dir s i
    → ((o x : Cell) → holds s.out o ≡ true → holds (extent_at s.ins i) x ≡ true → r o x ≡ q o x)
    → image_in dir s i r from ≡ image_in dir s i q from
image-same Back s i r q from own near same =
    cells_where-ext (extent_at s.ins i) (λ x. any_cell (λ o. r o x) from) (λ x. any_cell (λ o. q o x) from)
    (λ x held. any-same from (λ o. r o x) (λ o. q o x) own
    (λ o there. same o x (subst (λ (e : Extent). holds e o ≡ true) near there) held))
image-same Forward s i r q from own near same =
    cells_where-ext s.out (λ o. any_cell (λ x. r o x) from) (λ o. any_cell (λ x. q o x) from)
    (λ o held. any-same from (λ x. r o x) (λ x. q o x) own
    (λ x there. same o x held (subst (λ (e : Extent). holds e x ≡ true) near there)))

pub image-stands : ImagesByStoresAreTheTags
image-stands t kept u dir i from is listed stored inside own near =
    ap (λ (s : Site). image_in dir s i (holding_stands s (holding_for u kept.stores) i) from) is.site
    ∙ image-same dir t.site i (holding_stands t.site (holding_for u kept.stores) i) (tag_relation t i) from own near
    (λ o x here held. strategy-stands t kept u is listed stored i o x inside here held)

-- so what a store adds by that strategy is the image under the tag's relation
pub image-told : (t : Tag) (kept : NodeLineage) (u : Strategy) (dir : Dir) (i : ℕ) (from to : Cells) → StandsFor t kept
    → is_listed t.list u ≡ true → is_stored u ≡ true → i < length t.site.ins
    → from ≡ cells_where from.extent (has from) → from.extent ≡ near_side dir t.site i
    → with_those to (has (image_in dir kept.site i (holding_stands kept.site (holding_for u kept.stores) i) from))
    ≡ with_those to (has (tag_image dir t i from))
image-told t kept u dir i from to is listed stored inside own near =
    ap (λ (set : Cells). with_those to (has set)) (image-stands t kept u dir i from is listed stored inside own near)
