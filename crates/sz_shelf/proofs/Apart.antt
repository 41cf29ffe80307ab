-- Of the operator `regions` the sets of region pairs that have the images of an output cell are one or apart.
--
-- The key idea: an output cell is related to its component, or to itself alone where it is not high; two components
-- with a cell in common are one, and each cell of a component is high.
use Rattle.std.proofs.Common.{◌≡◌, ℕ, ℤ, ◌+◌, ◌*◌, ◌<◌, ◌≤◌, ◌==◌, ◌&&◌, Bool, true, false, List, ◌++◌, All, length}
use Rattle.std.proofs.Common.{get_or, refl, sym, ap, subst, ◌∙◌, true≢false, inl, inr, arith}
use Rattle.std.specs.Prelude.{if◌then◌else◌, unwrap_or}
use Rattle.std.specs.List.{slice_get}
use Rattle.std.proofs.lemmas.Bool.{cases_Bool, cases_lt, and_parts}
use Rattle.std.proofs.lemmas.Option.{slice_get_within, slice_get_past, unwrap_or-slice_get, get_or_from_slice_get}
use Rattle.std.proofs.lemmas.List.Elements.{All-append, All-map, All-nil}
use Rattle.std.proofs.lemmas.List.FromFn.{get_or-map-range_with_len, length-map-range_with_len}
use Rattle.sz_cells.specs.declared.Cell.{Cell}
use Rattle.sz_cells.specs.Extent.{Extent, holds, cell_of}
use Rattle.sz_cells.specs.Cells.{Cells, is_same, cells_where, has, no_cells}
use Rattle.sz_cells.proofs.Sets.{cells_where-ext, has-cells_where_any, is_same-true, is_same-from}
use Rattle.sz_spec.specs.declared.op.Op.{Op}
use Rattle.sz_spec.specs.declared.op.Op.TheVariants.{Regions}
use Rattle.sz_spec.specs.declared.modes.Mode.{Mode}
use Rattle.sz_spec.specs.declared.modes.Mode.TheVariants as mode
use Rattle.sz_spec.specs.declared.modes.Strategy.{Strategy}
use Rattle.sz_spec.specs.Values.{Grid, input_at, extent_at, no_extent}
use Rattle.sz_spec.specs.Shapes.{Site}
use Rattle.sz_spec.specs.Modes.{mode_of}
use Rattle.sz_spec.specs.Lineage.{related}
use Rattle.sz_spec.specs.Operators.Regions.{is_high, is_connected}
use Rattle.sz_spec.proofs.Components.{component-same, connected-back, connected-parts, connected-high}
use Rattle.sz_frame.specs.Parts.{Pairing, Parts}
use Rattle.sz_frame.specs.Stands.{set_of}
use Rattle.sz_frame.specs.Images.{related_cells, related_sets}
use Rattle.sz_frame.specs.Written.{parts_by, region_by, leaders_below, keepings_of, full_keeping}
use Rattle.sz_frame.specs.Fits.{needs}
use Rattle.sz_tables.specs.Apart.{IsOneOrApart, AreOneOrApart, HaveInputsApart}
use Rattle.sz_store.specs.Kept.{Holding, regions, entries, Keep, nothing_for, empty_keep, stored_in}
use Rattle.sz_store.specs.Kept.{no_lineage, is_placed, with_part, keep_with}
use Rattle.sz_store.specs.Stocks.{StaysApart}
use Rattle.sz_shelf.specs.Tags.{Tag}
use Rattle.sz_shelf.specs.Keeping.{IsSharedFrom, with_more}
use Rattle.sz_shelf.specs.Apart.{HasImages, HoldsImages, IsRegions, AreRegionImages, StayApart}
use Rattle.sz_shelf.specs.declared.stored.Stored.{Stored}
use Rattle.sz_shelf.specs.declared.stored.Stored.TheVariants.{Open, Shared, Moved}

-- ---- tests

first-taken : (b x y : Bool) → b ≡ true → (if b then x else y) ≡ true → x ≡ true
first-taken true x y is told = told
first-taken false x y is told = absurd (true≢false (sym is))

second-taken : (b x y : Bool) → b ≡ false → (if b then x else y) ≡ true → y ≡ true
second-taken true x y is told = absurd (true≢false is)
second-taken false x y is told = told

both-first : (a b x y u v : Bool) → a ≡ true → b ≡ true → x ≡ y → (if a then x else u) ≡ (if b then y else v)
both-first true true x y u v first second same = same
both-first true false x y u v first second same = absurd (true≢false (sym second))
both-first false b x y u v first second same = absurd (true≢false (sym first))

-- ---- what two output cells of `regions` are related to

-- a cell to which one is related is connected to it, or is the same
told-of : (z : ℤ) (inputs : List Grid) (i : ℕ) (e : Extent) (o c : Cell)
    → has (cells_where e (related (Regions z) inputs i o)) c ≡ true
    → (if is_high z (input_at inputs 0) o then is_connected z (input_at inputs 0) o c else is_same c o) ≡ true
told-of z inputs i e o c there =
    let p = related (Regions z) inputs i o in
    let here = and_parts (holds e c) (p c) (sym (has-cells_where_any e p c) ∙ there) in
    (and_parts (i == 0)
    (if is_high z (input_at inputs 0) o then is_connected z (input_at inputs 0) o c else is_same c o) here.1).1

-- a high one and one that is not
high-low : (z : ℤ) (inputs : List Grid) (i : ℕ) (e : Extent) (o q c : Cell) → is_high z (input_at inputs 0) o ≡ true
    → is_high z (input_at inputs 0) q ≡ false → has (cells_where e (related (Regions z) inputs i o)) c ≡ true
    → has (cells_where e (related (Regions z) inputs i q)) c ≡ true → ⊥
high-low z inputs i e o q c high low here there =
    let g = input_at inputs 0 in
    let linked =
    first-taken (is_high z g o) (is_connected z g o c) (is_same c o) high (told-of z inputs i e o c here) in
    let same = is_same-true c q
    (second-taken (is_high z g q) (is_connected z g q c) (is_same c q) low (told-of z inputs i e q c there)) in
    true≢false (sym (connected-high z g o c linked) ∙ (ap (is_high z g) same ∙ low))

-- two high ones
both-high : (z : ℤ) (inputs : List Grid) (i : ℕ) (e : Extent) (o q : Cell) → is_high z (input_at inputs 0) o ≡ true
    → is_high z (input_at inputs 0) q ≡ true
    → IsOneOrApart (cells_where e (related (Regions z) inputs i o)) (cells_where e (related (Regions z) inputs i q))
both-high z inputs i e o q high higher =
    let g = input_at inputs 0 in
    elim (cases_Bool (is_connected z g o q)) [
      | inl linked ↦
          inl (cells_where-ext e (related (Regions z) inputs i o) (related (Regions z) inputs i q)
          (λ c held.
          ap (λ (b : Bool). (i == 0) && b)
          (both-first (is_high z g o) (is_high z g q) (is_connected z g o c) (is_connected z g q c) (is_same c o)
          (is_same c q) high higher (ap (λ (s : Cells). has s c) (sym (component-same z g o q linked))))))
      | inr other ↦
          inr (λ c here there.
          let first = first-taken (is_high z g o) (is_connected z g o c) (is_same c o) high
          (told-of z inputs i e o c here) in
          let second = first-taken (is_high z g q) (is_connected z g q c) (is_same c q) higher
          (told-of z inputs i e q c there) in
          true≢false (sym (connected-parts z g o c q first (connected-back z g q c second)) ∙ other))
    ]

-- two that are not
both-low : (z : ℤ) (inputs : List Grid) (i : ℕ) (e : Extent) (o q : Cell) → is_high z (input_at inputs 0) o ≡ false
    → is_high z (input_at inputs 0) q ≡ false
    → IsOneOrApart (cells_where e (related (Regions z) inputs i o)) (cells_where e (related (Regions z) inputs i q))
both-low z inputs i e o q low lower =
    let g = input_at inputs 0 in
    elim (cases_Bool (is_same o q)) [
      | inl same ↦ inl (ap (λ (x : Cell). cells_where e (related (Regions z) inputs i x)) (is_same-true o q same))
      | inr other ↦
          inr (λ c here there.
          let first = is_same-true c o
          (second-taken (is_high z g o) (is_connected z g o c) (is_same c o) low (told-of z inputs i e o c here)) in
          let second = is_same-true c q
          (second-taken (is_high z g q) (is_connected z g q c) (is_same c q) lower (told-of z inputs i e q c there)) in
          true≢false (sym (is_same-from o q (sym first ∙ second)) ∙ other))
    ]

cells-apart : (z : ℤ) (inputs : List Grid) (i : ℕ) (e : Extent) (o q : Cell)
    → IsOneOrApart (cells_where e (related (Regions z) inputs i o)) (cells_where e (related (Regions z) inputs i q))
cells-apart z inputs i e o q =
    let g = input_at inputs 0 in
    elim (cases_Bool (is_high z g o)) [
      | inl high ↦
          elim (cases_Bool (is_high z g q)) [
            | inl higher ↦ both-high z inputs i e o q high higher
            | inr low ↦ inr (λ c here there. high-low z inputs i e o q c high low here there)
          ]
      | inr low ↦
          elim (cases_Bool (is_high z g q)) [
            | inl high ↦ inr (λ c here there. high-low z inputs i e q o c high low there here)
            | inr lower ↦ both-low z inputs i e o q low lower
          ]
    ]

-- ---- region pairs

-- the set of a region pair that has the images of a cell
image-set : (s : Site) (inputs : List Grid) (o : Cell) (i : ℕ) (r : Pairing) → r.ins ≡ related_sets s inputs o
    → i < length s.ins → set_of r i ≡ related_cells s inputs i o
image-set s inputs o i r is inside =
    let none = no_cells no_extent in
    ap (λ (xs : List Cells). unwrap_or (slice_get xs i) none) is
    ∙ (unwrap_or-slice_get (related_sets s inputs o) i none
    ∙ get_or-map-range_with_len (λ (j : ℕ). related_cells s inputs j o) 0 (length s.ins) i i none inside (omega arith))

image-past : (s : Site) (inputs : List Grid) (o : Cell) (i : ℕ) (r : Pairing) → r.ins ≡ related_sets s inputs o
    → length s.ins ≤ i → set_of r i ≡ no_cells no_extent
image-past s inputs o i r is past =
    let none = no_cells no_extent in
    let long = length-map-range_with_len (λ (j : ℕ). related_cells s inputs j o) 0 (length s.ins) in
    ap (λ (xs : List Cells). unwrap_or (slice_get xs i) none) is
    ∙ ap (λ x. unwrap_or x none) (slice_get_past (related_sets s inputs o) i (omega (arith, long)))

-- two such region pairs of `regions`
images-alike : (s : Site) (inputs : List Grid) → IsRegions s.op → (q r : Pairing) → HasImages s inputs q
    → HasImages s inputs r → AreOneOrApart q r
images-alike s inputs op q r a b i =
    elim (cases_lt i (length s.ins)) [
      | inl inside ↦
          let e = extent_at s.ins i in
          let one : IsOneOrApart (related_cells s inputs i a.0) (related_cells s inputs i b.0) =
          subst (λ (x : Op). IsOneOrApart (cells_where e (related x inputs i a.0)) (cells_where e (related x inputs i
          b.0))) (sym op.1) (cells-apart op.0 inputs i e a.0 b.0) in
          subst (λ (x : Cells). IsOneOrApart x (set_of r i)) (sym (image-set s inputs a.0 i q a.1 inside))
          (subst (IsOneOrApart (related_cells s inputs i a.0)) (sym (image-set s inputs b.0 i r b.1 inside)) one)
      | inr past ↦ inl (image-past s inputs a.0 i q a.1 past ∙ sym (image-past s inputs b.0 i r b.1 past))
    ]

-- any two of them
pub images-apart : (s : Site) (inputs : List Grid) (rs : List Pairing) → IsRegions s.op → All (HasImages s inputs) rs
    → HaveInputsApart rs
images-apart s inputs rs op all m n q r here there =
    images-alike s inputs op q r
    (subst (HasImages s inputs) (get_or_from_slice_get rs m q q here) (all m q (slice_get_within rs m q here)))
    (subst (HasImages s inputs) (get_or_from_slice_get rs n r r there) (all n r (slice_get_within rs n r there)))

-- the region pairs that are written of a piece have the images of a cell
pub written-images : (s : Site) (inputs : List Grid) (list : List Strategy) (k : ℕ)
    → All (HasImages s inputs) (parts_by s inputs list k).regions
written-images s inputs list k =
    let kept = keepings_of s (full_keeping (needs list mode.Full) s.op inputs) k in
    let leaders = leaders_below kept (length kept) in
    let start = k * 64 in
    All-map (HasImages s inputs) (region_by s inputs start kept) leaders
    (λ j d inside. (cell_of s.out (start + get_or leaders j d), refl))

-- ---- the stores of a tag

holding-apart : (t : Tag) (p : Parts) (h : Holding) → IsRegions t.site.op → All (HasImages t.site t.inputs) p.regions
    → HoldsImages t h → StaysApart p h
holding-apart t p (regions rs) op own images =
    images-apart t.site t.inputs (rs ++ p.regions) op (All-append (HasImages t.site t.inputs) rs p.regions images own)
holding-apart t p (entries comp es) op own images = tt

holding-more : (t : Tag) (p : Parts) (h : Holding) → All (HasImages t.site t.inputs) p.regions → HoldsImages t h
    → HoldsImages t (with_part p h)
holding-more t p (regions rs) own images = All-append (HasImages t.site t.inputs) rs p.regions images own
holding-more t p (entries comp es) own images = tt

holding-none : (t : Tag) (m : Mode) → HoldsImages t (nothing_for m)
holding-none t mode.Full = All-nil (HasImages t.site t.inputs)
holding-none t mode.Map = All-nil (HasImages t.site t.inputs)
holding-none t mode.Pay = tt
holding-none t mode.Comp = tt
holding-none t mode.BlackBox = All-nil (HasImages t.site t.inputs)

-- where a lineage's region pairs have too, all are one or apart
pub stay-apart : (t : Tag) (s : Stored) (p : Parts) → AreRegionImages t s → All (HasImages t.site t.inputs) p.regions
    → StayApart p s
stay-apart t (Open kept) p are own =
    λ k d inside. holding-apart t p (get_or kept.stores k d).holding are.op own (are.images k d inside)
stay-apart t (Shared a) p are own = tt
stay-apart t Moved p are own = tt

-- and those of the stores with it have
pub apart-more : (t : Tag) (s : Stored) (p : Parts) → AreRegionImages t s → All (HasImages t.site t.inputs) p.regions
    → AreRegionImages t (with_more p s)
apart-more t (Open kept) p are own = record {
  op = are.op;
  images =
      let Q : Keep → Type 0 = λ f. HoldsImages t f.holding in
      elim (cases_Bool (is_placed kept.placed p.piece)) [
        | inl there ↦ rw there are.images
        | inr new ↦
            rw new
            (All-map Q (keep_with p) kept.stores
            (λ k d inside. holding-more t p (get_or kept.stores k d).holding own (are.images k d inside)))
      ];
}
apart-more t (Shared a) p are own = record { op = are.op; images = tt }
apart-more t Moved p are own = record { op = are.op; images = tt }

pub apart-shared : (t : Tag) (before after : Stored) → AreRegionImages t before → IsSharedFrom before after
    → AreRegionImages t after
apart-shared t before (Open k) are from = subst (AreRegionImages t) (sym from) are
apart-shared t before (Shared a) are from = record { op = are.op; images = tt }
apart-shared t before Moved are from = subst (AreRegionImages t) (sym from) are

-- nothing is placed
pub apart-none : (t : Tag) → IsRegions t.site.op → AreRegionImages t (Open (no_lineage t.site t.list))
apart-none t op = record {
  op = op;
  images =
      All-map (λ (f : Keep). HoldsImages t f.holding) empty_keep (stored_in t.list)
      (λ k d inside. holding-none t (mode_of (get_or (stored_in t.list) k d)));
}
