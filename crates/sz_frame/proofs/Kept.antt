-- What is kept of a piece is right, entry by entry.
--
-- The key idea: no output cell is in two of the entries, so what all entries stand for at a cell of one of them is
-- what that one stands for.
use Rattle.std.proofs.Common.{inl, inr, true≢false, ◌≡◌, ℕ, zero, suc, ◌+◌, ◌<◌, ◌≤◌, Bool, true, false}
use Rattle.std.proofs.Common.{◌&&◌, ◌||◌, List, [], ◌∷◌, length, map, get_or, refl, sym, ap, ap₂, ◌∙◌, arith}
use Rattle.std.specs.Prelude.{unwrap_or, cond}
use Rattle.std.specs.List.{All, count_by, list_any, slice_get}
use Rattle.std.proofs.lemmas.Bool.{cases_Bool, and_parts, and_from}
use Rattle.std.proofs.lemmas.List.{length-map}
use Rattle.std.proofs.lemmas.List.Elements.{All-nil, All-append}
use Rattle.std.proofs.lemmas.List.Folds.{list_any_at}
use Rattle.std.proofs.lemmas.List.Sums.{sum_by-cons}
use Rattle.sz_cells.specs.declared.Cell.{Cell}
use Rattle.sz_cells.specs.Extent.{Extent, holds}
use Rattle.sz_cells.specs.Cells.{Cells, has, no_cells}
use Rattle.sz_spec.specs.declared.modes.Mode.TheVariants as mode
use Rattle.sz_spec.specs.declared.modes.Strategy.{Strategy}
use Rattle.sz_spec.specs.Values.{no_extent, extent_at}
use Rattle.sz_spec.specs.Pieces.{is_in_piece}
use Rattle.sz_frame.specs.Parts.{Pairing, Entry, Parts}
use Rattle.sz_frame.specs.Stands.{set_of, has_entry, pay_stands}
use Rattle.sz_frame.specs.Fits.{Measure, IsEntry, AreApart, Fits, FitsFull, FitsPay, FitsComp, needs}
use Rattle.sz_frame.specs.Laws.{IsOfTheRelation, IsWholeEntry, WhatIsKeptIsRight, EachCellHasOnePayload}

-- ---- region pairs

-- the shape of the set of each input
set-shape : (xs : List Cells) (i : ℕ) → (unwrap_or (slice_get xs i) (no_cells no_extent)).extent
    ≡ extent_at (map (λ s. s.extent) xs) i
set-shape [] i = refl
set-shape (x ∷ xs) zero = refl
set-shape (x ∷ xs) (suc i) = set-shape xs i

regions-right : (m : Measure) (k : ℕ) (regions : List Pairing) → FitsFull m k regions
    → All (IsOfTheRelation m) regions
regions-right m k regions fits = λ n d there.
    let r : Pairing = get_or regions n d in
    let is = fits.each n d there in
    let shape : (i : ℕ) → (set_of r i).extent ≡ extent_at m.ins i = λ i.
    set-shape r.ins i ∙ ap (λ (es : List Extent). extent_at es i) is.ins in
    record {
      shape = is.out.shape;
      number = sym (length-map r.ins (λ (s : Cells). s.extent)) ∙ ap length is.ins;
      shapes = λ i few. shape i;
      related = λ i o x few had there_too.
          let held : holds (extent_at m.ins i) x ≡ true =
          ap (λ (e : Extent). holds e x) (sym (shape i))
          ∙ (and_parts (holds (set_of r i).extent x) _ there_too).0 in
          sym (fits.stands i o x few (is.out.inside o had) held)
          ∙ list_any_at (λ (q : Pairing). has q.out o && has (set_of q i) x) regions n d there
          (and_from (has r.out o) (has (set_of r i) x) had there_too);
    }

-- ---- entries

none-stands : (kept : List ℕ → ℕ → Cell → Cell → Bool) (entries : List Entry) (i : ℕ) (o x : Cell)
    → has_entry entries o ≡ false → pay_stands kept entries i o x ≡ false
none-stands kept [] i o x none = refl
none-stands kept (e ∷ entries) i o x none =
    elim (cases_Bool (has e.out o)) [
      | inl t ↦ absurd (true≢false (rw t at none))
      | inr f ↦ rw f (none-stands kept entries i o x (rw f at none))
    ]

-- at a cell of an entry, all entries stand for what that one stands for
alone : (kept : List ℕ → ℕ → Cell → Cell → Bool) (entries : List Entry) (i : ℕ) (o x : Cell) (n : ℕ)
    (d : Entry) → AreApart entries → n < length entries → has (get_or entries n d).out o ≡ true
    → pay_stands kept entries i o x ≡ kept (get_or entries n d).payload i o x
alone kept [] i o x n d apart there had = absurd (omega arith)
alone kept (e ∷ entries) i o x zero d apart there had =
    rw (had, none-stands kept entries i o x (apart.0 o had)) (
    elim (cases_Bool (kept e.payload i o x)) [ inl t ↦ rw t refl | inr f ↦ rw f refl ]
    )
alone kept (e ∷ entries) i o x (suc n) d apart there had =
    let later : n < length entries = omega arith in
    elim (cases_Bool (has e.out o)) [
      | inl t ↦ absurd (true≢false (sym (list_any_at (λ (f : Entry). has f.out o) entries n d later had)
          ∙ apart.0 o t))
      | inr f ↦ rw f (alone kept entries i o x n d apart.1 later had)
    ]

entries-right : (m : Measure) (k : ℕ) (entries : List Entry) → All (IsEntry m k) entries → AreApart entries
    → ((i : ℕ) (o x : Cell) → i < length m.ins → is_in_piece m.out k o ≡ true → has_entry entries o ≡ true
    → holds (extent_at m.ins i) x ≡ true → pay_stands m.kept entries i o x ≡ m.relation i o x)
    → All (IsWholeEntry m) entries
entries-right m k entries each apart stood = λ n d there.
    let e : Entry = get_or entries n d in
    let is = each n d there in
    record {
      shape = is.out.shape;
      lawful = is.payload;
      stands = λ i o x few had held.
          sym (alone m.kept entries i o x n d apart there had)
          ∙ stood i o x few (is.out.inside o had)
          (list_any_at (λ (f : Entry). has f.out o) entries n d there had) held;
    }

pays-right : (m : Measure) (k : ℕ) (entries : List Entry) → FitsPay m k entries → All (IsWholeEntry m) entries
pays-right m k entries fits =
    entries-right m k entries fits.each fits.apart
    (λ i o x few inside had held. fits.stands i o x few inside held)

comps-right : (m : Measure) (k : ℕ) (entries : List Entry) → FitsComp m k entries
    → All (IsWholeEntry m) entries
comps-right m k entries fits =
    entries-right m k entries fits.each fits.apart
    (λ i o x few inside had held. rw had at (fits.stands i o x few inside held))

-- ---- a part that is needed or empty

part-right : {X : Type 0} (P : X → Type 0) (need : Bool) (part : List X) → (need ≡ true → All P part)
    → (need ≡ false → part ≡ []) → All P part
part-right P true part some none = some refl
part-right P false part some none = rw (none refl) (All-nil P)

pub kept-right : WhatIsKeptIsRight
kept-right m list k p fits = (
  part-right (IsOfTheRelation m) (needs list mode.Full) p.regions
      (λ need. regions-right m k p.regions (fits.full need)) fits.no_full,
  All-append (IsWholeEntry m) p.pays p.comps
      (part-right (IsWholeEntry m) (needs list mode.Pay) p.pays
      (λ need. pays-right m k p.pays (fits.pay need)) fits.no_pay)
      (part-right (IsWholeEntry m) (needs list mode.Comp) p.comps
      (λ need. comps-right m k p.comps (fits.comp need)) fits.no_comp),
)

-- ---- how many entries have a cell

many-had : (entries : List Entry) (o : Cell) → AreApart entries
    → count_by (λ e. has e.out o) entries ≡ cond (has_entry entries o) 1 0
many-had [] o apart = refl
many-had (e ∷ entries) o apart =
    sum_by-cons (λ (f : Entry). cond (has f.out o) 1 0) e entries
    ∙ ap (λ (n : ℕ). cond (has e.out o) 1 0 + n) (many-had entries o apart.1)
    ∙ (elim (cases_Bool (has e.out o)) [
      | inl t ↦ rw (t, apart.0 o t) refl
      | inr f ↦ rw f (omega arith)
    ])

one-most : (b : Bool) → cond b 1 0 ≤ 1
one-most true = omega arith
one-most false = omega arith

none-many : (need : Bool) (entries : List Entry) (o : Cell) → (need ≡ true → AreApart entries)
    → (need ≡ false → entries ≡ []) → count_by (λ e. has e.out o) entries ≤ 1
none-many true entries o some none = rw (many-had entries o (some refl)) (one-most (has_entry entries o))
none-many false entries o some none = rw (none refl) (omega arith)

pub one-payload : EachCellHasOnePayload
one-payload m list k p o fits inside = (
  λ need. many-had p.pays o (fits.pay need).apart ∙ ap (λ b. cond b 1 0) ((fits.pay need).every o inside),
  none-many (needs list mode.Comp) p.comps o (λ need. (fits.comp need).apart) fits.no_comp,
)
