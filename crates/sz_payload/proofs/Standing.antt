-- What entries stand for, by the one that a cell is in.
--
-- The key idea: no cell is in two entries, so what the entries stand for at a cell is what the payload of its one entry
-- does, and where it is in none the default or nothing.
use Rattle.std.proofs.Common.{◌≡◌, ℕ, zero, suc, ◌<◌, Bool, true, false, true≢false, ◌&&◌, ◌||◌, not}
use Rattle.std.proofs.Common.{List, [], ◌∷◌, length, Option, Some, None}
use Rattle.std.proofs.Common.{refl, sym, ap, ap₂, subst, ◌∙◌, arith, inl, inr}
use Rattle.std.specs.Prelude.{All}
use Rattle.std.specs.List.{list_any}
use Rattle.std.proofs.Math.Bool.{or-false}
use Rattle.std.proofs.lemmas.Bool.{cases_Bool, or_left, or_right}
use Rattle.std.proofs.lemmas.Option.{unwrap_or-slice_get}
use Rattle.sz_cells.specs.declared.Cell.{Cell}
use Rattle.sz_cells.specs.Extent.{Extent, holds, cell_of}
use Rattle.sz_cells.specs.Cells.{Cells, any_cell, cells_where, has, with_those}
use Rattle.sz_cells.proofs.Sets.{has-cells_where, cells_where-ext}
use Rattle.sz_spec.specs.Shapes.{Site}
use Rattle.sz_spec.specs.Lineage.{mapped}
use Rattle.sz_spec.specs.Payloads.{is_payload, mapped_by_payload}
use Rattle.sz_frame.specs.Fits.{AreApart}
use Rattle.sz_frame.specs.Parts.{Entry}
use Rattle.sz_frame.specs.Stands.{has_entry, pay_stands}
use Rattle.sz_frame.proofs.Passing.{met-ext, met-none}
use Rattle.sz_tables.specs.Entries.{entry_at}
use Rattle.sz_tables.specs.Payloads.{payload_at}
use Rattle.sz_tables.proofs.Scanned.{any-swap}
use Rattle.sz_payload.specs.Kept.{AreAlike, entries_stand}
use Rattle.sz_payload.specs.Looks.{IsDone, entries_add}
use Rattle.sz_payload.proofs.Owning.{entry-there}

-- ---- one entry

-- where no entry has the cell, entries stand for nothing there
pub pay-none : (kept : List ℕ → ℕ → Cell → Cell → Bool) (es : List Entry) (i : ℕ) (o x : Cell)
    → has_entry es o ≡ false → pay_stands kept es i o x ≡ false
pay-none kept [] i o x none = refl
pay-none kept (e ∷ es) i o x none =
    elim (cases_Bool (has e.out o)) [
      | inl there ↦ absurd (true≢false (sym (or_left (has e.out o) (has_entry es o) there) ∙ none))
      | inr out ↦ rw out (pay-none kept es i o x (sym (ap (λ b. b || has_entry es o) out) ∙ none))
    ]

-- and where one has it, for what its payload does
pub pay-one : (kept : List ℕ → ℕ → Cell → Cell → Bool) (es : List Entry) (n i : ℕ) (o x : Cell) → AreApart es
    → n < length es → has (entry_at es n).out o ≡ true → pay_stands kept es i o x ≡ kept (entry_at es n).payload i o x
pay-one kept [] n i o x apart inside there = absurd (omega arith)
pay-one kept (e ∷ es) zero i o x apart inside there =
    rw (there, pay-none kept es i o x (apart.0 o there)) (or-false (kept e.payload i o x))
pay-one kept (e ∷ es) (suc n) i o x apart inside there =
    let within : n < length es = omega arith in
    elim (cases_Bool (has e.out o)) [
      | inl here ↦ absurd (true≢false (sym (entry-there es n o within there) ∙ apart.0 o here))
      | inr out ↦ rw out (pay-one kept es n i o x apart.1 within there)
    ]

-- the same of payload and of composite lineage
pub stands-one : (comp : Bool) (s : Site) (es : List Entry) (n i : ℕ) (o x : Cell) → AreApart es → n < length es
    → has (entry_at es n).out o ≡ true
    → entries_stand comp s es i o x ≡ mapped_by_payload s.op s.ins (entry_at es n).payload i o x
stands-one true s es n i o x apart inside there =
    rw (entry-there es n o inside there) (pay-one (mapped_by_payload s.op s.ins) es n i o x apart inside there)
stands-one false s es n i o x apart inside there = pay-one (mapped_by_payload s.op s.ins) es n i o x apart inside there

pub stands-default : (comp : Bool) (s : Site) (es : List Entry) (i : ℕ) (o x : Cell) → has_entry es o ≡ false
    → comp ≡ true → entries_stand comp s es i o x ≡ mapped s.op s.ins i o x
stands-default true s es i o x none is = rw none refl
stands-default false s es i o x none is = absurd (true≢false (sym is))

pub stands-none : (comp : Bool) (s : Site) (es : List Entry) (i : ℕ) (o x : Cell) → has_entry es o ≡ false
    → comp ≡ false → entries_stand comp s es i o x ≡ false
stands-none true s es i o x none is = absurd (true≢false is)
stands-none false s es i o x none is = pay-none (mapped_by_payload s.op s.ins) es i o x none

-- ---- what was added

-- cells that are there stay there
pub has-kept : (to new : Cells) (p : Cell → Bool) (x : Cell) → new ≡ with_those to p → holds new.extent x ≡ true
    → has to x ≡ true → has new x ≡ true
has-kept to new p x is held there =
    let same : new.extent ≡ to.extent = ap (λ (s : Cells). s.extent) is in
    ap (λ (s : Cells). has s x) is
    ∙ has-cells_where to.extent (λ y. has to y || p y) x (subst (λ (e : Extent). holds e x ≡ true) same held)
    ∙ or_left (has to x) (p x) there

pub has-added : (to new : Cells) (p : Cell → Bool) (x : Cell) → new ≡ with_those to p → holds new.extent x ≡ true
    → p x ≡ true → has new x ≡ true
has-added to new p x is held there =
    let same : new.extent ≡ to.extent = ap (λ (s : Cells). s.extent) is in
    ap (λ (s : Cells). has s x) is
    ∙ has-cells_where to.extent (λ y. has to y || p y) x (subst (λ (e : Extent). holds e x ≡ true) same held)
    ∙ or_right (has to x) (p x) there

pub done-kept : (s : Site) (payloads : List (List ℕ)) (i : ℕ) (last : Option ℕ) (to new : Cells) (p : Cell → Bool)
    → new ≡ with_those to p → IsDone s payloads i last to → IsDone s payloads i last new
done-kept s payloads i None to new p is done = tt
done-kept s payloads i (Some n) to new p is done = λ o x held passes.
    let same : new.extent ≡ to.extent = ap (λ (c : Cells). c.extent) is in
    has-kept to new p x is held (done o x (subst (λ (e : Extent). holds e x ≡ true) same held) passes)

pub done-now : (s : Site) (payloads : List (List ℕ)) (i n : ℕ) (cell : Cell) (to new : Cells)
    → AreAlike s.op s.ins (payload_at payloads n) i
    → new ≡ with_those to (mapped_by_payload s.op s.ins (payload_at payloads n) i cell)
    → IsDone s payloads i (Some n) new
done-now s payloads i n cell to new alike is = λ o x held passes.
    has-added to new (mapped_by_payload s.op s.ins (payload_at payloads n) i cell) x is held (alike cell o x ∙ passes)

-- what was added already adds nothing
pub done-there : (s : Site) (payloads : List (List ℕ)) (i n : ℕ) (last : Option ℕ) (cell : Cell) (to : Cells)
    → to ≡ cells_where to.extent (has to) → last ≡ Some n → IsDone s payloads i last to
    → to ≡ with_those to (mapped_by_payload s.op s.ins (payload_at payloads n) i cell)
done-there s payloads i n last cell to own is done =
    let there = subst (λ (l : Option ℕ). IsDone s payloads i l to) is done in
    let p = mapped_by_payload s.op s.ins (payload_at payloads n) i cell in
    own ∙ cells_where-ext to.extent (has to) (λ x. has to x || p x) (λ x held.
    elim (cases_Bool (p x)) [
      | inl t ↦ there cell x held t ∙ sym (or_right (has to x) (p x) t)
      | inr f ↦ rw f (sym (or-false (has to x)))
    ])

-- ---- forward

-- a test that does not depend on the element
and-any : {X : Type 0} (b : Bool) (p : X → Bool) (xs : List X) → list_any (λ x. b && p x) xs ≡ (b && list_any p xs)
and-any true p xs = refl
and-any false p [] = refl
and-any false p (x ∷ xs) = and-any false p xs

any-ext : {X : Type 0} (p q : X → Bool) → ((x : X) → p x ≡ q x) → (xs : List X) → list_any p xs ≡ list_any q xs
any-ext p q same [] = refl
any-ext p q same (x ∷ xs) = ap₂ (λ (a b : Bool). a || b) (same x) (any-ext p q same xs)

-- some entry stands for an asked cell where some asked cell has an entry that stands for it
pub entries-met : (s : Site) (i : ℕ) (from : Cells) (es : List Entry) (o : Cell)
    → entries_add s i from es o ≡ any_cell (λ x. pay_stands (mapped_by_payload s.op s.ins) es i o x) from
entries-met s i from es o =
    any-ext (λ e. has e.out o && any_cell (mapped_by_payload s.op s.ins e.payload i o) from)
    (λ e. list_any (λ k. has e.out o && mapped_by_payload s.op s.ins e.payload i o (cell_of from.extent k))
    from.indexes)
    (λ e. sym (and-any (has e.out o) (λ k. mapped_by_payload s.op s.ins e.payload i o (cell_of from.extent k))
    from.indexes)) es
    ∙ any-swap (λ e k. has e.out o && mapped_by_payload s.op s.ins e.payload i o (cell_of from.extent k))
    es from.indexes

off : (b : Bool) → (b && false) ≡ false
off true = refl
off false = refl

on : (b : Bool) → (b && true) ≡ b
on true = refl
on false = refl

-- with the cells that have a default, all of composite lineage are there
pub comp-met : (s : Site) (i : ℕ) (from : Cells) (es : List Entry) (o : Cell)
    → (entries_add s i from es o || any_cell (λ x. mapped s.op s.ins i o x && not (has_entry es o)) from)
    ≡ any_cell (λ x. entries_stand true s es i o x) from
comp-met s i from es o =
    elim (cases_Bool (has_entry es o)) [
      | inl there ↦
          ap₂ (λ (a b : Bool). a || b) (entries-met s i from es o)
          (met-none from (λ x. mapped s.op s.ins i o x && not (has_entry es o)) (λ x. rw there (off (mapped s.op s.ins i
          o x))))
          ∙ or-false (any_cell (λ x. pay_stands (mapped_by_payload s.op s.ins) es i o x) from)
          ∙ met-ext from (λ x. pay_stands (mapped_by_payload s.op s.ins) es i o x) (λ x. entries_stand true s es i o x)
          (λ x. rw there refl)
      | inr none ↦
          ap₂ (λ (a b : Bool). a || b)
          (entries-met s i from es o
          ∙ met-none from (λ x. pay_stands (mapped_by_payload s.op s.ins) es i o x)
          (λ x. pay-none (mapped_by_payload s.op s.ins) es i o x none))
          (met-ext from (λ x. mapped s.op s.ins i o x && not (has_entry es o)) (λ x. entries_stand true s es i o x)
          (λ x. rw none (on (mapped s.op s.ins i o x))))
    ]

-- ---- payloads of a table

-- the payload of a number is one of the operator's
pub lawful-at : (s : Site) (payloads : List (List ℕ)) (n : ℕ) (p : List ℕ)
    → All (λ q. is_payload s.op s.ins q ≡ true) payloads → n < length payloads → p ≡ payload_at payloads n
    → is_payload s.op s.ins p ≡ true
lawful-at s payloads n p all inside at =
    rw (at, unwrap_or-slice_get payloads n []) (all n [] inside)
