-- What a store with a lineage's part more has and stands for.
--
-- The key idea: what stands for a cell is found among what the store had, or among the part. Where one of these has no
-- entry of an output cell, all that stands for the cell is found in the other.
use Rattle.std.proofs.Common.{◌≡◌, ℕ, ◌/◌, ◌==◌, Bool, true, false, ◌&&◌, ◌||◌, List, [], ◌∷◌, ◌++◌}
use Rattle.std.proofs.Common.{refl, sym, ap, ap₂, ◌∙◌, true≢false, eqb-true, inl, inr, ◌⊎◌}
use Rattle.std.specs.Prelude.{if◌then◌else◌}
use Rattle.std.specs.List.{All, list_any}
use Rattle.std.proofs.lemmas.Bool.{and_parts}
use Rattle.std.proofs.lemmas.List.Elements.{All-head, All-tail}
use Rattle.std.proofs.lemmas.List.Folds.{list_any-append}
use Rattle.sz_cells.specs.declared.Cell.{Cell}
use Rattle.sz_cells.specs.Extent.{Extent, holds, index_of}
use Rattle.sz_cells.specs.Cells.{has}
use Rattle.sz_spec.specs.Shapes.{Site}
use Rattle.sz_spec.specs.Lineage.{mapped}
use Rattle.sz_spec.specs.Payloads.{mapped_by_payload}
use Rattle.sz_spec.specs.Pieces.{is_in_piece}
use Rattle.sz_frame.specs.Parts.{Pairing, Entry, Parts}
use Rattle.sz_frame.specs.Stands.{set_of, has_entry, pay_stands}
use Rattle.sz_frame.specs.Fits.{AreApart}
use Rattle.sz_payload.specs.Kept.{entries_stand, part_of}
use Rattle.sz_store.specs.Kept.{Holding, regions, entries, with_part, holding_stands}

-- some region pair or entry of what is kept has the output cell
abbrev pub holding_has : Holding → Cell → Bool
holding_has (regions rs) o = list_any (λ r. has r.out o) rs
holding_has (entries comp es) o = has_entry es o

-- the part of a lineage alone
abbrev pub part_in : Parts → Holding → Holding
part_in p (regions rs) = regions p.regions
part_in p (entries comp es) = entries comp (part_of comp p)

-- ---- lists one behind the other

or-false : (b c : Bool) → c ≡ false → (b || c) ≡ b
or-false true c none = refl
or-false false c none = none

or-right : (b c : Bool) → b ≡ false → (b || c) ≡ c
or-right true c none = absurd (true≢false none)
or-right false c none = refl

pub or-cases : (b c : Bool) → (b || c) ≡ true → (b ≡ true) ⊎ (c ≡ true)
or-cases true c some = inl refl
or-cases false c some = inr some

any-left : {X : Type 0} (q : X → Bool) (xs ys : List X) → list_any q ys ≡ false → list_any q (xs ++ ys) ≡ list_any q xs
any-left q xs ys none = list_any-append q xs ys ∙ or-false (list_any q xs) (list_any q ys) none

any-right : {X : Type 0} (q : X → Bool) (xs ys : List X) → list_any q xs ≡ false → list_any q (xs ++ ys) ≡ list_any q ys
any-right q xs ys none = list_any-append q xs ys ∙ or-right (list_any q xs) (list_any q ys) none

head-false : (b c : Bool) → (b || c) ≡ false → (b ≡ false) × (c ≡ false)
head-false true c none = absurd (true≢false none)
head-false false c none = (refl, none)

-- where none is here, none is here and more
none-both : {X : Type 0} (here more : X → Bool) (xs : List X) → list_any here xs ≡ false
    → list_any (λ x. here x && more x) xs ≡ false
none-both here more [] none = refl
none-both here more (x ∷ xs) none =
    let both = head-false (here x) (list_any here xs) none in
    rw both.0 (none-both here more xs both.1)

-- ---- a store and a part

-- what a store with a part more has
pub has-more : (p : Parts) (h : Holding) (o : Cell)
    → holding_has (with_part p h) o ≡ (holding_has h o || holding_has (part_in p h) o)
has-more p (regions rs) o = list_any-append (λ (r : Pairing). has r.out o) rs p.regions
has-more p (entries comp es) o = list_any-append (λ (e : Entry). has e.out o) es (part_of comp p)

entries-old : (s : Site) (comp : Bool) (es more : List Entry) (i : ℕ) (o x : Cell) → has_entry more o ≡ false
    → entries_stand comp s (es ++ more) i o x ≡ entries_stand comp s es i o x
entries-old s comp es more i o x none =
    let kept = mapped_by_payload s.op s.ins in
    let stands : pay_stands kept (es ++ more) i o x ≡ pay_stands kept es i o x =
    any-left (λ (e : Entry). has e.out o && kept e.payload i o x) es more
    (none-both (λ (e : Entry). has e.out o) (λ (e : Entry). kept e.payload i o x) more none) in
    let there : has_entry (es ++ more) o ≡ has_entry es o = any-left (λ (e : Entry). has e.out o) es more none in
    ap₂ (λ (a b : Bool). if comp then (if a then b else mapped s.op s.ins i o x) else b) there stands

entries-new : (s : Site) (comp : Bool) (es more : List Entry) (i : ℕ) (o x : Cell) → has_entry es o ≡ false
    → entries_stand comp s (es ++ more) i o x ≡ entries_stand comp s more i o x
entries-new s comp es more i o x none =
    let kept = mapped_by_payload s.op s.ins in
    let stands : pay_stands kept (es ++ more) i o x ≡ pay_stands kept more i o x =
    any-right (λ (e : Entry). has e.out o && kept e.payload i o x) es more
    (none-both (λ (e : Entry). has e.out o) (λ (e : Entry). kept e.payload i o x) es none) in
    let there : has_entry (es ++ more) o ≡ has_entry more o = any-right (λ (e : Entry). has e.out o) es more none in
    ap₂ (λ (a b : Bool). if comp then (if a then b else mapped s.op s.ins i o x) else b) there stands

-- of a cell that the part has not, the store stands for what it stood for
pub stands-old : (s : Site) (p : Parts) (h : Holding) (i : ℕ) (o x : Cell) → holding_has (part_in p h) o ≡ false
    → holding_stands s (with_part p h) i o x ≡ holding_stands s h i o x
stands-old s p (regions rs) i o x none =
    any-left (λ (r : Pairing). has r.out o && has (set_of r i) x) rs p.regions
    (none-both (λ (r : Pairing). has r.out o) (λ (r : Pairing). has (set_of r i) x) p.regions none)
stands-old s p (entries comp es) i o x none = entries-old s comp es (part_of comp p) i o x none

-- of a cell that the store had not, it stands for what the part stands for
pub stands-new : (s : Site) (p : Parts) (h : Holding) (i : ℕ) (o x : Cell) → holding_has h o ≡ false
    → holding_stands s (with_part p h) i o x ≡ holding_stands s (part_in p h) i o x
stands-new s p (regions rs) i o x none =
    any-right (λ (r : Pairing). has r.out o && has (set_of r i) x) rs p.regions
    (none-both (λ (r : Pairing). has r.out o) (λ (r : Pairing). has (set_of r i) x) rs none)
stands-new s p (entries comp es) i o x none = entries-new s comp es (part_of comp p) i o x none

-- ---- the cells of a piece

-- a cell that some of these have is one of the piece
pub any-inside : {X : Type 0} (e : Extent) (k : ℕ) (o : Cell) (P : X → Type 0) (here : X → Bool) (xs : List X)
    → ((x : X) → P x → here x ≡ true → is_in_piece e k o ≡ true) → All P xs → list_any here xs ≡ true
    → is_in_piece e k o ≡ true
any-inside e k o P here [] inside all some = absurd (true≢false (sym some))
any-inside e k o P here (x ∷ xs) inside all some =
    elim (or-cases (here x) (list_any here xs) some) [
      | inl first ↦ inside x (All-head P x xs all) first
      | inr later ↦ any-inside e k o P here xs inside (All-tail P x xs all) later
    ]

-- the number of a cell's piece
pub piece-number : (e : Extent) (k : ℕ) (o : Cell) → is_in_piece e k o ≡ true → index_of e o / 64 ≡ k
piece-number e k o inside =
    eqb-true (index_of e o / 64) k (and_parts (holds e o) (index_of e o / 64 == k) inside).1

-- ---- entries apart

-- entries stay apart behind others of which none has a cell of theirs
pub apart-more : (es more : List Entry) → AreApart es → AreApart more
    → ((o : Cell) → has_entry es o ≡ true → has_entry more o ≡ false) → AreApart (es ++ more)
apart-more [] more own new other = new
apart-more (e ∷ es) more own new other = (
  λ o here.
      list_any-append (λ (x : Entry). has x.out o) es more
      ∙ ap₂ (λ (a b : Bool). a || b) (own.0 o here)
      (other o (ap (λ (b : Bool). b || has_entry es o) here)),
  apart-more es more own.1 new (λ o there. other o (rw there (or-true (has e.out o)))),
)
  where
    or-true : (b : Bool) → (b || true) ≡ true
    or-true true = refl
    or-true false = refl
