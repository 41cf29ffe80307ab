-- The key idea: sets of the output that stand in front are in the output's table alone, and sets of inputs behind them
-- in the inputs' tables alone. So the one table of the first part and the others of the second are the tables of both.
use Rattle.std.proofs.Common.{◌≡◌, ℕ, zero, suc, ◌+◌, ◌-◌, ◌^◌, ◌<◌, ◌≤◌, List, [], ◌∷◌, ◌++◌, Some, length, map, All}
use Rattle.std.proofs.Common.{refl, sym, ap, subst, ◌∙◌, arith, length-append, drop}
use Rattle.std.specs.List.{AllZip, slice_get, flat_map}
use Rattle.std.proofs.lemmas.Grind.{flat_map-append}
use Rattle.std.proofs.lemmas.List.Elements.{All-append, All-head, All-tail}
use Rattle.std.proofs.lemmas.Option.{slice_get_within}
use Rattle.sz_cells.specs.Cells.{Cells}
use Rattle.sz_cells.specs.Extent.{Extent}
use Rattle.sz_cells.specs.SetBytes.{four_bytes}
use Rattle.sz_region.specs.Counted.{IsAt, counted}
use Rattle.sz_region.specs.FullBytes.{Listed, IsListed, listed_bytes}
use Rattle.sz_region.specs.Stores.{NoneAt, AreFew}
use Rattle.sz_region.proofs.Numbering.{zip-append}
use Rattle.sz_region.proofs.Spans.{IsSmall, at-both, number-read}
use Rattle.sz_tables.specs.Tables.{SetsByNumber}
use Rattle.sz_tables.specs.Rows.{sets_of}
use Rattle.sz_tables.specs.Placing.{IsPlaced, IsPart, IsTable, NoPart}
use Rattle.sz_tables.specs.declared.reading.Place.{Place}
use Rattle.sz_tables.proofs.Placing.{zip-weaker}

-- no table of these has a set
none-of : (gone : List SetsByNumber) (j : ℕ) → All (λ (t : SetsByNumber). length t.sets ≤ 0) gone
    → length (sets_of (map (λ (t : SetsByNumber). t.sets) gone) j) ≤ 0
none-of [] j none = omega arith
none-of (t ∷ gone) zero none = All-head (λ (u : SetsByNumber). length u.sets ≤ 0) t gone none
none-of (t ∷ gone) (suc j) none = none-of gone j (All-tail (λ (u : SetsByNumber). length u.sets ≤ 0) t gone none)

-- a set of tables of which the output's alone has any stands there whatever the others are
front-set : (own : List Cells) (gone : List SetsByNumber) (kept : List (List Cells)) (i n : ℕ) (s : Cells)
    → All (λ (t : SetsByNumber). length t.sets ≤ 0) gone
    → slice_get (sets_of (own ∷ map (λ (t : SetsByNumber). t.sets) gone) i) n ≡ Some s
    → slice_get (sets_of (own ∷ kept) i) n ≡ Some s
front-set own gone kept zero n s none here = here
front-set own gone kept (suc j) n s none here =
    let sets = sets_of (map (λ (t : SetsByNumber). t.sets) gone) j in
    absurd (omega (arith, slice_get_within sets n s here, none-of gone j none))

-- and one of tables of which the output's has none, whatever the output's is
back-set : (gone own : List Cells) (kept : List (List Cells)) (i n : ℕ) (s : Cells) → length gone ≡ 0
    → slice_get (sets_of (gone ∷ kept) i) n ≡ Some s → slice_get (sets_of (own ∷ kept) i) n ≡ Some s
back-set gone own kept zero n s none here = absurd (omega (arith, slice_get_within gone n s here, none))
back-set gone own kept (suc j) n s none here = here

-- a part behind its number is a table
pub part-table : (out : Extent) (ins : List Extent) (bytes : List ℕ) (at next count : ℕ) (all : List (List Cells))
    (places : List Place) → IsSmall count → IsAt bytes at (at + 4) (four_bytes count)
    → IsPart out ins bytes (at + 4) next count all places → IsTable out ins bytes at next all places
part-table out ins bytes at next count all places small number part = record {
  listed = part.listed;
  few = (part.each, omega (arith, part.many, small));
  placed = part.placed;
  read = subst (λ (n : ℕ). IsAt bytes at next (four_bytes n ++ flat_map listed_bytes part.listed)) (sym part.many)
      (at-both bytes at (at + 4) next (four_bytes count) (flat_map listed_bytes part.listed) number part.read);
}

-- and where no part stands behind the number, no table begins
pub no-part : (out : Extent) (ins : List Extent) (bytes : List ℕ) (at count : ℕ) → IsSmall count
    → IsAt bytes at (at + 4) (four_bytes count) → NoPart out ins bytes (at + 4) count
    → NoneAt (AreFew (IsListed out ins)) (counted listed_bytes) bytes at
no-part out ins bytes at count small number none listed rest few is =
    let read = number-read bytes at count (length listed) (flat_map listed_bytes listed ++ rest) number small few.1
    is in
    none listed rest (sym read.0) few.0 read.1

-- two parts, one behind the other, are one
pub two-parts : (out : Extent) (ins : List Extent) (bytes : List ℕ) (at middle next front count : ℕ)
    (own gone : List Cells) (none : List SetsByNumber) (kept : List (List Cells)) (ps qs : List Place) → front ≤ count
    → All (λ (t : SetsByNumber). length t.sets ≤ 0) none → length gone ≡ 0
    → IsPart out ins bytes at middle front (own ∷ map (λ (t : SetsByNumber). t.sets) none) ps
    → IsPart out ins bytes middle next (count - front) (gone ∷ kept) qs
    → IsPart out ins bytes at next count (own ∷ kept) (ps ++ qs)
two-parts out ins bytes at middle next front count own gone none kept ps qs few without empty a b = record {
  listed = a.listed ++ b.listed;
  many = length-append a.listed b.listed ∙ (omega (arith, a.many, b.many, few));
  each = All-append (IsListed out ins) a.listed b.listed a.each b.each;
  placed = zip-append (IsPlaced (own ∷ kept)) ps qs a.listed b.listed
      (zip-weaker (IsPlaced (own ∷ map (λ (t : SetsByNumber). t.sets) none)) (IsPlaced (own ∷ kept)) ps a.listed
      (λ p l is. record { array = is.array; set = front-set own none kept l.array p.number l.set without is.set })
      a.placed)
      (zip-weaker (IsPlaced (gone ∷ kept)) (IsPlaced (own ∷ kept)) qs b.listed
      (λ p l is. record { array = is.array; set = back-set gone own kept l.array p.number l.set empty is.set })
      b.placed);
  read = subst (IsAt bytes at next) (sym (flat_map-append listed_bytes a.listed b.listed))
      (at-both bytes at middle next (flat_map listed_bytes a.listed) (flat_map listed_bytes b.listed) a.read b.read);
}
