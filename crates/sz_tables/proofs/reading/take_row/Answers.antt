-- One more name leads to a place of the array behind.
use Rattle.std.proofs.Common.{◌≡◌, ℕ, ◌+◌, List, [], ◌∷◌, ◌++◌, length, ap, sym, subst, ◌∙◌, refl, arith, rules}
use Rattle.std.proofs.Common.{append-nil, append_assoc, length-append, Some}
use Rattle.std.specs.List.{flat_map, slice_get, AllZip}
use Rattle.sz_cells.specs.SetBytes.{four_bytes}
use Rattle.sz_region.specs.FullBytes.{Listed, AreNumbersOf}
use Rattle.sz_region.specs.Stores.{NoneAt, IsNameFor, ArePairNames, OnBad}
use Rattle.sz_region.proofs.Names.{no-names}
use Rattle.sz_region.proofs.Numbering.{zip-append, zip-length}
use Rattle.sz_region.proofs.Spans.{at-nothing, at-more, on_bad-weaker}
use Rattle.sz_tables.specs.Placing.{IsOfArray, place_for, places_from}
use Rattle.sz_tables.specs.declared.reading.Place.{Place}
use Rattle.sz_tables.proofs.Placing.{sets-named, places-more, row-named, no-row}
use Rattle.sz_tables.proofs.reading.take_row.Goals as goal

pub loop-array-init : goal.loop-array-init
loop-array-init c = record {
  ns = [];
  ks = [];
  count = refl;
  added = sym (append-nil c.args.names.now.items);
  named = tt;
  bytes = at-nothing c.args.bytes.now c.args.at c.requires.within;
}

pub returns-in_err-number-clause-err : goal.returns-in_err-number-clause-err
returns-in_err-number-clause-err c =
    let inv = c.loop-array.invariant in
    let places = c.args.places.now in
    let bytes = c.args.bytes.now in
    let none : (listed : List Listed) → AllZip IsOfArray places listed
    → OnBad c.in_err-number.field-0.0 (NoneAt (ArePairNames listed c.args.inputs)
    (flat_map four_bytes) bytes c.args.at) =
    λ listed same.
    let sets = sets-named places listed 0 inv.ns inv.ks same inv.named in
    let long = zip-length IsOfArray places listed same in
    let here : c.loop-array.array ≡ 0 + length sets.0 = omega (arith, sets.1, inv.count) in
    on_bad-weaker c.in_err-number.field-0.0
    (λ missing. no-row places listed c.args.inputs bytes c.args.at
    (no-names listed 0 (c.args.inputs + 1) bytes c.args.at c.loop-array.place inv.ns sets.0
    (omega (arith, long, c.requires.few)) sets.2 (omega (arith, here)) inv.bytes
    (subst (λ (a : ℕ). NoneAt (IsNameFor listed a) four_bytes bytes c.loop-array.place) here missing)))
    (c.in_err-number.ensures.err listed same) in
    search rules

pub loop-array-preserved : goal.loop-array-preserved
loop-array-preserved c =
    let inv = c.loop-array.invariant in
    let places = c.args.places.now in
    let number = c.in_ok-number.number in
    let ok = c.in_ok-number.ensures.ok in
    let all : c.push.new.self.items ≡ c.args.names.now.items ++ (inv.ks ++ number ∷ []) =
    c.in_ok-push.ensures.items ∙ ap (λ (xs : List ℕ). xs ++ number ∷ []) inv.added
    ∙ append_assoc c.args.names.now.items inv.ks (number ∷ []) in
    let at : place_for c.loop-array.array number ≡ place_for (0 + length inv.ks) number =
    ap (λ (a : ℕ). place_for a number) (omega (arith, inv.count)) in
    record {
      ns = inv.ns ++ ok.0 ∷ [];
      ks = inv.ks ++ number ∷ [];
      count = length-append inv.ks (number ∷ []) ∙ (omega (arith, inv.count));
      added = all;
      named = subst (AreNumbersOf places (inv.ns ++ ok.0 ∷ [])) (sym (places-more 0 inv.ks number))
          (zip-append (λ (n : ℕ) (p : Place). slice_get places n ≡ Some p) inv.ns (ok.0 ∷ [])
          (places_from 0 inv.ks) (place_for (0 + length inv.ks) number ∷ []) inv.named
          (ok.1 ∙ ap (λ (p : Place). Some p) at, tt));
      bytes = at-more four_bytes c.args.bytes.now c.args.at c.loop-array.place (c.loop-array.place + 4) inv.ns ok.0
          inv.bytes ok.2;
    }

pub returns-clause-ok : goal.returns-clause-ok
returns-clause-ok c =
    let inv = c.loop-array.invariant in
    let made = row-named c.args.places.now c.args.inputs inv.ns inv.ks (omega (arith, inv.count)) inv.named in (
      inv.ns,
      made.0,
      made.1,
      inv.added ∙ ap (λ (ks : List ℕ). c.args.names.now.items ++ ks) made.2,
      inv.bytes,
    )
