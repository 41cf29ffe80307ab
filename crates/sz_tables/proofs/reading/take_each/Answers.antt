-- One more set stands behind those before it, and in the table of its array.
use Rattle.std.proofs.Common.{◌≡◌, ◌+◌, List, [], ◌∷◌, ◌++◌, length, map, ap, sym, subst, ◌∙◌, refl, arith}
use Rattle.std.proofs.Common.{rules, length-append, ◌≤◌}
use Rattle.std.specs.List.{AllZip}
use Rattle.std.proofs.lemmas.List.{length-map}
use Rattle.std.proofs.lemmas.List.Elements.{All-nil, All-push, All-weaker}
use Rattle.std.proofs.lemmas.Result.{err_from_is_err_and}
use Rattle.sz_cells.specs.declared.Run.{Run}
use Rattle.sz_region.specs.FullBytes.{Listed, IsListed, listed_bytes, listed_by}
use Rattle.sz_region.proofs.Numbering.{zip-append}
use Rattle.sz_region.proofs.Spans.{at-nothing, at-more, on_bad-weaker, no-list, listed-free}
use Rattle.sz_cells.specs.Extent.{Extent}
use Rattle.sz_spec.specs.Values.{extent_at}
use Rattle.sz_tables.specs.Tables.{SetsByNumber, spelled}
use Rattle.sz_tables.specs.Placing.{Gets, IsPlaced, place_for}
use Rattle.sz_tables.specs.declared.reading.Place.{Place}
use Rattle.sz_tables.proofs.Placing.{zip-weaker, placed-kept, gets-few}
use Rattle.sz_tables.proofs.reading.take_each.Goals as goal

pub loop-index-init : goal.loop-index-init
loop-index-init c =
    let tables = c.make_room.new.outs ∷ c.make_room.new.tables in
    let all = map (λ (t : SetsByNumber). t.sets) tables in
    record {
      listed = [];
      count = refl;
      each = All-nil (IsListed c.args.out c.args.ins.now);
      bytes = at-nothing c.args.bytes.now c.args.at c.requires.within;
      placed = subst (λ (ps : List Place). AllZip (IsPlaced all) ps [])
          (sym (c.in_ok-reserve.ensures.items ∙ c.requires.places)) tt;
      extents = c.make_room.ensures.extents ∙ c.requires.extents;
      few = All-weaker (λ (t : SetsByNumber). t.sets ≡ []) (λ (t : SetsByNumber). length t.sets ≤ 0)
          (λ t none. omega (arith, ap length none)) tables c.make_room.ensures.none;
    }

pub returns-in_err-array-clause-err : goal.returns-in_err-array-clause-err
returns-in_err-array-clause-err c =
    let inv = c.loop-index.invariant in
    let none = on_bad-weaker c.in_err-array.field-0.0
    (λ missing listed rest count all. no-list (IsListed c.args.out c.args.ins.now) listed_bytes
    (listed-free c.args.out c.args.ins.now c.requires.right)
    c.args.bytes.now c.args.at c.loop-index.place inv.listed listed rest inv.each inv.bytes missing all
    (omega (arith, inv.count, count)))
    c.in_err-array.ensures.err in
    let p = err_from_is_err_and c.from_residual-in_err-array.result c.from_residual-in_err-array.ensures.1 in
    rw (p.1, p.2) none

pub loop-index-preserved : goal.loop-index-preserved
loop-index-preserved c =
    let inv = c.loop-index.invariant in
    let sets = λ (t : SetsByNumber). t.sets in
    let old = c.loop-index.outs ∷ c.loop-index.tables in
    let new = c.add_listed.new.outs ∷ c.add_listed.new.tables in
    let array = c.in_ok-array.array in
    let number = c.in_ok-number.number in
    let l : Listed = listed_by c.args.out c.args.ins.now array c.take_listed_runs.new.to.items in
    let e = extent_at (c.args.out ∷ c.args.ins.now) array in
    let gets = subst (λ (rs : List Run). Gets (map sets old) (map sets new) array (spelled e rs) number)
    c.deref.ensures.value
    (subst (λ (es : List Extent). Gets (map sets old) (map sets new) array
    (spelled (extent_at es array) c.deref.result.now) number) inv.extents c.in_ok-number.ensures.ok) in
    let extent = λ (t : SetsByNumber). t.extent in
    let many : length new ≡ length old =
    sym (length-map new extent) ∙ (ap length c.add_listed.ensures.extents ∙ length-map old extent) in
    let p = place_for array number in
    record {
      listed = inv.listed ++ l ∷ [];
      count = length-append inv.listed (l ∷ []) ∙ (omega (arith, inv.count));
      each = All-push (IsListed c.args.out c.args.ins.now) inv.listed l inv.each c.in_ok-array.ensures.set;
      bytes =
          at-more listed_bytes c.args.bytes.now c.args.at c.loop-index.place c.in_ok-array.next inv.listed l
          inv.bytes c.in_ok-array.ensures.bytes;
      placed =
          subst (λ (ps : List Place). AllZip (IsPlaced (map sets new)) ps (inv.listed ++ l ∷ []))
          (sym c.in_ok-push.ensures.items)
          (zip-append (IsPlaced (map sets new)) c.loop-index.places.items (p ∷ []) inv.listed (l ∷ [])
          (zip-weaker (IsPlaced (map sets old)) (IsPlaced (map sets new)) c.loop-index.places.items inv.listed
          (placed-kept (map sets old) (map sets new) array l.set number gets) inv.placed)
          (record { array = refl; set = gets.number }, tt));
      extents = c.add_listed.ensures.extents ∙ inv.extents;
      few = gets-few old new array l.set number c.loop-index._index gets many inv.few;
    }
