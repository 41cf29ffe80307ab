-- One more region pair is that of the row behind those before it.
use Rattle.std.proofs.Common.{◌≡◌, ℕ, ◌+◌, List, [], ◌∷◌, ◌++◌, length, map, ap, sym, subst, ◌∙◌, refl, arith, rules}
use Rattle.std.specs.Arc.{arc_value}
use Rattle.std.specs.List.{AllZip, flat_map}
use Rattle.std.proofs.lemmas.List.{length-map, length_push, map_push}
use Rattle.sz_cells.specs.SetBytes.{four_bytes}
use Rattle.sz_frame.specs.Parts.{Pairing}
use Rattle.sz_region.specs.Counted.{IsAt}
use Rattle.sz_region.specs.FullBytes.{AreNamesOf}
use Rattle.sz_region.proofs.Numbering.{zip-append, zip-length}
use Rattle.sz_region.proofs.Spans.{at-nothing, at-more, at-both, on_bad-weaker, no-number}
use Rattle.sz_region.proofs.Names.{no-rows, no-rows-many}
use Rattle.sz_region.proofs.take_full.take_pairs.Goals as goal

pub returns-in_default-clause-err : goal.returns-in_default-clause-err
returns-in_default-clause-err c rows rest few is =
    no-number c.args.bytes.now c.args.at (length rows) (flat_map (flat_map four_bytes) rows ++ rest)
    c.in_default.ensures.none is

pub returns-in_err-region-clause-err : goal.returns-in_err-region-clause-err
returns-in_err-region-clause-err c =
    let inv = c.loop-index.invariant in
    let regions = map (λ r. arc_value r) c.loop-index.regions.items in
    let long : length regions ≡ c.loop-index._index = length-map c.loop-index.regions.items (λ r. arc_value r)
    ∙ inv.count in
    let none = on_bad-weaker c.in_err-region.field-0.0
    (no-rows c.args.table.now c.args.inputs c.args.bytes.now c.args.at c.in-Some.count c.loop-index.place inv.rows
    regions
    c.requires c.in-Some.ensures.some (omega arith) inv.named (omega arith) inv.bytes)
    c.in_err-region.ensures.err in
    search rules

pub loop-index-init : goal.loop-index-init
loop-index-init c =
    let none = c.new-regions.ensures.items in
    record {
      count = ap length none;
      rows = [];
      named = subst (λ xs. AllZip (AreNamesOf c.args.table.now c.args.inputs) [] (map (λ x. arc_value x) xs)) (sym none)
          tt;
      bytes = at-nothing c.args.bytes.now (c.args.at + 4) c.in-Some.ensures.some.within;
    }

pub loop-index-preserved : goal.loop-index-preserved
loop-index-preserved c =
    let inv = c.loop-index.invariant in
    let items = c.loop-index.regions.items in
    let row = c.in_ok-region.ensures.ok in
    let region : Pairing = c.in_ok-region.region in
    let regions = map (λ x. arc_value x) items in
    let all : map (λ x. arc_value x) c.push.new.self.items ≡ regions ++ region ∷ [] =
    ap (map (λ x. arc_value x)) c.in_ok-push.ensures.items ∙ map_push (λ x. arc_value x) items c.in_ok-new.field-0
    ∙ ap (λ (r : Pairing). regions ++ r ∷ []) c.in_ok-new.ensures.ok in
    record {
      count = omega (arith, ap length c.in_ok-push.ensures.items, length_push items c.in_ok-new.field-0, inv.count);
      rows = inv.rows ++ row.0 ∷ [];
      named = subst (AllZip (AreNamesOf c.args.table.now c.args.inputs) (inv.rows ++ row.0 ∷ [])) (sym all)
          (zip-append (AreNamesOf c.args.table.now c.args.inputs) inv.rows (row.0 ∷ []) regions (region ∷ []) inv.named
          (row.1, tt));
      bytes = at-more (flat_map four_bytes) c.args.bytes.now (c.args.at + 4) c.loop-index.place c.in_ok-region.next
          inv.rows
          row.0 inv.bytes row.2;
    }

pub returns-clause-ok : goal.returns-clause-ok
returns-clause-ok c =
    let inv = c.loop-index.invariant in
    let regions = map (λ x. arc_value x) c.loop-index.regions.items in
    let long : length inv.rows ≡ c.loop-index._index =
    zip-length (AreNamesOf c.args.table.now c.args.inputs) inv.rows regions inv.named
    ∙ length-map c.loop-index.regions.items (λ x. arc_value x) ∙ inv.count in
    let count : c.in-Some.count ≡ length inv.rows = omega arith in (
      inv.rows,
      inv.named,
      omega arith,
      subst (λ (n : ℕ). IsAt c.args.bytes.now c.args.at c.loop-index.place
          (four_bytes n ++ flat_map (flat_map four_bytes) inv.rows)) count
          (at-both c.args.bytes.now c.args.at (c.args.at + 4) c.loop-index.place (four_bytes c.in-Some.count)
          (flat_map (flat_map four_bytes) inv.rows) c.in-Some.ensures.some inv.bytes),
    )
