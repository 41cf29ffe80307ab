-- One more name is that of a set of the array behind.
use Rattle.std.proofs.Common.{◌≡◌, ℕ, ◌+◌, List, [], ◌∷◌, ◌++◌, length, map, Some, ap, sym, subst, ◌∙◌, refl, arith}
use Rattle.std.proofs.Common.{rules}
use Rattle.std.specs.Arc.{arc_value}
use Rattle.std.specs.List.{flat_map, slice_get}
use Rattle.std.proofs.lemmas.List.{length-map, length_push, map_push}
use Rattle.sz_cells.specs.Cells.{Cells}
use Rattle.sz_cells.specs.SetBytes.{four_bytes}
use Rattle.sz_region.specs.Counted.{IsAt}
use Rattle.sz_region.specs.FullBytes.{Listed, listed_from, AreNumbersOf}
use Rattle.sz_region.specs.Stores.{NoneAt, IsNameFor}
use Rattle.sz_region.proofs.Numbering.{zip-append, listed-more}
use Rattle.sz_region.proofs.Spans.{at-nothing, at-more, on_bad-weaker}
use Rattle.sz_region.proofs.Names.{no-names}
use Rattle.sz_region.proofs.take_full.take_names.Goals as goal

pub loop-input-init : goal.loop-input-init
loop-input-init c =
    let table = c.args.table.now in
    record {
      count = ap length c.new-sets.ensures.items;
      names = [];
      named = subst (λ xs. AreNumbersOf table [] (listed_from 1 (map (λ s. arc_value s) xs)))
          (sym c.new-sets.ensures.items) tt;
      bytes = at-nothing c.args.bytes.now c.args.at c.requires.within;
    }

pub returns-in_err-take_name-clause-err : goal.returns-in_err-take_name-clause-err
returns-in_err-take_name-clause-err c =
    let inv = c.loop-input.invariant in
    let table = c.args.table.now in
    let sets = map (λ s. arc_value s) c.loop-input.sets.items in
    let long : length sets ≡ c.loop-input.input = length-map c.loop-input.sets.items (λ s. arc_value s) ∙ inv.count in
    let here : c.loop-input.input + 1 ≡ 1 + length sets = omega arith in
    let none = on_bad-weaker c.in_err-take_name.field-0.0
    (λ none. no-names table 1 c.args.inputs c.args.bytes.now c.args.at c.loop-input.place inv.names sets c.requires.few
    inv.named (omega arith) inv.bytes
    (subst (λ (a : ℕ). NoneAt (IsNameFor table a) four_bytes c.args.bytes.now c.loop-input.place) here none))
    c.in_err-take_name.ensures.err in
    search rules

pub loop-input-preserved : goal.loop-input-preserved
loop-input-preserved c =
    let inv = c.loop-input.invariant in
    let table = c.args.table.now in
    let items = c.loop-input.sets.items in
    let sets = map (λ s. arc_value s) items in
    let long : length sets ≡ c.loop-input.input = length-map items (λ s. arc_value s) ∙ inv.count in
    let named = c.in_ok-take_name.ensures.ok in
    let set : Cells = arc_value c.in_ok-take_name.field-0 in
    let last : Listed = record { array = c.loop-input.input + 1; set = set } in
    let all : map (λ s. arc_value s) c.push.new.self.items ≡ sets ++ set ∷ [] =
    ap (map (λ s. arc_value s)) c.in_ok-push.ensures.items
    ∙ map_push (λ s. arc_value s) items c.in_ok-take_name.field-0 in
    let place : 1 + length sets ≡ c.loop-input.input + 1 = omega arith in
    let listed : listed_from 1 (map (λ s. arc_value s) c.push.new.self.items) ≡ listed_from 1 sets ++ last ∷ [] =
    ap (listed_from 1) all ∙ listed-more 1 sets set
    ∙ ap (λ (a : ℕ). listed_from 1 sets ++ record { array = a; set = set } ∷ []) place in
    record {
      count = omega (
        arith,
        ap length c.in_ok-push.ensures.items,
        length_push items c.in_ok-take_name.field-0,
        inv.count,
      );
      names = inv.names ++ named.0 ∷ [];
      named = subst (AreNumbersOf table (inv.names ++ named.0 ∷ [])) (sym listed)
          (zip-append (λ (n : ℕ) (l : Listed). slice_get table n ≡ Some l) inv.names (named.0 ∷ [])
          (listed_from 1 sets) (last ∷ []) inv.named (named.1, tt));
      bytes = at-more four_bytes c.args.bytes.now c.args.at c.loop-input.place (c.loop-input.place + 4) inv.names
          named.0
          inv.bytes named.2;
    }
