-- The key idea: a turn lists the set of the number at the index.
use Rattle.std.proofs.Common.{◌≡◌, ◌+◌, ◌<◌, ◌∙◌, ◌∷◌, [], ◌++◌, List, length, take, ap, sym, arith}
use Rattle.std.proofs.lemmas.List.{append_assoc, get_or_default}
use Rattle.std.proofs.lemmas.List.Elements.{AllWithin-more}
use Rattle.std.proofs.lemmas.Option.{unwrap_or-slice_get}
use Rattle.sz_region.specs.FullBytes.{Listed}
use Rattle.sz_cells.specs.SetBytes.{IsSetOf}
use Rattle.sz_cells.specs.Cells.{no_cells}
use Rattle.sz_spec.specs.Values.{no_extent}
use Rattle.sz_tables.specs.Listing.{listed_as}
use Rattle.sz_tables.proofs.Listing.{as-more}
use Rattle.sz_tables.proofs.region_table.list_sets.Goals as goal

pub loop-number-preserved : goal.loop-number-preserved
loop-number-preserved c =
    let sets = c.args.table.now.sets in
    let n = c.loop-number.number in
    let none = no_cells no_extent in
    let inside : n < length sets = omega arith in
    let next : listed_as c.args.array (take n sets) ++ c.listed.result ∷ []
    ≡ listed_as c.args.array (take (n + 1) sets) =
    rw c.listed.ensures.value (sym (as-more c.args.array sets n inside)) in
    record {
      added =
          rw c.in_ok-push.ensures.items
          (ap (λ (ls : List Listed). ls ++ c.listed.result ∷ []) c.loop-number.invariant.added
          ∙ (append_assoc c.args.sets.now.items (listed_as c.args.array (take n sets)) (c.listed.result ∷ [])
          ∙ ap (λ (ls : List Listed). c.args.sets.now.items ++ ls) next));
      each =
          AllWithin-more (IsSetOf c.args.table.now.extent) sets 0 n c.loop-number.invariant.each
          (λ d. let same = unwrap_or-slice_get sets n none ∙ get_or_default sets n none d inside in
          rw same at c.listed.ensures.right);
    }
