-- The runs of a number are taken, and those of the others stay. Each number is that of some cell.
use Rattle.std.proofs.Common.{◌≢◌, ◌<◌, ◌∷◌, [], ◌++◌, List, length, ap₂, sym, subst, ◌∙◌, arith}
use Rattle.std.proofs.Common.{get_or-set_other}
use Rattle.std.proofs.Math.ListN.{length-set}
use Rattle.std.proofs.lemmas.List.{get_or_default}
use Rattle.std.proofs.lemmas.List.FromFn.{map-range_with_len_more}
use Rattle.sz_cells.specs.Extent.{size_of}
use Rattle.sz_cells.specs.Cells.{Cells}
use Rattle.sz_ops_region.specs.Sets.{HasRuns, cells_numbered}
use Rattle.sz_ops_region.proofs.Sets.{used-full}
use Rattle.sz_ops_region.proofs.components.components_of.Goals as goal

pub into_set-set-requires : goal.into_set-set-requires
into_set-set-requires c =
    let inv = c.loop-number.invariant in
    let number = c.loop-number.number in
    let lists = c.loop-number.lists.items in
    let inside : number < length lists = omega (arith, inv.long, c.loop-number-test.true) in
    subst (HasRuns c.args.marks.now (size_of c.args.shape) number)
    (sym (c.replace-list.ensures.value ∙ c.index_mut.ensures.value
    ∙ get_or_default lists number c.index_mut.result.now [] inside))
    (inv.rest number (omega arith) c.loop-number-test.true)

pub of-requires : goal.of-requires
of-requires c =
    subst (λ (set : Cells). 0 < length set.indexes) (sym c.into_set-set.ensures)
    (used-full c.args.shape c.args.marks.now c.args.count c.loop-number.number c.requires.used c.requires.long
    c.loop-number-test.true)

pub loop-number-preserved : goal.loop-number-preserved
loop-number-preserved c =
    let inv = c.loop-number.invariant in
    let number = c.loop-number.number in
    let lists = c.loop-number.lists.items in
    record {
      long = length-set lists number c.replace-list.new.dest ∙ inv.long;
      rest = λ j low below.
          let other : j ≢ number = omega arith in
          subst (HasRuns c.args.marks.now (size_of c.args.shape) j)
          (sym (get_or-set_other lists number j c.replace-list.new.dest [] other))
          (inv.rest j (omega arith) below);
      made = c.in_ok-push.ensures.items
          ∙ ap₂ (λ (xs : List Cells) (x : Cells). xs ++ x ∷ []) inv.made (c.in_ok-of.ensures ∙ c.into_set-set.ensures)
          ∙ sym (map-range_with_len_more (cells_numbered c.args.shape c.args.marks.now) 0 number number
          (omega arith));
    }
