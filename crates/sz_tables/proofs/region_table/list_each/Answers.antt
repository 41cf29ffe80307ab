-- The key idea: a turn lists the sets of the array at the index behind those of the arrays before.
use Rattle.std.proofs.Common.{◌≡◌, ◌+◌, ◌^◌, ◌<◌, ◌≤◌, ◌∙◌, ◌∷◌, List, length, take, map}
use Rattle.std.proofs.Common.{ap, refl, arith}
use Rattle.std.proofs.lemmas.List.{take_all, get_or_default}
use Rattle.std.proofs.lemmas.List.Elements.{AllWithin-more, All-from_all_within, All-take, All-map, AllWithin-upto}
use Rattle.sz_cells.specs.Cells.{Cells}
use Rattle.sz_tables.specs.Tables.{SetsByNumber}
use Rattle.sz_tables.specs.Listing.{AreSetsOf, listed_sets}
use Rattle.sz_tables.proofs.Listing.{listed-few, listed-push, starts-push, tables-more, tables-long}
use Rattle.sz_tables.proofs.region_table.list_each.Goals as goal

pub overflow_cast-len : goal.overflow_cast-len
overflow_cast-len c =
    let all : List SetsByNumber = c.args.outs.now ∷ c.args.ins.now in
    let i = c.loop-array.array in
    let sets = λ (t : SetsByNumber). t.sets in
    let few = listed-few 0 (2 ^ 30) (map sets (take i all))
    (All-map (λ (s : List Cells). length s ≤ 2 ^ 30) sets (take i all)
    (All-take (λ (t : SetsByNumber). length t.sets ≤ 2 ^ 30) i all c.requires.few)) in
    let long = tables-long all i (omega arith) in
    let same = ap length c.loop-array.invariant.sets in
    omega (arith, c.loop-array.sets.ok.0, c.requires.inputs)

pub loop-array-preserved : goal.loop-array-preserved
loop-array-preserved c =
    let all : List SetsByNumber = c.args.outs.now ∷ c.args.ins.now in
    let i = c.loop-array.array in
    let t = c.table_of-table.result.now in
    let inside : i < length all = omega arith in
    let front = map (λ (t : SetsByNumber). t.sets) (take i all) in
    let next = tables-more all i t inside c.table_of-table.ensures in
    let long = tables-long all i (omega arith) in
    let place : 0 + length front ≡ i = omega arith in
    let here : 0 + length (listed_sets 0 front) ≡ c.len.result =
    omega (arith, ap length c.loop-array.invariant.sets, c.loop-array.sets.ok.0) in
    record {
      sets =
          rw (next, listed-push 0 front t.sets, place, c.in_ok-list_sets.ensures.added, c.loop-array.invariant.sets)
          refl;
      starts =
          rw (next, starts-push 0 0 front t.sets, here, c.in_ok-push.ensures.items, c.loop-array.invariant.starts) refl;
      each =
          AllWithin-more (λ (t : SetsByNumber). AreSetsOf t.extent t.sets) all 0 i c.loop-array.invariant.each
          (λ d. let same = c.table_of-table.ensures ∙ get_or_default all i t d inside in
          rw same at c.in_ok-list_sets.ensures.right);
    }

pub returns : goal.returns
returns c =
    let all : List SetsByNumber = c.args.outs.now ∷ c.args.ins.now in
    let i = c.loop-array.array in
    let whole : take i all ≡ all = take_all i all (omega arith) in
    record {
      sets_are = rw whole at c.loop-array.invariant.sets;
      starts_are = rw whole at c.loop-array.invariant.starts;
      each =
          All-from_all_within (λ (t : SetsByNumber). AreSetsOf t.extent t.sets) all
          (AllWithin-upto (λ (t : SetsByNumber). AreSetsOf t.extent t.sets) all 0 i (length all) (omega arith)
          c.loop-array.invariant.each);
    }
