-- The table and the names that were made are those of a word.
use Rattle.std.proofs.Common.{◌≡◌, ℕ, ◌+◌, ◌*◌, ◌≤◌, List, ◌++◌, length, map, ap, sym, subst, ◌∙◌, arith}
use Rattle.std.specs.Arc.{arc_value}
use Rattle.std.proofs.lemmas.List.{length-map}
use Rattle.std.proofs.lemmas.Result.{on_ok_weaker}
use Rattle.sz_region.specs.Counted.{counted, rows_bytes}
use Rattle.sz_region.specs.FullBytes.{Listed, listed_bytes}
use Rattle.sz_region.specs.Putting.{AreRows}
use Rattle.sz_region.proofs.Numbering.{regions-rows, numbered-word}
use Rattle.sz_region.proofs.put_full.put_regions.Goals as goal

pub put_numbered-requires-clause-few_sets : goal.put_numbered-requires-clause-few_sets
put_numbered-requires-clause-few_sets c =
    let regions = map (λ r. arc_value r) c.args.regions.now in
    let done = c.in_ok-number_regions.ensures in
    let rows = regions-rows c.number_regions.new.sets.items c.number_regions.new.names.items regions
    c.inputs_of-inputs.result done c.inputs_of-inputs.ensures.each in
    let same : length regions ≡ length c.args.regions.now = length-map c.args.regions.now (λ r. arc_value r) in
    let all : length c.number_regions.new.names.items ≡ length c.args.regions.now * (1 + c.inputs_of-inputs.result) =
    rows.all ∙ ap (λ (n : ℕ). n * (1 + c.inputs_of-inputs.result)) same in
    omega (arith, ap length c.deref.ensures.value, done.few, c.inputs_of-inputs.ensures.sets)

pub put_numbered-requires-clause-whole : goal.put_numbered-requires-clause-whole
put_numbered-requires-clause-whole c =
    let regions = map (λ r. arc_value r) c.args.regions.now in
    let done = c.in_ok-number_regions.ensures in
    let rows = regions-rows c.number_regions.new.sets.items c.number_regions.new.names.items regions
    c.inputs_of-inputs.result done c.inputs_of-inputs.ensures.each in
    let same : length regions ≡ length c.args.regions.now = length-map c.args.regions.now (λ r. arc_value r) in (
      done.rows,
      subst (λ (ns : List ℕ). AreRows (c.inputs_of-inputs.result + 1) ns done.rows) (sym c.deref-2.ensures.value)
          rows.are,
      omega (arith, rows.each, c.inputs_of-inputs.ensures.few),
    )

pub returns-clause-ok : goal.returns-clause-ok
returns-clause-ok c =
    let regions = map (λ r. arc_value r) c.args.regions.now in
    let table = c.number_regions.new.sets.items in
    let done = c.in_ok-number_regions.ensures in
    let rows = regions-rows table c.number_regions.new.names.items regions
    c.inputs_of-inputs.result done c.inputs_of-inputs.ensures.each in
    let same : length regions ≡ length c.args.regions.now = length-map c.args.regions.now (λ r. arc_value r) in
    let all : length c.number_regions.new.names.items ≡ length c.args.regions.now * (1 + c.inputs_of-inputs.result) =
    rows.all ∙ ap (λ (n : ℕ). n * (1 + c.inputs_of-inputs.result)) same in
    on_ok_weaker c.put_numbered.result
    (λ put out ins shapes. (
      table,
      counted listed_bytes table ++ rows_bytes done.rows,
      numbered-word out ins table c.number_regions.new.names.items regions done shapes
          (omega (arith, done.few, c.inputs_of-inputs.ensures.sets))
          (omega (arith, c.inputs_of-inputs.ensures.few)),
      put done.rows (subst (λ (ns : List ℕ). AreRows (c.inputs_of-inputs.result + 1) ns done.rows)
          (sym c.deref-2.ensures.value) rows.are)
          ∙ ap (λ (ls : List Listed). c.args.to.now.items ++ (counted listed_bytes ls ++ rows_bytes done.rows))
          c.deref.ensures.value,
    ))
    c.put_numbered.ensures.ok
