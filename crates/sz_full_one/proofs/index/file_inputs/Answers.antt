-- One input more: its files are those of the longer table, and the others are left.
use Rattle.std.proofs.Common.{◌≡◌, ◌≢◌, ◌<◌, ◌≤◌, ◌+◌, ℕ, length, get_or, sym, ap, subst, ◌∙◌, arith}
use Rattle.std.proofs.Common.{get_or-set_other, length-set}
use Rattle.std.proofs.Math.Seq.{map-set_same}
use Rattle.std.proofs.lemmas.List.{get_or_default}
use Rattle.sz_full_one.specs.declared.index.SetFiles.{SetFiles}
use Rattle.sz_full_one.specs.ByCells.{AreFiledByIns, HasFileRoom, pair_cells, file_capacities}
use Rattle.sz_full_one.proofs.Growing.{set-each}
use Rattle.sz_full_one.proofs.index.file_inputs.Goals as goal

pub loop-input-preserved : goal.loop-input-preserved
loop-input-preserved c =
    let t = c.args.table.now in
    let n = c.loop-input.input in
    let inv = c.loop-input.invariant in
    let r = c.args.region.now in
    let was : SetFiles = c.index-inputs-input.result in
    let inside : n < length c.loop-input.inputs = omega (arith, inv.length, c.loop-input-test.true) in
    record {
      filed = set-each (λ (i : ℕ) (f : SetFiles). AreFiledByIns t i f) c.loop-input.inputs n c.file_input.new.files
          inside inv.filed c.file_input.ensures.files;
      room = set-each (λ (i : ℕ) (f : SetFiles). (e : SetFiles) (cells count : ℕ)
          → HasFileRoom (pair_cells r + cells) (count + 1) (get_or c.args.inputs.now i e) → HasFileRoom cells count f)
          c.loop-input.inputs n c.file_input.new.files inside inv.room
          (λ e cells count some.
          let same : get_or c.args.inputs.now n e ≡ get_or c.loop-input.inputs n was =
          get_or_default c.args.inputs.now n e was c.loop-input-test.true
          ∙ sym (inv.left n was (omega arith)) in
          c.file_input.ensures.room cells count (subst (HasFileRoom (pair_cells r + cells) (count + 1)) same some));
      left = λ i d above.
          let apart : i ≢ n = omega arith in
          get_or-set_other c.loop-input.inputs n i c.file_input.new.files d apart ∙ inv.left i d (omega arith);
      length = length-set c.loop-input.inputs n c.file_input.new.files ∙ inv.length;
      capacities = map-set_same file_capacities c.loop-input.inputs n c.file_input.new.files was
          c.file_input.ensures.capacities ∙ inv.capacities;
    }

pub returns-clause-room : goal.returns-clause-room
returns-clause-room c =
    let inv = c.loop-input.invariant in
    λ cells count some i d below.
    inv.room i d (omega (arith, c.loop-input-test.false)) d cells count (some i d (omega (arith, inv.length)))
