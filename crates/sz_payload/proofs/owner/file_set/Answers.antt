-- The runs spell the set, so the indexes of all of them are those of the set.
use Rattle.std.proofs.Common.{◌≡◌, ◌+◌, ◌-◌, ◌<◌, ◌≤◌, ℕ, List, length, take, get_or, sym, ap, subst, ◌∙◌, arith}
use Rattle.std.specs.List.{flat_map}
use Rattle.std.proofs.lemmas.List.{take_all}
use Rattle.std.proofs.lemmas.List.Folds.{length-flat_map-take}
use Rattle.sz_cells.specs.declared.Run.{Run}
use Rattle.sz_cells.specs.Extent.{size_of}
use Rattle.sz_cells.specs.Runs.{indexes_of}
use Rattle.sz_cells.proofs.Runs.{runs-at}
use Rattle.sz_tables.specs.Filed.{Files}
use Rattle.sz_payload.specs.Owned.{with_cells}
use Rattle.sz_payload.proofs.Filing.{cells-none, cells-run, cells-room}
use Rattle.sz_payload.proofs.owner.file_set.Goals as goal

pub loop-run-init : goal.loop-run-init
loop-run-init c = cells-none c.args.files.now c.args.number

pub file_run-requires : goal.file_run-requires
file_run-requires c =
    let none : Run = record { first = 0; last = 0 } in
    let runs = c.runs-run-items.result.now in
    let i = c.loop-run.run-index in
    let spelled = c.runs-run-items.ensures.spelled in
    let at = runs-at 0 (size_of c.args.set.now.extent) runs i none spelled.longest c.loop-run-test.true in
    let same = ap (λ (f : Files). f.keys) c.loop-run.invariant in
    let whole = ap (λ (ks : List ℕ). length ks) spelled.spelled in
    let size : size_of c.args.set.now.extent ≤ 1048576 =
    omega (arith, c.size.ensures.few, c.size.ensures.value, ap size_of c.shape.ensures.value) in
    record {
      keys = omega (arith, same, c.requires.keys);
      order = at.1;
      few = omega (arith, at.2, size);
      room = cells-room c.args.files.now c.loop-run.files (flat_map indexes_of (take i runs)) c.args.number
          (length (indexes_of (get_or runs i none))) c.loop-run.invariant (omega (
            arith,
            length-flat_map-take indexes_of runs i none c.loop-run-test.true,
            whole,
            c.requires.room,
          ));
    }

pub loop-run-preserved : goal.loop-run-preserved
loop-run-preserved c =
    cells-run c.args.files.now c.loop-run.files c.file_run.new.files c.runs-run-items.result.now c.loop-run.run-index
    c.args.number (record { first = 0; last = 0 }) c.loop-run-test.true c.loop-run.invariant c.file_run.ensures

pub returns : goal.returns
returns c =
    let runs = c.runs-run-items.result.now in
    c.loop-run.invariant
    ∙ ap (λ (rs : List Run). with_cells c.args.files.now (flat_map indexes_of rs) c.args.number)
    (take_all c.loop-run.run-index runs c.loop-run-test.false)
    ∙ ap (λ (ks : List ℕ). with_cells c.args.files.now ks c.args.number) c.runs-run-items.ensures.spelled.spelled
