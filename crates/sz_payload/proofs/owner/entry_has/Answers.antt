-- The search stops at the first run that does not end before the index, since the ends of the runs do not fall.
use Rattle.std.proofs.Common.{length, refl, sym, ap, ◌∙◌, arith, lt-ltb, le-ltb}
use Rattle.sz_cells.specs.declared.Run.{Run}
use Rattle.sz_cells.specs.Extent.{size_of, cell_of}
use Rattle.sz_cells.specs.Cells.{Cells, has}
use Rattle.sz_cells.proofs.Runs.{runs-rise, any-runs}
use Rattle.sz_tables.specs.Rows.{set_at}
use Rattle.sz_payload.proofs.Owning.{runs-longest, runs-has}
use Rattle.sz_payload.proofs.owner.entry_has.Goals as goal

pub place_of-place-requires : goal.place_of-place-requires
place_of-place-requires c =
    let out = c.args.table.now.out in
    let set = set_at c.args.table.now.sets c.set_number.result in
    let runs = c.out_runs-runs.result.now in
    runs-rise 0 (size_of out) runs (runs-longest out set runs c.out_runs-runs.ensures.set c.out_runs-runs.ensures.runs)

pub returns-then-place-runs : goal.returns-then-place-runs
returns-then-place-runs c =
    let out = c.args.table.now.out in
    let set = set_at c.args.table.now.sets c.set_number.result in
    let runs = c.out_runs-runs.result.now in
    let k = c.args.index in
    let place = c.place_of-place.result in
    let none : Run = record { first = 0; last = 0 } in
    let longest = runs-longest out set runs c.out_runs-runs.ensures.set c.out_runs-runs.ensures.runs in
    sym
    (any-runs 0 (size_of out) k place none runs longest c.place_of-place.ensures.within c.place_of-place.ensures.first
    ∙ (rw (lt-ltb place (length runs) (omega arith)) refl))
    ∙ runs-has out set runs k c.out_runs-runs.ensures.set c.out_runs-runs.ensures.runs c.requires.cell
    ∙ ap (λ (s : Cells). has s (cell_of out k)) (sym c.set_number.ensures.set)

pub returns-else-place-runs : goal.returns-else-place-runs
returns-else-place-runs c =
    let out = c.args.table.now.out in
    let set = set_at c.args.table.now.sets c.set_number.result in
    let runs = c.out_runs-runs.result.now in
    let k = c.args.index in
    let place = c.place_of-place.result in
    let none : Run = record { first = 0; last = 0 } in
    let longest = runs-longest out set runs c.out_runs-runs.ensures.set c.out_runs-runs.ensures.runs in
    let past = le-ltb place (length runs) (omega arith) in
    past
    ∙ sym
    (any-runs 0 (size_of out) k place none runs longest c.place_of-place.ensures.within c.place_of-place.ensures.first
    ∙ (rw past refl))
    ∙ runs-has out set runs k c.out_runs-runs.ensures.set c.out_runs-runs.ensures.runs c.requires.cell
    ∙ ap (λ (s : Cells). has s (cell_of out k)) (sym c.set_number.ensures.set)
