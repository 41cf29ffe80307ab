-- Each run is in order and within the shape.
use Rattle.std.proofs.Common.{◌<◌, List, get_or, subst, ap, sym, refl, ◌∙◌}
use Rattle.std.proofs.lemmas.List.{take_all}
use Rattle.sz_cells.specs.declared.Run.{Run}
use Rattle.sz_cells.specs.Extent.{Extent, size_of}
use Rattle.sz_cells.specs.Cells.{Cells, union_of}
use Rattle.sz_cells.specs.Runs.{covers}
use Rattle.sz_cells.specs.Words.{cells_at}
use Rattle.sz_cells.proofs.Runs.{runs-at}
use Rattle.sz_cells.proofs.Bitmaps.{runs-start, runs-step}
use Rattle.sz_frame.proofs.Added.{own-at}
use Rattle.sz_payload.proofs.forward.add_all.Goals as goal

pub loop-run-init : goal.loop-run-init
loop-run-init c = runs-start c.args.to.now (own-at c.args.to.now c.args.to.now.extent refl c.shape.ensures.rising)

pub add_run-requires : goal.add_run-requires
add_run-requires c =
    let none : Run = record { first = 0; last = 0 } in
    let at = runs-at 0 (size_of c.args.to.now.extent) c.args.runs.now c.loop-run.run-index none c.requires
    c.loop-run-test.true in
    let same = sym (ap (λ (s : Cells). s.extent) c.loop-run.invariant) in
    record {
      order = at.1;
      within = subst (λ (e : Extent). (get_or c.args.runs.now c.loop-run.run-index none).last < size_of e) same at.2;
    }

pub loop-run-preserved : goal.loop-run-preserved
loop-run-preserved c =
    let none : Run = record { first = 0; last = 0 } in
    let at = runs-at 0 (size_of c.args.to.now.extent) c.args.runs.now c.loop-run.run-index none c.requires
    c.loop-run-test.true in
    let same = sym (ap (λ (s : Cells). s.extent) c.loop-run.invariant) in
    let within =
    subst (λ (e : Extent). (get_or c.args.runs.now c.loop-run.run-index none).last < size_of e) same at.2 in
    runs-step c.args.to.now c.loop-run.to c.add_run.new.self c.args.runs.now c.loop-run.run-index none
    c.loop-run-test.true c.loop-run.invariant at.1 within c.add_run.ensures

pub returns : goal.returns
returns c =
    c.loop-run.invariant
    ∙ ap (λ (rs : List Run). union_of c.args.to.now (cells_at c.args.to.now.extent (covers rs)))
    (take_all c.loop-run.run-index c.args.runs.now c.loop-run-test.false)
