-- Each run of the set is in order and within the shape, and all runs spell the set.
use Rattle.std.proofs.Common.{◌<◌, List, get_or, subst, ap, sym, ◌∙◌}
use Rattle.std.proofs.lemmas.List.{take_all}
use Rattle.sz_cells.specs.declared.Run.{Run}
use Rattle.sz_cells.specs.Extent.{Extent, size_of}
use Rattle.sz_cells.specs.Cells.{Cells, union_of}
use Rattle.sz_cells.specs.Runs.{covers}
use Rattle.sz_cells.specs.Words.{has_bit, cells_at}
use Rattle.sz_cells.proofs.Runs.{runs-at}
use Rattle.sz_cells.proofs.Bitmaps.{own-cells, runs-start, runs-step, spelled-at, view-at}
use Rattle.sz_cells.proofs.cell_bits.CellBits.add_set.Goals as goal

pub loop-run-init : goal.loop-run-init
loop-run-init c = runs-start c.args.self.now (own-cells c.args.self.now c.self.inside.shape
    (has_bit c.self.inside.words.items) c.self.view_is)

pub add_run-requires : goal.add_run-requires
add_run-requires c =
    let at = runs-at 0 (size_of c.args.set.now.extent) c.runs-run-items.result.now c.loop-run.run-index
    (record { first = 0; last = 0 }) c.runs-run-items.ensures.spelled.longest c.loop-run-test.true in
    let same = c.requires ∙ sym (ap (λ (s : Cells). s.extent) c.loop-run.invariant) in
    record {
      order = at.1;
      within = subst (λ (e : Extent). (get_or c.runs-run-items.result.now c.loop-run.run-index
          (record { first = 0; last = 0 })).last < size_of e) same at.2;
    }

pub loop-run-preserved : goal.loop-run-preserved
loop-run-preserved c =
    let at = runs-at 0 (size_of c.args.set.now.extent) c.runs-run-items.result.now c.loop-run.run-index
    (record { first = 0; last = 0 }) c.runs-run-items.ensures.spelled.longest c.loop-run-test.true in
    let same = c.requires ∙ sym (ap (λ (s : Cells). s.extent) c.loop-run.invariant) in
    let within = subst (λ (e : Extent). (get_or c.runs-run-items.result.now c.loop-run.run-index
    (record { first = 0; last = 0 })).last < size_of e) same at.2 in
    runs-step c.args.self.now c.loop-run.self c.add_run.new.self c.runs-run-items.result.now c.loop-run.run-index
    (record { first = 0; last = 0 }) c.loop-run-test.true
    c.loop-run.invariant at.1 within c.add_run.ensures

pub returns : goal.returns
returns c =
    let runs = c.runs-run-items.result.now in
    c.loop-run.invariant
    ∙ ap (λ (rs : List Run). union_of c.args.self.now (cells_at c.args.self.now.extent (covers rs)))
    (take_all c.loop-run.run-index runs c.loop-run-test.false)
    ∙ ap (union_of c.args.self.now)
    (view-at c.args.set.now.extent (covers runs) c.args.set.now (spelled-at runs c.args.set.now
    c.runs-run-items.ensures.spelled) c.args.self.now.extent c.requires)
