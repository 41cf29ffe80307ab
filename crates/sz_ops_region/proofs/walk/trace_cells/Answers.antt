-- Each cell in turn adds what it adds, and all of them add the image.
use Rattle.std.proofs.Common.{◌≡◌, ℕ, map, refl, sym, ap, ◌∙◌, arith}
use Rattle.std.specs.Arc.{arc_value}
use Rattle.sz_cells.specs.Extent.{size_of, cell_of}
use Rattle.sz_cells.specs.Cells.{Cells, with_those}
use Rattle.sz_spec.specs.declared.modes.Dir.TheVariants.{Back}
use Rattle.sz_spec.specs.Lineage.{related}
use Rattle.sz_frame.specs.Walks.{traced, added}
use Rattle.sz_frame.proofs.Added.{with-none, own-at, traced-next, traced-all}
use Rattle.sz_ops_region.proofs.Labels.{one-shape}
use Rattle.sz_ops_region.proofs.walk.trace_cells.Goals as goal

pub loop-index-init : goal.loop-index-init
loop-index-init c =
    let s = c.args.work.now.at.now in
    let rel = related s.op (map (λ a. arc_value a) c.args.work.now.inputs.now) 0 in
    let to = c.args.to.now in
    record {
      shape = c.out-shape.ensures.value;
      end = c.size-index-end.ensures.value ∙ ap size_of c.out-shape.ensures.value;
      ticks = omega arith;
      marks = c.requires.marks;
      extent = c.requires.to;
      marked = c.requires.marked;
      added = with-none to (added s.out (traced Back rel c.args.from.now) 0)
          (own-at to to.extent refl c.shape-shape-2.ensures.rising) (λ x held. refl);
    }

pub loop-index-preserved : goal.loop-index-preserved
loop-index-preserved c =
    let s = c.args.work.now.at.now in
    let rel = related s.op (map (λ a. arc_value a) c.args.work.now.inputs.now) 0 in
    let inv = c.loop-index.invariant in
    let at : c.cell_at.result ≡ cell_of s.out c.loop-index.index = rw inv.shape at c.cell_at.ensures.value in
    record {
      shape = inv.shape;
      end = inv.end;
      ticks = omega (arith, inv.ticks, c.tick.ensures);
      marks = c.trace_cell.ensures.marks;
      extent = ap (λ (z : Cells). z.extent) c.trace_cell.ensures.to ∙ inv.extent;
      marked = c.trace_cell.ensures.marked;
      added = traced-next Back s.out rel c.args.from.now c.args.to.now c.loop-index.to c.trace_cell.new.to
          c.loop-index.index c.cell_at.result inv.added at c.trace_cell.ensures.to;
    }

pub returns-clause-to : goal.returns-clause-to
returns-clause-to c =
    let w = c.args.work.now in
    let s = w.at.now in
    let rel = related s.op (map (λ a. arc_value a) w.inputs.now) 0 in
    let inv = c.loop-index.invariant in
    let all : c.loop-index.index ≡ size_of s.out = omega (arith, inv.end) in
    inv.added
    ∙ ap (λ (n : ℕ). with_those c.args.to.now (added s.out (traced Back rel c.args.from.now) n)) all
    ∙ traced-all Back s 0 rel c.args.from.now c.args.to.now
    (own-at c.args.from.now s.out c.requires.from c.shape-shape.ensures.rising)
    (c.requires.to ∙ sym (one-shape s w.t w.labels c.requires.right.site.shape))
