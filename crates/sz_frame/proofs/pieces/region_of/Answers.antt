-- One set for each input.
use Rattle.std.proofs.Common.{◌≡◌, ℕ, ◌+◌, List, length, map, ap, ap₂, ◌∙◌, arith}
use Rattle.std.specs.Arc.{arc_value}
use Rattle.std.specs.List.{range_with_len}
use Rattle.sz_cells.specs.declared.Cell.{Cell}
use Rattle.sz_cells.specs.Extent.{Extent, cell_of}
use Rattle.sz_cells.specs.Cells.{Cells}
use Rattle.sz_frame.specs.Groups.{group_at}
use Rattle.sz_frame.specs.Parts.{Pairing}
use Rattle.sz_frame.specs.Images.{related_cells, related_sets}
use Rattle.sz_frame.proofs.Fitting.{sets-next}
use Rattle.sz_frame.proofs.pieces.region_of.Goals as goal

pub loop-input-preserved : goal.loop-input-preserved
loop-input-preserved g c =
    let s = g.A.AtWork.site c.args.at.now in
    let f : ℕ → Cells = λ i. related_cells s (g.A.AtWork.inputs c.args.at.now) i c.cell_at-cell.result in (
      c.loop-input.invariant.0,
      sets-next (λ a. arc_value a) f c.loop-input.input c.loop-input.ins.items c.push.new.self.items
          c.in_ok-related_set.field-0
          c.loop-input.invariant.1 c.in_ok-related_set.ensures c.in_ok-push.ensures.items,
    )

pub returns : goal.returns
returns g c =
    let s = g.A.AtWork.site c.args.at.now in
    let inputs = g.A.AtWork.inputs c.args.at.now in
    let f : ℕ → Cells = λ i. related_cells s inputs i c.cell_at-cell.result in
    let all : c.loop-input.input ≡ length s.ins = omega (arith, c.loop-input.invariant.0) in
    let make : Cells → List Cells → Pairing = λ out ins. record { out = out; ins = ins } in
    ap₂ make (c.in_ok-out.ensures
    ∙ ap (λ (e : Extent). group_at e c.args.start c.args.kept.now c.args.place) c.out-shape.ensures)
    (c.of.ensures ∙ c.loop-input.invariant.1 ∙ ap (λ (n : ℕ). map f (range_with_len 0 n)) all
    ∙ ap (related_sets s inputs) (c.cell_at-cell.ensures.value
    ∙ ap (λ (e : Extent). cell_of e (c.args.start + c.args.place)) c.out-shape.ensures))
