-- Where no cell is to be computed, the old array holds each value.
use Rattle.std.proofs.Common.{◌≡◌, List, map, length, Option, sym, ap, ◌∙◌}
use Rattle.std.specs.Prelude.{ℤ}
use Rattle.std.specs.Arc.{arc_value}
use Rattle.sz_cells.specs.Extent.{size_of}
use Rattle.sz_spec.specs.Values.{Grid}
use Rattle.sz_refresh.proofs.Changes.{runs-none}
use Rattle.sz_refresh.proofs.Outputs.{held-all}
use Rattle.sz_refresh.proofs.output.output_after.Goals as goal

pub returns-in_ok-try_clone-clause-output : goal.returns-in_ok-try_clone-clause-output
returns-in_ok-try_clone-clause-output g c =
    let s = c.args.at.now in
    let inputs : List Grid = map (λ a. arc_value a) c.args.inputs.now in
    let old = arc_value c.args.old.now in
    let none = runs-none c.runs.result.now c.args.cells.now c.runs.ensures.spelled
    (sym c.is_empty.ensures ∙ c.if-is_empty.true) in
    let long : length old.values ≡ size_of s.out =
    ap (λ (g : Grid). length g.values) (sym c.deref.ensures)
    ∙ ap (λ (vs : List (Option ℤ)). length vs) (sym c.cells.ensures.values)
    ∙ c.cells.ensures.count
    ∙ ap (λ (g : Grid). size_of g.extent) c.deref.ensures
    ∙ ap size_of c.requires.shape in
    c.in_ok-try_clone.ensures
    ∙ held-all s inputs old c.args.cells.now c.at_work.ensures.right c.requires.shape long none c.requires.others
