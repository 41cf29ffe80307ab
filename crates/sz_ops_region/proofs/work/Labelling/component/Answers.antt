-- What is prepared is the component of each cell, and that of a high cell has the cell itself.
use Rattle.std.proofs.Common.{◌≡◌, ℕ, true, map, length, List, sym, ap, subst, ◌∙◌, arith}
use Rattle.std.specs.Arc.{arc_value}
use Rattle.sz_cells.specs.Extent.{Extent, index_of, holds, size_of}
use Rattle.sz_cells.specs.Cells.{Cells, no_cells}
use Rattle.sz_cells.proofs.Sets.{index-below}
use Rattle.std.specs.Prelude.{ℤ}
use Rattle.std.proofs.Common.{get_or}
use Rattle.sz_cells.specs.declared.Cell.{Cell}
use Rattle.sz_spec.specs.Values.{Grid, input_at}
use Rattle.sz_spec.specs.Operators.Regions.{component_of}
use Rattle.sz_ops_region.specs.Parts.{IsPartAt}
use Rattle.sz_ops_region.specs.Regions.{components_of}
use Rattle.sz_ops_region.proofs.Labels.{aid-length, aid-at, full-high, none-low, grid-shape, part-full}
use Rattle.sz_ops_region.proofs.work.Labelling.component.Goals.{After-index}
use Rattle.sz_ops_region.proofs.work.Labelling.component.Goals as goal

shape : (c : After-index) → (input_at (map (λ a. arc_value a) c.args.self.now.inputs.now) 0).extent
    ≡ c.args.self.now.at.now.out
shape c =
    let w = c.args.self.now in
    grid-shape w.at.now (map (λ a. arc_value a) w.inputs.now) w.t w.labels c.requires.right

pub component-requires : goal.component-requires
component-requires c =
    let w = c.args.self.now in
    let g = input_at (map (λ a. arc_value a) w.inputs.now) 0 in
    let many : length w.aid.now ≡ size_of g.extent = ap (λ (xs : List Cells). length xs) w.found ∙ aid-length w.t g in
    omega (
      arith,
      many,
      ap size_of (shape (goal.at.component-requires c).After-index),
      index-below w.at.now.out c.args.out c.requires.out,
      c.index.ensures.value,
      ap (λ (e : Extent). index_of e c.args.out) c.out.ensures.value,
    )

-- the component that was prepared for the cell
prepared : (t : ℤ) (g : Grid) (aid : List Cells) (e : Extent) (k : ℕ) (o : Cell) (d : Cells)
    → aid ≡ components_of t g → g.extent ≡ e → k ≡ index_of e o → holds e o ≡ true
    → get_or aid k d ≡ component_of t g o
prepared t g aid e k o d found shape at held =
    ap (λ (n : ℕ). get_or aid n d) (at ∙ ap (λ (f : Extent). index_of f o) (sym shape))
    ∙ ap (λ (xs : List Cells). get_or xs (index_of g.extent o) d) found
    ∙ aid-at t g o d (rw shape held)

at : (c : After-index) → c.index.result ≡ index_of c.args.self.now.at.now.out c.args.out
at c = c.index.ensures.value ∙ ap (λ (e : Extent). index_of e c.args.out) c.out.ensures.value

found : (c : After-index) → get_or c.args.self.now.aid.now c.index.result
    (no_cells (input_at (map (λ a. arc_value a) c.args.self.now.inputs.now) 0).extent)
    ≡ component_of c.args.self.now.t (input_at (map (λ a. arc_value a) c.args.self.now.inputs.now) 0) c.args.out
found c =
    let w = c.args.self.now in
    let g = input_at (map (λ a. arc_value a) w.inputs.now) 0 in
    prepared w.t g w.aid.now w.at.now.out c.index.result c.args.out (no_cells g.extent) w.found (shape c) (at c)
    c.requires.out

pub returns-in-Some-clause-value : goal.returns-in-Some-clause-value
returns-in-Some-clause-value c =
    let w = c.args.self.now in
    let g = input_at (map (λ a. arc_value a) w.inputs.now) 0 in
    let s = (goal.at.returns-in-Some-clause-value c).After-index in
    subst (λ (k : ℕ). IsPartAt k c.in-Some.part (component_of w.t g c.args.out)) (at s)
    (subst (IsPartAt c.index.result c.in-Some.part) (found s) (c.in-Some.ensures.some (no_cells g.extent)))

pub returns-in-Some-clause-high : goal.returns-in-Some-clause-high
returns-in-Some-clause-high c =
    let t = c.args.self.now.t in
    let g = input_at (map (λ a. arc_value a) c.args.self.now.inputs.now) 0 in
    sym (full-high t g c.args.out
    (part-full c.index.result c.in-Some.part (component_of t g c.args.out)
    (subst (IsPartAt c.index.result c.in-Some.part) (found (goal.at.returns-in-Some-clause-high c).After-index)
    (c.in-Some.ensures.some (no_cells g.extent)))))

pub returns-in-None-clause-high : goal.returns-in-None-clause-high
returns-in-None-clause-high c =
    let g = input_at (map (λ a. arc_value a) c.args.self.now.inputs.now) 0 in
    let s = (goal.at.returns-in-None-clause-high c).After-index in
    sym (none-low c.args.self.now.t g c.args.out (rw (shape s) c.requires.out)
    (ap (λ (s : Cells). s.indexes) (sym (found s)) ∙ c.in-None.ensures.none (no_cells g.extent)))
