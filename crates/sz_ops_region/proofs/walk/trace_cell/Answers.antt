-- Where the component is marked it is there already; else it is added, and marked.
use Rattle.std.proofs.Common.{◌≡◌, ℕ, true, map, refl, sym, ap, ap₂, subst, ◌∙◌, arith}
use Rattle.std.specs.Arc.{arc_value}
use Rattle.sz_cells.specs.Extent.{Extent, size_of, holds, cell_of}
use Rattle.sz_cells.specs.Cells.{Cells, is_same, has, with_those, with_cell, union_of}
use Rattle.sz_spec.specs.declared.modes.Dir.TheVariants.{Back}
use Rattle.sz_spec.specs.Values.{input_at}
use Rattle.sz_spec.specs.Lineage.{related}
use Rattle.sz_spec.specs.Operators.Regions.{is_connected}
use Rattle.sz_frame.specs.Walks.{traced}
use Rattle.sz_frame.proofs.Added.{with-none, own-at, traced-not_in}
use Rattle.sz_ops_region.specs.Tracing.{first_index, first_of, AreMarked}
use Rattle.sz_ops_region.proofs.Labels.{grid-shape}
use Rattle.sz_ops_region.proofs.Tracing.{component-extent, marked-grows, marked-more, traced-high, traced-marked}
use Rattle.sz_ops_region.proofs.walk.trace_cell.Goals.{After-has, After-cell_at-first}
use Rattle.sz_ops_region.proofs.walk.trace_cell.Goals as goal

pub returns-then-not-has-clause-to : goal.returns-then-not-has-clause-to
returns-then-not-has-clause-to c =
    let w = c.args.work.now in
    let rel = related w.at.now.op (map (λ a. arc_value a) w.inputs.now) 0 in
    let to = c.args.to.now in
    with-none to (traced Back rel c.args.from.now c.args.cell) (own-at to to.extent refl c.shape.ensures.rising)
    (λ x held. traced-not_in Back rel c.args.from.now c.args.cell x refl (sym c.has.ensures ∙ c.if-not-has.true))

-- the component's extent, and its first cell
shape : (c : After-has) → (input_at (map (λ a. arc_value a) c.args.work.now.inputs.now) 0).extent
    ≡ c.args.work.now.at.now.out
shape c =
    let w = c.args.work.now in
    grid-shape w.at.now (map (λ a. arc_value a) w.inputs.now) w.t w.labels c.requires.right

first : (c : After-cell_at-first) → c.cell_at-first.result
    ≡ first_of c.args.work.now.t (input_at (map (λ a. arc_value a) c.args.work.now.inputs.now) 0) c.args.cell
first c =
    let w = c.args.work.now in
    let same = grid-shape w.at.now (map (λ a. arc_value a) w.inputs.now) w.t w.labels c.requires.right in
    c.cell_at-first.ensures.value
    ∙ ap₂ (λ (e : Extent) (k : ℕ). cell_of e k) (c.out.ensures.value ∙ sym same)
    (c.first.ensures.value ∙ ap (λ (z : Cells). first_index z.indexes) c.in-Some.ensures.value)

pub cell_at-first-requires : goal.cell_at-first-requires
cell_at-first-requires c =
    let w = c.args.work.now in
    let grids = map (λ a. arc_value a) w.inputs.now in
    let g = input_at grids 0 in
    let same = shape (goal.at.cell_at-first-requires c).After-has in
    let extent = ap (λ (z : Cells). z.extent) c.in-Some.ensures.value ∙ component-extent w.t g c.args.cell ∙ same
    ∙ sym c.out.ensures.value in
    omega (arith, c.first.ensures.within, ap size_of extent)

pub add_set-requires : goal.add_set-requires
add_set-requires c =
    let w = c.args.work.now in
    let grids = map (λ a. arc_value a) w.inputs.now in
    let g = input_at grids 0 in
    let same = shape (goal.at.add_set-requires c).After-has in
    ap (λ (z : Cells). z.extent) (c.cells.ensures.value ∙ c.in-Some.ensures.value) ∙ component-extent w.t g c.args.cell
    ∙ same ∙ sym c.requires.to

pub returns-in-None-clause-marked : goal.returns-in-None-clause-marked
returns-in-None-clause-marked c =
    let w = c.args.work.now in
    let g = input_at (map (λ a. arc_value a) w.inputs.now) 0 in
    subst (AreMarked w.t g c.args.marks.now) (sym c.set.ensures)
    (marked-grows w.t g c.args.marks.now c.args.to.now (λ x. is_same x c.args.cell) c.requires.marked)

pub returns-then-not-has-2-clause-to : goal.returns-then-not-has-2-clause-to
returns-then-not-has-2-clause-to c =
    let w = c.args.work.now in
    let grids = map (λ a. arc_value a) w.inputs.now in
    c.add_set.ensures ∙ ap (union_of c.args.to.now) (c.cells.ensures.value ∙ c.in-Some.ensures.value)
    ∙ traced-high w.at.now grids w.t c.args.from.now c.args.cell c.args.to.now w.labels
    (sym c.has.ensures ∙ c.if-not-has.false) c.in-Some.ensures.high

pub returns-then-not-has-2-clause-marked : goal.returns-then-not-has-2-clause-marked
returns-then-not-has-2-clause-marked c =
    let w = c.args.work.now in
    let grids = map (λ a. arc_value a) w.inputs.now in
    let g = input_at grids 0 in
    let marks = c.args.marks.now in
    let to = c.args.to.now in
    let same = shape (goal.at.returns-then-not-has-2-clause-marked c).After-has in
    let marked : c.set-then-not-has-2.new.self ≡ with_cell marks (first_of w.t g c.args.cell) =
    c.set-then-not-has-2.ensures
    ∙ ap (with_cell marks) (first (goal.at.returns-then-not-has-2-clause-marked c).After-cell_at-first) in
    let more : c.add_set.new.self ≡ with_those to (is_connected w.t g c.args.cell) =
    c.add_set.ensures ∙ ap (union_of to) (c.cells.ensures.value ∙ c.in-Some.ensures.value) in
    subst (λ (m : Cells). AreMarked w.t g m c.add_set.new.self) (sym marked)
    (subst (AreMarked w.t g (with_cell marks (first_of w.t g c.args.cell))) (sym more)
    (marked-more w.t g marks to c.args.cell c.requires.marked (c.requires.to ∙ sym same)
    (subst (λ (e : Extent). holds e c.args.cell ≡ true) (sym same) c.requires.cell) c.in-Some.ensures.high))

pub returns-else-not-has-2-clause-to : goal.returns-else-not-has-2-clause-to
returns-else-not-has-2-clause-to c =
    let w = c.args.work.now in
    let here = goal.at.returns-else-not-has-2-clause-to c in
    let marks = c.args.marks.now in
    let to = c.args.to.now in
    traced-marked w.at.now (map (λ a. arc_value a) w.inputs.now) w.t c.args.from.now c.args.cell marks to w.labels
    (sym c.has.ensures ∙ c.if-not-has.false) c.in-Some.ensures.high
    (own-at to to.extent refl c.shape.ensures.rising)
    (subst (λ (e : Extent). holds e c.args.cell ≡ true) (sym (shape here.After-has)) c.requires.cell) c.requires.marked
    (ap (has marks) (sym (first here.After-cell_at-first)) ∙ sym c.has-in-Some.ensures ∙ c.if-not-has-2.false)
