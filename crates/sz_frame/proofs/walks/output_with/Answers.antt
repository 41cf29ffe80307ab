-- There are as many values as cells, so the array is made, and it is that of all values.
use Rattle.std.proofs.Common.{◌≡◌, List, Option, Some, length, map, sym, ap, ap₂, ◌∙◌, eq-eqb}
use Rattle.std.specs.Prelude.{ℤ}
use Rattle.std.specs.Arc.{arc_value}
use Rattle.sz_cells.specs.Extent.{Extent, size_of}
use Rattle.sz_spec.specs.Values.{Grid}
use Rattle.sz_frame.proofs.Added.{values-all, values-length}
use Rattle.sz_frame.proofs.walks.output_with.Goals.{After-make}
use Rattle.sz_frame.proofs.walks.output_with.Goals as goal

abbrev array_with : Extent → List (Option ℤ) → Grid
array_with e values = record { extent = e; values = values }

-- so the array is made
made : (c : After-make) → c.make.result ≡ Some (array_with c.out.result c.args.cells.items)
made c =
    let many : length c.args.cells.items ≡ size_of c.out.result =
    ap (λ (xs : List (Option ℤ)). length xs) c.requires.values
    ∙ values-length c.args.at.now (map (λ a. arc_value a) c.args._inputs.now) (size_of c.args.at.now.out)
    ∙ sym (ap size_of c.out.ensures.value) in
    let right = eq-eqb (length c.args.cells.items) (size_of c.out.result) many in
    rw right at c.make.ensures

pub unreachable-requires : goal.unreachable-requires
unreachable-requires c = let never = sym (made (goal.at.unreachable-requires c).After-make) ∙ c.in-None.is in cc

pub returns : goal.returns
returns c =
    let both = sym c.in-Some.is ∙ made (goal.at.returns c).After-make in
    let array : c.in-Some.array ≡ array_with c.out.result c.args.cells.items = cc both in
    array
    ∙ ap₂ array_with c.out.ensures.value c.requires.values
    ∙ values-all c.args.at.now (map (λ a. arc_value a) c.args._inputs.now) c.requires.right
