-- What is left is what was held before the array came, which was in order.
use Rattle.std.proofs.Common.{◌≡◌, length, List, [], ◌∷◌, ap, ◌∙◌, arith}
use Rattle.std.proofs.lemmas.List.{length-append}
use Rattle.sz_spec.specs.Values.{Grid}
use Rattle.sz_catalogue.specs.declared.catalogue.Catalogue.TheView.{view}
use Rattle.sz_catalogue.specs.Holdings.{Named, Holdings, held_cells}
use Rattle.sz_catalogue.specs.Changes.{with_array}
use Rattle.sz_catalogue.proofs.Counts.{array-cells}
use Rattle.sz_catalogue.proofs.catalogue.Catalogue.let_go.Goals as goal

pub invariant_of-self : goal.invariant_of-self
invariant_of-self c =
    let held : Holdings = view c.self.inside in
    let old = c.requires.last.0 in
    let g = c.requires.last.1 in
    let name = c.args.name.now in
    let is : held ≡ with_array old name g = c.self.view_is ∙ c.requires.last.3 in
    let taken = c.take_back-size.ensures old.arrays g (ap (λ (h : Holdings). h.arrays) is) in
    let cells = array-cells old name g in
    let now = ap held_cells is in
    let arrays = length-append old.arrays (record { name = name; thing = g } ∷ []) in
    let many = ap (λ (h : Holdings). length h.arrays) is in
    let left : record held { arrays = c.take_back-size.new.self } ≡ old =
    ap (λ (h : Holdings). record h { arrays = c.take_back-size.new.self }) is
    ∙ ap (λ (xs : List (Named Grid)). record old { arrays = xs }) taken.0 in
    rw left (record {
      limits = record {
        counted = omega (arith, cells, now, taken.1, c.from.ensures, c.self.invariant.limits.counted);
        few_cells = omega (arith, c.self.invariant.limits.few_cells);
        few_arrays = omega (arith, arrays, many, c.self.invariant.limits.few_arrays);
      };
      order = c.requires.last.2;
    })
