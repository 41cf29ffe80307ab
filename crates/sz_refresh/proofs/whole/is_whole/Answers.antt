-- As many rising indexes as there are cells are all of them.
use Rattle.std.proofs.Common.{ap, sym, ◌∙◌, eqb-true}
use Rattle.sz_cells.specs.Extent.{size_of}
use Rattle.sz_refresh.proofs.OwnPlaces.{whole-has}
use Rattle.sz_refresh.proofs.whole.is_whole.Goals as goal

pub returns : goal.returns
returns c =
    let set = c.args.set.now in
    λ same.
    whole-has set c.shape.ensures.rising
    (sym c.count.ensures
    ∙ eqb-true c.count.result c.size.result same
    ∙ c.size.ensures.value
    ∙ ap size_of c.shape.ensures.value)
