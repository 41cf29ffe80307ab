-- There are no more cells than the shape has.
use Rattle.std.proofs.Common.{◌≡◌, ◌≤◌, length, ap, arith}
use Rattle.sz_cells.specs.Extent.{size_of}
use Rattle.sz_cells.proofs.Rising.{rising-length}
use Rattle.sz_refresh.proofs.output.Renewal.count_cells.Goals as goal

pub count_all-requires : goal.count_all-requires
count_all-requires c =
    let w = c.args.self.now in
    let set = w.cells.now in
    let few : length set.indexes ≤ size_of set.extent =
    rising-length (size_of set.extent) 0 (size_of set.extent) set.indexes (omega arith) c.shape.ensures.rising in
    let same : size_of set.extent ≡ size_of w.at.now.out = ap size_of w.within in
    omega (arith, few, same, c.count.ensures, c.requires)
