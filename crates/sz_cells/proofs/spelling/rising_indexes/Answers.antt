-- What a sort and a dedup leave rises, and has the same numbers.
use Rattle.std.proofs.Common.{eqb}
use Rattle.std.proofs.lemmas.List.Filters.{dedup_is}
use Rattle.sz_cells.proofs.Runs.{named-sorted}
use Rattle.sz_cells.proofs.spelling.rising_indexes.Goals as goal

pub returns : goal.returns
returns c =
    let moved = rw c.in_ok-indexes.ensures at c.sort_unstable.ensures.permutation in
    let left = dedup_is eqb c.sort_unstable.new.self.items c.dedup.new.self.items c.dedup.ensures.filtered in
    let both =
    named-sorted c.args.shape.now c.args.cells.now c.sort_unstable.new.self.items c.dedup.new.self.items c.requires
    moved c.sort_unstable.ensures.sorted left in
    record { rising = both.0; named = both.1 }
