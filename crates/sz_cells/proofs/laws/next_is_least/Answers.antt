-- The first of rising indexes that is not below a number is the least of them.
use Rattle.sz_cells.proofs.LawsOfSets.{next-least, none-next}
use Rattle.sz_cells.proofs.laws.next_is_least.Goals as goal

pub returns : goal.returns
returns c = record { some = next-least; none = none-next }
