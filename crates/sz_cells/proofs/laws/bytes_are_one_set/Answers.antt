-- Numbers of four bytes are known by them, so runs are, and so sets are.
use Rattle.sz_cells.proofs.LawsOfSets.{bytes-one, begins-one}
use Rattle.sz_cells.proofs.laws.bytes_are_one_set.Goals as goal

pub returns : goal.returns
returns c = record { bytes = bytes-one; place = begins-one }
