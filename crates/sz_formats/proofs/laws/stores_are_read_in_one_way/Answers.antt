use Rattle.sz_formats.proofs.Each.{each-one}
use Rattle.sz_formats.proofs.laws.stores_are_read_in_one_way.Goals as goal

pub returns : goal.returns
returns c = each-one
