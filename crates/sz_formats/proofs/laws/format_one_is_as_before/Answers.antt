use Rattle.sz_formats.proofs.Each.{format-one}
use Rattle.sz_formats.proofs.laws.format_one_is_as_before.Goals as goal

pub returns : goal.returns
returns c = format-one
