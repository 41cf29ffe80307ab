-- A value that names nothing is found nowhere.
use Rattle.std.proofs.Common.{ℤ, Option, sym, ap, ◌∙◌}
use Rattle.sz_refresh.specs.Names.{has_named}
use Rattle.sz_refresh.proofs.Names.{none-found}
use Rattle.sz_refresh.proofs.named.has_named.Goals as goal

pub returns-in-None : goal.returns-in-None
returns-in-None c =
    sym (ap (λ (v : Option ℤ). has_named c.args.first v c.args.set.now) c.in-None.is
    ∙ none-found c.args.set.now.indexes)
