-- There are as many rectangles as entries.
use Rattle.std.proofs.Common.{subst, arith}
use Rattle.sz_payload.specs.declared.owner.Owner.{Owner}
use Rattle.sz_payload.specs.Owned.{IsIndexOf}
use Rattle.sz_payload.proofs.Owning.{round-long}
use Rattle.sz_payload.proofs.owner.Owner.reserve.Goals as goal

pub reserve-requires : goal.reserve-requires
reserve-requires c =
    let few = c.requires.few in
    let round = subst (λ (w : Owner). IsIndexOf few.0 few.1 w) c.in-Many.is few.2 in
    omega (arith, round-long few.1 c.in-Many.tree.rectangles round, few.3)
