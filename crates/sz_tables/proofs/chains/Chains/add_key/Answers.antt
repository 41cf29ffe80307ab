-- The key idea: no entry is filed under the new key.
use Rattle.std.proofs.Common.{[], ◌∷◌, ap, arith, length-append}
use Rattle.sz_tables.specs.Filed.{Files}
use Rattle.sz_tables.proofs.Chained.{chained-key}
use Rattle.sz_tables.proofs.chains.Chains.add_key.Goals as goal

pub invariant_of-self : goal.invariant_of-self
invariant_of-self c =
    let was = c.self.invariant in
    let seen = ap (λ (f : Files). f.spare_keys) c.self.view_is in
    let longer = length-append c.self.inside.heads.items (0 ∷ []) in (
      rw c.push_reserved.ensures.items (chained-key c.self.inside.heads.items c.self.inside.links.items was.0),
      rw c.push_reserved.ensures.items (record {
        few = omega (arith, was.1.few);
        room = omega (arith, was.1.room, c.push_reserved.ensures.capacity);
      }),
      was.2,
    )
