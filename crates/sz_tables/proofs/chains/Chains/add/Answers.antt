-- The key idea: the new entry is the last one of its key, and tells the one that was the last before it.
use Rattle.std.proofs.Common.{[], ◌∷◌, ◌+◌, ◌<◌, ◌≡◌, length, ap, arith, length-append, length-set}
use Rattle.sz_tables.specs.Filed.{Files}
use Rattle.sz_tables.specs.declared.chains.Link.{Link}
use Rattle.sz_tables.proofs.Chained.{chained-entry}
use Rattle.sz_tables.proofs.chains.Chains.add.Goals as goal

pub invariant_of-self : goal.invariant_of-self
invariant_of-self c =
    let was = c.self.invariant in
    let heads = c.self.inside.heads in
    let links = c.self.inside.links in
    let spare = ap (λ (f : Files). f.spare) c.self.view_is in
    let keys = ap (λ (f : Files). f.keys) c.self.view_is in
    let inside : c.args.key < length heads.items = omega (arith, c.requires.key) in
    let count : c.len-count.result ≡ length links.items = omega (arith, c.len-count.ensures) in
    let l : Link = record { key = c.args.key; item = c.args.item; before = c.index-before.result.now } in
    let longer = length-append links.items (l ∷ []) in (
      rw (c.push_reserved.ensures.items, count)
          (chained-entry heads.items links.items c.args.key c.args.item c.index-before.result.now inside
          c.index-before.ensures was.0),
      rw (length-set heads.items c.args.key (c.len-count.result + 1)) was.1,
      rw c.push_reserved.ensures.items (record {
        few = omega (arith, was.2.few);
        room = omega (arith, was.2.room, c.push_reserved.ensures.capacity);
      }),
    )
