-- The table has one region pair more, and each tree one rectangle more.
use Rattle.std.proofs.Common.{◌≡◌, ◌<◌, ◌≤◌, ◌++◌, ◌∷◌, ℕ, List, All, length, drop, ap, ap₂, sym, subst, ◌∙◌, arith}
use Rattle.std.specs.Vec.{vec_capacity}
use Rattle.std.specs.Arc.{arc_value}
use Rattle.std.proofs.lemmas.List.{take_at}
use Rattle.sz_frame.specs.Parts.{Pairing}
use Rattle.sz_tables.specs.Stores.{Store}
use Rattle.sz_tables.specs.Apart.{AreOneOrApart}
use Rattle.sz_full_many.proofs.Indexing.{room-rows, room-tree, room-less, indexed-more, trees-hold}
use Rattle.sz_full_many.proofs.FullMany.add.Goals as goal

pub add_bounds-requires-clause-room : goal.add_bounds-requires-clause-room
add_bounds-requires-clause-room c =
    let trees = c.self.inside.trees.items in
    let rows = c.self.inside.table.spare_rows in
    let seen = ap (λ (s : Store Pairing). s.room.items) c.self.view_is in
    rw c.deref_mut.ensures.value (λ k d inside. let least = room-tree rows trees k d inside in
    omega (arith, least, seen, c.requires.items))

pub add_as-requires-clause-rows : goal.add_as-requires-clause-rows
add_as-requires-clause-rows c =
    let seen = ap (λ (s : Store Pairing). s.room.items) c.self.view_is in
    omega (arith, room-rows c.self.inside.table.spare_rows c.self.inside.trees.items, seen, c.requires.items)

pub add_as-requires-clause-apart : goal.add_as-requires-clause-apart
add_as-requires-clause-apart c told =
    subst (λ (s : Store Pairing). All (AreOneOrApart c.args.region.now) s.given) (sym c.self.view_is)
    (c.requires.apart told)

pub invariant_of-self : goal.invariant_of-self
invariant_of-self c =
    let trees = c.self.inside.trees.items in
    let new = c.add_bounds.new.trees in
    let back = take_at new (drop (length new) trees) c.self.inside.trees.len (omega arith) in
    rw back
    (indexed-more (arc_value c.self.inside.at) c.self.inside.dir c.self.inside.table c.add_as.new.self
    c.args.region.now trees
    new c.self.invariant c.add_as.ensures.kept.out c.add_as.ensures.kept.ins c.add_as.ensures.pairings (omega arith)
    (rw c.deref_mut.ensures.value at c.add_bounds.ensures.next))

pub returns-clause-items : goal.returns-clause-items
returns-clause-items c =
    let trees = c.self.inside.trees.items in
    let new = c.add_bounds.new.trees in
    let back = take_at new (drop (length new) trees) c.self.inside.trees.len (omega arith) in
    let seen = ap (λ (s : Store Pairing). s.room.items) c.self.view_is in
    let less =
    room-less c.self.inside.dir c.args.region.now c.self.inside.table.spare_rows c.add_as.new.self.spare_rows trees
    new c.add_as.ensures.room (omega arith) (rw c.deref_mut.ensures.value at c.add_bounds.ensures.next) in
    rw back (omega (arith, less, seen))

pub returns-clause-capacities : goal.returns-clause-capacities
returns-clause-capacities c =
    let t = c.self.inside in
    let trees = t.trees.items in
    let new = c.add_bounds.new.trees in
    let back = take_at new (drop (length new) trees) t.trees.len (omega arith) in
    let held = trees-hold t.dir c.args.region.now trees new (omega arith)
    (rw c.deref_mut.ensures.value at c.add_bounds.ensures.next) in
    rw (back, ← c.self.view_is)
    (ap₂ (λ (ns ms : List ℕ). ns ++ vec_capacity t.trees ∷ ms) c.add_as.ensures.capacities held)
