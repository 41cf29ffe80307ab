-- The key idea: each turn changes the table at the index and appends its number, and nothing before or behind.
use Rattle.std.proofs.Common.{◌≡◌, ◌<◌, ◌∙◌, List, All, length, map, get_or, ap, subst, sym, refl, arith}
use Rattle.std.specs.Arc.{arc_value}
use Rattle.std.specs.List.{sum_by}
use Rattle.sz_cells.specs.Cells.{Cells}
use Rattle.sz_tables.specs.Tables.{SetsByNumber}
use Rattle.sz_tables.specs.Rows.{runs_in, set_at}
use Rattle.sz_tables.proofs.Taking.{read-set, set-light, taken-none, taken-more, as-many, read-many}
use Rattle.sz_tables.proofs.Taking.{same-extent, sets-at}
use Rattle.sz_tables.specs.Apart.{IsOneOrApart}
use Rattle.sz_tables.proofs.region_table.add_each.Goals as goal
use Rattle.sz_tables.proofs.region_table.add_each.Goals.{After-deref}

-- the set of a turn is the one at its index, and each table has one
record IsOn (c : After-deref) : Type 0 where
  pub is : set_at (map (λ a. arc_value a) c.args.sets.now) c.loop-i.i ≡ c.deref.result.now
  pub many : length c.args.sets.now ≡ length c.args.tables.now
  pub long : length (map (λ a. arc_value a) c.args.sets.now) ≡ length c.args.tables.now

is-on : (c : After-deref) → IsOn c
is-on c =
    let many = read-many (λ a. arc_value a) c.args.sets.now c.args.tables.now c.requires.extents in
    record {
      is = read-set (λ a. arc_value a) c.args.sets.now c.loop-i.i c.index-sets-i.result c.deref.result.now
          (omega arith) c.index-sets-i.is c.deref.ensures;
      many = many;
      long = as-many (map (λ a. arc_value a) c.args.sets.now) c.args.tables.now c.requires.extents;
    }

pub add_one-number-requires-clause-extent : goal.add_one-number-requires-clause-extent
add_one-number-requires-clause-extent c =
    let i = c.loop-i.i in
    let d = c.index-tables-i.result in
    let on = is-on (goal.at.add_one-number-requires-clause-extent c).After-deref in
    ap (λ (x : Cells). x.extent) (sym on.is)
    ∙ (same-extent (map (λ a. arc_value a) c.args.sets.now) c.args.tables.now i d c.requires.extents
    (omega (arith, on.many))
    ∙ ap (λ (t : SetsByNumber). t.extent) (sym (c.loop-i.invariant.taken.ahead i d (omega (arith, on.many)))))

pub add_one-number-requires-clause-room : goal.add_one-number-requires-clause-room
add_one-number-requires-clause-room c =
    let i = c.loop-i.i in
    let d = c.index-tables-i.result in
    let xs = map (λ a. arc_value a) c.args.sets.now in
    let on = is-on (goal.at.add_one-number-requires-clause-room c).After-deref in
    let light = rw on.is at (set-light xs i (sum_by runs_in xs) (omega (arith, on.long, on.many)) (omega arith)) in
    let room = c.requires.room i d (omega (arith, on.many)) in
    rw (c.loop-i.invariant.taken.ahead i d (omega (arith, on.many)))
    (record { for_sets = room.for_sets; for_runs = omega (arith, room.for_runs) })

pub add_one-number-requires-clause-apart : goal.add_one-number-requires-clause-apart
add_one-number-requires-clause-apart c told =
    let i = c.loop-i.i in
    let d = c.index-tables-i.result in
    let on = is-on (goal.at.add_one-number-requires-clause-apart c).After-deref in
    let inside : i < length c.args.tables.now = omega (arith, on.many) in
    let parts = subst (λ (xs : List Cells). All (IsOneOrApart (set_at (map (λ a. arc_value a) c.args.sets.now) i)) xs)
    (sets-at c.args.tables.now i d inside) (c.requires.apart told i) in
    rw (c.loop-i.invariant.taken.ahead i d (omega (arith, on.many)))
    (subst (λ (s : Cells). All (IsOneOrApart s) (get_or c.args.tables.now i d).sets) on.is parts)

pub loop-i-preserved : goal.loop-i-preserved
loop-i-preserved c =
    let on = is-on (goal.at.loop-i-preserved c).After-deref in
    record {
      taken =
          rw c.push_reserved.ensures.items
          (taken-more c.args.tables.now c.loop-i.tables (map (λ a. arc_value a) c.args.sets.now)
          c.args.names.now.items c.loop-i.names.items c.loop-i.i c.add_one-number.result c.add_one-number.new.table
          c.index-tables-i.result c.loop-i.invariant.taken (omega (arith, on.many))
          (rw on.is c.add_one-number.ensures));
      capacity = c.push_reserved.ensures.capacity ∙ c.loop-i.invariant.capacity;
    }

pub loop-i-init : goal.loop-i-init
loop-i-init c = record { taken = taken-none _ _ _; capacity = refl }
