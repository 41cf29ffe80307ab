-- Nothing is held, so there is nothing to be round, and no room.
use Rattle.std.proofs.Common.{◌≡◌, ℕ, length, refl, ap, ◌∙◌}
use Rattle.std.specs.Arc.{arc_value}
use Rattle.sz_spec.specs.Shapes.{Site}
use Rattle.sz_tables.specs.Rows.{RowTable, pairings}
use Rattle.sz_full_many.specs.Indexed.{trees_for}
use Rattle.sz_full_many.proofs.Indexing.{room-none, indexed-none}
use Rattle.sz_full_many.proofs.FullMany.new.Goals as goal

pub invariant_of-result : goal.invariant_of-result
invariant_of-result c =
    let made = c.in_ok-table.ensures in
    let inputs = c.ins-2.ensures.value ∙ ap (λ (s : Site). s.ins) c.deref-3.ensures in
    indexed-none (arc_value c.args.at) c.args.dir c.in_ok-table.table c.in_ok-trees.trees.items
    (ap (λ (t : RowTable). t.out) made ∙ c.out.ensures.value ∙ ap (λ (s : Site). s.out) c.deref.ensures)
    (ap (λ (t : RowTable). t.ins) made ∙ c.ins.ensures.value ∙ ap (λ (s : Site). s.ins) c.deref-2.ensures)
    (ap pairings made)
    (c.in_ok-trees.ensures.count ∙ ap (λ (n : ℕ). trees_for c.args.dir n) (ap length inputs))
    c.in_ok-trees.ensures.empty

pub returns : goal.returns
returns c = rw (c.in_ok-table.ensures, room-none c.in_ok-trees.trees.items) refl
