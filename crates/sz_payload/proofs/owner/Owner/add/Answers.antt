-- The entry's set is filed, and those before stay filed.
use Rattle.std.proofs.Common.{◌≡◌, ℕ, ◌<◌, ◌+◌, length, drop, get_or, cond, ap, sym, subst, ◌∙◌, arith}
use Rattle.std.proofs.lemmas.List.{take_at}
use Rattle.sz_cells.specs.Runs.{covers}
use Rattle.sz_payload.specs.declared.owner.Owner.{Owner}
use Rattle.sz_payload.specs.Owned.{IsIndexOf, HasCellRoom, owner_capacities}
use Rattle.sz_rtree.specs.Rectangles.{Rectangles}
use Rattle.sz_tables.specs.Filed.{Files}
use Rattle.sz_tables.specs.Stores.{cells_in}
use Rattle.sz_payload.proofs.Filing.{files-more}
use Rattle.sz_payload.proofs.Owning.{slots-more, round-more}
use Rattle.sz_payload.proofs.owner.Owner.add.Goals as goal

pub returns-in-One-clause-index : goal.returns-in-One-clause-index
returns-in-One-clause-index c = λ es e at count index.
    let old = c.in-One.slots.items in
    let new = c.fill.new.slots in
    let slots = subst (λ (w : Owner). IsIndexOf c.args.shape es w) c.in-One.is index in
    let long : length new ≡ length old = omega arith in
    let filled : (k : ℕ) → k < length old
    → get_or new k 0 ≡ cond (covers c.runs.result.now k) (c.args.row + 1) (get_or old k 0) =
    rw c.deref_mut.ensures.value at c.fill.ensures in
    let back = take_at new (drop (length new) old) c.in-One.slots.len (omega arith) in
    rw back
    (slots-more c.args.shape es e c.args.set.now c.runs.result.now old new c.args.row c.runs.ensures.spelled
    c.requires.set long filled at count slots)

pub file_set-requires-clause-keys : goal.file_set-requires-clause-keys
file_set-requires-clause-keys c =
    let index = c.requires.index in
    (subst (λ (w : Owner). IsIndexOf c.args.shape index.0 w) c.in-Few.is index.1).keys

pub file_set-requires-clause-room : goal.file_set-requires-clause-room
file_set-requires-clause-room c =
    subst (λ (w : Owner). HasCellRoom (cells_in c.args.set.now) w) c.in-Few.is c.requires.cells

pub returns-in-Few-clause-index : goal.returns-in-Few-clause-index
returns-in-Few-clause-index c = λ es e at count index.
    files-more c.args.shape es e c.args.set.now c.in-Few.files c.file_set.new.files c.args.row c.requires.set
    c.file_set.ensures at count (subst (λ (w : Owner). IsIndexOf c.args.shape es w) c.in-Few.is index)

pub returns-in-Few-clause-cells : goal.returns-in-Few-clause-cells
returns-in-Few-clause-cells c = λ n room.
    let before = subst (λ (w : Owner). HasCellRoom (cells_in c.args.set.now + n) w) c.in-Few.is room in
    omega (arith, before, ap (λ (f : Files). f.spare) c.file_set.ensures)

pub returns-in-Many-clause-index : goal.returns-in-Many-clause-index
returns-in-Many-clause-index c = λ es e at count index.
    let round = subst (λ (w : Owner). IsIndexOf c.args.shape es w) c.in-Many.is index in
    let more = ap (λ (t : Rectangles). t.rectangles) c.insert.ensures in
    rw more (round-more es c.in-Many.tree.rectangles e c.bounds_of_set.result round (rw at c.bounds_of_set.ensures))

pub returns-in-One-clause-capacities : goal.returns-in-One-clause-capacities
returns-in-One-clause-capacities c = sym (ap owner_capacities c.in-One.is)

pub returns-in-Few-clause-capacities : goal.returns-in-Few-clause-capacities
returns-in-Few-clause-capacities c =
    ap (λ (f : Files). f.capacities) c.file_set.ensures ∙ sym (ap owner_capacities c.in-Few.is)

pub returns-in-Many-clause-capacities : goal.returns-in-Many-clause-capacities
returns-in-Many-clause-capacities c =
    ap (λ (t : Rectangles). t.capacities) c.insert.ensures ∙ sym (ap owner_capacities c.in-Many.is)
