-- The first place that is not marked is the least piece that is not placed.
use Rattle.std.proofs.Common.{◌≡◌, ℕ, ◌<◌, ◌≤◌, Bool, true, false, List, length, get_or, refl, sym}
use Rattle.std.proofs.Common.{◌∙◌, arith, Some, None}
use Rattle.sz_core.proofs.Placing.{missing-some, missing-none}
use Rattle.sz_core.proofs.shelf.IndexedShelf.seal.Goals.{After-first_unmarked-self-inside}
use Rattle.sz_core.proofs.shelf.IndexedShelf.seal.Goals as goal
use Rattle.sz_core.specs.contracts.shelf.IndexedShelf.{the_view}
use Rattle.sz_core.specs.Invariants.{AreMarks}
use Rattle.sz_core.specs.States.{Shelf, missing_piece}

-- what the marks tell of the least piece that is missing
least-missing : (s : Shelf) (marks : List Bool) (least found : ℕ) → length marks ≡ length s.pieces
    → AreMarks s.placed marks least
    → ((k : ℕ) → k < found → get_or marks k false ≡ true) → get_or marks found false ≡ false
    → found < length marks → missing_piece s ≡ Some found
least-missing s marks least found count are below here within =
    missing-some s found (rw count at within) (λ k h. sym (are.marked k (omega arith))
    ∙ below k h) (sym (are.marked found within) ∙ here)

none-missing : (s : Shelf) (marks : List Bool) (least found : ℕ) → length marks ≡ length s.pieces
    → AreMarks s.placed marks least
    → ((k : ℕ) → k < found → get_or marks k false ≡ true) → length marks ≤ found
    → missing_piece s ≡ None
none-missing s marks least found count are below past =
    missing-none s (λ k h. let inside : k < length marks = rw count h in sym (are.marked k inside)
    ∙ below k (omega arith))

missing : (c : After-first_unmarked-self-inside)
    → c.first_unmarked-self-inside.result < length c.self.inside.marks.items
    → missing_piece (the_view c.self.inside) ≡ Some c.first_unmarked-self-inside.result
missing c within =
    let f = c.first_unmarked-self-inside in
    least-missing (the_view c.self.inside) c.self.inside.marks.items c.self.inside.least f.result c.self.invariant.0
    c.self.invariant.1 (rw c.deref.ensures.value at f.ensures.below) (rw c.deref.ensures.value at f.ensures.here) within

complete : (c : After-first_unmarked-self-inside)
    → length c.self.inside.marks.items ≤ c.first_unmarked-self-inside.result
    → missing_piece (the_view c.self.inside) ≡ None
complete c past =
    let f = c.first_unmarked-self-inside in
    none-missing (the_view c.self.inside) c.self.inside.marks.items c.self.inside.least f.result c.self.invariant.0
    c.self.invariant.1 (rw c.deref.ensures.value at f.ensures.below) past

pub returns-then-self-len : goal.returns-then-self-len
returns-then-self-len c =
    let is = missing (goal.at.returns-then-self-len c).After-first_unmarked-self-inside
    (omega (arith, c.len.ensures, c.if-self-len.true, c.self.inside.marks.ok)) in
    record { told = rw (← c.self.view_is, is) refl; after = rw (← c.self.view_is, is) refl }

pub returns-else-self-len : goal.returns-else-self-len
returns-else-self-len c =
    let is = complete (goal.at.returns-else-self-len c).After-first_unmarked-self-inside
    (omega (arith, c.len.ensures, c.if-self-len.false, c.self.inside.marks.ok)) in
    record { told = rw (← c.self.view_is, is) refl; after = rw (← c.self.view_is, is) refl }
