-- The store that a seat has out, and that it is the one that a call on the slot finds there.
use Rattle.std.proofs.Common.{◌≡◌, ℕ, List, [], ◌∷◌, sym, ap, ◌∙◌}
use Rattle.atomic_table.specs.Table.{rest}
use Rattle.atomic_table.specs.Seated.{TableId}
use Rattle.sz_shelf.specs.Contents.{Contents}
use Rattle.sz_shelf.specs.Places.{ShelfPlace}

-- the store that is out first, or another where none is
abbrev pub first-out : Contents → List (ℕ × Contents) → Contents
first-out d [] = d
first-out d (x ∷ xs) = x.1

pub out-here : (l : List (ℕ × Contents)) (c : Contents) → l ≡ (0, c) ∷ []
    → (x : Contents) × (l ≡ (0, x) ∷ rest l)
out-here l c is = (c, is ∙ ap (λ (k : List (ℕ × Contents)). (0, c) ∷ rest k) (sym is))

pub out-is : (l : List (ℕ × Contents)) (c d : Contents) → l ≡ (0, c) ∷ [] → l ≡ (0, d) ∷ rest l → c ≡ d
out-is l c d is same = ap (first-out d) (sym is ∙ same)

pub out-now : (l : List (ℕ × Contents)) (c d : Contents) → l ≡ (0, c) ∷ [] → (0, d) ∷ rest l ≡ (0, d) ∷ []
out-now l c d is = ap (λ (k : List (ℕ × Contents)). (0, d) ∷ rest k) is

-- a seat of a shelf's table is one of the table inside it
pub table-is : {z : TableId} {p q : ShelfPlace} → z ≡ q.table → p ≡ q → z ≡ p.table
table-is own is = own ∙ sym (ap (λ (x : ShelfPlace). x.table) is)
