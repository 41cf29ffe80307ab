-- Sets of one cell or none.
--
-- The key idea: a set is the cells of its shape that pass a test, so what holds of it is seen at the one cell that is
-- there.
use Rattle.std.proofs.Common.{◌≡◌, Bool, ◌&&◌, ◌==◌, [], ◌∷◌, refl, sym, ap}
use Rattle.std.proofs.Common.{◌∙◌, inl, inr}
use Rattle.std.proofs.Math.Bool.{or-false}
use Rattle.std.proofs.lemmas.Bool.{cases_Bool}
use Rattle.std.specs.Prelude.{Option}
use Rattle.std.specs.List.{list_any}
use Rattle.sz_cells.specs.declared.Cell.{Cell}
use Rattle.sz_cells.specs.Extent.{Extent, holds, index_of}
use Rattle.sz_cells.specs.Cells.{Cells, is_same, cells_where, any_cell, has, named_in, with_those}
use Rattle.sz_cells.proofs.Sets.{cells_where-ext, any_cell-ext, any_cell-same_any, is_same-flip}
use Rattle.sz_frame.proofs.Added.{with-ext}
use Rattle.sz_frame.specs.Single.{is_cell, IsOnly}

-- a test of the shape twice is one
twice : (e : Extent) (c : Cell) (b : Bool) → (holds e c && (holds e c && b)) ≡ (holds e c && b)
twice e c b = elim (cases_Bool (holds e c)) [ inl t ↦ rw t refl | inr f ↦ rw f refl ]

-- a set has a cell exactly where some cell of it is the same
pub has-one : (from : Cells) (c : Cell) → from ≡ cells_where from.extent (has from)
    → has from c ≡ any_cell (is_same c) from
has-one from c own =
    sym
    (ap (any_cell (is_same c)) own ∙ any_cell-same_any from.extent (has from) c
    ∙ twice from.extent c (list_any (λ k. k == index_of from.extent c) from.indexes))

-- the set of a list of one cell
pub named-one : (e : Extent) (c : Cell) → named_in e (c ∷ []) ≡ cells_where e (is_same c)
named-one e c =
    cells_where-ext e (λ x. list_any (is_same x) (c ∷ [])) (is_same c)
    (λ x held. or-false (is_same x c) ∙ is_same-flip x c)

-- where exactly the cell that is there passes a test, it adds what the test adds
pub adds-only : (to : Cells) (e : Extent) (test : Cell → Bool) (cell : Option Cell) → to.extent ≡ e
    → IsOnly e test cell
    → with_those to (is_cell cell) ≡ with_those to test
adds-only to e test cell same only =
    with-ext to (is_cell cell) test (λ x held. sym (only x (rw (← same) held)))

-- it is the set of the test
pub set-only : (e : Extent) (test : Cell → Bool) (cell : Option Cell) → IsOnly e test cell
    → cells_where e (is_cell cell) ≡ cells_where e test
set-only e test cell only = cells_where-ext e (is_cell cell) test (λ x held. sym (only x held))

-- and some cell of a set is it where some cell passes
pub any-only : (from : Cells) (e : Extent) (test : Cell → Bool) (cell : Option Cell)
    → from ≡ cells_where e (has from)
    → IsOnly e test cell → any_cell (is_cell cell) from ≡ any_cell test from
any-only from e test cell own only =
    ap (any_cell (is_cell cell)) own
    ∙ any_cell-ext e (has from) (is_cell cell) test (λ x held passes. sym (only x held))
    ∙ sym (ap (any_cell test) own)
