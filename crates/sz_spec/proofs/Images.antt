-- What follows of images.
--
-- The key idea: an image is a set made by the test "some cell of the given set is related", so what is in it is
-- what the shape holds and passes that test; where the given set is itself made by a test, "some cell" is one
-- that can be named.
use Rattle.std.proofs.Common.{◌≡◌, Bool, true, ◌||◌, ◌↔◌, sym, ap₂, ◌∙◌, inl, inr}
use Rattle.std.proofs.lemmas.Bool.{and_parts, and_from, or_cases, or_left, or_right}
use Rattle.sz_cells.specs.declared.Cell.{Cell}
use Rattle.sz_cells.specs.Extent.{Extent, holds}
use Rattle.sz_cells.specs.Cells.{Cells, cells_where, any_cell, has, union_of}
use Rattle.sz_cells.proofs.Sets.{has-cells_where, has-cells_where_any, cells_where-ext}
use Rattle.sz_cells.proofs.Sets.{any_cell-true, any_cell-from}
use Rattle.sz_cells.proofs.Sets.{any_cell-ext}
use Rattle.sz_cells.proofs.Sets.{same_truth}
use Rattle.sz_spec.specs.LawsImages.{ImagesBackAreTheRelatedCells, ImagesForwardAreTheRelatedCells}
use Rattle.sz_spec.specs.LawsImages.{ImagesBackSayThereIs, ImagesForwardSayThereIs}
use Rattle.sz_spec.specs.LawsImages.{ImagesBackOfUnions}
use Rattle.sz_spec.specs.LawsImages.{ImagesForwardOfUnions, ImagesBackAgree, ImagesForwardAgree}

-- the image of a set, both ways: `toward c` is the test that a cell of the set is related to c
abbrev image : (Cell → Cell → Bool) → Extent → Cells → Cells
image toward e set = cells_where e (λ c. any_cell (toward c) set)

-- a cell is in the set of those that are related to some cell of a set made by a test exactly where there is
-- such a cell
pub there_is : (toward : Cell → Cell → Bool) (e d : Extent) (test : Cell → Bool) (c : Cell)
    → (has (image toward e (cells_where d test)) c ≡ true)
    ↔ ((holds e c ≡ true) × ((o : Cell) × (holds d o ≡ true) × (test o ≡ true) × (toward c o ≡ true)))
there_is toward e d test c =
    let law = has-cells_where_any e (λ x. any_cell (toward x) (cells_where d test)) c in (
      λ inside.
          let both = and_parts (holds e c) (any_cell (toward c) (cells_where d test)) (sym law ∙ inside) in
          (both.0, any_cell-true d test (toward c) both.1),
      λ known. law
          ∙ and_from _ _ known.0 (any_cell-from d test (toward c) known.1.0 known.1.1 known.1.2 known.1.3),
    )

-- some cell of the union of two sets of one shape passes exactly where some cell of one of them does
any-union : (d : Extent) (test other q : Cell → Bool)
    → any_cell q (union_of (cells_where d test) (cells_where d other))
    ≡ (any_cell q (cells_where d test) || any_cell q (cells_where d other))
any-union d test other q =
    let a = cells_where d test in
    let b = cells_where d other in
    let either : Cell → Bool = λ c. has a c || has b c in
    same_truth (any_cell q (union_of a b)) (any_cell q a || any_cell q b)
    (λ found.
    let c = any_cell-true d either q found in
    elim (or_cases (has a c.0) (has b c.0) c.2) [
      | inl here ↦ or_left (any_cell q a) (any_cell q b)
          (any_cell-from d test q c.0 c.1 (sym (has-cells_where d test c.0 c.1) ∙ here) c.3)
      | inr there ↦ or_right (any_cell q a) (any_cell q b)
          (any_cell-from d other q c.0 c.1 (sym (has-cells_where d other c.0 c.1) ∙ there) c.3)
    ])
    (λ found.
    elim (or_cases (any_cell q a) (any_cell q b) found) [
      | inl here ↦
          let c = any_cell-true d test q here in
          any_cell-from d either q c.0 c.1
          (or_left (has a c.0) (has b c.0) (has-cells_where d test c.0 c.1 ∙ c.2)) c.3
      | inr there ↦
          let c = any_cell-true d other q there in
          any_cell-from d either q c.0 c.1
          (or_right (has a c.0) (has b c.0) (has-cells_where d other c.0 c.1 ∙ c.2)) c.3
    ])

-- the image of a union is the union of the images
image-union : (toward : Cell → Cell → Bool) (e d : Extent) (test other : Cell → Bool)
    → image toward e (union_of (cells_where d test) (cells_where d other))
    ≡ union_of (image toward e (cells_where d test)) (image toward e (cells_where d other))
image-union toward e d test other =
    let a = cells_where d test in
    let b = cells_where d other in
    let both : Cell → Bool = λ c. has (image toward e a) c || has (image toward e b) c in
    cells_where-ext e (λ c. any_cell (toward c) (union_of a b)) both
    (λ c held.
    any-union d test other (toward c)
    ∙ ap₂ (λ (p q : Bool). p || q) (sym (has-cells_where e (λ x. any_cell (toward x) a) c held))
    (sym (has-cells_where e (λ x. any_cell (toward x) b) c held)))

-- relations that agree have one image
image-ext : (toward other : Cell → Cell → Bool) (e d : Extent) (test : Cell → Bool)
    → ((c x : Cell) → holds e c ≡ true → holds d x ≡ true → toward c x ≡ other c x)
    → image toward e (cells_where d test) ≡ image other e (cells_where d test)
image-ext toward other e d test same =
    cells_where-ext e (λ c. any_cell (toward c) (cells_where d test))
    (λ c. any_cell (other c) (cells_where d test))
    (λ c held. any_cell-ext d test (toward c) (other c) (λ x there passes. same c x held there))

-- ---- the laws

-- what is in an image
pub back-has : ImagesBackAreTheRelatedCells
back-has relation e set x = has-cells_where_any e (λ y. any_cell (λ o. relation o y) set) x

-- what is in an image forward
pub forward-has : ImagesForwardAreTheRelatedCells
forward-has relation e set o = has-cells_where_any e (λ y. any_cell (λ x. relation y x) set) o

-- and for which cell of a set made by a test
pub back-there_is : ImagesBackSayThereIs
back-there_is relation e d test x = there_is (λ y o. relation o y) e d test x

-- and for which cell, forward
pub forward-there_is : ImagesForwardSayThereIs
forward-there_is relation e d test o = there_is relation e d test o

-- images of unions
pub back-union : ImagesBackOfUnions
back-union relation e d test other = image-union (λ x o. relation o x) e d test other

-- forward too
pub forward-union : ImagesForwardOfUnions
forward-union relation e d test other = image-union relation e d test other

-- images under relations that agree
pub back-ext : ImagesBackAgree
back-ext relation other e d test same = image-ext (λ x o. relation o x) (λ x o. other o x) e d test
    (λ x o held there. same o x there held)

-- forward too
pub forward-ext : ImagesForwardAgree
forward-ext relation other e d test same = image-ext relation other e d test same
