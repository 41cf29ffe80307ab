-- What one step writes: an empty bitmap with the image added is the image.
use Rattle.std.proofs.Common.{◌≡◌, ℕ, Bool, true, false, ◌||◌, ap, sym, subst, ◌∙◌, refl}
use Rattle.sz_cells.specs.declared.Cell.{Cell}
use Rattle.sz_cells.specs.Extent.{Extent, size_of, holds}
use Rattle.sz_cells.specs.Cells.{Cells, cells_where, any_cell, has, no_cells, with_those, union_of}
use Rattle.sz_cells.proofs.Sets.{has-cells_where, cells_where-ext}
use Rattle.sz_cells.specs.Rising.{AreRising}
use Rattle.sz_spec.specs.declared.modes.Dir.{Dir}
use Rattle.sz_spec.specs.declared.modes.Dir.TheVariants.{Back, Forward}
use Rattle.sz_spec.specs.Shapes.{Site}
use Rattle.sz_spec.specs.Values.{extent_at}
use Rattle.sz_spec.specs.Sides.{far_side, image_in}
use Rattle.sz_frame.proofs.Added.{own-at}
use Rattle.sz_query.specs.Views.{View, view_site, relation_of, image_by}

-- the cells that pass a test, added to none
onto-none : (e : Extent) (test : Cell → Bool) → with_those (no_cells e) (has (cells_where e test)) ≡ cells_where e test
onto-none e test =
    cells_where-ext e (λ c. has (no_cells e) c || has (cells_where e test) c) test
    (λ c held.
    let none : has (no_cells e) c ≡ false = rw held refl in
    ap (λ (b : Bool). b || has (cells_where e test) c) none ∙ has-cells_where e test c held)

-- the image under a relation, added to none
image-onto_none : (dir : Dir) (s : Site) (i : ℕ) (relation : Cell → Cell → Bool) (from : Cells)
    → with_those (no_cells (far_side dir s i)) (has (image_in dir s i relation from)) ≡ image_in dir s i relation from
image-onto_none Back s i relation from = onto-none (extent_at s.ins i) (λ x. any_cell (λ o. relation o x) from)
image-onto_none Forward s i relation from = onto-none s.out (λ o. any_cell (λ x. relation o x) from)

-- what is written by a view of any kind is its image
pub written : (dir : Dir) (v w : View) (i : ℕ) (from old new : Cells) → v ≡ w
    → old ≡ no_cells (far_side dir (view_site v) i)
    → new ≡ with_those old (has (image_in dir (view_site w) i (relation_of w i) from)) → new ≡ image_by dir v i from
written dir v w i from old new same none is =
    let P : View → Type 0 = λ u. new ≡ image_by dir u i from in
    let empty : old ≡ no_cells (far_side dir (view_site w) i) =
    none ∙ ap (λ (u : View). no_cells (far_side dir (view_site u) i)) same in
    subst P (sym same) (is
    ∙ ap (λ (s : Cells). with_those s (has (image_in dir (view_site w) i (relation_of w i) from))) empty
    ∙ image-onto_none dir (view_site w) i (relation_of w i) from)

-- a set added to none is the set
pub copied : (e : Extent) (set new : Cells) → set.extent ≡ e → AreRising 0 (size_of set.extent) set.indexes
    → new ≡ union_of (no_cells e) set → new ≡ set
copied e set new same rising is =
    let none : (c : Cell) → holds e c ≡ true → (has (no_cells e) c || has set c) ≡ has set c = λ c held.
    let no : has (no_cells e) c ≡ false = rw held refl in ap (λ (b : Bool). b || has set c) no in
    is ∙ cells_where-ext e (λ c. has (no_cells e) c || has set c) (has set) none ∙ sym (own-at set e same rising)
