-- Answers along a path: a set of cells taken through the image of each step, one after the other.
use Rattle.std.specs.Prelude.{◌≡◌, ℕ, ◌+◌, ◌<◌, ◌≤◌, List, [], ◌∷◌, length}
use Rattle.sz_cells.specs.Extent.{Extent}
use Rattle.sz_cells.specs.Cells.{Cells}
use Rattle.sz_spec.specs.declared.modes.Dir.{Dir}
use Rattle.sz_spec.specs.Sides.{near_side, far_side}
use Rattle.sz_query.specs.Views.{View, view_site, IsUsable, traced_by, most_traced_by}
use Rattle.sz_query.specs.Views.{image_by}

-- the set that is left when each view, with its input's number, has taken the set to its image
abbrev pub answered : Dir → List View → List ℕ → Cells → Cells
answered dir [] inputs set = set
answered dir (v ∷ views) [] set = set
answered dir (v ∷ views) (i ∷ inputs) set =
    answered dir views inputs (image_by dir v i set)

-- the output sizes of the views that are traced, summed
abbrev pub traced_of : List View → ℕ
traced_of [] = 0
traced_of (v ∷ views) = traced_by v + traced_of views

-- how much may be traced, before the steps are taken
abbrev pub most_traced_of : List View → ℕ
most_traced_of [] = 0
most_traced_of (v ∷ views) = most_traced_by v + most_traced_of views

-- a step can be taken from a set of this shape: the input is one of the operator's, the shape is
-- that from which the step starts, and the view can be used
pub record IsStep (dir : Dir) (v : View) (i : ℕ) (e : Extent) : Type 0 where
  pub input : i < length (view_site v).ins
  pub near : e ≡ near_side dir (view_site v) i
  pub ready : IsUsable v

-- from a set of this shape each step can be taken, one after the other, from the shape to which the
-- one before it leads; and there is one input number for each view
abbrev pub AreSteps : Dir → List View → List ℕ → Extent → Type 0
AreSteps dir [] [] e = Unit {0}
AreSteps dir [] (i ∷ inputs) e = ⊥
AreSteps dir (v ∷ views) [] e = ⊥
AreSteps dir (v ∷ views) (i ∷ inputs) e =
    IsStep dir v i e × AreSteps dir views inputs (far_side dir (view_site v) i)

-- a path has 1 to 32 steps
abbrev pub IsPath : List View → Type 0
IsPath views = (1 ≤ length views) × (length views ≤ 32)
