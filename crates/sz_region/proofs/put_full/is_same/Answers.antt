-- The arrays, the sides of the shapes and the runs are the same.
use Rattle.std.proofs.Common.{◌≡◌, ℕ, List, Bool, true, false, not, ◌&&◌, ◌==◌, refl, sym, ap, ap₂, ◌∙◌, eqb-true}
use Rattle.std.specs.List.{flat_map}
use Rattle.std.proofs.lemmas.Bool.{and_parts}
use Rattle.sz_cells.specs.declared.Run.{Run}
use Rattle.sz_cells.specs.Extent.{Extent}
use Rattle.sz_cells.specs.Runs.{indexes_of}
use Rattle.sz_region.specs.FullBytes.{Listed}
use Rattle.sz_region.proofs.put_full.is_same.Goals as goal

no-not : (b : Bool) → not b ≡ false → b ≡ true
no-not true is = refl
no-not false is = cc

same-extents : (a b : Extent) → (a.layers == b.layers) && ((a.rows == b.rows) && (a.cols == b.cols)) ≡ true → a ≡ b
same-extents a b same =
    let first = and_parts (a.layers == b.layers) ((a.rows == b.rows) && (a.cols == b.cols)) same in
    let rest = and_parts (a.rows == b.rows) (a.cols == b.cols) first.1 in
    let make : ℕ → ℕ → ℕ → Extent = λ l r c. record { layers = l; rows = r; cols = c } in
    ap (λ (l : ℕ). make l a.rows a.cols) (eqb-true a.layers b.layers first.0)
    ∙ ap₂ (make b.layers) (eqb-true a.rows b.rows rest.0) (eqb-true a.cols b.cols rest.1)

pub returns : goal.returns
returns c = λ same.
    let one = c.one.inside in
    let other = c.other.inside in
    let shape = same-extents one.shape other.shape (no-not _ (sym c.ne.ensures ∙ c.if-ne.false)) in
    let make : ℕ → Extent → List Run → Listed =
    λ a e rs. record { array = a; set = record { extent = e; indexes = flat_map indexes_of rs } } in
    sym c.one.view_is
    ∙ ap (λ (a : ℕ). make a one.shape one.runs.now) c.if-one-other.false
    ∙ ap₂ (make other.array) shape (c.are_same.ensures same)
    ∙ c.other.view_is
