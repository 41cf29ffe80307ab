-- What follows of cells that are alone.
--
-- The key idea: a cell that is alone is no high cell's neighbour, so a list of high neighbours from it has no step.
use Rattle.std.proofs.Common.{◌≡◌, ℕ, ℤ, true, List, [], ◌∷◌, sym, ap, ap₂, subst, ◌∙◌}
use Rattle.std.proofs.lemmas.Bool.{true≢false}
use Rattle.sz_cells.specs.declared.Cell.{Cell}
use Rattle.sz_cells.specs.Extent.{index_of, cell_of}
use Rattle.sz_cells.proofs.Sets.{index-cell, cell-index, index-below}
use Rattle.sz_spec.specs.Values.{Grid}
use Rattle.sz_spec.specs.Operators.Regions.{is_high, are_neighbours}
use Rattle.sz_spec.specs.LawsRegions.{Leads}
use Rattle.sz_spec.proofs.Components.{connected-led, leads-first}
use Rattle.sz_ops_region.specs.Numbers.{joined_at, IsApart}

-- a list of high neighbours from a cell that is apart has no step
led-apart : (t : ℤ) (g : Grid) (o : Cell) (cells : List Cell) (x : Cell) → IsApart t g (index_of g.extent o)
    → Leads t g o cells x → o ≡ x
led-apart t g o [] x lone led = led.2
led-apart t g o (c ∷ cells) x lone led =
    let e = g.extent in
    let first = leads-first t g c cells x led.3 in
    let back_o = cell-index e o led.0 in
    let back_c = cell-index e c first.0 in
    let far = lone (index_of e c) (index-below e c first.0) (ap (is_high t g) back_c ∙ first.1) in
    absurd (true≢false (sym (ap₂ (λ (a b : Cell). are_neighbours e a b) back_o back_c ∙ led.2) ∙ far))

-- so what is connected to it is the cell itself
pub apart-joined : (t : ℤ) (g : Grid) (k l : ℕ) → IsApart t g k → joined_at t g k l ≡ true → k ≡ l
apart-joined t g k l lone there =
    let e = g.extent in
    let led = connected-led t g (cell_of e k) (cell_of e l) there in
    let far = subst (IsApart t g) (sym (index-cell e k)) lone in
    let same = led-apart t g (cell_of e k) led.0 (cell_of e l) far led.1 in
    sym (index-cell e k) ∙ ap (index_of e) same ∙ index-cell e l
