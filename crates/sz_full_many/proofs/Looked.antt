-- Looks by rectangles.
--
-- The key idea: where two rectangles share no cell, two sets within them share none. So a region pair whose rectangle
-- does not overlap that of the asked cells adds nothing, and a look may pass over it.
use Rattle.std.proofs.Common.{◌≡◌, ℕ, zero, suc, ◌+◌, ◌-◌, ◌<◌, ◌≤◌, Bool, true, false, ◌&&◌, ◌||◌}
use Rattle.std.proofs.Common.{List, [], ◌∷◌, length, take, get_or, Option, Some, None}
use Rattle.std.proofs.Common.{refl, sym, ap, subst, ◌∙◌, arith}
use Rattle.std.specs.Prelude.{IsSomeAnd}
use Rattle.std.specs.List.{AllZip, AllWithin, list_any}
use Rattle.std.proofs.Math.Bool.{or-false}
use Rattle.std.proofs.lemmas.Bool.{false_from_ne_true}
use Rattle.std.proofs.lemmas.List.{take_all}
use Rattle.std.proofs.lemmas.List.Folds.{list_any_more}
use Rattle.std.proofs.lemmas.Slice.Zip.{AllZip-long}
use Rattle.sz_cells.specs.declared.Bounds.{Bounds}
use Rattle.sz_cells.specs.declared.Cell.{Cell}
use Rattle.sz_cells.specs.Extent.{Extent}
use Rattle.sz_cells.specs.Cells.{Cells, cells_where, any_cell, has, with_those}
use Rattle.sz_cells.specs.Laws.{IsInBounds}
use Rattle.sz_cells.proofs.Sets.{any_cell-true}
use Rattle.sz_spec.specs.declared.modes.Dir.{Dir}
use Rattle.sz_spec.specs.Sides.{extent_after, image_between}
use Rattle.sz_frame.specs.Parts.{Pairing}
use Rattle.sz_frame.specs.Stands.{full_stands}
use Rattle.sz_frame.proofs.Added.{with-ext, with-none}
use Rattle.sz_rtree.specs.Rectangles.{Overlaps, IsNextHit}
use Rattle.sz_tables.specs.Rows.{RowTable, pairings}
use Rattle.sz_tables.specs.Scans.{near_set, far_set, pair_adds, pairs_add}
use Rattle.sz_tables.specs.Sets.{IsRound}
use Rattle.sz_full_many.specs.Indexed.{AreRound}
use Rattle.sz_tables.proofs.Scanned.{all-added}

-- ---- sets that share no cell

-- a set without a cell of the asked ones meets none
unmet : (near from : Cells) → from ≡ cells_where from.extent (has from)
    → ((c : Cell) → has from c ≡ true → has near c ≡ true → ⊥) → any_cell (has near) from ≡ false
unmet near from own apart =
    false_from_ne_true (any_cell (has near) from)
    (λ met.
    let one = any_cell-true from.extent (has from) (has near) (sym (ap (any_cell (has near)) own) ∙ met) in
    apart one.0 one.2 one.3)

-- rectangles with a common cell overlap
in-both : (a b : Bounds) (c : Cell) → IsInBounds a c → IsInBounds b c → Overlaps a b
in-both a b c one other = (omega arith, omega arith, omega arith, omega arith)

unmet-apart : (near from : Cells) (a b : Bounds) → from ≡ cells_where from.extent (has from) → IsRound a near
    → IsRound b from → (Overlaps a b → ⊥) → any_cell (has near) from ≡ false
unmet-apart near from a b own round asked apart =
    unmet near from own (λ c there here. apart (in-both a b c (round c here) (asked c there)))

adds-nothing : (dir : Dir) (i : ℕ) (from : Cells) (r : Pairing) (x : Cell)
    → any_cell (has (near_set dir i r)) from ≡ false → pair_adds dir i from r x ≡ false
adds-nothing dir i from r x none = ap (λ b. b && has (far_set dir i r) x) none

-- ---- what is passed over

-- region pairs that add nothing
pub skipped : (dir : Dir) (i : ℕ) (from : Cells) (rs : List Pairing) (d : Pairing) (x : Cell) (n a b : ℕ) → a + n ≡ b
    → b ≤ length rs
    → ((k : ℕ) → a ≤ k → k < b → pair_adds dir i from (get_or rs k d) x ≡ false)
    → pairs_add dir i from (take a rs) x ≡ pairs_add dir i from (take b rs) x
skipped dir i from rs d x zero a b at within none =
    let same : a ≡ b = omega arith in ap (λ m. pairs_add dir i from (take m rs) x) same
skipped dir i from rs d x (suc n) a b at within none =
    let last : a + n + 1 ≡ b = omega arith in
    skipped dir i from rs d x n a (a + n) refl (omega arith) (λ k low high. none k low (omega arith))
    ∙ sym
    (list_any_more (λ r. pair_adds dir i from r x) rs (a + n) d (omega arith)
    ∙ ap (λ c. pairs_add dir i from (take (a + n) rs) x || c) (none (a + n) (omega arith) (omega arith))
    ∙ or-false (pairs_add dir i from (take (a + n) rs) x))
    ∙ ap (λ m. pairs_add dir i from (take m rs) x) last

zipped-at : {A B : Type 0} (R : A → B → Type 0) (xs : List A) (ys : List B) (k : ℕ) (d : A) (e : B)
    → AllZip R xs ys → k < length xs → R (get_or xs k d) (get_or ys k e)
zipped-at R [] ys k d e all inside = absurd (omega arith)
zipped-at R (x ∷ xs) [] k d e all inside = absurd all
zipped-at R (x ∷ xs) (y ∷ ys) zero d e all inside = all.0
zipped-at R (x ∷ xs) (y ∷ ys) (suc k) d e all inside = zipped-at R xs ys k d e all.1 (omega arith)

-- region pairs whose rectangles do not overlap that of the asked cells
pub passed-over : (dir : Dir) (i : ℕ) (from to so_far : Cells) (rs : List Pairing) (rectangles : List Bounds)
    (bounds : Bounds) (a b : ℕ) → from ≡ cells_where from.extent (has from)
    → AreRound dir i rs rectangles → IsRound bounds from → a ≤ b → b ≤ length rs
    → AllWithin (λ r. Overlaps r bounds → ⊥) rectangles a b
    → so_far ≡ with_those to (pairs_add dir i from (take a rs))
    → so_far ≡ with_those to (pairs_add dir i from (take b rs))
passed-over dir i from to so_far rs rectangles bounds a b own round asked order within apart is =
    let none : Pairing = record { out = from; ins = [] } in
    let gap : a + (b - a) ≡ b = omega arith in
    is
    ∙ with-ext to (pairs_add dir i from (take a rs)) (pairs_add dir i from (take b rs))
    (λ x held.
    skipped dir i from rs none x (b - a) a b gap within
    (λ k low high.
    adds-nothing dir i from (get_or rs k none) x
    (unmet-apart (near_set dir i (get_or rs k none)) from (get_or rectangles k bounds) bounds own
    (zipped-at (λ r c. IsRound c (near_set dir i r)) rs rectangles k none bounds round (omega arith)) asked
    (apart k bounds low high))))

-- as many rectangles as region pairs
pub round-long : (dir : Dir) (i : ℕ) (rs : List Pairing) (rectangles : List Bounds) → AreRound dir i rs rectangles
    → length rectangles ≡ length rs
round-long dir i rs rectangles round = AllZip-long (λ r c. IsRound c (near_set dir i r)) rs rectangles round

-- where no cell is asked, no region pair adds one
none-asked : (dir : Dir) (i : ℕ) (from : Cells) (rs : List Pairing) (x : Cell)
    → from ≡ cells_where from.extent (has from) → ((c : Cell) → has from c ≡ true → ⊥) → pairs_add dir i
    from rs x ≡ false
none-asked dir i from [] x own asked = refl
none-asked dir i from (r ∷ rs) x own asked =
    rw (
      adds-nothing dir i from r x (unmet (near_set dir i r) from own (λ c there here. asked c there)),
      none-asked dir i from rs x own asked,
    ) refl

pub nothing-asked : (dir : Dir) (i : ℕ) (from to : Cells) (t : RowTable) (bounds : Option Bounds)
    → from ≡ cells_where from.extent (has from) → to ≡ cells_where to.extent (has to)
    → to.extent ≡ extent_after dir t.out t.ins i → bounds ≡ None
    → ((c : Cell) → has from c ≡ true → IsSomeAnd bounds (λ b. IsInBounds b c))
    → to ≡ with_those to (has (image_between dir t.out t.ins i (full_stands (pairings t) i) from))
nothing-asked dir i from to t bounds own own_to far is asked =
    let none = rw is at asked in
    with-none to (pairs_add dir i from (pairings t)) own_to
    (λ x held. none-asked dir i from (pairings t) x own none)
    ∙ all-added dir t.out t.ins i (pairings t) from to far
