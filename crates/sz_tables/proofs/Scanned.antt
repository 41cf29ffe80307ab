-- What rows and region pairs add to an image.
--
-- The key idea: what the first n region pairs add is a test of cells, so a row makes that test one pair wider, and at
-- the end the test is the image: whether some asked cell has some region pair, or some region pair has some asked cell,
-- is one.
use Rattle.std.proofs.Common.{◌≡◌, ℕ, zero, suc, ◌+◌, ◌<◌, Bool, true, false, ◌&&◌, ◌||◌}
use Rattle.std.proofs.Common.{List, [], ◌∷◌, map, length, take, get_or, Option, Some, None}
use Rattle.std.proofs.Common.{refl, sym, ap, ap₂, ◌∙◌, arith, inl, inr}
use Rattle.std.specs.Prelude.{unwrap_or, slice_index, IfSome, All}
use Rattle.std.specs.List.{slice_get, list_any, zip}
use Rattle.std.proofs.Math.Bool.{or-false}
use Rattle.std.proofs.lemmas.Bool.{cases_Bool, or_right}
use Rattle.std.proofs.lemmas.List.{take_all, get_or-map, length-map}
use Rattle.std.proofs.lemmas.List.Folds.{list_any_more}
use Rattle.std.proofs.lemmas.Option.{unwrap_or-slice_get}
use Rattle.sz_cells.specs.declared.Cell.{Cell}
use Rattle.sz_cells.specs.Extent.{Extent, holds, cell_of}
use Rattle.sz_cells.specs.Cells.{Cells, cells_where, any_cell, has, no_cells, with_those}
use Rattle.sz_cells.proofs.Sets.{has-cells_where, cells_where-ext}
use Rattle.sz_spec.specs.declared.modes.Dir.{Dir}
use Rattle.sz_spec.specs.declared.modes.Dir.TheVariants.{Back, Forward}
use Rattle.sz_spec.specs.Values.{no_extent, extent_at}
use Rattle.sz_spec.specs.Sides.{extent_after, image_between}
use Rattle.sz_frame.specs.Parts.{Pairing}
use Rattle.sz_frame.specs.Stands.{set_of, full_stands}
use Rattle.sz_frame.proofs.Added.{with-none, with-ext, with-more}
use Rattle.sz_tables.specs.Rows.{Row, RowTable, IsRowOf, number_in, set_at, sets_of}
use Rattle.sz_tables.specs.Rows.{row_at, pairing_of, pairings}
use Rattle.sz_tables.specs.Scans.{near_set, far_set, pair_adds, pairs_add, near_sets, far_sets}
use Rattle.sz_tables.specs.Scans.{near_number, far_number, pairing_at, HasSeen}
use Rattle.sz_tables.specs.declared.scans.Seen.{Seen}

-- ---- what is found in two lists

-- tests that agree find alike
any-ext : {X : Type 0} (p q : X → Bool) → ((x : X) → p x ≡ q x) → (xs : List X) → list_any p xs ≡ list_any q xs
any-ext p q same [] = refl
any-ext p q same (x ∷ xs) = ap₂ (λ (a b : Bool). a || b) (same x) (any-ext p q same xs)

any-nothing : {X : Type 0} (xs : List X) → list_any (λ x. false) xs ≡ false
any-nothing [] = refl
any-nothing (x ∷ xs) = any-nothing xs

or-turned : (a b c d : Bool) → ((a || b) || (c || d)) ≡ ((a || c) || (b || d))
or-turned true b c d = refl
or-turned false true true d = refl
or-turned false false true d = refl
or-turned false true false d = refl
or-turned false false false d = refl

-- one of two tests is found where one of them is
any-either : {X : Type 0} (p q : X → Bool) (xs : List X)
    → (list_any p xs || list_any q xs) ≡ list_any (λ x. p x || q x) xs
any-either p q [] = refl
any-either p q (x ∷ xs) =
    or-turned (p x) (list_any p xs) (q x) (list_any q xs) ∙ ap (λ b. (p x || q x) || b) (any-either p q xs)

-- the order of the two lists is free
pub any-swap : {X Y : Type 0} (f : X → Y → Bool) (xs : List X) (ys : List Y)
    → list_any (λ x. list_any (f x) ys) xs ≡ list_any (λ y. list_any (λ x. f x y) xs) ys
any-swap f [] ys = sym (any-nothing ys)
any-swap f (x ∷ xs) ys =
    ap (λ b. list_any (f x) ys || b) (any-swap f xs ys)
    ∙ any-either (f x) (λ y. list_any (λ z. f z y) xs) ys

and-turned : (a b : Bool) → (a && b) ≡ (b && a)
and-turned true true = refl
and-turned true false = refl
and-turned false true = refl
and-turned false false = refl

spread : (a c b : Bool) → ((a && b) || (c && b)) ≡ ((a || c) && b)
spread true true true = refl
spread true false true = refl
spread false c b = refl
spread true true false = refl
spread true false false = refl

-- what does not depend on the element
any-and : {X : Type 0} (p : X → Bool) (b : Bool) (xs : List X)
    → list_any (λ x. p x && b) xs ≡ (list_any p xs && b)
any-and p b [] = refl
any-and p b (x ∷ xs) = ap (λ c. (p x && b) || c) (any-and p b xs) ∙ spread (p x) (list_any p xs) b

and-any : {X : Type 0} (b : Bool) (p : X → Bool) (xs : List X)
    → list_any (λ x. b && p x) xs ≡ (list_any p xs && b)
and-any b p xs = any-ext (λ x. b && p x) (λ x. p x && b) (λ x. and-turned b (p x)) xs ∙ any-and p b xs

-- ---- what region pairs add

-- what all region pairs add is the image
image-added : (dir : Dir) (out : Extent) (ins : List Extent) (i : ℕ) (rs : List Pairing) (from : Cells) (x : Cell)
    → holds (extent_after dir out ins i) x ≡ true
    → pairs_add dir i from rs x ≡ has (image_between dir out ins i (full_stands rs i) from) x
image-added Back out ins i rs from x held =
    any-ext (λ r. any_cell (has r.out) from && has (set_of r i) x)
    (λ r. any_cell (λ o. has r.out o && has (set_of r i) x) from)
    (λ r. sym (any-and (λ k. has r.out (cell_of from.extent k)) (has (set_of r i) x) from.indexes)) rs
    ∙ any-swap (λ r k. has r.out (cell_of from.extent k) && has (set_of r i) x) rs from.indexes
    ∙ sym (has-cells_where (extent_at ins i) (λ y. any_cell (λ o. full_stands rs i o y) from) x held)
image-added Forward out ins i rs from x held =
    any-ext (λ r. any_cell (has (set_of r i)) from && has r.out x)
    (λ r. any_cell (λ y. has r.out x && has (set_of r i) y) from)
    (λ r. sym (and-any (has r.out x) (λ k. has (set_of r i) (cell_of from.extent k)) from.indexes)) rs
    ∙ any-swap (λ r k. has r.out x && has (set_of r i) (cell_of from.extent k)) rs from.indexes
    ∙ sym (has-cells_where out (λ o. any_cell (λ y. full_stands rs i o y) from) x held)

pub all-added : (dir : Dir) (out : Extent) (ins : List Extent) (i : ℕ) (rs : List Pairing) (from to : Cells)
    → to.extent ≡ extent_after dir out ins i
    → with_those to (pairs_add dir i from rs)
    ≡ with_those to (has (image_between dir out ins i (full_stands rs i) from))
all-added dir out ins i rs from to far =
    with-ext to (pairs_add dir i from rs) (has (image_between dir out ins i (full_stands rs i) from))
    (λ x held. image-added dir out ins i rs from x (rw (← far) held))

-- what the region pairs of all rows add is the image
pub rows-added : (dir : Dir) (t : RowTable) (i n : ℕ) (from to so_far : Cells)
    → to.extent ≡ extent_after dir t.out t.ins i → n ≡ length t.rows
    → so_far ≡ with_those to (pairs_add dir i from (take n (pairings t)))
    → so_far ≡ with_those to (has (image_between dir t.out t.ins i (full_stands (pairings t) i) from))
rows-added dir t i n from to so_far far all is =
    let many : length (pairings t) ≡ n = omega (arith, length-map t.rows (pairing_of t.outs t.sets)) in
    is
    ∙ ap (λ rs. with_those to (pairs_add dir i from rs)) (take_all n (pairings t) (omega (arith, many)))
    ∙ all-added dir t.out t.ins i (pairings t) from to far

-- nothing is added yet
pub none-added : (dir : Dir) (t : RowTable) (i : ℕ) (from to : Cells) → to ≡ cells_where to.extent (has to)
    → to ≡ with_those to (pairs_add dir i from (take 0 (pairings t)))
none-added dir t i from to own = with-none to (pairs_add dir i from (take 0 (pairings t))) own (λ x held. refl)

-- the region pair of a row
pub pairing-get : (t : RowTable) (n : ℕ) (d : Pairing) → n < length t.rows → get_or (pairings t) n d ≡ pairing_at t n
pairing-get t n d inside =
    let none : Row = record { out = 0; ins = [] } in
    get_or-map (pairing_of t.outs t.sets) t.rows n none d inside
    ∙ ap (pairing_of t.outs t.sets) (sym (unwrap_or-slice_get t.rows n none))

-- one row more
pub row-added : (dir : Dir) (t : RowTable) (i n : ℕ) (from to so_far new : Cells) → n < length t.rows
    → so_far ≡ with_those to (pairs_add dir i from (take n (pairings t)))
    → new ≡ with_those so_far (pair_adds dir i from (pairing_at t n))
    → new ≡ with_those to (pairs_add dir i from (take (n + 1) (pairings t)))
row-added dir t i n from to so_far new inside is more =
    let many : n < length (pairings t) = omega (arith, length-map t.rows (pairing_of t.outs t.sets)) in
    more
    ∙ (rw is (with-more to (pairs_add dir i from (take n (pairings t))) (pair_adds dir i from (pairing_at t n))
    (pairs_add dir i from (take (n + 1) (pairings t)))
    (λ x held.
    sym
    (list_any_more (λ r. pair_adds dir i from r x) (pairings t) n (pairing_at t n) many
    ∙ ap (λ r. pairs_add dir i from (take n (pairings t)) x || pair_adds dir i from r x)
    (pairing-get t n (pairing_at t n) inside)))))

-- ---- the sets of a row

-- there is an input of which there is a set
sets-inside : (sets : List (List Cells)) (i n : ℕ) → n < length (sets_of sets i) → i < length sets
sets-inside [] i n inside = absurd (omega arith)
sets-inside (s ∷ sets) zero n inside = omega arith
sets-inside (s ∷ sets) (suc i) n inside = let rest = sets-inside sets i n inside in omega arith

-- the set of input i of a row's region pair is that of its number
set-of_row : (sets : List (List Cells)) (ns : List ℕ) (i : ℕ) → i < length sets → i < length ns
    → unwrap_or (slice_get (map (λ p. set_at p.0 p.1) (zip sets ns)) i) (no_cells no_extent)
    ≡ set_at (sets_of sets i) (slice_index ns i)
set-of_row [] ns i inside named = absurd (omega arith)
set-of_row (s ∷ sets) [] i inside named = absurd (omega arith)
set-of_row (s ∷ sets) (n ∷ ns) zero inside named = refl
set-of_row (s ∷ sets) (n ∷ ns) (suc i) inside named = set-of_row sets ns i (omega arith) (omega arith)

in-set : (t : RowTable) (row : Row) (i : ℕ) → IsRowOf t row → i < length t.ins
    → set_of (pairing_of t.outs t.sets row) i ≡ set_at (sets_of t.sets i) (number_in row i)
in-set t row i named inside =
    let few = named.arity in
    set-of_row t.sets row.ins i (sets-inside t.sets i (number_in row i) (named.ins i inside)) (omega arith)

pub near-is : (dir : Dir) (t : RowTable) (row : Row) (i : ℕ) → IsRowOf t row → i < length t.ins
    → near_set dir i (pairing_of t.outs t.sets row) ≡ set_at (near_sets dir i t) (near_number dir i row)
near-is Back t row i named inside = refl
near-is Forward t row i named inside = in-set t row i named inside

pub far-is : (dir : Dir) (t : RowTable) (row : Row) (i : ℕ) → IsRowOf t row → i < length t.ins
    → far_set dir i (pairing_of t.outs t.sets row) ≡ set_at (far_sets dir i t) (far_number dir i row)
far-is Back t row i named inside = in-set t row i named inside
far-is Forward t row i named inside = refl

-- the row of a number is one of the table
pub row-named : (t : RowTable) (n : ℕ) → All (IsRowOf t) t.rows → n < length t.rows → IsRowOf t (row_at t.rows n)
row-named t n named inside =
    let none : Row = record { out = 0; ins = [] } in
    rw (unwrap_or-slice_get t.rows n none) (named n none inside)

-- ---- one row

-- a cell that is there already adds nothing
pub with-there : (set : Cells) (p : Cell → Bool) → set ≡ cells_where set.extent (has set)
    → ((x : Cell) → holds set.extent x ≡ true → p x ≡ true → has set x ≡ true) → set ≡ with_those set p
with-there set p own there =
    own ∙ cells_where-ext set.extent (has set) (λ x. has set x || p x) (λ x held.
    elim (cases_Bool (p x)) [
      | inl t ↦ there x held t ∙ sym (or_right (has set x) (p x) t)
      | inr f ↦ rw f (sym (or-false (has set x)))
    ])

-- a row whose near set has an asked cell adds its far set
pub row-met : (dir : Dir) (t : RowTable) (i n near far : ℕ) (from to new : Cells) → All (IsRowOf t) t.rows
    → n < length t.rows → i < length t.ins → near ≡ near_number dir i (row_at t.rows n)
    → far ≡ far_number dir i (row_at t.rows n) → any_cell (has (set_at (near_sets dir i t) near)) from ≡ true
    → new ≡ with_those to (has (set_at (far_sets dir i t) far))
    → new ≡ with_those to (pair_adds dir i from (pairing_at t n))
row-met dir t i n near far from to new named inside input at_near at_far met is =
    let row = row_at t.rows n in
    let own = row-named t n named inside in
    let met' : any_cell (has (near_set dir i (pairing_at t n))) from ≡ true =
    ap (λ s. any_cell (has s) from) (near-is dir t row i own input ∙ ap (set_at (near_sets dir i t)) (sym at_near))
    ∙ met in
    let same : set_at (far_sets dir i t) far ≡ far_set dir i (pairing_at t n) =
    ap (set_at (far_sets dir i t)) at_far ∙ sym (far-is dir t row i own input) in
    is
    ∙ with-ext to (has (set_at (far_sets dir i t) far)) (pair_adds dir i from (pairing_at t n))
    (λ x held. ap (λ s. has s x) same ∙ sym (ap (λ b. b && has (far_set dir i (pairing_at t n)) x) met'))

-- a row whose near set has none adds nothing
pub row-unmet : (dir : Dir) (t : RowTable) (i n near : ℕ) (from to : Cells) → All (IsRowOf t) t.rows
    → n < length t.rows → i < length t.ins → near ≡ near_number dir i (row_at t.rows n)
    → any_cell (has (set_at (near_sets dir i t) near)) from ≡ false → to ≡ cells_where to.extent (has to)
    → to ≡ with_those to (pair_adds dir i from (pairing_at t n))
row-unmet dir t i n near from to named inside input at_near unmet own =
    let row = row_at t.rows n in
    let unmet' : any_cell (has (near_set dir i (pairing_at t n))) from ≡ false =
    ap (λ s. any_cell (has s) from) (near-is dir t row i (row-named t n named inside) input
    ∙ ap (set_at (near_sets dir i t)) (sym at_near))
    ∙ unmet in
    with-none to (pair_adds dir i from (pairing_at t n)) own
    (λ x held. ap (λ b. b && has (far_set dir i (pairing_at t n)) x) unmet')

-- what was added is there
pub added-there : (to new : Cells) (p : Cell → Bool) → new ≡ with_those to p → (x : Cell)
    → holds new.extent x ≡ true → p x ≡ true → has new x ≡ true
added-there to new p is x held passes =
    let same : new.extent ≡ to.extent = ap (λ s. s.extent) is in
    ap (λ s. has s x) is
    ∙ has-cells_where to.extent (λ y. has to y || p y) x (rw (← same) held)
    ∙ or_right (has to x) (p x) passes

-- where nothing was tested and nothing added, what was seen is so
pub nothing-seen : (dir : Dir) (i : ℕ) (t : RowTable) (from to : Cells) (seen : Seen)
    → seen ≡ record { tested = None; added = None } → HasSeen dir i t from to seen
nothing-seen dir i t from to seen is = rw is (record { tested = tt; added = tt })

-- what was added last is there
pub known-there : (sets : List Cells) (number known : ℕ) (last : Option ℕ) (to : Cells)
    → to ≡ cells_where to.extent (has to)
    → IfSome last (λ n. (x : Cell) → holds to.extent x ≡ true → has (set_at sets n) x ≡ true → has to x ≡ true)
    → last ≡ Some known → known ≡ number → to ≡ with_those to (has (set_at sets number))
known-there sets number known last to own there is same =
    let here = rw (is, same) at there in with-there to (has (set_at sets number)) own here
