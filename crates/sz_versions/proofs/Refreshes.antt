-- What a refresh starts from, and what it makes of the base arrays.
--
-- The key idea: a cell that is set changes the value at one index, which no other cell of the shape has. So the array
-- holds what it held at each cell that is not among those that are set.
use Rattle.std.proofs.Common.{◌≡◌, ℕ, zero, suc, ◌<◌, Bool, true, false, not, ◌&&◌, ◌==◌, List, [], ◌∷◌, ◌++◌}
use Rattle.std.proofs.Common.{map, length, get_or, None, unwrap_or, refl, sym, ap, ◌∙◌, arith}
use Rattle.std.proofs.Common.{slice_set, get_or-set_other, ◌+◌, ◌*◌, ◌≤◌, ◌≢◌, suc-mul, mul_comm}
use Rattle.std.proofs.Common.{div-mul-le_self, eqb-true, inl, inr}
use Rattle.std.specs.Prelude.{nat_lt}
use Rattle.std.specs.List.{slice_get, list_all, list_any}
use Rattle.std.proofs.lemmas.Bool.{and_parts, cases_Bool, eqb-false}
use Rattle.std.proofs.lemmas.Bool.Decides.{nat_tests}
use Rattle.std.proofs.lemmas.List.{length-map}
use Rattle.std.proofs.lemmas.Nat.{mul-le}
use Rattle.std.specs.Ordering.{nat_cmp}
use Rattle.std.proofs.lemmas.Map.Views.{All-values-insert_entry}
use Rattle.std.proofs.lemmas.Option.{unwrap_or-slice_get}
use Rattle.sz_cells.specs.declared.Cell.{Cell}
use Rattle.sz_cells.specs.Extent.{Extent, height_of, holds, index_of, cell_of, cell_in}
use Rattle.sz_cells.specs.Cells.{has, is_same}
use Rattle.sz_cells.proofs.Sets.{has-cells_where, cell-index, is_same-from}
use Rattle.sz_spec.specs.Values.{Grid, no_grid, value_at, input_at, extents_of, extent_at}
use Rattle.sz_spec.specs.FlowShapes.{output_shapes}
use Rattle.sz_spec.specs.Paths.{extent_of}
use Rattle.sz_refresh.specs.Laws.{DifferAtMostIn}
use Rattle.sz_refresh.specs.Before.{IsBefore}
use Rattle.sz_script.specs.declared.command.NewCell.{NewCell}
use Rattle.sz_script.specs.declared.command.Command.TheVariants as order
use Rattle.sz_script.specs.declared.refusal.Refusal.TheVariants as refusal
use Rattle.sz_catalogue.specs.Holdings.{Base, Version, Holdings, arrays_of, shapes_of, next_number}
use Rattle.sz_catalogue.specs.Changes.{with_array, with_refreshed}
use Rattle.sz_catalogue.specs.Rules as rules
use Rattle.sz_catalogue.specs.Rules.{judged, version_of}
use Rattle.sz_catalogue.specs.Refreshes.{has_input, base_at, no_base, base_on, has_new_cell, with_cell, with_cells}
use Rattle.sz_catalogue.specs.Refreshes.{cells_set}
use Rattle.sz_catalogue.specs.Refreshes.{array_refreshed, version_refreshed}
use Rattle.sz_catalogue.proofs.Counts.{neither}
use Rattle.sz_catalogue.proofs.Refreshed.{shapes-stay, count-stays, any-default, base-there, set-extent}
use Rattle.sz_versions.specs.Runs.{executions_of, IsSoundVersion}
use Rattle.sz_versions.specs.Stores.{Trail, IsTrailOf}
use Rattle.sz_versions.specs.Residents.{Resident, IsInService}
use Rattle.sz_versions.proofs.Steps.{base-shapes}
use Rattle.sz_versions.proofs.Keeps.{rule-fails, not_false, version-sound}
use Rattle.sz_versions.proofs.Asked.{asked-same}
use Rattle.sz_versions.proofs.Residents.{made_here, service-same, service-more}

-- ---- no rule refuses it

pub record CanRefresh (c : Holdings) (n i : ℕ) (set : List NewCell) : Type 0 where
  pub arrays : rules.has_no_room_to_set c n i ≡ false
  pub versions : rules.has_no_room_to_refresh c n i ≡ false
  pub held : rules.has_no_version c n ≡ false
  pub cells : list_all (has_new_cell (base_at (version_of c n) i).array.extent) set ≡ true
  pub awaited : (version_of c n).awaited ≡ true
  pub input : has_input (version_of c n) i ≡ true

pub can-refresh : (c : Holdings) (n i : ℕ) (set : List NewCell) → judged c (order.Refresh n i set) ≡ None
    → CanRefresh c n i set
can-refresh c n i set none =
    let last = (rules.has_no_input c n i, refusal.NoSuchInput) ∷ [] in
    let fifth = (rules.is_not_awaited c n, refusal.StillBuilt) ∷ last in
    let fourth = (rules.sets_out_of_range c n i set, refusal.OutOfRange) ∷ fifth in
    let third = (rules.has_no_version c n, refusal.NoSuchVersion) ∷ fourth in
    let second = (rules.has_no_room_to_refresh c n i, refusal.NoRoomForVersion) ∷ third in
    let a = rule-fails (rules.has_no_room_to_set c n i) refusal.NoRoomForArray second none in
    let b = rule-fails (rules.has_no_room_to_refresh c n i) refusal.NoRoomForVersion third a.1 in
    let d = rule-fails (rules.has_no_version c n) refusal.NoSuchVersion fourth b.1 in
    let e = rule-fails (rules.sets_out_of_range c n i set) refusal.OutOfRange fifth d.1 in
    let f = rule-fails (rules.is_not_awaited c n) refusal.StillBuilt last e.1 in
    let g = rule-fails (rules.has_no_input c n i) refusal.NoSuchInput [] f.1 in
    let has_it = not_false (has_input (version_of c n) i) g.0 in
    record {
      arrays = a.0;
      versions = b.0;
      held = d.0;
      cells = in-range (has_input (version_of c n) i) _ has_it e.0;
      awaited = not_false _ f.0;
      input = has_it;
    } where
      in-range : (a b : Bool) → a ≡ true → (a && not b) ≡ false → b ≡ true
      in-range true true is out = refl
      in-range true false is out = cc
      in-range false b is out = cc

-- ---- the array

-- the cell that is set is one of the shape
pub new-held : (e : Extent) (x : NewCell) → has_new_cell e x ≡ true → holds e (cell_in e x.layer x.row x.col) ≡ true
new-held e x there =
    let h = height_of e in
    let both = and_parts (nat_lt x.layer e.layers && nat_lt x.row h) (nat_lt x.col e.cols) there in
    let rows = and_parts (nat_lt x.layer e.layers) (nat_lt x.row h) both.0 in
    placed x.layer x.row x.col h e.layers e.rows e.cols rows.0 rows.1 both.1 (div-mul-le_self e.rows e.layers) where
      placed : (layer row col h layers rows cols : ℕ) → nat_lt layer layers ≡ true → nat_lt row h ≡ true
          → nat_lt col cols ≡ true → h * layers ≤ rows
          → (nat_lt (layer * h + row) rows && nat_lt col cols) ≡ true
      placed layer row col h layers rows cols a b d whole =
          let low : layer < layers = grind (arith, nat_tests, a) in
          let short : row < h = grind (arith, nat_tests, b) in
          let grown : suc layer * h ≤ layers * h = mul-le (suc layer) h layers h (omega (arith, low)) (omega arith) in
          let fits : layer * h + row < rows = omega (arith, short, grown, suc-mul layer h, mul_comm layers h, whole) in
          grind (arith, nat_tests, fits, d)

-- one cell that is set changes no other
other-cell : (g : Grid) (x : NewCell) (c : Cell) → has_new_cell g.extent x ≡ true
    → holds g.extent c ≡ true → is_same c (cell_in g.extent x.layer x.row x.col) ≡ false
    → value_at (with_cell g x) c ≡ value_at g c
other-cell g x c there held apart =
    let e = g.extent in
    let new = cell_in e x.layer x.row x.col in
    let at = index_of e new in
    let differ : index_of e c ≢ at = λ same. both-ways _ apart (is_same-from c new
    (sym (cell-index e c held) ∙ ap (cell_of e) same ∙ cell-index e new (new-held e x there))) in
    unwrap_or-slice_get (slice_set g.values at x.value) (index_of e c) None
    ∙ get_or-set_other g.values at (index_of e c) x.value None differ
    ∙ sym (unwrap_or-slice_get g.values (index_of e c) None) where
      both-ways : (b : Bool) → b ≡ false → b ≡ true → ⊥
      both-ways true f t = cc
      both-ways false f t = cc

-- a cell that is not among those that are set holds what it held
pub others-stay : (g : Grid) (set : List NewCell) (c : Cell) → list_all (has_new_cell g.extent) set ≡ true
    → holds g.extent c ≡ true → has (cells_set g.extent set) c ≡ false
    → value_at (with_cells g set) c ≡ value_at g c
others-stay g [] c all held out = refl
others-stay g (x ∷ set) c all held out =
    let e = g.extent in
    let new : NewCell → Cell = λ y. cell_in e y.layer y.row y.col in
    let both = and_parts (has_new_cell e x) (list_all (has_new_cell e) set) all in
    let parts = neither (is_same c (new x)) (list_any (is_same c) (map new set))
    (sym (has-cells_where e (λ d. list_any (is_same d) (map new (x ∷ set))) c held) ∙ out) in
    others-stay (with_cell g x) set c both.1 held
    (has-cells_where e (λ d. list_any (is_same d) (map new set)) c held ∙ parts.1)
    ∙ other-cell g x c both.0 held parts.0

-- ---- the base arrays

pub map-set : {X Y : Type 0} (f : X → Y) (xs : List X) (i : ℕ) (x : X)
    → map f (slice_set xs i x) ≡ slice_set (map f xs) i (f x)
map-set f [] i x = refl
map-set f (y ∷ xs) zero x = refl
map-set {X} {Y} f (y ∷ xs) (suc i) x = ap (λ (ys : List Y). f y ∷ ys) (map-set f xs i x)

set-at : (gs : List Grid) (i : ℕ) (g : Grid) → i < length gs → input_at (slice_set gs i g) i ≡ g
set-at [] i g low = absurd (omega (arith, low))
set-at (x ∷ gs) zero g low = refl
set-at (x ∷ gs) (suc i) g low = set-at gs i g (omega (arith, low))

set-other : (gs : List Grid) (i b : ℕ) (g : Grid) → b ≢ i → input_at (slice_set gs i g) b ≡ input_at gs b
set-other gs i b g apart =
    unwrap_or-slice_get (slice_set gs i g) b no_grid
    ∙ get_or-set_other gs i b g no_grid apart
    ∙ sym (unwrap_or-slice_get gs b no_grid)

arrays-at : (base : List Base) (i : ℕ) → input_at (arrays_of base) i ≡ (unwrap_or (slice_get base i) no_base).array
arrays-at [] i = refl
arrays-at (x ∷ base) zero = refl
arrays-at (x ∷ base) (suc i) = arrays-at base i

pub input-low : (v : Version) (i : ℕ) → has_input v i ≡ true → i < length v.base
input-low v i there = grind (arith, nat_tests, there)

-- they differ from those before at most in the cells that are set
pub differ-in : (c : Holdings) (v : Version) (i : ℕ) (set : List NewCell) → has_input v i ≡ true
    → list_all (has_new_cell (base_at v i).array.extent) set ≡ true
    → DifferAtMostIn i (cells_set (base_at v i).array.extent set) (arrays_of v.base)
    (arrays_of (version_refreshed c v i set).base)
differ-in c v i set there all b x held out =
    let g = (base_at v i).array in
    let new = with_cells g set in
    let gs = arrays_of v.base in
    let here : input_at gs i ≡ g = arrays-at v.base i in
    let low : i < length gs = omega (arith, input-low v i there, length-map v.base (λ (y : Base). y.array)) in
    elim (cases_Bool (b == i)) [
      | inl is ↦
          let same : b ≡ i = eqb-true b i is in
          let inside : holds g.extent x ≡ true = ap (λ (h : Grid). holds h.extent x) (sym here)
          ∙ ap (λ (n : ℕ). holds (extent_of gs n) x) (sym same) ∙ held in
          ap (λ (n : ℕ). value_at (input_at gs n) x) same
          ∙ ap (λ (h : Grid). value_at h x) here
          ∙ sym (others-stay g set x all inside (out same))
          ∙ ap (λ (h : Grid). value_at h x) (sym (set-at gs i new low))
          ∙ ap (λ (n : ℕ). value_at (input_at (slice_set gs i new) n) x) (sym same)
          ∙ ap (λ (hs : List Grid). value_at (input_at hs b) x)
          (sym (map-set (λ (y : Base). y.array) v.base i (base_on c v i new)))
      | inr not ↦
          let apart : b ≢ i = eqb-false b i not in
          ap (λ (h : Grid). value_at h x) (sym (set-other gs i b new apart))
          ∙ ap (λ (hs : List Grid). value_at (input_at hs b) x)
          (sym (map-set (λ (y : Base). y.array) v.base i (base_on c v i new)))
    ]

-- and an input has the shape that it had
shapes-at : (base : List Base) (i : ℕ)
    → extent_at (shapes_of base) i ≡ (unwrap_or (slice_get base i) no_base).array.extent
shapes-at [] i = refl
shapes-at (b ∷ base) zero = refl
shapes-at (b ∷ base) (suc i) = shapes-at base i

pub shape-at : (c : Holdings) (v : Version) (i : ℕ) (set : List NewCell)
    → extent_at (extents_of (arrays_of (version_refreshed c v i set).base)) i ≡ (base_at v i).array.extent
shape-at c v i set =
    ap (λ (es : List Extent). extent_at es i) (base-shapes (version_refreshed c v i set).base
    ∙ shapes-stay c v i (array_refreshed v i set) (set-extent (base_at v i).array set))
    ∙ shapes-at v.base i

-- what is found at the place of an input
pub base-found : (v : Version) (i : ℕ) (bs : List Base) (b : Base) → has_input v i ≡ true → bs ≡ v.base
    → b ≡ get_or bs i b → b ≡ base_at v i
base-found v i bs b there same is =
    is ∙ ap (λ (xs : List Base). get_or xs i b) same ∙ any-default v.base i b no_base (input-low v i there)
    ∙ base-there v i

-- so the version's runs are what a refresh starts from
pub before-refresh : (c : Holdings) (v : Version) (i : ℕ) (set : List NewCell) → has_input v i ≡ true
    → list_all (has_new_cell (base_at v i).array.extent) set ≡ true
    → IsBefore v.flow (executions_of v) (arrays_of (version_refreshed c v i set).base) i
    (cells_set (base_at v i).array.extent set) (arrays_of v.base)
before-refresh c v i set there all = record {
  run = refl;
  shapes = base-shapes v.base ∙ sym (shapes-stay c v i (array_refreshed v i set)
      (set-extent (base_at v i).array set))
      ∙ sym (base-shapes (version_refreshed c v i set).base);
  same = differ-in c v i set there all;
}

-- ---- what is held then

-- the version is sound
pub refreshed-sound : (c : Holdings) (v : Version) (i : ℕ) (set : List NewCell) → IsSoundVersion v
    → IsSoundVersion (version_refreshed c v i set)
refreshed-sound c v i set sound =
    let g = array_refreshed v i set in
    let shapes = shapes-stay c v i g (set-extent (base_at v i).array set) in
    record {
      run = (
        sound.run.0,
        record {
          right = sound.run.1.right;
          count = count-stays c v i g ∙ sound.run.1.count;
          fits = ap (output_shapes v.flow) shapes ∙ sound.run.1.fits;
          lists = sound.run.1.lists;
        },
      );
    }

-- and what is carried with it is carried of what is held
pub service-refreshed : (c : Holdings) (rs : List Resident) (n i : ℕ) (set : List NewCell) (t : Trail)
    → IsInService c rs → judged c (order.Refresh n i set) ≡ None
    → IsTrailOf (version_refreshed c (version_of c n) i set) t
    → IsInService (with_refreshed c n i (array_refreshed (version_of c n) i set))
    (rs ++ made_here (next_number c) t ∷ [])
service-refreshed c rs n i set t k none own =
    let can = can-refresh c n i set none in
    let v = version_of c n in
    let w = version_refreshed c v i set in
    let d = with_array c (base_at v i).name (array_refreshed v i set) in
    let new : IsSoundVersion w = refreshed-sound c v i set (version-sound c n k.sound.versions can.held) in
    let held : IsInService d rs = service-same c d rs (record { flows = k.sound.flows; versions = k.sound.versions })
    (asked-same c d (λ m. refl) refl k.asked)
    (λ m. refl) k in
    service-more d rs w t held
    (record {
      flows = k.sound.flows;
      versions = All-values-insert_entry nat_cmp (next_number c) w IsSoundVersion c.versions k.sound.versions new;
    })
    own
