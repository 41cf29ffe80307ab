-- What a refresh holds is one of what is held then: its array, and a version on it.
--
-- The key idea: the array has the shape of the one in whose place it comes, so all shapes are as they were, and what
-- ran over the old arrays runs over the new ones; and it is the last of its name.
use Rattle.std.proofs.Common.{◌≡◌, ℕ, zero, suc, ◌+◌, ◌-◌, ◌<◌, ◌≤◌, Bool, true, false, ◌&&◌, ◌||◌, List, [], ◌∷◌}
use Rattle.std.proofs.Common.{◌++◌}
use Rattle.std.proofs.Common.{map, length, get_or, Option, Some, None, unwrap_or, refl, sym, ap, subst, ◌∙◌, arith}
use Rattle.std.proofs.Common.{if◌then◌else◌}
use Rattle.std.specs.Prelude.{All, nat_lt, nat_le, option_map}
use Rattle.std.specs.List.{slice_get}
use Rattle.std.specs.Result.{result_unwrap_or, result_err}
use Rattle.std.proofs.lemmas.Bool.{not-false}
use Rattle.std.proofs.lemmas.Bool.Decides.{nat_tests}
use Rattle.std.proofs.lemmas.List.{length-set}
use Rattle.std.proofs.lemmas.List.Elements.{All-set}
use Rattle.std.proofs.lemmas.Option.{unwrap_or-slice_get}
use Rattle.std.proofs.lemmas.Slice.Eq.{bytes_eq-Decides}
use Rattle.std.proofs.Math.Seq.{map-set_same}
use Rattle.sz_cells.specs.Extent.{Extent, size_of}
use Rattle.sz_spec.specs.Values.{Grid}
use Rattle.sz_spec.specs.Flows.{is_well_formed}
use Rattle.sz_spec.specs.FlowShapes.{output_shapes}
use Rattle.sz_script.specs.Names.{is_name}
use Rattle.sz_script.specs.declared.command.Command.TheVariants as command
use Rattle.sz_script.specs.declared.command.NewCell.{NewCell}
use Rattle.sz_script.specs.declared.refusal.Refusal.{Refusal}
use Rattle.sz_script.specs.declared.refusal.Refusal.TheVariants as refusal
use Rattle.sz_catalogue.specs.Holdings.{Workflow, Base, Version, Holdings, things_named, thing_numbered}
use Rattle.sz_catalogue.specs.Holdings.{array_version, flow_named, version_numbered, no_version, next_number}
use Rattle.sz_catalogue.specs.Holdings.{held_cells, output_cells, cells_of, shapes_of}
use Rattle.sz_catalogue.specs.Rules.{version_of, has_no_version, has_no_room_for_array, has_no_room_to_set}
use Rattle.sz_catalogue.specs.Rules.{has_no_room_to_refresh, has_room, most_arrays, most_cells, most_versions}
use Rattle.sz_catalogue.specs.Rules.{input_cells, names_an_input, greatest_number, are_lists_for}
use Rattle.sz_catalogue.specs.Rules.{judged, is_not_awaited, has_no_input, sets_out_of_range}
use Rattle.sz_catalogue.specs.Refreshes.{has_input, base_at, no_base, base_on, version_on, with_cell, with_cells}
use Rattle.sz_catalogue.specs.Changes.{with_array}
use Rattle.sz_catalogue.specs.Order.{IsInOrder, IsVersionIn}
use Rattle.sz_catalogue.proofs.Counts.{neither, first-passed, array-cells}
use Rattle.sz_catalogue.proofs.Names.{things_named-push}
use Rattle.sz_catalogue.proofs.Numbers.{next-is_new}
use Rattle.sz_catalogue.proofs.Order.{there-is, version-found, bases-behind, array-name}

-- ---- the version

-- a version that is not missing is one of what is held
pub old-held : (c : Holdings) (n : ℕ) → has_no_version c n ≡ false → version_numbered c n ≡ Some (version_of c n)
old-held c n there =
    let found = there-is (version_numbered c n) there in
    found.1 ∙ ap (λ (v : Version). Some v) (sym (ap (λ (o : Option Version). unwrap_or o no_version) found.1))

pub old-is : (c : Holdings) (n : ℕ) → IsInOrder c → has_no_version c n ≡ false → IsVersionIn c (version_of c n)
old-is c n k there = version-found c n (version_of c n) k (old-held c n there)

-- ---- the shapes

input-low : (v : Version) (i : ℕ) → has_input v i ≡ true → i < length v.base
input-low v i there = grind (arith, nat_tests, there)

pub any-default : (bs : List Base) (i : ℕ) (a b : Base) → i < length bs → get_or bs i a ≡ get_or bs i b
any-default [] i a b low = absurd (omega (arith, low))
any-default (x ∷ bs) zero a b low = refl
any-default (x ∷ bs) (suc i) a b low = any-default bs i a b (omega (arith, low))

pub base-there : (v : Version) (i : ℕ) → get_or v.base i no_base ≡ base_at v i
base-there v i = sym (unwrap_or-slice_get v.base i no_base)

pub shapes-stay : (c : Holdings) (v : Version) (i : ℕ) (g : Grid) → g.extent ≡ (base_at v i).array.extent
    → shapes_of (version_on c v i g).base ≡ shapes_of v.base
shapes-stay c v i g same =
    map-set_same (λ (b : Base). b.array.extent) v.base i (base_on c v i g) no_base
    (same ∙ ap (λ (b : Base). b.array.extent) (sym (base-there v i)))

pub count-stays : (c : Holdings) (v : Version) (i : ℕ) (g : Grid) → length (version_on c v i g).base ≡ length v.base
count-stays c v i g = length-set v.base i (base_on c v i g)

pub cells-stay : (c : Holdings) (v : Version) (i : ℕ) (g : Grid) → g.extent ≡ (base_at v i).array.extent
    → output_cells (version_on c v i g) ≡ output_cells v
cells-stay c v i g same =
    ap (λ (shapes : List Extent). cells_of (outputs_from shapes)) (shapes-stay c v i g same) where
      outputs_from : List Extent → List Extent
      outputs_from shapes = result_unwrap_or (output_shapes v.flow shapes) []

-- ---- room

-- for the array
pub set-room : (c : Holdings) (n i : ℕ) (g : Grid) → has_input (version_of c n) i ≡ true
    → g.extent ≡ (base_at (version_of c n) i).array.extent → has_no_room_to_set c n i ≡ false
    → has_no_room_for_array c g ≡ false
set-room c n i g there same free =
    ap (λ (e : Extent). nat_le most_arrays (length c.arrays) || nat_lt most_cells (held_cells c + size_of e)) same
    ∙ sym (ap (λ (b : Bool). nat_le most_arrays (length c.arrays)
    || (b && nat_lt most_cells (held_cells c + input_cells c n i))) there)
    ∙ free

-- and for the version behind it
pub refresh-room : (c : Holdings) (n i : ℕ) (g : Grid) → has_input (version_of c n) i ≡ true
    → g.extent ≡ (base_at (version_of c n) i).array.extent → has_no_room_to_refresh c n i ≡ false
    → has_room (with_array c (base_at (version_of c n) i).name g) (output_cells (version_on c (version_of c n) i g))
    ≡ true
refresh-room c n i g there same free =
    let v = version_of c n in
    let many = nat_le most_versions (length c.versions) in
    let great = nat_lt greatest_number (next_number c) in
    let full : Bool → Bool = λ b. b && nat_lt most_cells (held_cells c + input_cells c n i + output_cells v) in
    let first = neither (many || great) (full (names_an_input c n i)) free in
    let few = (neither many great first.0).0 in
    let low : nat_lt most_cells (held_cells c + input_cells c n i + output_cells v) ≡ false =
    sym (ap full there) ∙ first.1 in
    let cells = array-cells c (base_at v i).name g in
    let size : size_of g.extent ≡ input_cells c n i = ap size_of same in
    let outputs = cells-stay c v i g same in
    there-room (length c.versions) (held_cells c) (input_cells c n i) (output_cells v)
    (held_cells (with_array c (base_at v i).name g)) (output_cells (version_on c v i g)) few low
    (omega (arith, cells, size)) outputs where
      there-room : (k held more out now outputs : ℕ) → nat_le most_versions k ≡ false
          → nat_lt most_cells (held + more + out) ≡ false → now ≡ held + more → outputs ≡ out
          → (nat_lt k most_versions && nat_le (now + outputs) most_cells) ≡ true
      there-room k held more out now outputs few low is same = grind (arith, nat_tests, few, low, is, same)

pub refresh-number : (c : Holdings) (n i : ℕ) → has_no_room_to_refresh c n i ≡ false
    → next_number c ≤ greatest_number
refresh-number c n i free =
    let great = nat_lt greatest_number (next_number c) in
    let first = neither (nat_le most_versions (length c.versions) || great) _ free in
    below (next_number c) (neither (nat_le most_versions (length c.versions)) great first.0).1 where
      below : (n : ℕ) → nat_lt greatest_number n ≡ false → n ≤ greatest_number
      below n f = grind (arith, nat_tests)

-- ---- what it is held of

-- the array is the last of its name
pub set-numbered : (c : Holdings) (name : List ℕ) (g : Grid)
    → array_version (with_array c name g) name (length (things_named name c.arrays) + 1) ≡ Some g
set-numbered c name g =
    ap (thing_numbered (length (things_named name c.arrays) + 1))
    (things_named-push name c.arrays (record { name = name; thing = g })
    ∙ ap (λ (b : Bool). things_named name c.arrays ++ (if b then g ∷ [] else []))
    ((bytes_eq-Decides name name).1 refl))
    ∙ at-end (things_named name c.arrays) g where
      last : (xs : List Grid) (x : Grid) → slice_get (xs ++ x ∷ []) (length xs) ≡ Some x
      last [] x = refl
      last (y ∷ xs) x = last xs x

      at-end : (xs : List Grid) (x : Grid) → thing_numbered (length xs + 1) (xs ++ x ∷ []) ≡ Some x
      at-end xs x =
          let some : nat_lt 0 (length xs + 1) ≡ true = grind (arith, nat_tests) in
          let place : length xs + 1 - 1 ≡ length xs = omega arith in
          ap (λ (b : Bool). if b then slice_get (xs ++ x ∷ []) (length xs + 1 - 1) else None) some
          ∙ ap (slice_get (xs ++ x ∷ [])) place ∙ last xs x

-- and each base array of the version is held
pub bases-held : (c : Holdings) (v : Version) (i : ℕ) (g : Grid)
    → All (λ (b : Base). array_version c b.name b.version ≡ Some b.array) v.base
    → All (λ (b : Base). array_version (with_array c (base_at v i).name g) b.name b.version ≡ Some b.array)
    (version_on c v i g).base
bases-held c v i g held =
    let name = (base_at v i).name in
    let d = with_array c name g in
    All-set (λ (b : Base). array_version d b.name b.version ≡ Some b.array) v.base i (base_on c v i g)
    (set-numbered c name g) (bases-behind c name g v.base held)

-- its names are those of the old one
pub names-stay : (c : Holdings) (v : Version) (i : ℕ) (g : Grid)
    → map (λ (b : Base). b.name) (version_on c v i g).base ≡ map (λ (b : Base). b.name) v.base
names-stay c v i g =
    map-set_same (λ (b : Base). b.name) v.base i (base_on c v i g) no_base
    (ap (λ (b : Base). b.name) (sym (base-there v i)))

-- ---- cells that are set leave the shape

pub set-extent : (g : Grid) (set : List NewCell) → (with_cells g set).extent ≡ g.extent
set-extent g [] = refl
set-extent g (x ∷ set) = set-extent (with_cell g x) set

-- ---- what is known of a refresh, and of a merge, that nothing refuses

pub record IsRefresh (c : Holdings) (n i : ℕ) : Type 0 where
  pub arrays : has_no_room_to_set c n i ≡ false
  pub versions : has_no_room_to_refresh c n i ≡ false
  pub there : has_no_version c n ≡ false
  pub awaited : is_not_awaited c n ≡ false
  pub input : has_input (version_of c n) i ≡ true

pub refresh-known : (c : Holdings) (n i : ℕ) (set : List NewCell) → judged c (command.Refresh n i set) ≡ None
    → IsRefresh c n i
refresh-known c n i set free =
    let sixth : List (Bool × Refusal) = (has_no_input c n i, refusal.NoSuchInput) ∷ [] in
    let fifth : List (Bool × Refusal) = (is_not_awaited c n, refusal.StillBuilt) ∷ sixth in
    let fourth : List (Bool × Refusal) = (sets_out_of_range c n i set, refusal.OutOfRange) ∷ fifth in
    let third : List (Bool × Refusal) = (has_no_version c n, refusal.NoSuchVersion) ∷ fourth in
    let second : List (Bool × Refusal) = (has_no_room_to_refresh c n i, refusal.NoRoomForVersion) ∷ third in
    let a = first-passed (has_no_room_to_set c n i) refusal.NoRoomForArray second free in
    let b = first-passed (has_no_room_to_refresh c n i) refusal.NoRoomForVersion third a.1 in
    let d = first-passed (has_no_version c n) refusal.NoSuchVersion fourth b.1 in
    let e = first-passed (sets_out_of_range c n i set) refusal.OutOfRange fifth d.1 in
    let f = first-passed (is_not_awaited c n) refusal.StillBuilt sixth e.1 in
    let g = first-passed (has_no_input c n i) refusal.NoSuchInput [] f.1 in
    record {
      arrays = a.0;
      versions = b.0;
      there = d.0;
      awaited = f.0;
      input = not-false (has_input (version_of c n) i) g.0;
    }

-- ---- all that is asked of it

-- a version is one that may be held under a number
pub record IsFurther (d : Holdings) (n : ℕ) (v : Version) : Type 0 where
  pub new : version_numbered d n ≡ None
  pub flow : option_map (λ (w : Workflow). w.graph) (flow_named d v.flow_name) ≡ Some v.flow
  pub base : All (λ (b : Base). array_version d b.name b.version ≡ Some b.array) v.base
  pub right : is_well_formed v.flow ≡ true
  pub count : length v.base ≡ v.flow.inputs
  pub fits : result_err (output_shapes v.flow (shapes_of v.base)) ≡ None
  pub lists : are_lists_for v.flow.nodes v.lists ≡ true
  pub room : has_room d (output_cells v) ≡ true

pub refreshed-further : (c : Holdings) (n i : ℕ) (g : Grid) → IsInOrder c → has_no_version c n ≡ false
    → has_input (version_of c n) i ≡ true → g.extent ≡ (base_at (version_of c n) i).array.extent
    → has_no_room_to_refresh c n i ≡ false
    → IsFurther (with_array c (base_at (version_of c n) i).name g) (next_number c) (version_on c (version_of c n) i g)
refreshed-further c n i g k there input same free =
    let v = version_of c n in
    let is = old-is c n k there in
    let run = is.run.1 in
    record {
      new = next-is_new c.versions (next_number c) (omega arith);
      flow = is.flow;
      base = bases-held c v i g is.base;
      right = run.right;
      count = count-stays c v i g ∙ run.count;
      fits = ap (λ (shapes : List Extent). result_err (output_shapes v.flow shapes)) (shapes-stay c v i g same)
          ∙ ap result_err run.fits;
      lists = run.lists;
      room = refresh-room c n i g input same free;
    }

-- the name of an input's base array is one
pub input-named : (c : Holdings) (n i : ℕ) → IsInOrder c → has_no_version c n ≡ false
    → has_input (version_of c n) i ≡ true → is_name (base_at (version_of c n) i).name ≡ true
input-named c n i k there input =
    let v = version_of c n in
    let b = base_at v i in
    let held : Base → Type 0 = λ x. array_version c x.name x.version ≡ Some x.array in
    array-name c b.name b.version b.array k
    (subst held (base-there v i) ((old-is c n k there).base i no_base (input-low v i input)))
