-- How many cells and arrays are held after a step.
--
-- The key idea: one entry more or one entry changed is one term of the sum, and what no rule refuses is within the
-- limits that the rules name.
use Rattle.std.proofs.Common.{◌≡◌, ℕ, ◌+◌, ◌<◌, ◌≤◌, Bool, true, false, not, ◌&&◌, ◌||◌, nat_lt, nat_le, List, [], ◌∷◌}
use Rattle.std.proofs.Common.{length, Option, Some, None, is_none, refl, sym, ap, subst, ◌∙◌, arith}
use Rattle.std.proofs.Common.{unwrap_or, option_map, ◌==◌}
use Rattle.std.specs.Ordering.{nat_cmp}
use Rattle.std.specs.Cmp.{nat_cmp_total}
use Rattle.std.specs.List.Sorted.{IsStrictlySortedBy}
use Rattle.std.specs.Map.{keys_of, set_value}
use Rattle.std.specs.BTreeMap.{is_at}
use Rattle.std.proofs.lemmas.List.Sums.{sum_by-append}
use Rattle.std.proofs.lemmas.Map.Entries.{sum_by-set_value, sum_by-insert_entry}
use Rattle.std.proofs.lemmas.Bool.{not-false}
use Rattle.std.proofs.lemmas.Bool.Decides.{nat_tests}
use Rattle.sz_cells.specs.Extent.{size_of}
use Rattle.sz_spec.specs.Values.{Grid}
use Rattle.sz_script.specs.declared.command.Command.TheVariants as command
use Rattle.sz_script.specs.declared.command.BaseName.{BaseName}
use Rattle.sz_script.specs.declared.refusal.Refusal.{Refusal}
use Rattle.sz_script.specs.declared.refusal.Refusal.TheVariants as rule
use Rattle.sz_catalogue.specs.Holdings.{Version, Holdings, version_numbered, held_cells, output_cells}
use Rattle.sz_catalogue.specs.Rules.{first_of, judged, has_room, has_no_room_for_array, most_arrays}
use Rattle.sz_catalogue.specs.Rules.{most_cells, most_versions}
use Rattle.sz_catalogue.specs.Rules.{has_no_flow, has_no_array, has_wrong_base, has_broken_shapes, first_broken}
use Rattle.sz_catalogue.specs.Rules.{has_no_room_for_version, greatest_number}
use Rattle.sz_catalogue.specs.Holdings.{Named, next_number}
use Rattle.sz_catalogue.specs.Starts.{version_started, workflow_of}
use Rattle.sz_catalogue.specs.Changes.{with_array, with_version, with_await}
use Rattle.sz_catalogue.specs.Kept.{KeepsLimits}

-- where nothing refuses, the first rule does not hold, and no later one refuses
pub first-passed : (b : Bool) (r : Refusal) (rest : List (Bool × Refusal)) → first_of ((b, r) ∷ rest) ≡ None
    → (b ≡ false) × (first_of rest ≡ None)
first-passed true r rest h = (cc)
first-passed false r rest h = (refl, h)

pub neither : (a b : Bool) → (a || b) ≡ false → (a ≡ false) × (b ≡ false)
neither true b h = (cc)
neither false b h = (refl, h)

pub both : (a b : Bool) → (a && b) ≡ true → (a ≡ true) × (b ≡ true)
both true b h = (refl, h)
both false b h = (cc)

-- no limit is passed where as many cells and the same arrays are held
pub limits-kept : {n : ℕ} {c d : Holdings} → held_cells d ≡ held_cells c → d.arrays ≡ c.arrays → KeepsLimits n c
    → KeepsLimits n d
limits-kept cells arrays h = record {
  counted = h.counted ∙ sym cells;
  few_cells = h.few_cells;
  few_arrays = subst (λ (xs : List (Named Grid)). length xs ≤ most_arrays) (sym arrays) h.few_arrays;
}

-- a version that is awaited
await-from : (c : Holdings) (n : ℕ) (o : Option Version) → version_numbered c n ≡ o → is_none o ≡ false
    → held_cells (with_await c n) ≡ held_cells c
await-from c n None found h = (cc)
await-from c n (Some v) found h =
    let now : Version = record v { awaited = true } in
    let same : with_await c n
    ≡ record c { versions = set_value (is_at (nat_cmp n)) c.versions now } = rw found refl in
    let sums = sum_by-set_value output_cells (is_at (nat_cmp n)) c.versions v now found in
    ap held_cells same ∙ omega (arith, sums)

pub await-cells : (c : Holdings) (n : ℕ) → judged c (command.Await n) ≡ None
    → held_cells (with_await c n) ≡ held_cells c
await-cells c n h = await-from c n (version_numbered c n) refl
    (first-passed (is_none (version_numbered c n)) rule.NoSuchVersion [] h).0

-- a version more
pub added-cells : (c : Holdings) (n : ℕ) (v : Version) → version_numbered c n ≡ None
    → IsStrictlySortedBy nat_cmp (keys_of c.versions)
    → held_cells (with_version c n v) ≡ held_cells c + output_cells v
added-cells c n v new rising =
    let sums = sum_by-insert_entry {K = ℕ} {X = Version} output_cells {R = nat_cmp} nat_cmp_total c.versions n v
    rising in
    let none = ap (λ (o : Option Version). unwrap_or (option_map output_cells o) 0) new in
    omega (arith, sums, none)

-- room for a version
pub room-cells : (c : Holdings) (cells : ℕ) → has_room c cells ≡ true → held_cells c + cells ≤ most_cells
room-cells c cells h =
    let few = (both (nat_lt (length c.versions) most_versions) (nat_le (held_cells c + cells) most_cells) h).1 in
    grind (arith, nat_tests)

-- room for an array
pub array-room : (c : Holdings) (name : List ℕ) (array : Grid) → judged c (command.Array name array) ≡ None
    → has_no_room_for_array c array ≡ false
array-room c name array h = (first-passed (has_no_room_for_array c array) rule.NoRoomForArray [] h).0

pub room-there : (c : Holdings) (array : Grid) → has_no_room_for_array c array ≡ false
    → (length c.arrays < most_arrays) × (held_cells c + size_of array.extent ≤ most_cells)
room-there c array h =
    let rules = neither (nat_le most_arrays (length c.arrays))
    (nat_lt most_cells (held_cells c + size_of array.extent)) h in
    (le-from (length c.arrays) rules.0, most-from (held_cells c + size_of array.extent) rules.1) where
      le-from : (n : ℕ) → nat_le most_arrays n ≡ false → n < most_arrays
      le-from n f = grind (arith, nat_tests)

      most-from : (n : ℕ) → nat_lt most_cells n ≡ false → n ≤ most_cells
      most-from n f = grind (arith, nat_tests)

-- an array more
pub array-cells : (c : Holdings) (name : List ℕ) (array : Grid)
    → held_cells (with_array c name array) ≡ held_cells c + size_of array.extent
array-cells c name array =
    let new : Named Grid = record { name = name; thing = array } in
    let sums = sum_by-append (λ (x : Named Grid). size_of x.thing.extent) c.arrays (new ∷ []) in
    omega (arith, sums)

-- what is known of a start that nothing refuses
pub record IsStart (c : Holdings) (name : List ℕ) (base : List BaseName) : Type 0 where
  pub flow : has_no_flow c name ≡ false
  pub arrays : has_no_array c base ≡ false
  pub count : has_wrong_base c name base ≡ false
  pub fits : has_broken_shapes c name base ≡ false
  pub room : has_no_room_for_version c name base ≡ false

pub start-known : (c : Holdings) (name : List ℕ) (base : List BaseName) → judged c (command.Start name base) ≡ None
    → IsStart c name base
start-known c name base h =
    let last : List (Bool × Refusal) = (has_no_room_for_version c name base, rule.NoRoomForVersion) ∷ [] in
    let fourth : List (Bool × Refusal) =
    (has_broken_shapes c name base, rule.ShapesDoNotFit (first_broken c name base)) ∷ last in
    let third : List (Bool × Refusal) = (has_wrong_base c name base, rule.WrongBase) ∷ fourth in
    let second : List (Bool × Refusal) = (has_no_array c base, rule.NoSuchArray) ∷ third in
    let a = first-passed (has_no_flow c name) rule.NoSuchFlow second h in
    let b = first-passed (has_no_array c base) rule.NoSuchArray third a.1 in
    let d = first-passed (has_wrong_base c name base) rule.WrongBase fourth b.1 in
    let e = first-passed (has_broken_shapes c name base) (rule.ShapesDoNotFit (first_broken c name base)) last d.1 in
    let f = first-passed (has_no_room_for_version c name base) rule.NoRoomForVersion [] e.1 in
    record { flow = a.0; arrays = b.0; count = d.0; fits = e.0; room = f.0 }

-- its count, and the room for its outputs and for its number
pub right-count : (c : Holdings) (name : List ℕ) (base : List BaseName) → has_wrong_base c name base ≡ false
    → length base ≡ (workflow_of c name).graph.inputs
right-count c name base right =
    let same = not-false (length base == (workflow_of c name).graph.inputs) right in grind (arith, nat_tests)

pub start-count : (c : Holdings) (name : List ℕ) (base : List BaseName) → IsStart c name base
    → length base ≡ (workflow_of c name).graph.inputs
start-count c name base start = right-count c name base start.count

pub start-room : (c : Holdings) (name : List ℕ) (base : List BaseName) → IsStart c name base
    → has_room c (output_cells (version_started c name base)) ≡ true
start-room c name base start =
    not-false (has_room c (output_cells (version_started c name base)))
    (neither (not (has_room c (output_cells (version_started c name base))))
    (nat_lt greatest_number (next_number c)) start.room).0

pub start-number : (c : Holdings) (name : List ℕ) (base : List BaseName) → IsStart c name base
    → next_number c ≤ greatest_number
start-number c name base start =
    let low = (neither (not (has_room c (output_cells (version_started c name base))))
    (nat_lt greatest_number (next_number c)) start.room).1 in
    below (next_number c) low where
      below : (n : ℕ) → nat_lt greatest_number n ≡ false → n ≤ greatest_number
      below n f = grind (arith, nat_tests)
