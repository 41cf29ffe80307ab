-- The parts of a JSON value: whether it has exactly some fields, and its numbers, texts and lists.
use Rattle.std.specs.Prelude.{ℕ, ◌+◌, ◌^◌, ℤ, List, [], ◌∷◌, length, Bool, false, ◌&&◌, ◌==◌}
use Rattle.std.specs.Prelude.{nat_lt, if◌then◌else◌, Option, Some, None, is_some, option_map}
use Rattle.std.specs.Prelude.{option_and_then, unwrap_or}
use Rattle.std.specs.List.{slice_get, list_all}
use Rattle.serde_json.specs.Data.{Data, null, Items, no_items, item, Members, no_members, member}
use Rattle.serde_json.specs.Find.{get, get_member, as_number, as_array, as_object, as_u64, as_i64}

-- an answer where a test holds
abbrev pub only_if : {X : Type 0} → Bool → Option X → Option X
only_if b o = if b then o else None

-- some value passes a test
abbrev pub passes : {X : Type 0} → (X → Bool) → Option X → Bool
passes test None = false
passes test (Some x) = test x

-- how many members an object has
abbrev pub member_count : Members → ℕ
member_count no_members = 0
member_count (member k d ms) = member_count ms + 1

-- An object with exactly these fields: each of them, and no more members. (An object has each key
-- once: of one that is given twice the last stands.)
abbrev pub are_fields : List (List ℕ) → Option Members → Bool
are_fields names None = false
are_fields names (Some ms) = (member_count ms == length names)
    && list_all (λ k. is_some (get_member k ms)) names

abbrev pub has_fields : List (List ℕ) → Data → Bool
has_fields names d = are_fields names (as_object d)

-- a whole number from 0 to 4,294,967,295
abbrev pub number_in : Data → Option ℕ
number_in d =
    option_and_then (λ n. only_if (nat_lt n (2 ^ 32)) (Some n))
    (option_and_then as_u64 (as_number d))

-- a whole number that is an i64
abbrev pub whole_in : Data → Option ℤ
whole_in d = option_and_then as_i64 (as_number d)

-- the items of a list
abbrev pub list_of_items : Items → List Data
list_of_items no_items = []
list_of_items (item d ds) = d ∷ list_of_items ds

abbrev pub list_in : Data → Option (List Data)
list_in d = option_map list_of_items (as_array d)

-- the items of a list; what is no list has none
abbrev pub items_in : Data → List Data
items_in d = unwrap_or (list_in d) []

-- the first of some values, and how many items it has
abbrev pub first_in : List Data → Data
first_in ds = unwrap_or (slice_get ds 0) null

abbrev pub first_length : List Data → ℕ
first_length ds = length (items_in (first_in ds))

-- the two items of a list of two
abbrev pub pair_among : List Data → Option (Data × Data)
pair_among (a ∷ b ∷ []) = Some (a, b)
pair_among _ = None

abbrev pub two_in : Data → Option (Data × Data)
two_in d = option_and_then pair_among (list_in d)

-- two numbers
abbrev pub numbers_in : Data → Option (ℕ × ℕ)
numbers_in d =
    option_and_then
    (λ (p : Data × Data). option_and_then (λ a. option_map (λ b. (a, b)) (number_in p.1))
    (number_in p.0))
    (two_in d)

-- what f gives of each item, where it gives something of each
abbrev pub each_of : {X : Type 0} → (Data → Option X) → List Data → Option (List X)
each_of f [] = Some []
each_of f (d ∷ ds) = option_and_then (λ x. option_map (λ xs. x ∷ xs) (each_of f ds)) (f d)

-- what f gives of a field
abbrev pub at : {X : Type 0} → (Data → Option X) → List ℕ → Data → Option X
at f key d = option_and_then f (get key d)

-- what f gives of each item of a field that is a list
abbrev pub list_at : {X : Type 0} → (Data → Option X) → List ℕ → Data → Option (List X)
list_at f key d = option_and_then (each_of f) (at list_in key d)
