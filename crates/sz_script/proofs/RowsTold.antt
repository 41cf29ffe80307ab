-- What the rows of refusals compare: the numbers that are printed of a line's refusal. The key idea: the rows of an
-- object with exactly some fields follow from the fields, with a right value and wrong ones of each.
use Rattle.std.specs.Prelude.{◌≡◌, ℕ, List, [], ◌∷◌, ◌++◌, map, flat_map, codes, Result, Ok, Err}
use Rattle.std.specs.List.{range_with_len}
use Rattle.sz_script.specs.declared.command.Command.{Command}
use Rattle.sz_script.specs.declared.refusal.Refusal.{Refusal}
use Rattle.sz_script.specs.Refusals.{numbers_of}
use Rattle.sz_script.specs.Reading.{reading}

abbrev told : Result Command Refusal → List ℕ
told (Ok c) = []
told (Err r) = numbers_of r

-- the numbers of the refusal of a line, and none where it is a command
abbrev pub read_as : List ℕ → List ℕ
read_as line = told (reading line)

-- the same of a line, by what stands between its beginning and its end
abbrev pub between : List ℕ → List ℕ → List ℕ → List ℕ
between before behind text = read_as (before ++ text ++ behind)

-- of an object, by what it holds
abbrev pub object_read_as : List ℕ → List ℕ
object_read_as text = between (codes "{") (codes "}") text

-- of a flow `f`, by what stands behind its name
abbrev pub flow_read_as : List ℕ → List ℕ
flow_read_as text = between (codes "{\"flow\":\"f\",") [] text

-- of a flow of two base arrays and one node, by the node's fields
abbrev pub node_read_as : List ℕ → List ℕ
node_read_as text = flow_read_as (codes "\"inputs\":2,\"nodes\":[{" ++ text ++ codes "}]}")

-- the texts one after another, with commas between
abbrev pub joined : List (List ℕ) → List ℕ
joined [] = []
joined (text ∷ []) = text
joined (text ∷ texts) = text ++ codes "," ++ joined texts

-- a line of so many layers of one cell
abbrev pub layers_of : ℕ → List ℕ
layers_of n = codes "{\"layers\":\"a\",\"cells\":[" ++ joined (map (λ k. codes "[[1]]") (range_with_len 0 n))
    ++ codes "]}"

-- a line of so many nodes
abbrev pub nodes_of : ℕ → List ℕ
nodes_of n = codes "{\"flow\":\"f\",\"inputs\":1,\"nodes\":["
    ++ joined (map (λ k. codes "{\"op\":\"neg\",\"from\":[{\"i\":0}]}") (range_with_len 0 n)) ++ codes "]}"

-- a list of a list, and so on, so many in all
abbrev pub lists_of : ℕ → List ℕ
lists_of n = flat_map (λ k. codes "[") (range_with_len 0 n) ++ flat_map (λ k. codes "]") (range_with_len 0 n)

-- ---- tables of rows

-- what stands in a line, and the numbers that are printed of its refusal
pub record Row : Type 0 where
  pub text : List ℕ
  pub numbers : List ℕ

abbrev pub row : List ℕ → List ℕ → Row
row text numbers = record { text = text; numbers = numbers }

-- rows of the same numbers
abbrev pub each : List ℕ → List (List ℕ) → List Row
each numbers texts = map (λ text. row text numbers) texts

-- each text of a table is told these numbers
abbrev pub AreTold : (List ℕ → List ℕ) → List Row → Type 0
AreTold tell rows = map (λ (r : Row). tell r.text) rows ≡ map (λ (r : Row). r.numbers) rows

-- ---- the rows of an object with exactly some fields

-- a field: its key, a right value, wrong ones, and a wrong one that is given before the right one, and behind it
pub record Field : Type 0 where
  pub key : List ℕ
  pub right : List ℕ
  pub wrong : List (List ℕ)
  pub before : List ℕ
  pub behind : List ℕ

-- a field with one wrong value
abbrev pub field : List ℕ → List ℕ → List ℕ → Field
field key right wrong =
    record { key = key; right = right; wrong = wrong ∷ []; before = wrong; behind = wrong }

abbrev with_value : Field → List ℕ → List ℕ
with_value f value = codes "\"" ++ f.key ++ codes "\":" ++ value

abbrev rights : List Field → List (List ℕ)
rights fs = map (λ (f : Field). with_value f f.right) fs

-- each of the fields missing, wrong, and given twice, where the last stands: behind those that are done, between the
-- first texts of the object and its last ones
abbrev field_rows : List ℕ → (first last : List (List ℕ)) → (done left : List Field) → List Row
field_rows numbers first last done [] = []
field_rows numbers first last done (f ∷ fs) =
    each (3 ∷ []) (
    joined (first ++ rights done ++ rights fs ++ last)
    ∷ map (λ w. joined (first ++ rights done ++ with_value f w ∷ rights fs ++ last)) f.wrong)
    ++ row (joined (first ++ with_value f f.before ∷ rights (done ++ f ∷ fs) ++ last)) numbers
    ∷ row (joined (first ++ rights (done ++ f ∷ fs) ++ with_value f f.behind ∷ last)) (3 ∷ [])
    ∷ field_rows numbers first last (done ++ f ∷ []) fs

-- the rows of an object, by its numbers where its fields are right: all right; a further field; and each of them
-- missing, wrong, and given twice
abbrev pub rows_of : List ℕ → (first last : List (List ℕ)) → List Field → List Row
rows_of numbers first last fs =
    row (joined (first ++ rights fs ++ last)) numbers
    ∷ row (joined (first ++ rights fs ++ codes "\"more\":1" ∷ last)) (3 ∷ [])
    ∷ field_rows numbers first last [] fs
