-- Lists in JSON, written without blanks.
use Rattle.std.specs.Prelude.{ℕ, List, [], ◌∷◌, ◌++◌, map, codes, if◌then◌else◌, ◌==◌}
use Rattle.std.specs.List.{range_with_len, join_with_byte}

-- the items at 0 to n - 1, with a comma (byte 44) between each two
unfoldable pub items_text : (ℕ → List ℕ) → ℕ → List ℕ
items_text item n = join_with_byte 44 (map item (range_with_len 0 n))

-- those items as a list
abbrev pub list_text : (ℕ → List ℕ) → ℕ → List ℕ
list_text item n = codes "[" ++ items_text item n ++ codes "]"

-- what stands before the item at k: a comma, but nothing before the first
abbrev pub separator : ℕ → List ℕ
separator k = if k == 0 then [] else 44 ∷ []
