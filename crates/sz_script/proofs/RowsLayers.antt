-- Rows of the greatest arrays: on both sides of the number of cells that an array may have, by layers of zeros. Each
-- is found by computing. And the numbers of the two rules on size.
use Rattle.std.specs.Prelude.{◌≡◌, ℕ, zero, suc, List, [], ◌∷◌, map, true, false, Err}
use Rattle.std.specs.List.{range_with_len}
use Rattle.std.proofs.Common.{refl}
use Rattle.serde_json.specs.Data.{Data, number, unsigned, array, Items, no_items, item}
use Rattle.sz_script.specs.Layers.{are_counted, are_too_many_cells}
use Rattle.sz_script.specs.Drafts.{in_layers, reading_of_draft}
use Rattle.sz_script.specs.Refusals.{numbers_of}
use Rattle.sz_script.specs.declared.command.Command.TheVariants as command
use Rattle.sz_script.specs.declared.refusal.Refusal.TheVariants as refusal

-- so many times the same
abbrev times : ℕ → Data → Items
times zero d = no_items
times (suc n) d = item d (times n d)

-- a layer of so many rows of so many zeros
abbrev zeros : ℕ → ℕ → Data
zeros height width = array (times height (array (times width (number (unsigned 0)))))

square-most : are_too_many_cells (zeros 1024 1024 ∷ []) ≡ false
square-most = refl

square-more : are_too_many_cells (zeros 1025 1024 ∷ []) ≡ true
square-more = refl

-- one cell more than there may be: 17 times 61,681
rows-more : are_too_many_cells (zeros 17 61681 ∷ []) ≡ true
rows-more = refl

layers-most : are_too_many_cells (zeros 256 1024 ∷ zeros 256 1024 ∷ zeros 256 1024 ∷ zeros 256 1024 ∷ []) ≡ false
layers-most = refl

layers-more : are_too_many_cells (zeros 257 1024 ∷ zeros 257 1024 ∷ zeros 257 1024 ∷ zeros 257 1024 ∷ []) ≡ true
layers-more = refl

row-empty : are_counted (zeros 1 0 ∷ []) ≡ false
row-empty = refl

layer-empty : are_counted (zeros 0 1 ∷ []) ≡ false
layer-empty = refl

-- ---- which rule is told, and its number

-- 17 layers, which are more cells than there may be as well
abbrev many : List Data
many = map (λ k. zeros 256 1024) (range_with_len 0 17)

too_many : are_too_many_cells many ≡ true
too_many = refl

bad_before_too_many : reading_of_draft (record { command = command.Await 1; cells = in_layers many })
    ≡ Err refusal.BadCells
bad_before_too_many = refl

number-too_many : numbers_of refusal.TooManyCells ≡ 6 ∷ []
number-too_many = refl

number-too_long : numbers_of refusal.TooLong ≡ 2 ∷ []
number-too_long = refl
