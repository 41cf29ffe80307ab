-- The kernel of rows of whole numbers, by its parts.
use Rattle.std.proofs.Common.{◌≡◌, ℕ, ℤ, List, length, map, Bool, true, Some, ap, ◌∙◌, sym}
use Rattle.std.specs.List.{list_all, flat_map}
use Rattle.serde_json.specs.View.{view}
use Rattle.serde_json.specs.declared.value.Value.{Value}
use Rattle.sz_spec.specs.Weights.{Weights}
use Rattle.sz_script.specs.Fields.{only_if}
use Rattle.sz_script.specs.Kernels.{is_row_of_wholes, side_of, cols_of, weights_of, kernel_of, kernel_in}
use Rattle.sz_script.proofs.Walks.{seen_long}

abbrev pub parts : ℕ → ℕ → List ℤ → Weights
parts rows cols weights = record { rows = rows; cols = cols; weights = weights }

pub kernel_made : (vs : List Value) (rows cols : ℕ) (weights : List ℤ)
    → list_all is_row_of_wholes (map view vs) ≡ true → rows ≡ side_of (length vs)
    → cols ≡ cols_of (map view vs) → weights ≡ flat_map weights_of (map view vs)
    → Some (parts rows cols weights) ≡ kernel_in (map view vs)
kernel_made vs rows cols weights each high wide all =
    ap (λ n. Some (parts n cols weights)) (high ∙ ap side_of (sym (seen_long vs)))
    ∙ ap (λ n. Some (parts (side_of (length (map view vs))) n weights)) wide
    ∙ ap (λ l. Some (parts (side_of (length (map view vs))) (cols_of (map view vs)) l)) all
    ∙ ap (λ (b : Bool). only_if b (Some (kernel_of (map view vs)))) (sym each)
