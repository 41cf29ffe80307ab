-- A list that is written from left to right: before its first item, with one item more, and whole.
-- The key idea: the comma belongs to the item behind it, so one item more is its comma, where it is
-- not the first, and then the item. By recursion on the items that are there, of which the last one
-- is never alone.
use Rattle.std.proofs.Common.{◌≡◌, ℕ, zero, suc, ◌+◌, List, [], ◌∷◌, ◌++◌, map, codes, refl}
use Rattle.std.proofs.Common.{ap, sym, ◌∙◌, append_assoc, append-nil, arith}
use Rattle.std.specs.List.{range_with_len, join_with_byte}
use Rattle.std.proofs.lemmas.List.FromFn.{map-range_with_len_more}
use Rattle.sz_gen.specs.Lists.{items_text, list_text, separator}

join_with_byte-push : (c : ℕ) (x : List ℕ) (xs : List (List ℕ)) (y : List ℕ)
    → join_with_byte c ((x ∷ xs) ++ y ∷ []) ≡ join_with_byte c (x ∷ xs) ++ (c ∷ y)
join_with_byte-push c x [] y = refl
join_with_byte-push c x (z ∷ xs) y =
    ap (λ ys. x ++ c ∷ ys) (join_with_byte-push c z xs y) ∙ sym (append_assoc x _ _)

separator-suc : (k : ℕ) → separator (suc k) ≡ 44 ∷ []
separator-suc k = grind arith

items_text-suc : (item : ℕ → List ℕ) (k : ℕ)
    → items_text item (k + 1) ≡ items_text item k ++ (separator k ++ item k)
unfolding items_text
items_text-suc item zero = refl
items_text-suc item (suc k) =
    ap (join_with_byte 44) (map-range_with_len_more item 0 (suc k) (suc k) (omega arith))
    ∙ join_with_byte-push 44 (item 0) (map item (range_with_len 1 k)) (item (suc k))
    ∙ ap (λ c. items_text item (suc k) ++ (c ++ item (suc k))) (sym (separator-suc k))

-- the list before its first item
pub items_text-zero : (item : ℕ → List ℕ) (head : List ℕ) → head ≡ head ++ items_text item 0
unfolding items_text
items_text-zero item head = sym (append-nil head)

-- the list with its next item: `before` is written so far, `between` has the comma too
pub items_text-push : (item : ℕ → List ℕ) (k : ℕ) (head : List ℕ) {before between now piece : List ℕ}
    → before ≡ head ++ items_text item k → between ≡ before ++ separator k → now ≡ between ++ piece
    → piece ≡ item k → now ≡ head ++ items_text item (k + 1)
items_text-push item k head {before} {between} {now} {piece} written comma item_too is =
    let together : ((head ++ items_text item k) ++ separator k) ++ item k ≡ head ++ items_text item (k + 1) =
    simp append_assoc (ap (λ ys. head ++ ys) (sym (items_text-suc item k))) in cc

-- the whole list
pub list_text-whole : (item : ℕ → List ℕ) (n : ℕ) (text : List ℕ)
    → ((text ++ codes "[") ++ items_text item n) ++ codes "]" ≡ text ++ list_text item n
list_text-whole item n text = simp append_assoc
