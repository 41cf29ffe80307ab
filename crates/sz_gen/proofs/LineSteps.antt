-- What one text becomes as pieces, lines and groups of lines are added to its end.
-- The key idea: each lemma takes what is written so far and one piece more, so that a function's
-- calls are followed one by one, and every step is that adding behind adding is adding both.
use Rattle.std.proofs.Common.{◌≡◌, ℕ, zero, suc, ◌+◌, ◌*◌, List, [], ◌∷◌, ◌++◌, flat_map}
use Rattle.std.proofs.Common.{codes, refl, ap, sym, ◌∙◌, append_assoc, append-nil, arith}
use Rattle.std.specs.List.{range_with_len}
use Rattle.std.proofs.lemmas.List.Concat.{flat_map-append}
use Rattle.sz_gen.specs.Draws.{number_after}
use Rattle.sz_gen.specs.Session.{text_of_lines, triple, triples}

-- two pieces, one after another
pub append-twice : (text p q : List ℕ) {before now : List ℕ} → before ≡ text ++ p → now ≡ before ++ q
    → now ≡ text ++ (p ++ q)
append-twice text p q written added = added ∙ ap (λ t. t ++ q) written ∙ append_assoc text p q

-- lines, and a group of lines that follow
pub text_of_lines-join : (text : List ℕ) (ls ms : List (List ℕ)) {group : List (List ℕ)} {before now : List ℕ}
    → before ≡ text ++ text_of_lines ls → now ≡ before ++ text_of_lines group → group ≡ ms
    → now ≡ text ++ text_of_lines (ls ++ ms)
text_of_lines-join text ls ms {group} {before} written added is =
    append-twice text (text_of_lines ls) (text_of_lines ms) written
    (added ∙ ap (λ g. before ++ text_of_lines g) is)
    ∙ ap (λ t. text ++ t) (sym (flat_map-append (λ line. line ++ codes "\n") ls ms))

-- lines, and one line that follows
pub text_of_lines-push : (text : List ℕ) (ls : List (List ℕ)) (line : List ℕ) {piece before now : List ℕ}
    → before ≡ text ++ text_of_lines ls → now ≡ before ++ (piece ++ codes "\n") → piece ≡ line
    → now ≡ text ++ text_of_lines (ls ++ line ∷ [])
text_of_lines-push text ls line {piece} {before} written added is =
    let alone : text_of_lines (piece ∷ []) ≡ piece ++ codes "\n" = append-nil (piece ++ codes "\n") in
    text_of_lines-join text ls (line ∷ []) {group = piece ∷ []} written
    (added ∙ ap (λ p. before ++ p) (sym alone)) (ap (λ l. l ∷ []) is)

range_with_len-push : (a n : ℕ) → range_with_len a (suc n) ≡ range_with_len a n ++ (a + n) ∷ []
range_with_len-push a zero = ap (λ m. m ∷ []) (omega arith)
range_with_len-push a (suc n) =
    ap (λ ys. a ∷ ys)
    (range_with_len-push (a + 1) n ∙ ap (λ m. range_with_len (a + 1) n ++ m ∷ []) (omega arith))

-- before the first triple there is no line
pub triples-zero : (side x : ℕ) → triples 0 side x ≡ []
unfolding triples
triples-zero side x = refl

-- one triple more begins after the draws of those before it
pub triples-suc : (count side x : ℕ)
    → triples (count + 1) side x ≡ triples count side x ++ triple side (number_after x (count * 6))
unfolding triples
triples-suc count side x =
    let group : ℕ → List (List ℕ) = λ k. triple side (number_after x (k * 6)) in
    let next : count + 1 ≡ suc count = omega arith in
    let last : 0 + count ≡ count = omega arith in
    rw next
    (ap (flat_map group) (range_with_len-push 0 count)
    ∙ flat_map-append group (range_with_len 0 count) ((0 + count) ∷ [])
    ∙ ap (λ ys. triples count side x ++ ys) (append-nil (group (0 + count)) ∙ ap group last))
