-- Rows of the bytes of names: of all 256, those that may stand in one, and those that are a name alone. Both lists are
-- written out by hand.
use Rattle.std.specs.Prelude.{◌≡◌, ℕ, List, [], ◌∷◌, ◌++◌, filter, codes, true, not}
use Rattle.std.specs.List.{range_with_len, list_all}
use Rattle.std.proofs.Common.{refl}
use Rattle.sz_script.specs.Names.{is_name_byte, is_name}

-- all bytes
abbrev bytes : List ℕ
bytes = range_with_len 0 256

-- the bytes of names, rising
abbrev name_bytes : List ℕ
name_bytes = codes "0123456789_abcdefghijklmnopqrstuvwxyz"

bytes-in_names : filter is_name_byte bytes ≡ name_bytes
bytes-in_names = refl

bytes-alone : filter (λ b. is_name (b ∷ [])) bytes ≡ name_bytes
bytes-alone = refl

-- none of these stands first, between or last in a name: a full stop, a minus, a blank, a tab, a form feed, a slash
bytes-refused : list_all (λ b. not (is_name (b ∷ codes "ab"))) (46 ∷ 45 ∷ 32 ∷ 9 ∷ 12 ∷ 47 ∷ []) ≡ true
bytes-refused = refl

bytes-refused_between : list_all (λ b. not (is_name (97 ∷ b ∷ codes "b"))) (46 ∷ 45 ∷ 32 ∷ 9 ∷ 12 ∷ 47 ∷ []) ≡ true
bytes-refused_between = refl

bytes-refused_last : list_all (λ b. not (is_name (codes "ab" ++ b ∷ []))) (46 ∷ 45 ∷ 32 ∷ 9 ∷ 12 ∷ 47 ∷ []) ≡ true
bytes-refused_last = refl
