-- Worked rows of lines, and of a whole session: each is found by computing.
use Rattle.std.specs.Prelude.{◌≡◌, true, false, [], ◌∷◌, ◌++◌, codes, filter}
use Rattle.std.specs.List.{range_with_len}
use Rattle.std.specs.Fmt.{digits}
use Rattle.std.specs.Str.{is_utf8, chars}
use Rattle.std.proofs.Common.{refl}
use Rattle.serde_json.proofs.OnLiterals.{serde_json_on_literals}
use Rattle.sz_commands.specs.States.{nothing_held}
use Rattle.sz_commands.specs.Lines.{lines_of, is_blank}
use Rattle.sz_commands.specs.Transcript.{transcript}

-- ---- lines

no-line : lines_of [] ≡ []
no-line = refl

line-between-newlines : lines_of (codes "a" ++ 10 ∷ 10 ∷ codes "b") ≡ codes "a" ∷ [] ∷ codes "b" ∷ []
line-between-newlines = refl

line-ended : lines_of (codes "a" ++ 10 ∷ []) ≡ codes "a" ∷ []
line-ended = refl

line-of_a_newline : lines_of (10 ∷ []) ≡ [] ∷ []
line-of_a_newline = refl

blank-empty : is_blank [] ≡ true
blank-empty = refl

blank-line : is_blank (32 ∷ 9 ∷ 13 ∷ []) ≡ true
blank-line = refl

blank-other : is_blank (32 ∷ 11 ∷ []) ≡ false
blank-other = refl

-- of all bytes, the three alone
blank-each : filter (λ b. is_blank (b ∷ [])) (range_with_len 0 256) ≡ 9 ∷ 13 ∷ 32 ∷ []
blank-each = refl

blank-output : transcript nothing_held (32 ∷ 10 ∷ 13 ∷ 10 ∷ []) ≡ []
blank-output = refl

-- ---- no JSON, blank lines, and a last line without a newline

some-refused : transcript nothing_held (codes "{\"array\":" ++ 10 ∷ codes "   " ++ 10 ∷ codes "{\"await\":9}")
    ≡ codes "1 refused 1" ++ 10 ∷ codes "3 refused 15" ++ 10 ∷ []
unfolding serde_json_on_literals is_utf8 chars digits
some-refused = refl

-- ---- the smallest session, with a blank line

whole-session : transcript nothing_held (codes "{\"array\":\"a\",\"cells\":[[5]]}"
    ++ 10 ∷ codes "{\"flow\":\"f\",\"inputs\":1,\"nodes\":[{\"op\":\"neg\",\"from\":[{\"i\":0}]}]}"
    ++ 10 ∷ codes "{\"start\":\"f\",\"base\":[[\"a\",1]]}" ++ 10 ∷ codes "{\"await\":1}"
    ++ 10 ∷ 10 ∷ codes "{\"ask\":1,\"dir\":\"back\",\"path\":[[0,0]],\"cells\":[[0,0]]}"
    ++ 10 ∷ codes "{\"show\":1,\"node\":0}")
    ≡ codes "1 array a 1" ++ 10 ∷ codes "2 flow f" ++ 10 ∷ codes "3 started 1" ++ 10 ∷ codes "4 done 1"
    ++ 10 ∷ codes "6 cells 1 0,0" ++ 10 ∷ codes "7 values 1 1 -5" ++ 10 ∷ []
unfolding serde_json_on_literals is_utf8 chars digits
whole-session = refl

-- ---- a refresh, and a merge

further-session : transcript nothing_held (codes "{\"array\":\"a\",\"cells\":[[1,2]]}"
    ++ 10 ∷ codes "{\"flow\":\"f\",\"inputs\":1,\"nodes\":[{\"op\":\"neg\",\"from\":[{\"i\":0}]}]}"
    ++ 10 ∷ codes "{\"strategy\":\"f\",\"node\":0,\"list\":[\"full_one_b\"]}"
    ++ 10 ∷ codes "{\"start\":\"f\",\"base\":[[\"a\",1]]}"
    ++ 10 ∷ codes "{\"refresh\":1,\"input\":0,\"set\":[]}"
    ++ 10 ∷ codes "{\"merge\":1}" ++ 10 ∷ codes "{\"await\":1}" ++ 10 ∷ codes "{\"merged\":1}"
    ++ 10 ∷ codes "{\"refresh\":1,\"input\":1,\"set\":[]}"
    ++ 10 ∷ codes "{\"refresh\":1,\"input\":0,\"set\":[[0,0,7]]}"
    ++ 10 ∷ codes "{\"show\":2,\"node\":0}" ++ 10 ∷ codes "{\"merge\":1}" ++ 10 ∷ codes "{\"merged\":1}")
    ≡ codes "1 array a 1" ++ 10 ∷ codes "2 flow f" ++ 10 ∷ codes "3 strategy f 0" ++ 10 ∷ codes "4 started 1"
    ++ 10 ∷ codes "5 refused 22" ++ 10 ∷ codes "6 refused 22" ++ 10 ∷ codes "7 done 1" ++ 10 ∷ codes "8 refused 25"
    ++ 10 ∷ codes "9 refused 23" ++ 10 ∷ codes "10 refreshed 2 cells 1" ++ 10 ∷ codes "11 values 1 2 -7 -2"
    ++ 10 ∷ codes "12 merging 1" ++ 10 ∷ codes "13 merged 1 2" ++ 10 ∷ []
unfolding serde_json_on_literals is_utf8 chars digits
further-session = refl
