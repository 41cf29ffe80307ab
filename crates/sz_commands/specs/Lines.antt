-- The lines of a text, which of them are whole, and which of them have a reply.
use Rattle.std.specs.Prelude.{ℕ, List, [], ◌∷◌, ◌++◌, Bool, not, ◌||◌, ◌==◌, if◌then◌else◌}
use Rattle.std.specs.List.{list_all}

-- a byte before the first line of some lines
abbrev pub before_first_line : ℕ → List (List ℕ) → List (List ℕ)
before_first_line b [] = (b ∷ []) ∷ []
before_first_line b (l ∷ ls) = (b ∷ l) ∷ ls

-- A line ends before each byte 10. The bytes after the last byte 10 are a line where there are any.
abbrev pub lines_of : List ℕ → List (List ℕ)
lines_of [] = []
lines_of (b ∷ bytes) = if b == 10 then [] ∷ lines_of bytes
    else before_first_line b (lines_of bytes)

-- no byte 10 is among these
abbrev pub is_within_line : List ℕ → Bool
is_within_line bytes = list_all (λ b. not (b == 10)) bytes

-- a line of spaces, tabs and bytes 13 alone, the line of no bytes among them
abbrev pub is_blank : List ℕ → Bool
is_blank line = list_all (λ b. (b == 32) || (b == 9) || (b == 13)) line

-- ---- the lines that ended

-- whole lines, each of which ended with a byte 10, and the bytes of the line that has not ended
pub record Cut : Type 0 where
  pub whole : List (List ℕ)
  pub last : List ℕ

-- a byte 10 before them: a line of no bytes ended
abbrev pub newline_before : Cut → Cut
newline_before c = record { whole = [] ∷ c.whole; last = c.last }

-- the beginning of a line before them: it is of the first whole line, or of the line that has not
-- ended where none did
abbrev pub bytes_first : List ℕ → List (List ℕ) → List ℕ → Cut
bytes_first begun [] last = record { whole = []; last = begun ++ last }
bytes_first begun (l ∷ ls) last = record { whole = (begun ++ l) ∷ ls; last = last }

abbrev pub before_cut : List ℕ → Cut → Cut
before_cut begun c = bytes_first begun c.whole c.last

-- some bytes, cut behind each byte 10
abbrev pub cut : List ℕ → Cut
cut [] = record { whole = []; last = [] }
cut (b ∷ bytes) = if b == 10 then newline_before (cut bytes) else before_cut (b ∷ []) (cut bytes)

-- the line that has not ended, as it is at the end of a text: it is one where it has bytes
abbrev pub last_line : List ℕ → List (List ℕ)
last_line [] = []
last_line (b ∷ bytes) = (b ∷ bytes) ∷ []
