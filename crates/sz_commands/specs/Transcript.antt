-- What a session says of its lines: its transcript.
use Rattle.std.specs.Prelude.{ℕ, ◌+◌, List, [], ◌∷◌, ◌++◌, if◌then◌else◌}
use Rattle.sz_commands.specs.Lines.{lines_of, is_blank, cut}
use Rattle.sz_commands.specs.States.{SessionState, after_line}
use Rattle.sz_catalogue.specs.Responses.{reply_line}

-- the reply lines of some lines, the first of which has this number: none of a blank line, and of
-- each other line that of what it orders
abbrev pub replies_to : SessionState → ℕ → List (List ℕ) → List ℕ
replies_to c n [] = []
replies_to c n (line ∷ lines) = if is_blank line then replies_to c (n + 1) lines
    else reply_line n (after_line c line).1 ++ replies_to (after_line c line).0 (n + 1) lines

-- the catalogue after some lines: a blank one changes nothing
abbrev pub after_lines : SessionState → List (List ℕ) → SessionState
after_lines c [] = c
after_lines c (line ∷ lines) = if is_blank line then after_lines c lines
    else after_lines (after_line c line).0 lines

-- all that a session says, from a catalogue, of these bytes
abbrev pub transcript : SessionState → List ℕ → List ℕ
transcript c bytes = replies_to c 1 (lines_of bytes)

-- what it says of the whole lines among these bytes
abbrev pub whole_replies : SessionState → List ℕ → List ℕ
whole_replies c bytes = replies_to c 1 (cut bytes).whole
