-- What a session of no log says, by the catalogue alone: no store of a log stands in these
-- definitions.
use Rattle.std.specs.Prelude.{ℕ, ◌+◌, List, [], ◌∷◌, ◌++◌, if◌then◌else◌}
use Rattle.sz_catalogue.specs.Holdings.{Holdings}
use Rattle.sz_catalogue.specs.Changes.{after_line}
use Rattle.sz_catalogue.specs.Responses.{reply_line}
use Rattle.sz_commands.specs.Lines.{lines_of, is_blank}

-- the reply lines of some lines, the first of which has this number: none of a blank line, and of
-- each other line that of what it orders
abbrev pub plain_replies : Holdings → ℕ → List (List ℕ) → List ℕ
plain_replies c n [] = []
plain_replies c n (line ∷ lines) = if is_blank line then plain_replies c (n + 1) lines
    else reply_line n (after_line c line).1 ++ plain_replies (after_line c line).0 (n + 1) lines

-- all that is said, from a catalogue, of these bytes
abbrev pub plain_transcript : Holdings → List ℕ → List ℕ
plain_transcript c bytes = plain_replies c 1 (lines_of bytes)
