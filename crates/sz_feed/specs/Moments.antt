-- A session in the middle, and what bytes that come in say and leave.
use Rattle.std.specs.Prelude.{◌≡◌, ◌⊎◌, ℕ, ◌+◌, ◌<◌, List, [], length, Option, None}
use Rattle.sz_script.specs.Reading.{line_limit}
use Rattle.sz_commands.specs.Lines.{Cut, before_cut, cut, last_line, is_blank}
use Rattle.sz_commands.specs.States.{SessionState, LogPlace}
use Rattle.sz_commands.specs.Transcript.{replies_to, after_lines}

-- what is held, but for where a log ends; the bytes of the line that has not ended, and that line's
-- number; and, of a session of a log, where that ends
pub record Moment : Type 0 where
  pub held : SessionState
  pub pending : List ℕ
  pub number : ℕ
  pub end : Option LogPlace

-- before the first byte, from what is held
abbrev pub moment_before : SessionState → Moment
moment_before c = record { held = c; pending = []; number = 1; end = None }

-- these bytes, cut behind the line that has not ended
abbrev pub cut_after : Moment → List ℕ → Cut
cut_after m bytes = before_cut m.pending (cut bytes)

-- what is told of these bytes: the replies of just the lines that end in them
abbrev pub told_in : Moment → List ℕ → List ℕ
told_in m bytes = replies_to m.held m.number (cut_after m bytes).whole

-- the moment that a cut leaves: the lines that ended are taken, and counted
abbrev pub moment_of : Moment → Cut → Moment
moment_of m c = record m {
  held = after_lines m.held c.whole;
  pending = c.last;
  number = m.number + length c.whole;
}

-- the moment after these bytes
abbrev pub moment_after : Moment → List ℕ → Moment
moment_after m bytes = moment_of m (cut_after m bytes)

-- what is told where no more bytes come: the reply of the line that has not ended, where it has
-- bytes
abbrev pub told_at_end : Moment → List ℕ
told_at_end m = replies_to m.held m.number (last_line m.pending)

-- ---- lines that need not be kept whole

-- Two beginnings of a line are alike: they are the same, or both are past the limit, and both are
-- blank or both are not.
abbrev pub Alike : List ℕ → List ℕ → Type 0
Alike a b = (a ≡ b)
    ⊎ ((line_limit < length a) × (line_limit < length b) × (is_blank a ≡ is_blank b))

-- Two moments are alike: they differ in lines that have not ended, which are alike, and in where a
-- log ends, alone.
pub record AreAlike (m n : Moment) : Type 0 where
  pub held : m.held ≡ n.held
  pub number : m.number ≡ n.number
  pub pending : Alike m.pending n.pending
