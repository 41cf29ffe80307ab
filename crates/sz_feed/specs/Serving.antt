-- What a session has said, while it goes on and when it ends. Nothing is claimed of bytes that the
-- source or the station does not tell.
use Rattle.std.specs.Prelude.{◌≡◌, ℕ, ◌+◌, ◌≤◌, ◌<◌, List, [], length, take, drop}
use Rattle.std.specs.Prelude.{Option, Some, None, ⊤, ◌==◌}
use Rattle.std.specs.List.{filter}
use Rattle.sz_outside.specs.Outside.{Says, SaysPart}
use Rattle.sz_catalogue.specs.declared.reply.Reply.{Reply}
use Rattle.sz_catalogue.specs.Holdings.{no_holdings}
use Rattle.sz_commands.specs.States.{SessionState, state_of}
use Rattle.sz_catalogue.specs.Responses.{reply_line}
use Rattle.sz_catalogue.specs.Seen.{response_of}
use Rattle.sz_commands.specs.Lines.{lines_of}
use Rattle.sz_commands.specs.Transcript.{replies_to, transcript, whole_replies}
use Rattle.sz_feed.specs.Moments.{Moment, moment_before, told_in, moment_after, AreAlike}
use Rattle.sz_gen.specs.Session.{load_text}
use Rattle.sz_gen.specs.Summary.{summary_line}
use Rattle.sz_words.specs.declared.Job.{Job}

-- ---- the generated session

-- how many lines end in these bytes
abbrev pub lines_in : List ℕ → ℕ
lines_in bytes = length (filter (λ b. b == 10) bytes)

-- The line that sums up the session of a job's seed and side, from nothing held: its number of
-- lines is that of its replies, and its digest is that of all of them.
abbrev pub load_line : Job → List ℕ
load_line job =
    let replies = transcript (state_of no_holdings) (load_text job.seed job.side) in
    summary_line job.seed job.side (lines_in replies) replies

-- ---- how a session ends

-- The source was read to its end, its bytes are no more than a session may have, and what was said
-- is their transcript from what was held.
abbrev pub Done : SessionState → ℕ → Option (List ℕ) → Option (List ℕ) → Option (List ℕ)
    → Option (List ℕ) → Type 0
Done c limit None left said_before said = ⊤
Done c limit (Some bytes) left said_before said =
    (left ≡ Some []) × (length bytes ≤ limit) × Says said_before said (transcript c bytes)

-- So many bytes were read, the others are left, and what was said is the replies of the whole lines
-- that were read.
abbrev pub SaidOfRead : SessionState → Option (List ℕ) → Option (List ℕ) → Option (List ℕ)
    → Option (List ℕ) → Type 0
SaidOfRead c None left said_before said = ⊤
SaidOfRead c (Some bytes) left said_before said = (n : ℕ) × (n ≤ length bytes)
    × (left ≡ Some (drop n bytes))
    × Says said_before said (whole_replies c (take n bytes))

-- The source had more bytes than a session may have: those and one more were read, and what was
-- said is the replies of the whole lines among those.
abbrev pub SaidToLimit :
    SessionState → ℕ → Option (List ℕ) → Option (List ℕ) → Option (List ℕ) → Option (List ℕ)
    → Type 0
SaidToLimit c limit None left said_before said = ⊤
SaidToLimit c limit (Some bytes) left said_before said = (limit < length bytes)
    × (left ≡ Some (drop (limit + 1) bytes))
    × Says said_before said (whole_replies c (take limit bytes))

-- What was said is a first part of the bytes of the transcript.
abbrev pub SaidInPart : SessionState → Option (List ℕ) → Option (List ℕ) → Option (List ℕ) → Type 0
SaidInPart c None said_before said = ⊤
SaidInPart c (Some bytes) said_before said = SaysPart said_before said (transcript c bytes)

-- What was said is the replies of the first so many of these lines, all of each reply.
pub record SaysFirst (said_before said : Option (List ℕ)) (c : SessionState) (n : ℕ)
    (lines : List (List ℕ)) : Type 0 where
  pub many : ℕ
  pub within : many ≤ length lines
  pub says : Says said_before said (replies_to c n (take many lines))

-- What was said is the first so many of the reply lines of the transcript, whole.
abbrev pub SaidInLines : SessionState → Option (List ℕ) → Option (List ℕ) → Option (List ℕ) → Type 0
SaidInLines c None said_before said = ⊤
SaidInLines c (Some bytes) said_before said = SaysFirst said_before said c 1 (lines_of bytes)

-- The source's bytes are told, and are no more than a session may have.
abbrev pub IsWithinLimit : ℕ → Option (List ℕ) → Type 0
IsWithinLimit limit None = ⊥
IsWithinLimit limit (Some bytes) = length bytes ≤ limit

-- Where the source tells its bytes, there are more than a session may have.
abbrev pub IsPastLimit : ℕ → Option (List ℕ) → Type 0
IsPastLimit limit None = ⊤
IsPastLimit limit (Some bytes) = limit < length bytes

-- ---- between two reads

-- what was held, and what source and station told, as the session began
pub record Opening : Type 0 where
  pub held : SessionState
  pub left : Option (List ℕ)
  pub said : Option (List ℕ)

-- So many bytes were read. What was said is the replies of all whole lines among them, and what is
-- held is like the moment after them.
pub record HasAnswered (c : SessionState) (bytes : List ℕ) (left said_before said : Option (List ℕ))
    (now : Moment) (count : ℕ) : Type 0 where
  pub within : count ≤ length bytes
  pub is_left : left ≡ Some (drop count bytes)
  pub says : Says said_before said (whole_replies c (take count bytes))
  pub alike : AreAlike now (moment_after (moment_before c) (take count bytes))

abbrev pub Answered : SessionState → Option (List ℕ) → Option (List ℕ) → Option (List ℕ)
    → Option (List ℕ) → Moment → ℕ → Type 0
Answered c None left said_before said now count = ⊤
Answered c (Some bytes) left said_before said now count =
    HasAnswered c bytes left said_before said now count

-- So many are all of the source's bytes.
abbrev pub AreAll : Option (List ℕ) → ℕ → Type 0
AreAll None count = ⊤
AreAll (Some bytes) count = count ≡ length bytes

-- ---- within a turn

-- These bytes were taken in: what was said is what they tell, and what is held is like the moment
-- after them.
pub record Advances (said_before said : Option (List ℕ)) (before now : Moment)
    (bytes : List ℕ) : Type 0 where
  pub says : Says said_before said (told_in before bytes)
  pub alike : AreAlike now (moment_after before bytes)

-- what is written for an answer: nothing where there is none
abbrev pub line_to_say : ℕ → Option Reply → List ℕ
line_to_say number None = []
line_to_say number (Some r) = reply_line number (response_of r)
