-- A session that goes on beside its log: what a stop finds while its lines are answered.
--
-- Of each line the log is written before its reply is said. So a stop finds the replies of so many
-- lines said whole, and a part of the next one's; and the log holds what is durable behind those
-- lines, or behind the next one too. It does so where some of that line's reply is said.
use Rattle.std.specs.Prelude.{◌≡◌, ◌⊎◌, ℕ, ◌+◌, ◌≤◌, List, [], length, take, drop}
use Rattle.std.specs.Prelude.{Option, Some, None, ⊤}
use Rattle.sz_outside.specs.Outside.{Says}
use Rattle.sz_outside.specs.declared.stations.Station.{Ghosts}
use Rattle.sz_catalogue.specs.Holdings.{Holdings}
use Rattle.sz_recover.specs.Logs.{Kept, IsWellMade}
use Rattle.sz_recover.specs.Growing.{durable}
use Rattle.sz_commands.specs.Lines.{last_line, lines_of}
use Rattle.sz_commands.specs.States.{SessionState, LogPlace}
use Rattle.sz_commands.specs.Transcript.{replies_to, after_lines}
use Rattle.sz_feed.specs.Moments.{Moment, cut_after}
use Rattle.sz_commands.specs.Logged.{IsLeft, HasLog, GoesOn}

-- something is claimed of a value where there is one
abbrev pub IfSome : {A : Type 0} → Option A → (A → Type 0) → Type 0
IfSome None Claim = ⊤
IfSome (Some a) Claim = Claim a

-- ---- what a stop finds

-- What a stop finds between some lines, whose replies are said, and more of them: of all replies so
-- many bytes are said, behind what was said before. The log, which kept these stores when s was
-- held, holds what is durable behind the first lines, if nothing more is said, or behind more.
pub record FoundBetween (kept : List Kept) (s : SessionState) (n : ℕ) (some more : List (List ℕ))
    (said_before : Option (List ℕ)) (image found : List ℕ) : Type 0 where
  pub bytes : ℕ
  pub whole : length (replies_to s n some) ≤ bytes
  pub part : bytes ≤ length (replies_to s n more)
  pub said : Says said_before (Some found) (take bytes (replies_to s n more))
  pub holds : ((bytes ≡ length (replies_to s n some))
      × IsLeft s.held kept image (after_lines s some).held)
      ⊎ IsLeft s.held kept image (after_lines s more).held

-- What a stop finds while these lines are answered from s on, the first of which has this number:
-- it is between the first so many of them and one more.
pub record FoundAt (kept : List Kept) (s : SessionState) (n : ℕ) (lines : List (List ℕ))
    (said_before : Option (List ℕ)) (image found : List ℕ) : Type 0 where
  pub many : ℕ
  pub within : many ≤ length lines
  pub between : FoundBetween kept s n (take many lines) (take (many + 1) lines) said_before image
      found

-- How time passes in a call, as in `Passes`, where what a stop since its start could have left of
-- the disk and of what was said is told together.
pub record PassesAmong (before now : ℕ) (past since : ℕ → List ℕ → List ℕ → Type 0)
    (Among : List ℕ → List ℕ → Type 0) : Type 0 where
  pub later : before ≤ now
  pub joined : (t : ℕ) (image said : List ℕ) → t ≤ before → since t image said
      → past t image said ⊎ since before image said
  pub kept : (t : ℕ) (image said : List ℕ) → t ≤ before → past t image said → since t image said
  pub earlier : (t : ℕ) (image said : List ℕ) → t ≤ before → since before image said
      → since t image said
  pub within : (image said : List ℕ) → since before image said → Among image said

-- So time passed from an old station to a new one, while these lines were answered by the session
-- of a log that ended at a place; whatever stores the log had kept.
abbrev pub FindsLines : {X : Type 0} → Ghosts X → LogPlace → SessionState → ℕ → List (List ℕ) → X
    → X
    → Type 0
FindsLines T at s n lines old new = IfSome (T.disk old) (λ disk. (kept : List Kept)
    → IsWellMade disk at.gate at.format (durable s.held) kept
    → PassesAmong (T.moment old) (T.moment new) (T.left_since old) (T.left_since new)
    (FoundAt kept s n lines (T.said old)))

-- ---- a feed beside its log

-- of a session of a log, the station has it
abbrev pub IsBeside : {X : Type 0} → Ghosts X → Moment → X → Type 0
IsBeside T m x = HasLog T m.held.held m.end x

-- From one moment to another the log went on beside what is held; a session of no log stays one.
abbrev pub GoesBeside : {X : Type 0} → Ghosts X → Holdings → Option LogPlace → Holdings
    → Option LogPlace
    → X → X → Type 0
GoesBeside T c None d None old new = ⊤
GoesBeside T c None d (Some next) old new = ⊥
GoesBeside T c (Some at) d None old new = ⊥
GoesBeside T c (Some at) d (Some next) old new = GoesOn T c at d next old new

abbrev pub StaysBeside : {X : Type 0} → Ghosts X → Moment → Moment → X → X → Type 0
StaysBeside T m n old new = GoesBeside T m.held.held m.end n.held.held n.end old new

-- the lines that end in these bytes were answered by the session of a log
abbrev pub FindsIn : {X : Type 0} → Ghosts X → Moment → List ℕ → X → X → Type 0
FindsIn T m bytes old new = IfSome m.end
    (λ at. FindsLines T at m.held m.number (cut_after m bytes).whole old new)

-- and so was the line that has not ended, where it has bytes
abbrev pub FindsAtEnd : {X : Type 0} → Ghosts X → Moment → X → X → Type 0
FindsAtEnd T m old new = IfSome m.end
    (λ at. FindsLines T at m.held m.number (last_line m.pending) old new)

-- ---- a source

-- Where a source tells its bytes, lines among those from a place on were answered.
abbrev pub FindsRest : {X : Type 0} → Ghosts X → Moment → Option (List ℕ) → ℕ → X → X → Type 0
FindsRest T m left total old new = IfSome left (λ bytes. FindsIn T m (drop total bytes) old new)

-- just the lines that end in so many of them
abbrev pub FindsNext : {X : Type 0} → Ghosts X → Moment → Option (List ℕ) → ℕ → ℕ → X → X → Type 0
FindsNext T m left total count old new =
    IfSome left (λ bytes. FindsIn T m (take count (drop total bytes)) old new)

-- all lines of its bytes, from what was held as the session of a log began
abbrev pub FindsAll : {X : Type 0} → Ghosts X → SessionState → Option LogPlace → Option (List ℕ) → X
    → X
    → Type 0
FindsAll T s end left old new = IfSome left (λ bytes. IfSome end
    (λ at. FindsLines T at s 1 (lines_of bytes) old new))

-- Where the source tells its bytes, the log went on from what it held to what is durable behind all
-- of their lines, and no write is pending.
abbrev pub StandsBehind : {X : Type 0} → Ghosts X → SessionState → Option LogPlace → Option (List ℕ)
    → X
    → X
    → Type 0
StandsBehind T s end left old new = IfSome left (λ bytes. IfSome end (λ at.
    (next : LogPlace) × GoesOn T s.held at (after_lines s (lines_of bytes)).held next old new))

-- what is held as a log is gone on from: the catalogue that its groups make, and the stores that
-- they give
abbrev pub state_of_log : Holdings → List Kept → SessionState
state_of_log c kept = record { held = c; logged = kept; stored = []; end = None }
