-- A feed behind which asks wait: lines were taken in whose replies are still to be said.
use Rattle.std.specs.Prelude.{◌⊎◌, ℕ, List, [], ◌∷◌, ◌++◌, Option, Result, Err}
use Rattle.sz_outside.specs.Outside.{Says, SaysPart}
use Rattle.sz_catalogue.specs.declared.reply.Reply.{Reply}
use Rattle.sz_catalogue.specs.Responses.{reply_line}
use Rattle.sz_catalogue.specs.Seen.{response_of}
use Rattle.sz_feed.specs.Moments.{Moment, cut_after}
use Rattle.sz_feed.specs.Serving.{Advances, SaysFirst}
use Rattle.sz_commands.specs.Asks.{asks_text}
use Rattle.sz_commands.specs.declared.asking.AskLine.{AskLine}
use Rattle.sz_feed.specs.declared.feed.Halt.{Halt}
use Rattle.sz_feed.specs.declared.feed.Halt.TheVariants as halt
use Rattle.sz_commands.specs.declared.session.Stop.{Stop}
use Rattle.sz_commands.specs.declared.session.Stop.TheVariants as stop

-- why a session stops where a line was not taken
abbrev pub stop_halt : Stop → Halt
stop_halt stop.DiskFault = halt.DiskFault
stop_halt stop.NoMemory = halt.NoMemory

-- the reply lines of some replies to lines
abbrev pub told_text : List AskLine → List Reply → List ℕ
told_text (l ∷ lines) (r ∷ replies) =
    reply_line l.number (response_of r) ++ told_text lines replies
told_text _ _ = []

-- The end of a line was taken in. Once what waits behind it is said too, what is said is what
-- waited before it, and then what the line tells.
abbrev pub Lags : Option (List ℕ) → Option (List ℕ) → Moment → Moment → List AskLine
    → List AskLine → Type 0
Lags said_before said before now waited waiting = (later : Option (List ℕ))
    → Says said later (asks_text now.held waiting)
    → (half : Option (List ℕ)) × Says said_before half (asks_text before.held waited)
    × Advances half later before now (10 ∷ [])

-- nothing was said, or one text, or that and a further one
abbrev pub SaysWhole : Option (List ℕ) → Option (List ℕ) → List ℕ → List ℕ → Type 0
SaysWhole said_before said first further = Says said_before said []
    ⊎ (Says said_before said first ⊎ Says said_before said (first ++ further))

-- where a say failed, a first part of both texts was said, and else whole ones
abbrev pub SaysBy : {U : Type 0} → Result U Halt → Option (List ℕ) → Option (List ℕ) → List ℕ
    → List ℕ → Type 0
SaysBy (Err halt.SayFault) said_before said first further =
    SaysPart said_before said (first ++ further)
SaysBy _ said_before said first further = SaysWhole said_before said first further

-- These bytes were taken in, and the replies of all lines that ended in them are said, but for
-- those of asks that wait; the replies that were said are whole.
pub record Waits (said_before said : Option (List ℕ)) (before now : Moment) (bytes : List ℕ)
    (waiting : List AskLine) : Type 0 where
  pub told : (later : Option (List ℕ)) → Says said later (asks_text now.held waiting)
      → Advances said_before later before now bytes
  pub first : SaysFirst said_before said before.held before.number (cut_after before bytes).whole
