-- What a line gives: nothing, a refusal, or a command; and what a session does with it.
use Rattle.std.specs.Prelude.{◌≡◌, ℕ, List, true, false, Option, Some, None, Ok, Err}
use Rattle.sz_script.specs.Reading.{reading}
use Rattle.sz_script.specs.Right.{is_right}
use Rattle.sz_catalogue.specs.declared.reply.Reply.{Reply}
use Rattle.sz_commands.specs.States.{SessionState, after_command, after_reading}
use Rattle.sz_catalogue.specs.Seen.{response_of}
use Rattle.sz_commands.specs.Lines.{is_blank}
use Rattle.sz_commands.specs.Asks.{is_ask}
use Rattle.sz_commands.specs.Commands.{traced_for, most_for}
use Rattle.sz_commands.specs.declared.session.Given.{Given}
use Rattle.sz_commands.specs.declared.session.Given.TheVariants as given

-- the line gives this
abbrev pub LineGives : List ℕ → Given → Type 0
LineGives line given.Nothing = is_blank line ≡ true
LineGives line (given.Refused rule) = (is_blank line ≡ false) × (reading line ≡ Err rule)
LineGives line (given.Ask ask) =
    (is_blank line ≡ false) × (reading line ≡ Ok ask) × (is_ask ask ≡ true)
LineGives line (given.Other order) = (is_blank line ≡ false) × (reading line ≡ Ok order)

-- a command has the names and the lists of one that was read
abbrev pub IsRight : Given → Type 0
IsRight (given.Ask ask) = is_right ask ≡ true
IsRight (given.Other order) = is_right order ≡ true
IsRight _ = Unit {0}

-- what a session does with what a line gives, and its reply
abbrev pub Takes : SessionState → Given → SessionState → Option Reply → Type 0
Takes old given.Nothing new None = new ≡ old
Takes old (given.Refused rule) new (Some r) = after_reading old (Err rule) ≡ (new, response_of r)
Takes old (given.Ask ask) new (Some r) = after_command old ask ≡ (new, response_of r)
Takes old (given.Other order) new (Some r) = after_command old order ≡ (new, response_of r)
Takes _ _ _ _ = ⊥

-- how many cells are told as traced for it, at least and at most
abbrev pub traced_for_given : SessionState → Given → ℕ
traced_for_given c (given.Ask ask) = traced_for c ask
traced_for_given c (given.Other order) = traced_for c order
traced_for_given c _ = 0

abbrev pub most_for_given : SessionState → Given → ℕ
most_for_given c (given.Ask ask) = most_for c ask
most_for_given c (given.Other order) = most_for c order
most_for_given c _ = 0
