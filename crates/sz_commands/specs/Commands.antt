-- What a line does to a session: its reply, and how many cells are traced for it.
use Rattle.std.specs.Prelude.{◌≡◌, ℕ, List, true, false, if◌then◌else◌, Option, Some, None}
use Rattle.std.specs.Prelude.{Result, Ok, Err}
use Rattle.sz_script.specs.declared.command.Command.{Command}
use Rattle.sz_script.specs.declared.command.Command.TheVariants as command
use Rattle.sz_script.specs.declared.refusal.Refusal.{Refusal}
use Rattle.sz_script.specs.Reading.{reading}
use Rattle.sz_catalogue.specs.declared.reply.Reply.{Reply}
use Rattle.sz_catalogue.specs.Rules.{version_of, judged}
use Rattle.sz_catalogue.specs.Changes.{traced}
use Rattle.sz_catalogue.specs.Refreshes.{cells_affected}
use Rattle.sz_catalogue.specs.Seen.{response_of}
use Rattle.sz_commands.specs.Lines.{is_blank}
use Rattle.sz_commands.specs.States.{SessionState, after_line}
use Rattle.sz_versions.specs.Efforts.{most_traced}

-- the reply to a line: none to a blank one, which changes nothing, and else that of what it orders
abbrev pub Responds : SessionState → List ℕ → SessionState → Option Reply → Type 0
Responds old line new None = (is_blank line ≡ true) × (new ≡ old)
Responds old line new (Some r) =
    (is_blank line ≡ false) × (after_line old line ≡ (new, response_of r))

-- how many cells are told as traced for a command at least: for an ask or an explain the outputs of
-- the nodes of its path whose way is black box, and for any other none
abbrev pub traced_along : SessionState → Command → ℕ
traced_along c (command.Ask n dir path named) = traced (version_of c.held n) dir path
traced_along c (command.Explain n dir path named) = traced (version_of c.held n) dir path
traced_along c (command.Refresh n i set) = cells_affected c.held (version_of c.held n) i set
traced_along c _ = 0

-- and at most
abbrev pub most_along : SessionState → Command → ℕ
most_along c (command.Ask n dir path named) = most_traced (version_of c.held n) dir path
most_along c (command.Explain n dir path named) = most_traced (version_of c.held n) dir path
most_along c (command.Refresh n i set) = cells_affected c.held (version_of c.held n) i set
most_along c _ = 0

-- none for a command that a rule refuses
abbrev pub traced_if : Option Refusal → ℕ → ℕ
traced_if None cells = cells
traced_if (Some rule) cells = 0

abbrev pub traced_for : SessionState → Command → ℕ
traced_for c given = traced_if (judged c.held given) (traced_along c given)

-- and so does a line that is read as no command, and a blank one
abbrev pub traced_for_reading : SessionState → Result Command Refusal → ℕ
traced_for_reading c (Err rule) = 0
traced_for_reading c (Ok given) = traced_for c given

abbrev pub traced_for_line : SessionState → List ℕ → ℕ
traced_for_line c line = if is_blank line then 0 else traced_for_reading c (reading line)

-- and at most
abbrev pub most_for : SessionState → Command → ℕ
most_for c given = traced_if (judged c.held given) (most_along c given)

abbrev pub most_for_reading : SessionState → Result Command Refusal → ℕ
most_for_reading c (Err rule) = 0
most_for_reading c (Ok given) = most_for c given

abbrev pub most_for_line : SessionState → List ℕ → ℕ
most_for_line c line = if is_blank line then 0 else most_for_reading c (reading line)
