-- What a session holds, and what a command does to it.
--
-- Beside its catalogue a session of a log has, of each version that the log gave, the stores that
-- were read of it. Such a version is answered by what these stand for, and any other by the
-- composed relation; and so are the kinds of its lineage told. Of a log that is sound both are the
-- same. What stands of what is kept of the nodes of each version is seen too, so that what says
-- that a session stays says it of that as well (`Carrying` says what a line does to it).
use Rattle.std.specs.Prelude.{ℕ, List, [], Option, Some, None, Result, Ok, Err}
use Rattle.sz_cells.specs.Cells.{Cells}
use Rattle.sz_spec.specs.declared.modes.Dir.{Dir}
use Rattle.sz_spec.specs.Paths.{Step}
use Rattle.sz_store.specs.Kept.{NodeLineage}
use Rattle.sz_script.specs.Reading.{reading}
use Rattle.sz_script.specs.declared.command.NamedCell.{NamedCell}
use Rattle.sz_script.specs.declared.command.Command.{Command}
use Rattle.sz_script.specs.declared.command.Command.TheVariants as command
use Rattle.sz_script.specs.declared.refusal.Refusal.{Refusal}
use Rattle.sz_catalogue.specs.Holdings.{Version, Holdings, no_holdings}
use Rattle.sz_catalogue.specs.Rules.{version_of, judged}
use Rattle.sz_catalogue.specs.Changes as changes
use Rattle.sz_catalogue.specs.Responses.{Response, cells, merged, refused}
use Rattle.sz_recover.specs.Logs.{Kept}
use Rattle.sz_versions.specs.Recalled.{cells_recalled}
use Rattle.sz_versions.specs.Merging.{kinds_by}
use Rattle.sz_versions.specs.Residents.{Stored, logged_under}

-- where the first closed gate of a log stands, and the log's format
pub record LogPlace : Type 0 where
  pub gate : ℕ
  pub format : ℕ

-- the catalogue; the stores of the versions that the log gave; of each version, by its number, what
-- stands of what is kept of its nodes: all but the passes of shelves; and, of a session of a log,
-- where that ends and its format
pub record SessionState : Type 0 where
  pub held : Holdings
  pub logged : List Kept
  pub stored : List (ℕ × List Stored)
  pub end : Option LogPlace

-- what a session of no log holds
abbrev pub state_of : Holdings → SessionState
state_of c = record { held = c; logged = []; stored = []; end = None }

-- what is held where nothing is
abbrev pub nothing_held : SessionState
nothing_held = state_of no_holdings

-- the same but for what is kept of nodes, and the log's end and format: of neither does a reply
-- speak
abbrev pub apart : SessionState → SessionState
apart s = record s { stored = []; end = None }

-- ---- what is answered

-- the stores that the log gave of a version, by its number
abbrev pub logged_of : SessionState → ℕ → Option (List (Option NodeLineage))
logged_of s n = logged_under n s.logged

-- the cells of an ask: by the stores that the log gave, and else by the composed relation
abbrev pub cells_by : Option (List (Option NodeLineage)) → Version → Dir → List Step
    → List NamedCell → Cells
cells_by None v dir path named = changes.cells_answered v dir path named
cells_by (Some stores) v dir path named = cells_recalled v stores dir path named

abbrev pub cells_told : SessionState → ℕ → Dir → List Step → List NamedCell → Cells
cells_told s n dir path named =
    cells_by (logged_of s n) (version_of s.held n) dir path named

-- ---- commands

-- a catalogue that is changed, with the reply
abbrev pub changed : SessionState → Holdings × Response → SessionState × Response
changed s r = (record s { held = r.0 }, r.1)

-- what a command that no rule refuses changes, and its reply
abbrev pub accepted : SessionState → Command → SessionState × Response
accepted s (command.Ask n dir path named) = (s, cells (cells_told s n dir path named))
accepted s (command.Merged n) =
    (s, merged n (kinds_by (logged_of s n) (version_of s.held n)))
accepted s order = changed s (changes.accepted s.held order)

-- a command that a rule refuses changes nothing
abbrev pub after_judging : SessionState → Command → Option Refusal → SessionState × Response
after_judging s command None = accepted s command
after_judging s command (Some rule) = (s, refused rule)

abbrev pub after_command : SessionState → Command → SessionState × Response
after_command s command = after_judging s command (judged s.held command)

-- and so does a line that is read as no command
abbrev pub after_reading : SessionState → Result Command Refusal → SessionState × Response
after_reading s (Err rule) = (s, refused rule)
after_reading s (Ok command) = after_command s command

-- One line: refused where it is read as no command or a rule refuses the command, and else what the
-- command changes and replies.
abbrev pub after_line : SessionState → List ℕ → SessionState × Response
after_line s line = after_reading s (reading line)
