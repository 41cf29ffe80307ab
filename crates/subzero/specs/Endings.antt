-- How the program ends: the line of each status of a session on standard error. Its exit number is
-- the status's own.
use Rattle.std.specs.Prelude.{ℕ, List, [], ◌∷◌, ◌++◌, codes, Option, Some, None}
use Rattle.std.specs.Fmt.{decimal}
use Rattle.sz_session.specs.declared.serving.Status.{Status}
use Rattle.sz_session.specs.declared.serving.Status.TheVariants.{Done, Usage, ReadFault, SayFault}
use Rattle.sz_session.specs.declared.serving.Status.TheVariants.{DiskFault, NotALog, AlreadyALog}
use Rattle.sz_session.specs.declared.serving.Status.TheVariants.{BadLog, NoMemory, InputLimit}
use Rattle.subzero.specs.declared.ending.ErrorLine.{ErrorLine}

-- The line of a status on standard error, without its newline. Done has none.
abbrev pub error_line : Status → List ℕ
error_line Done = []
error_line Usage =
    codes "usage: subzero MODE [PLACE] [--workers N] [--askers N] [--seed N] [--side N]"
error_line ReadFault = codes "subzero: reading the session failed"
error_line SayFault = codes "subzero: writing a reply failed"
error_line DiskFault = codes "subzero: the log's file failed"
error_line NotALog = codes "subzero: not a log"
error_line AlreadyALog = codes "subzero: already a log"
error_line (BadLog at) = codes "subzero: bad log at " ++ decimal at
error_line NoMemory = codes "subzero: out of memory"
error_line InputLimit = codes "subzero: the session is too long"

-- what is printed of a line: its text, and behind a blank the place that it tells
abbrev pub place_text : Option ℕ → List ℕ
place_text None = []
place_text (Some place) = 32 ∷ decimal place

abbrev pub line_text : ErrorLine → List ℕ
line_text line = line.text.now ++ place_text line.place
