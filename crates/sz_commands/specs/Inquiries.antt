-- What is asked along a path of the version of a number that is held: by what is kept of it, or by
-- the stores that the log gave of it.
use Rattle.std.specs.Prelude.{ℕ, List}
use Rattle.sz_spec.specs.declared.modes.Dir.{Dir}
use Rattle.sz_spec.specs.Paths.{Step}
use Rattle.sz_script.specs.declared.command.NamedCell.{NamedCell}
use Rattle.sz_catalogue.specs.Rules.{version_of}
use Rattle.sz_commands.specs.States.{SessionState, logged_of}
use Rattle.sz_versions.specs.Searches.{Search}
use Rattle.sz_versions.specs.Inquiries.{IsInquiryBy}

abbrev pub IsInquiryOf : SessionState → ℕ → Dir → List Step → List NamedCell → Search → Type 0
IsInquiryOf c n dir path named s =
    IsInquiryBy (logged_of c n) (version_of c.held n) dir path named s
