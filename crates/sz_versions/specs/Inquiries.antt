-- What is asked along a path of a version: by what it carries, or by the stores that a log gave of
-- it.
use Rattle.std.specs.Prelude.{◌≡◌, List, Option, Some, None, true}
use Rattle.sz_spec.specs.declared.modes.Dir.{Dir}
use Rattle.sz_spec.specs.Paths.{Step}
use Rattle.sz_store.specs.Kept.{NodeLineage}
use Rattle.sz_script.specs.declared.command.NamedCell.{NamedCell}
use Rattle.sz_catalogue.specs.Holdings.{Version}
use Rattle.sz_versions.specs.Searches.{Search, IsSearchOf}
use Rattle.sz_versions.specs.Recalled.{IsRecallOf}

-- The search is that of a path of a version, by the stores that the log gave of it, where it gave
-- some: then the version is awaited.
abbrev pub IsInquiryBy : Option (List (Option NodeLineage)) → Version → Dir → List Step
    → List NamedCell → Search → Type 0
IsInquiryBy None v dir path named s = IsSearchOf v dir path named s
IsInquiryBy (Some stores) v dir path named s =
    (v.awaited ≡ true) × IsRecallOf v stores dir path named s
