-- A log gave each of them, and there is one for each entry.
use Rattle.std.proofs.Common.{◌∙◌}
use Rattle.sz_versions.proofs.Residents.{residents-read, logged-all}
use Rattle.sz_versions.proofs.held.HeldRuns.recalled.Goals as goal

pub recall_each-requires : goal.recall_each-requires
recall_each-requires c = c.requires.each

pub returns-clause-own : goal.returns-clause-own
returns-clause-own c =
    residents-read c.args.catalogue.now c.in_ok-runs.runs.items c.args.stores.items c.in_ok-runs.ensures.own
    c.in_ok-runs.ensures.kept c.requires

pub returns-clause-logged : goal.returns-clause-logged
returns-clause-logged c =
    logged-all c.in_ok-runs.runs.items c.in_ok-runs.ensures.logged ∙ c.in_ok-runs.ensures.kept
