-- There is one that is carried of each version that is held.
use Rattle.std.proofs.Common.{Some, sym, ap, ◌∙◌}
use Rattle.sz_catalogue.specs.Holdings.{Version}
use Rattle.sz_versions.proofs.Keeps.{version-found}
use Rattle.sz_versions.proofs.Residents.{found-under}
use Rattle.sz_versions.proofs.held.HeldRuns.found.Goals as goal

pub unreachable-requires : goal.unreachable-requires
unreachable-requires c =
    found-under c.args.catalogue.now c.args.self.now c.args.version c.requires.service.residents c.requires.held
    (rw c.in_default.is at c.place_of.ensures.none)

pub returns-clause-version : goal.returns-clause-version
returns-clause-version c =
    ap (λ (v : Version). Some v) c.version_held-held.ensures
    ∙ sym (version-found c.args.catalogue.now c.args.version c.requires.held)
