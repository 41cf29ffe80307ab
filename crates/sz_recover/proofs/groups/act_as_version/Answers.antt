-- What was read can be added: it is seen as it was read.
use Rattle.std.proofs.Common.{ap, ◌∙◌}
use Rattle.sz_catalogue.specs.Holdings.{output_cells}
use Rattle.sz_catalogue.specs.Rules.{has_room}
use Rattle.sz_recover.proofs.groups.act_as_version.Goals as goal

pub add_version-requires-clause-room : goal.add_version-requires-clause-room
add_version-requires-clause-room g c =
    ap (λ t. has_room c.args.catalogue.now (output_cells t.version)) c.taken.view_is
    ∙ c.in_ok-taken.ensures.added.room
