-- The name of a command that is right is one, and nothing refused the array for want of room.
use Rattle.std.proofs.Common.{ap, ◌∙◌}
use Rattle.std.specs.Arc.{arc_value}
use Rattle.sz_spec.specs.Values.{Grid}
use Rattle.sz_script.specs.Names.{is_name}
use Rattle.sz_catalogue.specs.Rules.{has_no_room_for_array}
use Rattle.sz_catalogue.proofs.Counts.{array-room}
use Rattle.sz_catalogue.proofs.Order.{right-array}
use Rattle.sz_catalogue.proofs.catalogue.Catalogue.hold_array.Goals as goal

pub hold-requires-clause-name : goal.hold-requires-clause-name
hold-requires-clause-name c =
    ap is_name c.as_str.ensures ∙ right-array c.args.name c.args.array c.requires.right

pub hold-requires-clause-room : goal.hold-requires-clause-room
hold-requires-clause-room c =
    ap (λ (g : Grid). has_no_room_for_array c.args.self.now g) c.in_ok-owner.ensures
    ∙ array-room c.args.self.now c.args.name c.args.array c.requires.judged
