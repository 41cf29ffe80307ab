-- The tables of the inputs are those behind the output's.
use Rattle.std.proofs.Common.{◌≡◌, ◌∙◌, [], ap}
use Rattle.std.proofs.lemmas.List.Elements.{All-cons, All-head, All-tail}
use Rattle.sz_tables.specs.Tables.{SetsByNumber}
use Rattle.sz_tables.proofs.room.make_room.Goals as goal

pub returns-in_err-reserve-clause-none : goal.returns-in_err-reserve-clause-none
returns-in_err-reserve-clause-none c =
    let bare = λ (t : SetsByNumber). t.sets ≡ [] in
    All-cons bare c.reserve.new.self c.args.tables.now
    (ap (λ (t : SetsByNumber). t.sets) c.reserve.ensures.kept
    ∙ All-head bare c.args.outs.now c.args.tables.now c.requires.none)
    (All-tail bare c.args.outs.now c.args.tables.now c.requires.none)

pub make_room_in_each-requires : goal.make_room_in_each-requires
make_room_in_each-requires c = record {
  none = All-tail (λ (t : SetsByNumber). t.sets ≡ []) c.args.outs.now c.args.tables.now c.requires.none;
}
