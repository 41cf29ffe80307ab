-- The text was taken in whole and ended, and the replies were gathered behind nothing.
use Rattle.std.proofs.Common.{Some}
use Rattle.sz_commands.specs.States.{nothing_held}
use Rattle.sz_commands.specs.Transcript.{transcript}
use Rattle.sz_session.proofs.Loads.{whole-said, said-behind_nothing}
use Rattle.sz_session.proofs.gathering.told_by.Goals as goal

pub returns : goal.returns
returns g c =
    let first = c.new-replies.result.bytes.items in
    let taken = c.take_chunk.new.station.bytes.items in
    let all = c.end_input.new.station.bytes.items in
    said-behind_nothing first all (transcript nothing_held c.args.text.now) c.new-replies.ensures
    (whole-said c.args.text.now (Some first) (Some taken) (Some all) c.args.feed c.take_chunk.new.self
    c.requires c.in_ok-take_chunk.ensures.chunk c.in_ok-end_input.ensures.says)
