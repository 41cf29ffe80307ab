-- The bytes that are kept stand for those that came.
use Rattle.sz_commands.specs.States.{apart}
use Rattle.sz_feed.proofs.Turns.{advances-kept}
use Rattle.sz_feed.proofs.feed.Feed.extend.Goals as goal

pub returns-clause-takes : goal.returns-clause-takes
returns-clause-takes c =
    let alike = rw c.deref.ensures.value at c.bytes_to_keep-kept.ensures.alike in
    λ said. rw (← c.self.view_is, c.in_ok-extend_from_slice.ensures.items)
    (advances-kept said (record {
      held = apart c.self.inside.session;
      pending = c.self.inside.pending.items;
      number = c.self.inside.number;
      end = c.self.inside.session.end;
    })
    c.args.bytes.now c.bytes_to_keep-kept.result.now c.requires alike)
