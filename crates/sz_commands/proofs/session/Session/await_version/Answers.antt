-- A version that was awaited stays as it is, and of any other what is carried of it is made whole.
use Rattle.sz_commands.proofs.Seen.{is-held}
use Rattle.sz_commands.proofs.session.Session.await_version.Goals as goal

pub is_awaited-requires : goal.is_awaited-requires
is_awaited-requires g c = is-held c.args.self.now.held c.args.version c.requires.judged

pub whole_run-requires-clause-held : goal.whole_run-requires-clause-held
whole_run-requires-clause-held g c = λ κs lives. is-held c.args.self.now.held c.args.version c.requires.judged
