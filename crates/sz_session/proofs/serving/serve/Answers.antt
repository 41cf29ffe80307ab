-- What the job owes is owed for the words that asked for it; for words that ask for none nothing was done.
use Rattle.std.proofs.Common.{ap, ◌∙◌}
use Rattle.std.specs.Prelude.{Err}
use Rattle.sz_words.specs.declared.WordsFault.{WordsFault}
use Rattle.sz_session.proofs.Modes.{refused-serves}
use Rattle.sz_session.proofs.serving.serve.Goals as goal

pub returns-in-Err : goal.returns-in-Err
returns-in-Err g c =
    let x = c.args.station.now in
    let owed = refused-serves g.S.Source g.T.Station _ c.in-Err.fault _ c.args.source.now x (g.met.T.Station.only_now x)
    (g.met.T.Station.counts_now x) c.status_of_words.ensures
    (λ usage. c.read_words.ensures.usage (c.in-Err.is ∙ ap (λ (f : WordsFault). Err f) usage)) in
    record {
      refused = owed.refused;
      untouched = owed.untouched;
      unread = owed.unread;
      play = owed.play;
      load = owed.load;
      init = owed.init;
      check = owed.check;
      upgrade = owed.upgrade;
      run = owed.run;
    }
