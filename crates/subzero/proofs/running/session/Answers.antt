-- What the command line gives is what the words ask for; where it gives none, nothing was done.
use Rattle.std.proofs.Common.{◌≡◌, List, Ok, None, refl, sym, ap, ◌∙◌, subst, inr}
use Rattle.std.specs.Prelude.{Option, Result, map, string_bytes}
use Rattle.std.specs.declared.alloc.Global.{Global}
use Rattle.std.specs.declared.string.String.{String}
use Rattle.std.specs.declared.io.Error.{Error}
use Rattle.sz_words.specs.Job.{job_of}
use Rattle.sz_words.specs.declared.Job.{Job}
use Rattle.sz_session.specs.Modes.{Serves}
use Rattle.sz_session.proofs.Modes.{idle-serves, none-not_asked}
use Rattle.sz_session.proofs.Statuses.{usage-refused}
use Rattle.subzero.specs.Words.{Args, words_in, job_asked, AreOther}
use Rattle.subzero.proofs.running.session.Goals as goal

-- what the words ask for is what the command line asks for
job-given : (r : Result Args Error) (args : Args) (words : List (String Global)) → r ≡ Ok args → words ≡ words_in args
    → job_of (map string_bytes words) ≡ job_asked r
job-given r args words is same =
    ap (λ (ws : List (String Global)). job_of (map string_bytes ws)) same
    ∙ sym (ap (λ (x : Result Args Error). job_asked x) is)

-- and where they ask for none the command line asks for none
other-given : (r : Result Args Error) (args : Args) (words : List (String Global)) → r ≡ Ok args → words ≡ words_in args
    → job_of (map string_bytes words) ≡ None → AreOther r
other-given r args words is same none =
    subst (λ (x : Result Args Error). AreOther x) (sym is)
    (sym (ap (λ (ws : List (String Global)). job_of (map string_bytes ws)) same) ∙ none)

pub returns : goal.returns
returns g c =
    let owed : Serves g.S.Source g.T.Station _ c.serve.result c.args.source.now c.serve.new.source c.args.station.now
    c.serve.new.station = record {
      refused = c.serve.ensures.refused;
      untouched = c.serve.ensures.untouched;
      unread = c.serve.ensures.unread;
      play = c.serve.ensures.play;
      load = c.serve.ensures.load;
      init = c.serve.ensures.init;
      check = c.serve.ensures.check;
      upgrade = c.serve.ensures.upgrade;
      run = c.serve.ensures.run;
    } in
    let Owed = λ (o : Option Job). Serves g.S.Source g.T.Station o c.serve.result c.args.source.now c.serve.new.source
    c.args.station.now c.serve.new.station in
    let words = c.deref.ensures.value ∙ c.in-Ok-words_of.ensures in
    record {
      serves = subst Owed (job-given _ _ _ c.in-Ok.is words) owed;
      usage = λ is. other-given _ _ _ c.in-Ok.is words
          (usage-refused g.S.Source g.T.Station _ _ _ _ _ _ owed is);
    }

pub returns-in-Err-clause-serves : goal.returns-in-Err-clause-serves
returns-in-Err-clause-serves g c =
    let x = c.args.station.now in
    let none : job_asked c.args.args ≡ None = ap (λ (r : Result Args Error). job_asked r) c.in-Err.is in
    idle-serves g.S.Source g.T.Station (job_asked c.args.args) _ c.args.source.now x (g.met.T.Station.only_now x)
    (g.met.T.Station.counts_now x) c.status_of_fault.ensures.either
    (λ m asked. absurd (none-not_asked (job_asked c.args.args) m none asked))

pub returns-in_default-clause-serves : goal.returns-in_default-clause-serves
returns-in_default-clause-serves g c =
    let x = c.args.station.now in
    idle-serves g.S.Source g.T.Station (job_asked c.args.args) _ c.args.source.now x (g.met.T.Station.only_now x)
    (g.met.T.Station.counts_now x) (inr refl) (λ m asked. refl)

pub returns-in_default-new-clause-serves : goal.returns-in_default-new-clause-serves
returns-in_default-new-clause-serves g c =
    let x = c.args.station.now in
    idle-serves g.S.Source g.T.Station (job_asked c.args.args) _ c.args.source.now x (g.met.T.Station.only_now x)
    (g.met.T.Station.counts_now x) (inr refl) (λ m asked. refl)
