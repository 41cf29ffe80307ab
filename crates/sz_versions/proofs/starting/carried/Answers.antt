-- Of what was begun some passes were split off for workers, and it is kept of the same executions still.
use Rattle.std.proofs.Common.{false, map, sym, ap, ◌∙◌, subst}
use Rattle.sz_flow.specs.Executions.{execution_of}
use Rattle.sz_versions.specs.Stores.{AreKeptOf, Trail}
use Rattle.sz_versions.proofs.Lending.{keeps-lent}
use Rattle.sz_versions.proofs.starting.carried.Goals as goal

pub returns-clause-kept : goal.returns-clause-kept
returns-clause-kept g c =
    let es = map execution_of c.args.runs.items in
    let runs = ap (λ xs. map execution_of xs) c.deref.ensures.value ∙ c.in_ok-runs.ensures in
    keeps-lent false es c.args.lists.now c.in_ok-run.run'.kept c.hand_out.new.run.kept c.hand_out.ensures.kept
    (subst (AreKeptOf false es c.args.lists.now) (sym (ap (λ (t : Trail). t.kept) c.in_ok-run.ensures))
    (rw runs at c.in_ok-stores.ensures))
