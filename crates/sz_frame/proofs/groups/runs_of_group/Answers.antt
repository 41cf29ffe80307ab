-- Of a kind each further cell adds its index, and of no kind the first cell is all there is.
use Rattle.std.proofs.Common.{◌≡◌, ◌<◌, length, true, false, sym, ap, ◌∙◌, arith}
use Rattle.sz_frame.proofs.Grouping.{HasRuns, runs-first, runs-more, runs-same, runs-all, runs-alone, kind-together}
use Rattle.sz_frame.proofs.groups.runs_of_group.Goals as goal
use Rattle.sz_frame.proofs.groups.runs_of_group.Goals.{then-is_kind+in_ok-add_run-2, else-is_kind}
use Rattle.sz_frame.proofs.groups.runs_of_group.Goals.{in-Kind+else-loop-next-test, in_default}

pub loop-next-init : goal.loop-next-init
loop-next-init c =
    runs-first c.args.shape c.args.start c.args.kept.now c.args.place c.new-runs.result.items c.add_run.new.runs.items
    c.run_of.result c.requires.place c.requires.cells c.new-runs.ensures.items c.run_of.ensures
    c.in_ok-add_run.ensures.longest c.in_ok-add_run.ensures.begun c.in_ok-add_run.ensures.added

pub loop-next-preserved : goal.loop-next-preserved
loop-next-preserved c =
    let kept = c.args.kept.now in
    let order : c.args.place < c.loop-next.next = omega (arith, c.loop-next.auto.next) in
    elim c.if-is_kind.branch [
      | then-is_kind+in_ok-add_run-2 w ↦
          rw w.runs-is (runs-more c.args.shape c.args.start kept c.args.place c.loop-next.next c.loop-next.runs.items
          w.add_run-then-is_kind.new.runs.items w.run_of-then-is_kind.result order c.loop-next-test.true
          c.requires.cells c.loop-next.invariant
          (kind-together _ c.in-Kind.kind _ true c.in-Kind.is (sym w.if-is_kind.true ∙ c.is_kind.ensures))
          w.run_of-then-is_kind.ensures w.in_ok-add_run-2.ensures.longest w.in_ok-add_run-2.ensures.begun
          w.in_ok-add_run-2.ensures.added)
      | else-is_kind w ↦
          rw w.runs-is (runs-same c.args.shape c.args.start kept c.args.place c.loop-next.next c.loop-next.runs.items
          c.loop-next.invariant
          (kind-together _ c.in-Kind.kind _ false c.in-Kind.is (sym w.if-is_kind.false ∙ c.is_kind.ensures)))
    ]

pub returns-clause-covered : goal.returns-clause-covered
returns-clause-covered c = λ k.
    let kept = c.args.kept.now in
    elim c.match-kept-place.branch [
      | in-Kind+else-loop-next-test w ↦
          let all : w.loop-next.next ≡ length kept = omega (arith, w.loop-next.auto.next-end, w.loop-next-test.false) in
          rw w.runs-is (w.loop-next.invariant.covered k
          ∙ runs-all c.args.start kept c.args.place w.loop-next.next k all c.requires.leads c.requires.place)
      | in_default w ↦
          rw w.runs-is (runs-alone c.args.shape c.args.start kept c.args.place k c.add_run.new.runs.items
          (runs-first c.args.shape c.args.start kept c.args.place c.new-runs.result.items c.add_run.new.runs.items
          c.run_of.result c.requires.place c.requires.cells c.new-runs.ensures.items c.run_of.ensures
          c.in_ok-add_run.ensures.longest c.in_ok-add_run.ensures.begun c.in_ok-add_run.ensures.added)
          w.in_default.not-Kind)
    ]
