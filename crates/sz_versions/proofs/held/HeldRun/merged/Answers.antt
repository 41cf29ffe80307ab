-- What is carried of the version is merged, and is its trail still.
use Rattle.std.proofs.Common.{◌≡◌, Bool, map, ap, sym, ◌∙◌, subst}
use Rattle.std.specs.List.{AllZip}
use Rattle.sz_catalogue.specs.Holdings.{Version}
use Rattle.sz_query.proofs.Asked.{on-err}
use Rattle.sz_versions.specs.Residents.{Resident, logged_of, stored_of}
use Rattle.sz_versions.specs.Stores.{Trail}
use Rattle.sz_versions.specs.Merging.{kinds_by, AreMergeable, IsMergedStored}
use Rattle.sz_versions.proofs.Lent.{kept-merged, kept-same, kept-with, lent-own, with_trail}
use Rattle.sz_versions.proofs.MergedKinds.{by-told}
use Rattle.sz_versions.proofs.MergedNodes.{by-runs, by-mergeable, by-merged, stored-merged, trail-unmerged}
use Rattle.sz_versions.proofs.Service.{sound-listed}
use Rattle.sz_versions.proofs.held.HeldRun.merged.Given.{Over}
use Rattle.sz_versions.proofs.held.HeldRun.merged.Goals.{After-as_slice-lists}
use Rattle.sz_versions.proofs.held.HeldRun.merged.Goals as goal

-- the lists are the version's
lists : (g : Over) (c : After-as_slice-lists g) → c.as_slice-lists.result.now ≡ c.args.version.now.lists
lists g c = c.as_slice-lists.ensures ∙ ap (λ (x : Version). x.lists) c.version.view_is

pub merge_run-kinds-requires-clause-listed : goal.merge_run-kinds-requires-clause-listed
merge_run-kinds-requires-clause-listed g c =
    let v = c.args.version.now in
    let t = c.in_ok-run.run' in
    λ κs lives. sound-listed v t.executions c.as_slice-lists.result.now c.requires.sound
    (by-runs c.args.self.now.logged v t (lent-own v c.args.self.now t c.in_ok-run.ensures.run c.requires.own))
    (lists g (goal.at.merge_run-kinds-requires-clause-listed g c).After-as_slice-lists)

pub merge_run-kinds-requires-clause-mergeable : goal.merge_run-kinds-requires-clause-mergeable
merge_run-kinds-requires-clause-mergeable g c =
    let v = c.args.version.now in
    let t = c.in_ok-run.run' in
    λ κs lives.
    subst (λ (a : Bool). AreMergeable a t.executions c.as_slice-lists.result.now t.kept) c.requires.awaited
    (by-mergeable c.args.self.now.logged v t c.as_slice-lists.result.now c.requires.sound
    (lists g (goal.at.merge_run-kinds-requires-clause-mergeable g c).After-as_slice-lists)
    (lent-own v c.args.self.now t c.in_ok-run.ensures.run c.requires.own))

pub returns-in_err-kinds-clause-kept : goal.returns-in_err-kinds-clause-kept
returns-in_err-kinds-clause-kept g c =
    let v = c.args.version.now in
    let own = lent-own v c.args.self.now c.in_ok-run.run' c.in_ok-run.ensures.run c.requires.own in
    kept-merged v c.args.self.now c.lend.new.self c.keep.new.self
    c.in_ok-run.run' c.merge_run-kinds.new.run c.in_ok-run.ensures.run c.in_ok-run.ensures.rest c.keep.ensures
    (trail-unmerged c.args.self.now.logged v c.in_ok-run.run' c.merge_run-kinds.new.run own c.in_err-kinds.ensures.err)

pub returns-in_err-kinds-clause-err : goal.returns-in_err-kinds-clause-err
returns-in_err-kinds-clause-err g c =
    on-err c.from_residual-in_err-kinds.result
    (kept-same c.args.self.now c.lend.new.self c.keep.new.self
    c.merge_run-kinds.new.run c.in_ok-run.ensures.rest c.keep.ensures
    (c.in_err-kinds.ensures.err ∙ c.in_ok-run.ensures.run))

pub returns-clause-kinds : goal.returns-clause-kinds
returns-clause-kinds g c =
    let v = c.args.version.now in
    let r = c.args.self.now in
    c.in_ok-kinds.ensures.kinds
    ∙ by-told r.logged v c.in_ok-run.run' c.as_slice-lists.result.now c.requires.sound c.requires.awaited
    (lists g (goal.at.returns-clause-kinds g c).After-as_slice-lists)
    (lent-own v c.args.self.now c.in_ok-run.run' c.in_ok-run.ensures.run c.requires.own)
    ∙ ap (λ (t : Trail). kinds_by (logged_of (with_trail r t)) v) c.in_ok-run.ensures.run

pub returns-clause-kept : goal.returns-clause-kept
returns-clause-kept g c =
    let v = c.args.version.now in
    kept-merged v c.args.self.now c.lend.new.self c.keep.new.self
    c.in_ok-run.run' c.merge_run-kinds.new.run c.in_ok-run.ensures.run c.in_ok-run.ensures.rest c.keep.ensures
    (by-merged c.args.self.now.logged v c.in_ok-run.run' c.merge_run-kinds.new.run c.as_slice-lists.result.now
    c.requires.awaited (lent-own v c.args.self.now c.in_ok-run.run' c.in_ok-run.ensures.run c.requires.own)
    c.in_ok-kinds.ensures.executions
    c.in_ok-kinds.ensures.merged (lists g (goal.at.returns-clause-kept g c).After-as_slice-lists))

pub returns-clause-ok : goal.returns-clause-ok
returns-clause-ok g c =
    let t = c.in_ok-run.run' in
    let u = c.merge_run-kinds.new.run in
    let r = c.args.self.now in
    let new = kept-with r c.lend.new.self c.keep.new.self u c.in_ok-run.ensures.rest c.keep.ensures in
    subst (λ (x : Resident). AllZip IsMergedStored (map stored_of r.trail.kept) (map stored_of x.trail.kept)) (sym new)
    (subst (λ (x : Trail). AllZip IsMergedStored (map stored_of x.kept) (map stored_of u.kept)) c.in_ok-run.ensures.run
    (stored-merged t.executions c.as_slice-lists.result.now t.kept u.kept c.in_ok-kinds.ensures.merged))
