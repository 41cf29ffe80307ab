-- The runs lie within the groups, and each adds the cells to which its indexes are linked.
use Rattle.std.proofs.Common.{◌≡◌, ℕ, List, map, get_or, length, take, sym, ap, ◌∙◌}
use Rattle.std.proofs.Common.{arith}
use Rattle.std.proofs.lemmas.List.{take_all}
use Rattle.std.specs.List.{flat_map}
use Rattle.sz_cells.specs.declared.Run.{Run}
use Rattle.sz_cells.specs.Cells.{Cells, with_those}
use Rattle.sz_cells.specs.Runs.{indexes_of}
use Rattle.sz_core.specs.Links.{is_linked_from}
use Rattle.sz_core.proofs.Groups.{linked-none, linked-both, run-within, indexes-next}
use Rattle.sz_core.proofs.Groups.{with_those-spelled}
use Rattle.sz_core.proofs.index.add_runs.Goals as goal

-- the run of no cell but 0, for a place that is out of range
no_run : Run
no_run = record { first = 0; last = 0 }

pub loop-run-init : goal.loop-run-init
loop-run-init c = sym (linked-none c.args.found.now (map (λ g. g.items) c.args.groups.now) c.requires.spelled)

pub add_run-requires : goal.add_run-requires
unfolding no_run
add_run-requires c =
    let r = run-within 0 (length c.args.groups.now) c.args.runs.now c.loop-run.run-index no_run c.requires.within
    c.loop-run-test.true in
    let groups = map (λ g. g.items) c.args.groups.now in
    let e : c.loop-run.found.extent ≡ c.args.found.now.extent =
    ap (λ (s : Cells). s.extent) c.loop-run.invariant in
    record {
      order = r.0;
      within = r.1;
      links = λ k t leads. rw e (c.requires.links k t leads);
      spelled = rw c.loop-run.invariant
          (with_those-spelled c.args.found.now
          (is_linked_from groups (flat_map indexes_of (take c.loop-run.run-index c.args.runs.now))
          c.args.found.now.extent));
    }

pub loop-run-preserved : goal.loop-run-preserved
unfolding no_run
loop-run-preserved c =
    let groups = map (λ g. g.items) c.args.groups.now in
    let runs = c.args.runs.now in
    let i = c.loop-run.run-index in
    let add : Cells → Cells = λ f. with_those f
    (is_linked_from groups (indexes_of (get_or runs i no_run)) f.extent) in
    c.add_run.ensures ∙ ap add c.loop-run.invariant
    ∙ linked-both c.args.found.now groups (flat_map indexes_of (take i runs))
    (indexes_of (get_or runs i no_run))
    ∙ ap (λ (ks : List ℕ). with_those c.args.found.now (is_linked_from groups ks c.args.found.now.extent))
    (sym (indexes-next runs i no_run c.loop-run-test.true))

pub returns : goal.returns
returns c =
    let groups = map (λ g. g.items) c.args.groups.now in
    let whole : take c.loop-run.run-index c.args.runs.now ≡ c.args.runs.now =
    take_all c.loop-run.run-index c.args.runs.now (omega arith) in
    c.loop-run.invariant
    ∙ ap (λ (l : List Run). with_those c.args.found.now
    (is_linked_from groups (flat_map indexes_of l) c.args.found.now.extent)) whole
