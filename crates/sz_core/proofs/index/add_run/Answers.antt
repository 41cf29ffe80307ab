-- The group of each index of the run is added, and its indexes are of the shape.
use Rattle.std.proofs.Common.{◌≡◌, ◌+◌, ◌-◌, [], map, get_or, sym, ap, ◌∙◌}
use Rattle.std.proofs.Common.{arith}
use Rattle.std.specs.List.{range_with_len}
use Rattle.sz_cells.specs.Cells.{Cells}
use Rattle.sz_core.specs.Links.{is_linked_from}
use Rattle.sz_core.proofs.Groups.{linked-none, run-step, seen-at, with_those-spelled}
use Rattle.sz_core.proofs.index.add_run.Goals as goal

pub loop-index-init : goal.loop-index-init
loop-index-init c =
    let none : c.args.run.first - c.args.run.first ≡ 0 = omega arith in
    rw none (sym (linked-none c.args.found.now (map (λ g. g.items) c.args.groups.now) c.requires.spelled))

pub add_group-requires : goal.add_group-requires
add_group-requires c =
    let e : c.loop-index.found.extent ≡ c.args.found.now.extent =
    ap (λ (s : Cells). s.extent) c.loop-index.invariant in
    let here : c.deref.result.now ≡ get_or (map (λ g. g.items) c.args.groups.now) c.loop-index.index [] =
    c.deref.ensures.value ∙ seen-at (λ g. g.items) c.args.groups.now c.loop-index.index
    c.index-groups-index.result (omega arith) c.index-groups-index.is in
    record {
      links = λ t among. rw e (c.requires.links c.loop-index.index t (rw here at among));
      spelled = rw c.loop-index.invariant
          (with_those-spelled c.args.found.now
          (is_linked_from (map (λ g. g.items) c.args.groups.now)
          (range_with_len c.args.run.first (c.loop-index.index - c.args.run.first)) c.args.found.now.extent));
    }

pub loop-index-preserved : goal.loop-index-preserved
loop-index-preserved c =
    let here : c.deref.result.now ≡ get_or (map (λ g. g.items) c.args.groups.now) c.loop-index.index [] =
    c.deref.ensures.value ∙ seen-at (λ g. g.items) c.args.groups.now c.loop-index.index
    c.index-groups-index.result (omega arith) c.index-groups-index.is in
    run-step c.args.found.now c.loop-index.found c.add_group.new.found (map (λ g. g.items) c.args.groups.now)
    c.args.run.first c.loop-index.index c.deref.result.now
    (omega arith) c.loop-index.invariant here c.add_group.ensures

pub returns : goal.returns
returns c =
    let n : c.loop-index.index - c.args.run.first ≡ c.args.run.last - c.args.run.first + 1 =
    omega (arith, c.requires.order) in
    rw (← n) c.loop-index.invariant
