-- The version is held and awaited, and has the input; so its runs are what a refresh starts from.
use Rattle.std.proofs.Common.{◌+◌, ap, sym, ◌∙◌, subst}
use Rattle.std.specs.List.{list_all}
use Rattle.sz_catalogue.specs.Holdings.{Version}
use Rattle.sz_catalogue.specs.Refreshes.{has_input, base_at, has_new_cell, array_refreshed, version_refreshed}
use Rattle.sz_catalogue.specs.Refreshes.{cells_affected}
use Rattle.sz_versions.specs.Runs.{IsSoundVersion, executions_of}
use Rattle.sz_versions.specs.Stores.{IsTrailOf}
use Rattle.sz_versions.proofs.Keeps.{version-sound}
use Rattle.sz_versions.proofs.Refreshes.{can-refresh}
use Rattle.sz_versions.proofs.refreshing.refresh_version.Goals as goal

pub refresh_held-requires-clause-sound : goal.refresh_held-requires-clause-sound
refresh_held-requires-clause-sound g c =
    let cat = c.args.catalogue.now in
    let can = can-refresh cat c.args.version c.args.input c.args.set.now c.requires.judged in
    λ κs lives. subst IsSoundVersion (sym c.version_held-held.ensures)
    (version-sound cat c.args.version c.requires.service.sound.versions can.held)

pub refresh_held-requires-clause-input : goal.refresh_held-requires-clause-input
refresh_held-requires-clause-input g c = λ κs lives.
    ap (λ (v : Version). has_input v c.args.input) c.version_held-held.ensures
    ∙ (can-refresh c.args.catalogue.now c.args.version c.args.input c.args.set.now c.requires.judged).input

pub refresh_held-requires-clause-cells : goal.refresh_held-requires-clause-cells
refresh_held-requires-clause-cells g c =
    let set = c.args.set.now in
    λ κs lives.
    ap (λ (v : Version). list_all (has_new_cell (base_at v c.args.input).array.extent) set)
    c.version_held-held.ensures
    ∙ (can-refresh c.args.catalogue.now c.args.version c.args.input set c.requires.judged).cells

pub refresh_held-requires-clause-old : goal.refresh_held-requires-clause-old
refresh_held-requires-clause-old g c = λ κs lives.
    rw (c.deref-2.ensures.value, c.deref.ensures)
    (c.in_ok-old.ensures.runs ∙ ap executions_of (sym c.version_held-held.ensures))

pub returns-clause-array : goal.returns-clause-array
returns-clause-array g c =
    c.in_ok-made.ensures.array
    ∙ ap (λ (v : Version). array_refreshed v c.args.input c.args.set.now) c.version_held-held.ensures

pub returns-clause-run : goal.returns-clause-run
returns-clause-run g c =
    subst (λ (v : Version). IsTrailOf (version_refreshed c.args.catalogue.now v c.args.input c.args.set.now)
    c.in_ok-made.made.run) c.version_held-held.ensures (c.in_ok-made.ensures.run c.args.catalogue.now)

pub returns-clause-cells : goal.returns-clause-cells
returns-clause-cells g c =
    c.in_ok-made.ensures.cells c.args.catalogue.now
    ∙ ap (λ (v : Version). cells_affected c.args.catalogue.now v c.args.input c.args.set.now)
    c.version_held-held.ensures

pub returns-clause-ticks : goal.returns-clause-ticks
returns-clause-ticks g c =
    c.in_ok-made.ensures.ticks c.args.catalogue.now
    ∙ ap (λ (v : Version). c.args.tally.now + cells_affected c.args.catalogue.now v c.args.input c.args.set.now)
    c.version_held-held.ensures
