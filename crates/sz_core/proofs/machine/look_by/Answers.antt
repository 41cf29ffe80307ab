-- The next step is one that the ask can take, and the shelf gives its image.
use Rattle.std.proofs.Common.{◌≡◌, ◌+◌, Bool, set, sym, ap}
use Rattle.std.specs.Prelude.{if◌then◌else◌}
use Rattle.std.proofs.Common.{◌∙◌, arith, Some}
use Rattle.std.proofs.lemmas.List.{set-get_or}
use Rattle.std.proofs.lemmas.Option.{slice_get_within}
use Rattle.sz_cells.specs.Cells.{Cells}
use Rattle.sz_spec.specs.Paths.{Step}
use Rattle.sz_core.specs.declared.events.Told.TheVariants.{FromStore, FromTrace}
use Rattle.sz_core.specs.Events.{next_step}
use Rattle.sz_core.specs.Images.{image_by}
use Rattle.sz_core.specs.States.{Shelf, shelf_at, pairs_taken}
use Rattle.sz_core.specs.Steps.{step_of}
use Rattle.sz_core.proofs.Going.{ready-step, shelf-there, look-told, look-after}
use Rattle.sz_core.proofs.machine.look_by.Goals as goal

pub index_mut-shelf-requires : goal.index_mut-shelf-requires
index_mut-shelf-requires c =
    let at : next_step c.args.ask.now ≡ Some (step_of (c.in-Some.node, c.in-Some.input)) = sym c.in-Some.ensures in
    let step = ready-step c.args.shelves.now.items c.args.ask.now (step_of (c.in-Some.node, c.in-Some.input))
    c.requires at in
    omega (arith, step.node, c.args.shelves.now.ok)

pub image-requires : goal.image-requires
image-requires c =
    let at : next_step c.args.ask.now ≡ Some (step_of (c.in-Some.node, c.in-Some.input)) = sym c.in-Some.ensures in
    let step = ready-step c.args.shelves.now.items c.args.ask.now (step_of (c.in-Some.node, c.in-Some.input))
    c.requires at in
    let here : c.index_mut-shelf.result.now ≡ shelf_at c.args.shelves.now.items c.in-Some.node =
    shelf-there c.args.shelves.now.items c.in-Some.node c.index_mut-shelf.result.now step.node
    c.index_mut-shelf.ensures.value in
    rw (here, c.dir.ensures, c.cells.ensures) (record { input = step.input; shape = step.shape })

pub make_step-requires : goal.make_step-requires
make_step-requires c =
    let at : next_step c.args.ask.now ≡ Some (step_of (c.in-Some.node, c.in-Some.input)) = sym c.in-Some.ensures in
    slice_get_within c.args.ask.now.path c.args.ask.now.made (step_of (c.in-Some.node, c.in-Some.input)) at

pub returns : goal.returns
returns c =
    let shelves = c.args.shelves.now.items in
    let s : Step = step_of (c.in-Some.node, c.in-Some.input) in
    let at : next_step c.args.ask.now ≡ Some s = sym c.in-Some.ensures in
    let step = ready-step shelves c.args.ask.now s c.requires at in
    let here : c.index_mut-shelf.result.now ≡ shelf_at shelves c.in-Some.node =
    shelf-there shelves c.in-Some.node c.index_mut-shelf.result.now step.node c.index_mut-shelf.ensures.value in
    let kept : c.image.new.self ≡ c.index_mut-shelf.result.now = c.in_ok-cells.ensures.same in
    let sealed : c.is_sealed.result ≡ (shelf_at shelves s.node).sealed =
    c.is_sealed.ensures ∙ ap (λ (x : Shelf). x.sealed) (kept ∙ here) in
    let led : c.in_ok-cells.cells ≡ image_by (pairs_taken (shelf_at shelves s.node)) c.args.ask.now.dir
    (shelf_at shelves s.node).out (shelf_at shelves s.node).ins s.input c.args.ask.now.cells =
    rw (← here, ← c.dir.ensures, ← c.cells.ensures) c.in_ok-cells.ensures.ok in
    record {
      same = ap (set shelves c.in-Some.node) (kept ∙ c.index_mut-shelf.ensures.value)
          ∙ set-get_or shelves c.in-Some.node c.index_mut-shelf.result.now;
      ok = c.told_by-told.ensures
          ∙ ap (λ (b : Bool). if b then FromStore else FromTrace) sealed
          ∙ sym (look-told shelves c.args.ask.now s at);
      after = c.make_step.ensures ∙ ap
          (λ (x : Cells). record c.args.ask.now { made = c.args.ask.now.made + 1; cells = x }) led
          ∙ sym (look-after shelves c.args.ask.now s at);
      err = tt;
    }
