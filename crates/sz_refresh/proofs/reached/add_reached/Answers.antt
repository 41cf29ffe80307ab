-- Nothing is reached by no cell; else the bitmap has the cells of the set.
use Rattle.std.proofs.Common.{◌≡◌, List, map, refl, sym, ap, subst, ◌∙◌, true, OnOk}
use Rattle.std.specs.Arc.{arc_value}
use Rattle.sz_cells.specs.Cells.{Cells, has, no_cells, with_those}
use Rattle.sz_spec.specs.Values.{Grid}
use Rattle.sz_spec.specs.Lineage.{mapped, forward}
use Rattle.sz_spec.specs.Modes.{has_mapping}
use Rattle.sz_frame.proofs.Added.{own-at}
use Rattle.sz_refresh.specs.Changes.{reaches}
use Rattle.sz_refresh.proofs.Changes.{none-reaches, mapped-reaches, with-set, runs-none}
use Rattle.sz_refresh.proofs.reached.add_reached.Goals as goal

pub returns-then-is_empty : goal.returns-then-is_empty
returns-then-is_empty c =
    let to = c.args.to.now in
    none-reaches c.args.at.now.op (map (λ x. arc_value x) c.args.old.now) (map (λ x. arc_value x) c.args.new.now)
    c.args.number c.args.set.now to
    (runs-none c.runs.result.now c.args.set.now c.runs.ensures.spelled (sym c.is_empty.ensures ∙ c.if-is_empty.true))
    (own-at to to.extent refl c.shape.ensures.rising)

pub returns-then-has_mode : goal.returns-then-has_mode
returns-then-has_mode c =
    let s = c.args.at.now in
    let set = c.args.set.now in
    let to = c.args.to.now in
    let whole : c.add_set.new.self ≡ set =
    c.add_set.ensures
    ∙ ap (λ (z : Cells). with_those z (has set)) (c.in_ok-from.ensures ∙ ap no_cells c.shape-2.ensures.value)
    ∙ with-set set.extent set refl c.shape-2.ensures.rising in
    let known : has_mapping s.op ≡ true =
    ap has_mapping (sym c.op-2.ensures.value) ∙ sym c.has_mode.ensures ∙ c.if-has_mode.true in
    c.image_by_map.ensures
    ∙ ap (λ (z : Cells). with_those to (has (forward (mapped s.op s.ins c.args.number) s.out z))) whole
    ∙ mapped-reaches s.op s.ins s.out (map (λ x. arc_value x) c.args.old.now) (map (λ x. arc_value x) c.args.new.now)
    c.args.number set to known c.requires.old c.requires.new c.requires.to

pub returns : goal.returns
returns c =
    let s = c.args.at.now in
    let set = c.args.set.now in
    let to = c.args.to.now in
    let a : List Grid = map (λ x. arc_value x) c.args.old.now in
    let b : List Grid = map (λ x. arc_value x) c.args.new.now in
    let whole : c.add_set.new.self ≡ set =
    c.add_set.ensures
    ∙ ap (λ (z : Cells). with_those z (has set)) (c.in_ok-from.ensures ∙ ap no_cells c.shape-2.ensures.value)
    ∙ with-set set.extent set refl c.shape-2.ensures.rising in
    subst (λ (z : Cells). OnOk c.add_by_values.result (c.add_by_values.new.to
    ≡ with_those to (reaches s.op a b c.args.number z))) whole c.add_by_values.ensures
