-- Both sets of an input have its shape, and their union is that of the joined lineage.
use Rattle.std.proofs.Common.{◌≡◌, ◌∙◌, ◌<◌, List, map, length, refl, sym, ap, ap₂, arith}
use Rattle.std.specs.Arc.{arc_value}
use Rattle.std.proofs.lemmas.List.{length-map}
use Rattle.sz_cells.specs.Extent.{Extent}
use Rattle.sz_cells.specs.Cells.{Cells, union_of}
use Rattle.sz_tables.specs.Rows.{set_at}
use Rattle.sz_tables.proofs.Taking.{read-set}
use Rattle.sz_merge.proofs.Sets.{extent-both, push-range}
use Rattle.sz_merge.proofs.joining.join_sets.Goals as goal

-- as many sets are joined
as-many : {A B : Type 0} (f : A → Cells) (g : B → Cells) (xs : List A) (ys : List B)
    → map (λ (s : Cells). s.extent) (map g ys) ≡ map (λ (s : Cells). s.extent) (map f xs) → length ys ≡ length xs
as-many f g xs ys same =
    let e : Cells → Extent = λ s. s.extent in
    omega (arith, ap length same, length-map (map g ys) e, length-map (map f xs) e, length-map ys g, length-map xs f)

pub join_set-requires : goal.join_set-requires
join_set-requires c =
    let i = c.loop-input.input in
    let a = map (λ a. arc_value a) c.args.sets.now in
    let b = map (λ a. arc_value a) c.args.more.now in
    let many = as-many (λ a. arc_value a) (λ a. arc_value a) c.args.sets.now c.args.more.now c.requires in
    let x = read-set (λ a. arc_value a) c.args.sets.now i c.index-sets-input.result
    (arc_value c.index-sets-input.result)
    c.loop-input-test.true c.index-sets-input.is refl in
    let y = read-set (λ a. arc_value a) c.args.more.now i c.index-more-input.result
    (arc_value c.index-more-input.result)
    (omega (arith, many, c.loop-input-test.true)) c.index-more-input.is refl in
    let inside : i < length a = omega (arith, length-map c.args.sets.now (λ a. arc_value a), c.loop-input-test.true) in
    ap (λ (s : Cells). s.extent) (sym y) ∙ extent-both a b i c.requires inside ∙ ap (λ (s : Cells). s.extent) x

pub loop-input-preserved : goal.loop-input-preserved
loop-input-preserved c =
    let i = c.loop-input.input in
    let a = map (λ a. arc_value a) c.args.sets.now in
    let b = map (λ a. arc_value a) c.args.more.now in
    let many = as-many (λ a. arc_value a) (λ a. arc_value a) c.args.sets.now c.args.more.now c.requires in
    let x = read-set (λ a. arc_value a) c.args.sets.now i c.index-sets-input.result
    (arc_value c.index-sets-input.result)
    c.loop-input-test.true c.index-sets-input.is refl in
    let y = read-set (λ a. arc_value a) c.args.more.now i c.index-more-input.result
    (arc_value c.index-more-input.result)
    (omega (arith, many, c.loop-input-test.true)) c.index-more-input.is refl in
    push-range (λ a. arc_value a) (λ k. union_of (set_at a k) (set_at b k)) c.loop-input.both.items
    c.push.new.self.items c.in_ok-set.set i c.loop-input.invariant c.in_ok-push.ensures.items
    (c.in_ok-set.ensures ∙ ap₂ union_of (sym x) (sym y))
