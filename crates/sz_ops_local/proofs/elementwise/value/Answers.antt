-- Where an input has nothing the output has nothing, and else the table's line is the value.
use Rattle.std.proofs.Common.{◌≡◌, ◌<◌, true, length, map, Some, sym, ap, subst, ◌∙◌}
use Rattle.std.proofs.Common.{arith, rules}
use Rattle.std.proofs.lemmas.List.{length-map}
use Rattle.std.specs.Arc.{arc_value}
use Rattle.sz_cells.specs.Extent.{Extent, holds, index_of}
use Rattle.sz_spec.specs.Values.{Grid, input_at}
use Rattle.sz_spec.specs.Shapes.{Site}
use Rattle.sz_spec.specs.Work.{IsAtWork}
use Rattle.std.specs.Prelude.{List}
use Rattle.sz_frame.proofs.Inputs.{input-extent}
use Rattle.sz_ops_local.specs.Local.{is_elementwise}
use Rattle.sz_ops_local.proofs.Places.{inputs-count, same-shapes}
use Rattle.sz_ops_local.proofs.elementwise.value.Goals.{then-inputs-gt1+in_ok-b, else-inputs-gt1}
use Rattle.sz_ops_local.proofs.elementwise.value.Goals as goal

-- the second input has the output's shape
second : (s : Site) (grids : List Grid) → is_elementwise s.op ≡ true → IsAtWork s grids → 1 < length grids
    → (input_at grids 1).extent ≡ s.out
second s grids h right two =
    input-extent s grids 1 right
    ∙ same-shapes s.op s.ins s.out 1 h (omega (arith, two, inputs-count s grids right)) right.site.shape

pub value_of_input-requires-then-inputs-gt1-clause-cell : goal.value_of_input-requires-then-inputs-gt1-clause-cell
value_of_input-requires-then-inputs-gt1-clause-cell c =
    let grids = map (λ a. arc_value a) c.args.inputs.now in
    let two : 1 < length grids =
    omega (arith, c.if-inputs-gt1.true, length-map c.args.inputs.now (λ a. arc_value a)) in
    subst (λ (e : Extent). holds e c.args.out ≡ true)
    (sym (second c.args.at.now grids c.requires.op c.requires.right two)) c.requires.out

pub value_of_input-requires-then-inputs-gt1-clause-index : goal.value_of_input-requires-then-inputs-gt1-clause-index
value_of_input-requires-then-inputs-gt1-clause-index c =
    let grids = map (λ a. arc_value a) c.args.inputs.now in
    let two : 1 < length grids =
    omega (arith, c.if-inputs-gt1.true, length-map c.args.inputs.now (λ a. arc_value a)) in
    c.requires.index
    ∙ ap (λ (e : Extent). index_of e c.args.out)
    (sym (second c.args.at.now grids c.requires.op c.requires.right two))

pub returns : goal.returns
returns c =
    let grids = map (λ a. arc_value a) c.args.inputs.now in
    let first = sym c.value_of_input.ensures ∙ c.in_ok-a.was in
    let count = sym (length-map c.args.inputs.now (λ a. arc_value a))
    ∙ inputs-count c.args.at.now grids c.requires.right in
    let told = rw c.op.ensures.value at c.of_numbers.ensures in
    told grids c.args.out (first ∙ ap (λ z. Some z) (search rules))
    (λ two.
    elim c.if-inputs-gt1.branch [
      | then-inputs-gt1+in_ok-b b ↦ sym b.value_of_input-then-inputs-gt1.ensures ∙ b.in_ok-b.was ∙ ap (λ z. Some
          z) (search (rules, b.b-is))
      | else-inputs-gt1 b ↦ absurd (omega (arith, b.if-inputs-gt1.false, count, two))
    ])
