-- The sum over the taps in range is that of what each number adds.
use Rattle.std.proofs.Common.{sym, ap, ◌∙◌, rules}
use Rattle.std.specs.Int.{w128}
use Rattle.std.proofs.lemmas.Int.{to_z-of_z}
use Rattle.std.specs.Prelude.{option_and_then}
use Rattle.sz_spec.specs.Values.{fit}
use Rattle.sz_ops_window.proofs.Sums.{convolved-sum}
use Rattle.sz_ops_window.proofs.convolve.value.Goals as goal

pub returns-in_err-sum_of_rows : goal.returns-in_err-sum_of_rows
returns-in_err-sum_of_rows c =
    c.from_residual.ensures
    ∙ sym (convolved-sum c.args.mask.now c.args.array.now c.args.out
    ∙ ap (option_and_then fit) (sym c.sum_of_rows.ensures ∙ c.in_err-sum_of_rows.was))

pub returns : goal.returns
returns c =
    let sum = c.in_ok-sum_of_rows.field-0 in
    c.fit.ensures
    ∙ ap fit (to_z-of_z w128 sum (search rules))
    ∙ sym (convolved-sum c.args.mask.now c.args.array.now c.args.out
    ∙ ap (option_and_then fit) (sym c.sum_of_rows.ensures ∙ c.in_ok-sum_of_rows.was))
