-- Under the weights lie just the related cells.
use Rattle.std.proofs.Common.{◌≡◌, Bool, map, ap, ◌∙◌, rules, true, false}
use Rattle.std.specs.Arc.{arc_value}
use Rattle.sz_spec.specs.Weights.{Weights}
use Rattle.sz_spec.specs.Values.{input_at}
use Rattle.sz_spec.specs.Operators.Convolve.{is_convolved}
use Rattle.sz_spec.specs.Operators.Clean.{is_hot}
use Rattle.sz_ops_window.proofs.Inputs.{clean-windowed, hot-related, other-related, hot-told}
use Rattle.sz_ops_window.proofs.clean.Cleaning.window.Goals.{After-is_hot}
use Rattle.sz_ops_window.proofs.clean.Cleaning.window.Goals as goal

hot : (c : After-is_hot) (answer : Bool) → c.is_hot.result ≡ answer
    → is_hot c.args.self.now.t (input_at (map (λ a. arc_value a) c.args.self.now.inputs.now) 0) c.args.out ≡ answer
hot c answer is =
    hot-told c.args.self.now.t (input_at (map (λ a. arc_value a) c.args.self.now.inputs.now) 0) c.input.result.now
    c.args.out c.is_hot.result answer (search rules) c.input.ensures.value c.is_hot.ensures is

pub returns-then-is_hot : goal.returns-then-is_hot
returns-then-is_hot c = λ x held.
    let w = c.args.self.now in
    ap (λ (k : Weights). is_convolved w.at.now.out k c.args.out x) c.nine.ensures
    ∙ hot-related w.at.now (map (λ a. arc_value a) w.inputs.now) w.t c.args.out x w.kind
    (clean-windowed w.at.now w.t w.kind) c.requires.right
    (hot (goal.at.returns-then-is_hot c).After-is_hot true c.if-is_hot.true)

pub returns-else-is_hot : goal.returns-else-is_hot
returns-else-is_hot c = λ x held.
    let w = c.args.self.now in
    ap (λ (k : Weights). is_convolved w.at.now.out k c.args.out x) c.one.ensures
    ∙ other-related w.at.now (map (λ a. arc_value a) w.inputs.now) w.t c.args.out x w.kind
    (hot (goal.at.returns-else-is_hot c).After-is_hot false c.if-is_hot.false)
