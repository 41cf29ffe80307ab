-- No flow is held under the only name that stands there.
use Rattle.std.proofs.Common.{ℕ, List, option_map, sym, ap, ◌∙◌}
use Rattle.sz_catalogue.specs.Holdings.{flow_named}
use Rattle.sz_bodies.proofs.HeadParts.{no-flow-held}
use Rattle.sz_bodies.proofs.heads.take_flow.Goals as goal

pub returns-in_default-clause-err : goal.returns-in_default-clause-err
returns-in_default-clause-err c =
    let held = c.args.catalogue.now in
    no-flow-held held c.args.bytes.now c.in_ok-name.name c.args.at c.in_ok-name.next c.in_ok-name.ensures.bytes
    (sym (c.in_default.ensures
    ∙ ap (λ (name : List ℕ). option_map (λ w. w.graph) (flow_named held name)) c.as_str.ensures))
