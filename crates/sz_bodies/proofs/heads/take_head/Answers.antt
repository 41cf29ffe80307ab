-- Where a part is not there, no head is.
use Rattle.std.proofs.Common.{map}
use Rattle.std.proofs.lemmas.Result.{err_from_is_err_and}
use Rattle.std.proofs.lemmas.List.{length-map}
use Rattle.std.proofs.Common.{ℕ, ◌<◌, ◌^◌, subst, sym}
use Rattle.sz_bodies.specs.Fitting.{named_base}
use Rattle.sz_bodies.proofs.HeadParts.{if_bad-weaker, no-head-bases, no-head-count, arrays-held, FlowIs, BasesAre}
use Rattle.sz_bodies.proofs.heads.take_head.Goals as goal

pub returns-in_err-base-clause-err : goal.returns-in_err-base-clause-err
returns-in_err-base-clause-err c =
    let held = c.args.catalogue.now in
    let bytes = c.args.body.now in
    let flow : FlowIs held bytes c.in-Some.number c.in_ok-flow_name.flow_name c.in_ok-flow_name.place = record {
      number = record { new = c.in-Some.ensures.new; here = c.in-Some.ensures.bytes };
      right = c.in_ok-flow_name.ensures.flow.right;
      here = c.in_ok-flow_name.ensures.bytes;
    } in
    let none = if_bad-weaker c.in_err-base.field-0.0
    (λ missing. no-head-bases held bytes c.in-Some.number c.in_ok-flow_name.flow_name c.in_ok-flow_name.place flow
    missing) c.in_err-base.ensures.err in
    let p = err_from_is_err_and c.from_residual-in_err-base.result c.from_residual-in_err-base.ensures.1 in
    rw (p.1, p.2) none

pub returns-in_default-take_number-clause-err : goal.returns-in_default-take_number-clause-err
returns-in_default-take_number-clause-err c =
    let held = c.args.catalogue.now in
    let bytes = c.args.body.now in
    let base = c.in_ok-base.base.items in
    let bases : BasesAre held bytes c.in-Some.number c.in_ok-flow_name.flow_name (map named_base base)
    c.in_ok-flow_name.place c.in_ok-base.place = record {
      flow =
          record {
            number = record { new = c.in-Some.ensures.new; here = c.in-Some.ensures.bytes };
            right = c.in_ok-flow_name.ensures.flow.right;
            here = c.in_ok-flow_name.ensures.bytes;
          };
      held = (
        arrays-held held base c.in_ok-base.ensures.held,
        subst (λ (k : ℕ). k < 2 ^ 32) (sym (length-map base named_base)) c.in_ok-base.ensures.few,
      );
      here = c.in_ok-base.ensures.bytes;
    } in
    no-head-count held bytes c.in-Some.number c.in_ok-flow_name.flow_name (map named_base base) c.in_ok-flow_name.place
    c.in_ok-base.place bases c.in_default-take_number.ensures.none
