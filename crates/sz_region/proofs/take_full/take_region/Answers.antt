-- The output set's name, and behind it the names of the sets of the inputs.
use Rattle.std.proofs.Common.{◌≡◌, ℕ, List, ◌+◌, ◌∷◌, ◌++◌, length, map, ap, sym, subst, ◌∙◌, arith, rules}
use Rattle.std.specs.Arc.{arc_value}
use Rattle.std.specs.List.{flat_map}
use Rattle.std.proofs.lemmas.List.{length-map}
use Rattle.sz_cells.specs.Cells.{Cells}
use Rattle.sz_cells.specs.SetBytes.{four_bytes}
use Rattle.sz_region.specs.FullBytes.{listed_from, AreNumbersOf}
use Rattle.sz_region.proofs.Spans.{at-both, on_bad-weaker}
use Rattle.sz_region.proofs.Names.{no-pair-out, no-pair-ins}
use Rattle.sz_region.proofs.take_full.take_region.Goals as goal

pub returns-in_err-out-clause-err : goal.returns-in_err-out-clause-err
returns-in_err-out-clause-err c =
    let none = on_bad-weaker c.in_err-out.field-0.0
    (no-pair-out c.args.table.now c.args.inputs c.args.bytes.now c.args.at) c.in_err-out.ensures.err in
    search rules

pub returns-in_err-ins-clause-err : goal.returns-in_err-ins-clause-err
returns-in_err-ins-clause-err c =
    let out = c.in_ok-out.ensures.ok in
    let none = on_bad-weaker c.in_err-ins.field-0.0
    (no-pair-ins c.args.table.now c.args.inputs out.0 (arc_value c.in_ok-out.out) c.args.bytes.now c.args.at
    c.requires out.2 out.1) c.in_err-ins.ensures.err in
    search rules

pub returns-clause-ok : goal.returns-clause-ok
returns-clause-ok c =
    let table = c.args.table.now in
    let out = c.in_ok-out.ensures.ok in
    let ins = c.in_ok-ins.ensures.ok in
    let set : Cells = arc_value c.in_ok-out.out in
    let sets : c.of-ins.result ≡ map (λ s. arc_value s) c.in_ok-ins.ins.items = c.of-ins.ensures in (
      out.0 ∷ ins.0,
      record {
        whole = ap length sets ∙ length-map c.in_ok-ins.ins.items (λ s. arc_value s) ∙ ins.2;
        named = subst (λ (cs : List Cells). AreNumbersOf table (out.0 ∷ ins.0) (listed_from 0 (set ∷ cs))) (sym sets)
            (out.1, ins.1);
      },
      at-both c.args.bytes.now c.args.at (c.args.at + 4) c.in_ok-ins.next (four_bytes out.0)
          (flat_map four_bytes ins.0) out.2 ins.3,
    )
