-- No payload is one of an operator with a mapping.
use Rattle.std.proofs.Common.{◌≡◌, ℕ, List, true, true≢false, sym, ap, ◌∙◌}
use Rattle.sz_cells.specs.Extent.{Extent}
use Rattle.sz_spec.specs.declared.op.Op.{Op}
use Rattle.sz_spec.specs.declared.op.Op.TheVariants.{Lookup, Regions, Clean}
use Rattle.sz_spec.specs.Shapes.{Site}
use Rattle.sz_spec.specs.Modes.{has_mapping}
use Rattle.sz_spec.specs.Payloads.{is_payload}
use Rattle.sz_ops.proofs.op_map.OpMapMapper.map_p_into.Goals as goal

none : (op : Op) (ins : List Extent) (payload : List ℕ) → has_mapping op ≡ true
    → is_payload op ins payload ≡ true → ⊥
none Lookup ins payload has is = true≢false (sym has)
none (Regions t) ins payload has is = true≢false (sym has)
none (Clean t) ins payload has is = true≢false (sym has)
none _ ins payload has is = true≢false (sym is)

pub returns-clause-added : goal.returns-clause-added
returns-clause-added c = λ is.
    let s : Site = c.args.self.now in
    let has : has_mapping s.op ≡ true =
    ap (λ (t : Site). has_mapping t.op) (sym c.self.view_is) ∙ c.self.invariant in
    absurd (none s.op s.ins c.args._payload.now has is)
