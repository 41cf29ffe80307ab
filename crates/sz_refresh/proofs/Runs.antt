-- The run of a node, as its execution.
--
-- The key idea: an operator at its shapes is the operator over any arrays of these shapes.
use Rattle.std.proofs.Common.{◌≡◌, Ok, Result, List, sym, ap, ap₂, ◌∙◌}
use Rattle.std.specs.Result.{result_unwrap_or}
use Rattle.sz_cells.specs.Extent.{Extent}
use Rattle.sz_spec.specs.declared.shapes.ShapeFault.{ShapeFault}
use Rattle.sz_spec.specs.Values.{Grid, no_extent, extents_of}
use Rattle.sz_spec.specs.Shapes.{Site, shape_of, output_extent}
use Rattle.sz_spec.specs.Evaluation.{output_of}
use Rattle.sz_flow.specs.Executions.{Execution, site_over, execution}

-- the shape of its output over arrays of its shapes
pub out-over : (s : Site) (inputs : List Grid) → extents_of inputs ≡ s.ins → shape_of s.op s.ins ≡ Ok s.out
    → output_extent s.op (extents_of inputs) ≡ s.out
out-over s inputs shapes rule =
    ap (output_extent s.op) shapes ∙ ap (λ (r : Result Extent ShapeFault). result_unwrap_or r no_extent) rule

-- an operator at its shapes
pub site-own : (s : Site) (inputs : List Grid) → extents_of inputs ≡ s.ins → shape_of s.op s.ins ≡ Ok s.out
    → s ≡ site_over s.op inputs
site-own s inputs shapes rule =
    let make : List Extent → Extent → Site = λ is o. record { op = s.op; ins = is; out = o } in
    ap₂ make (sym shapes) (sym (out-over s inputs shapes rule))

-- what was run at its shapes is its execution
pub execution-own : (s site : Site) (inputs taken : List Grid) (out : Grid) → site ≡ s → taken ≡ inputs
    → extents_of inputs ≡ s.ins → shape_of s.op s.ins ≡ Ok s.out → out ≡ output_of s.op inputs
    → (let made : Execution = record { site = site; inputs = taken; out = out } in made) ≡ execution s.op inputs
execution-own s site inputs taken out same one shapes rule value =
    let make : Site → List Grid → Grid → Execution = λ z gs o. record { site = z; inputs = gs; out = o } in
    ap (λ (z : Site). make z taken out) (same ∙ site-own s inputs shapes rule)
    ∙ ap (λ (gs : List Grid). make (site_over s.op inputs) gs out) one
    ∙ ap (λ (o : Grid). make (site_over s.op inputs) inputs o) value
