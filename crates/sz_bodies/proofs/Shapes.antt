-- A flow whose check found no fault is well formed.
use Rattle.std.proofs.Common.{◌≡◌, true, false, true≢false, refl}
use Rattle.std.specs.Prelude.{Result, Ok, Err, is_err}
use Rattle.std.specs.Result.{result_err}
use Rattle.sz_spec.specs.declared.flow.FlowFault.{FlowFault}
use Rattle.sz_spec.specs.Flows.{Graph, flow_fault, is_well_formed}

pub well-of : {U : Type 0} (r : Result U FlowFault) (g : Graph) → is_err r ≡ false → result_err r ≡ flow_fault g
    → is_well_formed g ≡ true
well-of (Ok u) g is same = rw (← same) refl
well-of (Err f) g is same = absurd (true≢false is)
