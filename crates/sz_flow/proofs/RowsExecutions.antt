-- Rows of executions, written out: each is a computation, so it is its own proof. Expected values by hand.
use Rattle.std.proofs.Common.{◌≡◌, [], ◌∷◌, refl}
use Rattle.sz_cells.specs.Extent.{flat}
use Rattle.sz_spec.specs.declared.op.Op.TheVariants as op
use Rattle.sz_spec.specs.declared.flow.SourceRef.TheVariants.{Input, Node as Output}
use Rattle.sz_spec.proofs.RowsArrays.{node, flow, n, minus, grid}
use Rattle.sz_flow.specs.Executions.{executions}

-- a sum takes the output of the first node, and the base array behind it
pub negated-sum : executions (flow 1 (node op.Neg (Input 0 ∷ []) ∷ node op.Sub (Output 0 ∷ Input 0 ∷ []) ∷ []))
    (grid 1 1 (n 5 ∷ []) ∷ [])
    ≡ record {
      site = record { op = op.Neg; ins = flat 1 1 ∷ []; out = flat 1 1 };
      inputs = grid 1 1 (n 5 ∷ []) ∷ [];
      out = grid 1 1 (minus 5 ∷ []);
    } ∷ record {
      site = record { op = op.Sub; ins = flat 1 1 ∷ flat 1 1 ∷ []; out = flat 1 1 };
      inputs = grid 1 1 (minus 5 ∷ []) ∷ grid 1 1 (n 5 ∷ []) ∷ [];
      out = grid 1 1 (minus 10 ∷ []);
    } ∷ []
negated-sum = refl
