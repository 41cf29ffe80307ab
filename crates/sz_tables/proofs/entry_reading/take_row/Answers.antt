-- The name of the set, and behind it that of the payload.
use Rattle.std.proofs.Common.{◌≡◌, ℕ, ◌+◌, [], ◌∷◌, ◌++◌, subst, arith}
use Rattle.sz_cells.specs.SetBytes.{four_bytes}
use Rattle.sz_region.specs.Counted.{IsAt}
use Rattle.sz_region.proofs.Spans.{at-both}
use Rattle.sz_tables.proofs.entry_reading.take_row.Goals as goal

pub returns-clause-ok : goal.returns-clause-ok
returns-clause-ok c =
    let set = c.in_ok-set.ensures.ok in
    let payload = c.in_ok-payload.ensures.ok in
    let far : c.args.at + 4 + 4 ≡ c.args.at + 8 = omega arith in (
      set.0 ∷ payload.0 ∷ [],
      (set.1, payload.1),
      subst (λ (n : ℕ). IsAt c.args.bytes.now c.args.at n (four_bytes set.0 ++ four_bytes payload.0)) far
          (at-both c.args.bytes.now c.args.at (c.args.at + 4) (c.args.at + 4 + 4) (four_bytes set.0)
          (four_bytes payload.0) set.2 payload.2),
    )
