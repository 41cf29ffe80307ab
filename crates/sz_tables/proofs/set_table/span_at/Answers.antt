-- A span begins where the one before it ends.
use Rattle.std.proofs.Common.{arith}
use Rattle.sz_tables.proofs.Slices.{first-span, span-behind, spans-count}
use Rattle.sz_tables.proofs.set_table.span_at.Goals as goal

pub returns-then-number-eq0-clause-within : goal.returns-then-number-eq0-clause-within
returns-then-number-eq0-clause-within c = omega (arith, c.requires, spans-count 0 c.args.ends.now)

pub returns-then-number-eq0-clause-span : goal.returns-then-number-eq0-clause-span
returns-then-number-eq0-clause-span c =
    first-span c.args.ends.now c.args.number _ c.if-number-eq0.true c.requires

pub returns-clause-within : goal.returns-clause-within
returns-clause-within c = omega (arith, c.requires, spans-count 0 c.args.ends.now)

pub returns-clause-span : goal.returns-clause-span
returns-clause-span c =
    span-behind c.args.ends.now c.args.number _ (λ none. c.if-number-eq0.false none) c.requires
