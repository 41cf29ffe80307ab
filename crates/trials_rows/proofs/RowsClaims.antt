-- Rows of what the laws of claims say of a kind of step.
use Rattle.std.specs.Prelude.{◌≡◌, []}
use Rattle.std.proofs.Common.{refl, arith}
use mathlib.Core.Option.{none}
use Rattle.atomic_table.specs.Table.{step}
use Rattle.sz_claims.specs.Rule.{Own, empty_view}
use Rattle.sz_claims.specs.Changes.{IsExchangeOnly}

-- a seat that has no slot in hand
abbrev seat : Own
seat = (empty_view 0, [])

-- the kind of the calls that put 1 in place of 0
put-one : IsExchangeOnly (λ st m n found. (st.first ≡ 0) × (st.second ≡ 1))
put-one st m n found is = is

-- a kind that every call is of has calls with other operands
any-call : IsExchangeOnly (λ st m n found. Unit {0}) → ⊥
any-call only = let (first, second) = only (step 0 0 1 1 none) seat seat 0 tt in absurd (omega (arith, first))

-- so has one of calls that put 0 in place of 0
no-change : IsExchangeOnly (λ st m n found. st.second ≡ 0) → ⊥
no-change only = let (first, second) = only (step 0 0 0 0 none) seat seat 0 refl in absurd (omega (arith, second))
