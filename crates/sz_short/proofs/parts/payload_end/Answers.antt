-- A payload is as long as its number says.
use Rattle.std.proofs.Common.{◌≡◌, ℕ, ◌+◌, ◌++◌, length, subst, arith, rules}
use Rattle.sz_region.specs.Counted.{IsAt}
use Rattle.sz_region.specs.PayBytes.{IsShort, payload_bytes}
use Rattle.sz_region.specs.Stores.{NoneAt}
use Rattle.sz_region.proofs.Spans.{no-number}
use Rattle.sz_short.proofs.RespellingPay.{payload-fits, make-payload}
use Rattle.sz_short.proofs.parts.payload_end.Goals as goal

pub returns-in_err-long-clause-none : goal.returns-in_err-long-clause-none
returns-in_err-long-clause-none c =
    let none : NoneAt IsShort payload_bytes c.args.bytes.now c.args.at = λ p rest short is.
    no-number c.args.bytes.now c.args.at (length p) (p ++ rest) c.in_err-long.ensures.none is in
    search rules

pub returns-then-length-at-clause-none : goal.returns-then-length-at-clause-none
returns-then-length-at-clause-none c p rest short is =
    let fits = payload-fits c.args.bytes.now c.args.at c.in_ok-long.long p rest c.in_ok-long.ensures.some (omega arith)
    short is in
    omega (arith, fits)

pub returns-clause-some : goal.returns-clause-some
returns-clause-some c =
    let long : c.in_ok-long.long ≡ c.from-2.result = omega arith in
    let made = make-payload c.args.bytes.now c.args.at c.in_ok-long.long c.in_ok-long.ensures.some (omega arith)
    (omega (arith, c.in_ok-long.ensures.some.within)) in (
      made.0,
      made.1,
      subst (λ (k : ℕ). IsAt c.args.bytes.now c.args.at (c.args.at + 4 + k) (payload_bytes made.0)) long made.2,
    )
