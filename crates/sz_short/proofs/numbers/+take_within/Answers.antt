-- The first byte says whether there is a rest; where there is, the rest has one byte fewer to go on.
use Rattle.std.proofs.Common.{◌≡◌, ℕ, suc, ◌+◌, ◌-◌, ◌*◌, ◌<◌, ◌≤◌, get_or, subst, sym, arith, rules}
use Rattle.sz_region.specs.Counted.{IsAt}
use Rattle.sz_region.specs.Stores.{NoneAt}
use Rattle.sz_short.specs.ShortNumber.{short_within, IsWithin}
use Rattle.sz_short.proofs.ShortNumbers.{none-past, none-long, none-behind, none-other, reads-one, reads-more}
use Rattle.sz_short.proofs.ShortNumbers.{fits-one, fits-up}
use Rattle.sz_short.proofs.numbers.+take_within.Goals as goal
use Rattle.sz_short.proofs.numbers.+take_within.Goals.{then-high-lt-LEAST-via-then-high-lt-LEAST}
use Rattle.sz_short.proofs.numbers.+take_within.Goals.{then-high-lt-LEAST-via-else-high-lt-LEAST+then-high-gt-MOST}

pub returns-then-bytes-at-clause-none : goal.returns-then-bytes-at-clause-none
returns-then-bytes-at-clause-none t c = none-past c.args.more c.args.bytes.now c.args.at (omega arith)

pub returns-then-byte-lt128-clause-number : goal.returns-then-byte-lt128-clause-number
returns-then-byte-lt128-clause-number t c = fits-one c.args.more c.from-byte.result (omega arith)

pub returns-then-byte-lt128-clause-some : goal.returns-then-byte-lt128-clause-some
returns-then-byte-lt128-clause-some t c =
    let bytes = c.args.bytes.now in
    let byte : c.from-byte.result ≡ get_or bytes c.args.at 0 = omega arith in
    subst (λ (b : ℕ). IsAt bytes c.args.at (c.args.at + 1) (short_within c.args.more b)) (sym byte)
    (reads-one c.args.more bytes c.args.at (omega arith) (omega arith))

pub returns-then-more-eq0-clause-none : goal.returns-then-more-eq0-clause-none
returns-then-more-eq0-clause-none t c =
    let bytes = c.args.bytes.now in
    let byte : c.from-byte.result ≡ get_or bytes c.args.at 0 = omega arith in
    let none : 0 ≡ c.args.more = omega arith in
    subst (λ (k : ℕ). NoneAt (IsWithin k) (short_within k) bytes c.args.at) none
    (none-long bytes c.args.at (omega arith) (omega arith))

pub returns-in_err-high-clause-none : goal.returns-in_err-high-clause-none
returns-in_err-high-clause-none t c =
    let bytes = c.args.bytes.now in
    let byte : c.from-byte.result ≡ get_or bytes c.args.at 0 = omega arith in
    let up : suc (c.args.more - 1) ≡ c.args.more = omega arith in
    let none : NoneAt (IsWithin c.args.more) (short_within c.args.more) bytes c.args.at =
    subst (λ (k : ℕ). NoneAt (IsWithin k) (short_within k) bytes c.args.at) up
    (none-behind (c.args.more - 1) bytes c.args.at (omega arith) (omega arith) c.in_err-high.ensures.none) in
    search rules

pub returns-then-high-lt-LEAST-clause-none : goal.returns-then-high-lt-LEAST-clause-none
returns-then-high-lt-LEAST-clause-none t c =
    let bytes = c.args.bytes.now in
    let high = c.in_ok-high.high in
    let byte : c.from-byte.result ≡ get_or bytes c.args.at 0 = omega arith in
    let up : suc (c.args.more - 1) ≡ c.args.more = omega arith in
    let wrong : 0 < high → 33554432 ≤ high = λ some. elim c.then-high-lt-LEAST.branch [
      | then-high-lt-LEAST-via-then-high-lt-LEAST w ↦ absurd (omega arith)
      | then-high-lt-LEAST-via-else-high-lt-LEAST+then-high-gt-MOST w ↦ omega arith
    ] in
    subst (λ (k : ℕ). NoneAt (IsWithin k) (short_within k) bytes c.args.at) up
    (none-other (c.args.more - 1) bytes c.args.at c.in_ok-high.next high (omega arith) (omega arith)
    c.in_ok-high.ensures.number c.in_ok-high.ensures.some wrong)

pub returns-clause-number : goal.returns-clause-number
returns-clause-number t c =
    let up : suc (c.args.more - 1) ≡ c.args.more = omega arith in
    subst (λ (k : ℕ). IsWithin k (c.in_ok-high.high * 128 + (c.from-byte.result - 128))) up
    (fits-up (c.args.more - 1) c.in_ok-high.high (c.from-byte.result - 128) c.in_ok-high.ensures.number (omega arith)
    (omega arith))

pub returns-clause-some : goal.returns-clause-some
returns-clause-some t c =
    let bytes = c.args.bytes.now in
    let high = c.in_ok-high.high in
    let byte : get_or bytes c.args.at 0 ≡ c.from-byte.result = omega arith in
    let up : suc (c.args.more - 1) ≡ c.args.more = omega arith in
    subst (λ (k : ℕ). IsAt bytes c.args.at c.in_ok-high.next (short_within k (high * 128 + (c.from-byte.result - 128))))
    up
    (subst (λ (b : ℕ). IsAt bytes c.args.at c.in_ok-high.next (short_within (suc (c.args.more - 1))
    (high * 128 + (b - 128)))) byte
    (reads-more (c.args.more - 1) bytes c.args.at c.in_ok-high.next high (omega arith) (omega arith) (omega arith)
    c.in_ok-high.ensures.some (omega arith)))
