-- Rows have as many bytes as their number and their width say, so where the product is no number of 64 bits, or there
-- are fewer bytes, no rows are there.
use Rattle.std.proofs.Common.{◌≡◌, ℕ, ◌+◌, ◌*◌, ◌++◌, ◌≤◌, List, length, drop, subst, arith, rules}
use Rattle.std.specs.List.{flat_map}
use Rattle.sz_cells.specs.SetBytes.{four_bytes}
use Rattle.sz_region.specs.Counted.{IsAt, rows_bytes}
use Rattle.sz_region.specs.Stores.{NoneAt}
use Rattle.sz_region.proofs.Spans.{no-number}
use Rattle.sz_short.specs.ShortStores.{AreRowsOf}
use Rattle.sz_short.proofs.Respelling.{rows-fit, make-block}
use Rattle.sz_short.proofs.parts.rows_end.Goals.{After-from}
use Rattle.sz_short.proofs.parts.rows_end.Goals as goal

pub returns-in_err-count-clause-none : goal.returns-in_err-count-clause-none
returns-in_err-count-clause-none c =
    let none : NoneAt (AreRowsOf c.args.width) rows_bytes c.args.bytes.now c.args.at = λ rows rest are is.
    no-number c.args.bytes.now c.args.at (length rows) (flat_map (flat_map four_bytes) rows ++ rest)
    c.in_err-count.ensures.none is in
    search rules

number : (c : After-from) → IsAt c.args.bytes.now c.args.at (c.args.at + 4) (four_bytes c.from.result)
number c =
    let same : c.in_ok-count.count ≡ c.from.result = omega arith in
    subst (λ (n : ℕ). IsAt c.args.bytes.now c.args.at (c.args.at + 4) (four_bytes n)) same c.in_ok-count.ensures.some

-- rows that are there end within the bytes
fits : (c : After-from) (rows : List (List ℕ)) (rest : List ℕ) → AreRowsOf c.args.width rows
    → drop c.args.at c.args.bytes.now ≡ rows_bytes rows ++ rest
    → c.args.at + 4 + c.from.result * c.args.width * 4 ≤ length c.args.bytes.now
fits c rows rest are is =
    rows-fit c.args.width c.args.bytes.now c.args.at c.from.result rows rest (number c) (omega arith) are is

pub returns-in_err-numbers-clause-none : goal.returns-in_err-numbers-clause-none
returns-in_err-numbers-clause-none c =
    let none : NoneAt (AreRowsOf c.args.width) rows_bytes c.args.bytes.now c.args.at = λ rows rest are is.
    let long = fits (goal.at.returns-in_err-numbers-clause-none c).After-from rows rest are is in
    c.in_err-numbers.ensures (omega (arith, long)) in
    search rules

pub returns-in_err-long-clause-none : goal.returns-in_err-long-clause-none
returns-in_err-long-clause-none c =
    let none : NoneAt (AreRowsOf c.args.width) rows_bytes c.args.bytes.now c.args.at = λ rows rest are is.
    let long = fits (goal.at.returns-in_err-long-clause-none c).After-from rows rest are is in
    c.in_err-long.ensures (omega (arith, long, c.in_ok-numbers.ensures.1)) in
    search rules

pub returns-then-length-at-clause-none : goal.returns-then-length-at-clause-none
returns-then-length-at-clause-none c rows rest are is =
    let long = fits (goal.at.returns-then-length-at-clause-none c).After-from rows rest are is in
    omega (arith, long, c.in_ok-numbers.ensures.1, c.in_ok-long.ensures.1)

pub returns-clause-some : goal.returns-clause-some
returns-clause-some c =
    let bytes = c.args.bytes.now in
    let here = number (goal.at.returns-clause-some c).After-from in
    let far : c.from.result * c.args.width * 4 ≡ c.in_ok-long.long =
    omega (arith, c.in_ok-numbers.ensures.1, c.in_ok-long.ensures.1) in
    let made = make-block c.args.width bytes c.args.at c.from.result here (omega arith)
    (omega (arith, far, here.within)) in
    (made.0, made.1, subst (λ (k : ℕ). IsAt bytes c.args.at (c.args.at + 4 + k) made.0) far made.2)
