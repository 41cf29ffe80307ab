-- Runs are as many bytes as their number says, and four more.
use Rattle.std.proofs.Common.{◌≡◌, ℕ, length, take, drop, ◌++◌, ◌∙◌, ap, arith, length-append, length-drop, List}
use Rattle.std.proofs.lemmas.Nat.{from_be_bytes-to_be_bytes_4}
use Rattle.std.specs.List.{flat_map}
use Rattle.sz_cells.specs.SetBytes.{run_bytes}
use Rattle.sz_region.specs.Taking.{number_at}
use Rattle.sz_region.proofs.Spelling.{runs-long}
use Rattle.sz_region.proofs.set_bytes.body_at.Goals as goal
use Rattle.sz_region.proofs.set_bytes.body_at.Goals.{then-length-lt4-via-then-length-lt4}
use Rattle.sz_region.proofs.set_bytes.body_at.Goals.{then-length-lt4-via-else-length-lt4+then-length-at}

pub returns-then-length-lt4-clause-none : goal.returns-then-length-lt4-clause-none
returns-then-length-lt4-clause-none c runs rest few is =
    let long = ap length is in
    elim c.then-length-lt4.branch [
      | then-length-lt4-via-then-length-lt4 w ↦ omega (arith, length-drop c.args.at c.args.bytes.now)
      | then-length-lt4-via-else-length-lt4+then-length-at w ↦ omega (arith, length-drop c.args.at c.args.bytes.now)
    ]

pub returns-then-rest-long-clause-none : goal.returns-then-rest-long-clause-none
returns-then-rest-long-clause-none c runs rest few is =
    let there = c.split_at.ensures.back ∙ is in
    let head = c.split_at-2.ensures.front ∙ ap (take 4) there in
    let number : c.four_at.result ≡ length runs = c.four_at.ensures ∙ ap (λ (xs : List ℕ). number_at xs 0) head
    ∙ from_be_bytes-to_be_bytes_4 (length runs) few in
    let behind : c.split_at-2.result.1.now ≡ flat_map run_bytes runs ++ rest =
    c.split_at-2.ensures.back ∙ ap (drop 4) there in
    omega (arith, ap length behind, length-append (flat_map run_bytes runs) rest, runs-long runs, number)
