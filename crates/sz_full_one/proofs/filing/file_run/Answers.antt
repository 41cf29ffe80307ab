-- Each index of the run is filed once, the last of them behind the loop.
use Rattle.std.proofs.Common.{◌≡◌, ◌+◌, ◌-◌, ℕ, sym, ap, ◌∙◌, arith}
use Rattle.std.specs.List.{range_with_len}
use Rattle.std.proofs.lemmas.List.FromFn.{length-range_with_len}
use Rattle.sz_full_one.specs.ByCells.{with_filed}
use Rattle.sz_full_one.proofs.ByCell.{filed-next, room-left}
use Rattle.sz_full_one.proofs.filing.file_run.Goals as goal

pub add-requires-clause-room : goal.add-requires-clause-room
add-requires-clause-room c =
    let n = c.loop-index.index - c.args.run.first in
    room-left c.args.files.now c.loop-index.files (range_with_len c.args.run.first n) c.args.item 1
    c.loop-index.invariant (omega (
      arith,
      length-range_with_len c.args.run.first n,
      length-range_with_len c.args.run.first (c.args.run.last - c.args.run.first + 1),
    ))

pub loop-index-preserved : goal.loop-index-preserved
loop-index-preserved c =
    let first = c.args.run.first in
    let one : c.loop-index.index - first + 1 ≡ c.loop-index.index + 1 - first = omega arith in
    filed-next c.args.files.now c.loop-index.files c.add.new.self first (c.loop-index.index - first) c.loop-index.index
    c.args.item c.loop-index.invariant c.add.ensures (omega arith)
    ∙ ap (λ (n : ℕ). with_filed c.args.files.now (range_with_len first n) c.args.item) one

pub add-requires-2-clause-room : goal.add-requires-2-clause-room
add-requires-2-clause-room c =
    let n = c.loop-index.index - c.args.run.first in
    room-left c.args.files.now c.loop-index.files (range_with_len c.args.run.first n) c.args.item 1
    c.loop-index.invariant (omega (
      arith,
      length-range_with_len c.args.run.first n,
      length-range_with_len c.args.run.first (c.args.run.last - c.args.run.first + 1),
    ))

pub returns : goal.returns
returns c =
    let first = c.args.run.first in
    let all : c.loop-index.index - first + 1 ≡ c.args.run.last - first + 1 = omega arith in
    filed-next c.args.files.now c.loop-index.files c.add-2.new.self first (c.loop-index.index - first) c.args.run.last
    c.args.item c.loop-index.invariant c.add-2.ensures (omega arith)
    ∙ ap (λ (n : ℕ). with_filed c.args.files.now (range_with_len first n) c.args.item) all
