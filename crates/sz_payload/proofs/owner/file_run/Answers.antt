-- Each index of the run is filed once.
use Rattle.std.proofs.Common.{◌≡◌, ◌+◌, ◌-◌, ◌%◌, ◌<◌, ℕ, [], ◌∷◌, ◌++◌, List, sym, ap, subst, ◌∙◌, refl, arith}
use Rattle.std.specs.List.{range_with_len}
use Rattle.std.proofs.Math.Nat.{mod-lt}
use Rattle.std.proofs.lemmas.List.FromFn.{length-range_with_len}
use Rattle.sz_tables.specs.Filed.{Files}
use Rattle.sz_payload.specs.Owned.{with_cells}
use Rattle.sz_payload.proofs.Filing.{cells-none, cells-next, cells-room}
use Rattle.sz_payload.proofs.owner.file_run.Goals as goal

pub loop-index-init : goal.loop-index-init
loop-index-init c =
    let none : c.args.run.first - c.args.run.first ≡ 0 = omega arith in
    rw none (cells-none c.args.files.now c.args.number)

pub add-requires-clause-key : goal.add-requires-clause-key
add-requires-clause-key c =
    let same = ap (λ (f : Files). f.keys) c.loop-index.invariant in
    let below : c.loop-index.index % c.keys-keys.result < c.keys-keys.result =
    mod-lt c.loop-index.index (omega (arith, c.keys-keys.ensures, c.requires.keys)) in
    omega (arith, below, same, c.keys-keys.ensures)

pub add-requires-clause-room : goal.add-requires-clause-room
add-requires-clause-room c =
    let n = c.loop-index.index - c.args.run.first in
    cells-room c.args.files.now c.loop-index.files (range_with_len c.args.run.first n) c.args.number 1
    c.loop-index.invariant (omega (
      arith,
      length-range_with_len c.args.run.first n,
      length-range_with_len c.args.run.first (c.args.run.last - c.args.run.first + 1),
    ))

pub loop-index-preserved : goal.loop-index-preserved
loop-index-preserved c =
    let first = c.args.run.first in
    let one : c.loop-index.index - first + 1 ≡ c.loop-index.index + 1 - first = omega arith in
    let same = ap (λ (f : Files). f.keys) c.loop-index.invariant in
    let files : ℕ → Files = λ m. record c.loop-index.files {
      entries = c.loop-index.files.entries ++ record { key = c.loop-index.index % m; item = c.args.number } ∷ [];
      spare = c.loop-index.files.spare - 1;
    } in
    let added : c.add.new.self ≡ with_cells c.loop-index.files (c.loop-index.index ∷ []) c.args.number =
    c.add.ensures ∙ ap files (c.keys-keys.ensures ∙ sym same) in
    cells-next c.args.files.now c.loop-index.files c.add.new.self first (c.loop-index.index - first) c.loop-index.index
    c.args.number c.loop-index.invariant added (omega arith)
    ∙ ap (λ (n : ℕ). with_cells c.args.files.now (range_with_len first n) c.args.number) one

pub returns : goal.returns
returns c =
    let first = c.args.run.first in
    let all : c.loop-index.index - first ≡ c.args.run.last - first + 1 = omega arith in
    c.loop-index.invariant ∙ ap (λ (n : ℕ). with_cells c.args.files.now (range_with_len first n) c.args.number) all
