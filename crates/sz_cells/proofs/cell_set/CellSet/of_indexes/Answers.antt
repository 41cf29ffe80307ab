-- Rising indexes are the ones that the runs cover, and each is above the runs that were made before it.
use Rattle.std.proofs.Common.{ℕ, ◌+◌, ◌≤◌, ◌&&◌, ◌||◌, ◌==◌, nat_le, List}
use Rattle.std.proofs.Common.{take, get_or, arith, sym, ap, ◌∙◌}
use Rattle.std.specs.List.{list_any}
use Rattle.std.proofs.lemmas.List.Elements.{All-weaker}
use Rattle.std.proofs.lemmas.List.Folds.{list_any_more}
use Rattle.std.proofs.lemmas.List.{take_all}
use Rattle.sz_cells.specs.Extent.{size_of}
use Rattle.sz_cells.specs.Cells.{Cells}
use Rattle.sz_cells.proofs.Rising.{rising-head}
use Rattle.sz_cells.proofs.Runs.{in-one, spelled-rising}
use Rattle.sz_cells.proofs.cell_set.CellSet.of_indexes.Goals as goal

pub add_run-requires : goal.add_run-requires
add_run-requires c =
    let next = c.loop-index.invariant.2 in
    let head = rising-head c.args.indexes.now c.loop-index.index-index next.0 (size_of c.args.shape)
    c.loop-index-test.true next.2 in
    record {
      order = omega arith;
      later = All-weaker (λ r. r.first ≤ next.0)
          (λ r. r.first ≤ get_or c.args.indexes.now c.loop-index.index-index 0) (λ r h. omega (arith, head.0))
          c.loop-index.runs.items next.1;
    }

pub loop-index-preserved : goal.loop-index-preserved
loop-index-preserved c =
    let x = get_or c.args.indexes.now c.loop-index.index-index 0 in
    let next = c.loop-index.invariant.2 in
    let head = rising-head c.args.indexes.now c.loop-index.index-index next.0 (size_of c.args.shape)
    c.loop-index-test.true next.2 in
    let said = c.in_ok-add_run.ensures in (
      said.longest (size_of c.args.shape) c.loop-index.invariant.0 head.1,
      λ k.
          said.added k
          ∙ ap (λ b. b || (nat_le x k && nat_le k x)) (c.loop-index.invariant.1 k)
          ∙ ap (λ b. list_any (λ y. y == k) (take c.loop-index.index-index c.args.indexes.now) || b) (in-one x k)
          ∙ sym (list_any_more (λ y. y == k) c.args.indexes.now c.loop-index.index-index 0 c.loop-index-test.true),
      (
        x + 1,
        All-weaker (λ r. r.first ≤ x) (λ r. r.first ≤ x + 1) (λ r h. omega arith) c.add_run.new.runs.items
            said.begun,
        head.2,
      ),
    )

pub returns : goal.returns
returns c =
    let set : List ℕ → Cells = λ xs. record { extent = c.args.shape; indexes = xs } in
    c.from_runs.ensures
    ∙ ap set
    (spelled-rising (size_of c.args.shape) c.loop-index.runs.items c.args.indexes.now c.loop-index.invariant.0
    c.requires
    (λ k. c.loop-index.invariant.1 k ∙ ap (list_any (λ x. x == k)) (take_all c.loop-index.index-index
    c.args.indexes.now c.loop-index-test.false)))
