-- Each row of the cell adds its set of the input, and together they add what the region pairs stand for.
use Rattle.std.proofs.Common.{◌≡◌, ℕ, Bool, List, length, sym, ap, ◌∙◌}
use Rattle.sz_cells.specs.declared.Cell.{Cell}
use Rattle.sz_cells.specs.Extent.{cell_of}
use Rattle.sz_cells.specs.Cells.{Cells, with_those}
use Rattle.sz_spec.specs.declared.modes.Dir.TheVariants.{Back}
use Rattle.sz_frame.specs.Stands.{full_stands}
use Rattle.sz_tables.specs.Rows.{RowTable, row_at, number_in, pairings}
use Rattle.sz_full_one.specs.ByCells.{adds}
use Rattle.sz_full_one.proofs.Entries.{walk-start, walk-next, walk-here, walk-end, is-inside, done-now}
use Rattle.sz_full_one.proofs.FoundPairs.{back-found, row-of_cell, named-in}
use Rattle.sz_full_one.proofs.looking.look_back.Goals as goal

pub loop-next-init : goal.loop-next-init
loop-next-init c = record {
  walked = walk-start c.args.rows.now.entries c.args.cell (λ n x. adds c.args.table.now Back c.args.input
      (number_in (row_at c.args.table.now.rows n) c.args.input) x) c.args.to.now c.last-next.result
      c.shape.ensures.rising c.last-next.ensures;
  done = c.requires.done;
}

pub item-requires : goal.item-requires
item-requires c = is-inside c.args.rows.now.entries c.args.cell c.in-Some.entry (walk-here _ _ _ _ _ _ _
    c.loop-next.invariant.walked c.in-Some.is)

pub number_of-number-requires-clause-row : goal.number_of-number-requires-clause-row
number_of-number-requires-clause-row c =
    row-of_cell c.args.table.now c.args.rows.now c.in-Some.entry c.item.result c.requires.rows
    (is-inside c.args.rows.now.entries c.args.cell c.in-Some.entry (walk-here _ _ _ _ _ _ _
    c.loop-next.invariant.walked c.in-Some.is))
    c.item.ensures

pub add_other_in_set-requires-clause-number : goal.add_other_in_set-requires-clause-number
add_other_in_set-requires-clause-number c =
    let row = row-of_cell c.args.table.now c.args.rows.now c.in-Some.entry c.item.result c.requires.rows
    (is-inside c.args.rows.now.entries c.args.cell c.in-Some.entry (walk-here _ _ _ _ _ _ _
    c.loop-next.invariant.walked c.in-Some.is))
    c.item.ensures in
    rw c.number_of-number.ensures
    (named-in c.args.table.now c.item.result c.args.input c.len.ensures.named row c.requires.input)

pub loop-next-preserved : goal.loop-next-preserved
loop-next-preserved c =
    let t = c.args.table.now in
    let i = c.args.input in
    let more = c.add_other_in_set.ensures in
    record {
      walked = walk-next c.args.rows.now.entries c.args.cell c.item.result (λ n x. adds t Back i
          (number_in (row_at t.rows n) i) x) c.args.to.now c.loop-next.to c.add_other_in_set.new.to c.loop-next.next
          c.before-next.result c.in-Some.entry c.loop-next.invariant.walked c.in-Some.is c.item.ensures
          (more ∙ ap (λ (n : ℕ). with_those c.loop-next.to (adds t Back i n)) c.number_of-number.ensures)
          c.before-next.ensures;
      done = done-now (adds t Back i) c.number_of-number.result c.loop-next.to c.add_other_in_set.new.to more;
    }

pub returns-clause-to : goal.returns-clause-to
returns-clause-to c =
    let t = c.args.table.now in
    let i = c.args.input in
    walk-end c.args.rows.now.entries c.args.cell (λ n x. adds t Back i (number_in (row_at t.rows n) i) x)
    c.args.to.now c.loop-next.to c.loop-next.next (full_stands (pairings t) i (cell_of t.out c.args.cell))
    c.loop-next.invariant.walked c.in_default.is
    (λ x held. back-found t c.args.rows.now i c.args.cell x c.requires.rows c.len.ensures.named c.requires.input
    c.requires.cell)
