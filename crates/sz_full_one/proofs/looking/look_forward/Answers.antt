-- Each set of the cell adds the output sets of its rows, and together they add what the region pairs stand for.
use Rattle.std.proofs.Common.{◌≡◌, ℕ, length, sym, ap, ◌∙◌}
use Rattle.sz_cells.specs.Extent.{cell_of}
use Rattle.sz_cells.specs.Cells.{with_those}
use Rattle.sz_spec.specs.declared.modes.Dir.TheVariants.{Forward}
use Rattle.sz_spec.specs.Values.{extent_at}
use Rattle.sz_frame.specs.Stands.{full_stands}
use Rattle.sz_frame.specs.Walks.{steps}
use Rattle.sz_tables.specs.Rows.{pairings}
use Rattle.sz_full_one.specs.ByCells.{adds}
use Rattle.sz_full_one.proofs.Entries.{walk-start, walk-next, walk-here, walk-end, is-inside, done-now}
use Rattle.sz_full_one.proofs.FoundPairs.{forward-found, set-of_cell}
use Rattle.sz_full_one.proofs.looking.look_forward.Goals as goal

pub loop-next-init : goal.loop-next-init
loop-next-init c = record {
  walked = walk-start c.args.files.now.cells.entries c.args.cell (adds c.args.table.now Forward c.args.input)
      c.args.to.now c.last-next.result c.shape.ensures.rising c.last-next.ensures;
  done = c.requires.done;
}

pub item-number-requires : goal.item-number-requires
item-number-requires c = is-inside c.args.files.now.cells.entries c.args.cell c.in-Some.entry (walk-here _ _ _ _ _ _ _
    c.loop-next.invariant.walked c.in-Some.is)

pub add_other_rows-requires-clause-number : goal.add_other_rows-requires-clause-number
add_other_rows-requires-clause-number c =
    set-of_cell c.args.table.now c.args.input c.args.files.now c.in-Some.entry c.item-number.result c.requires.files
    (is-inside c.args.files.now.cells.entries c.args.cell c.in-Some.entry (walk-here _ _ _ _ _ _ _
    c.loop-next.invariant.walked c.in-Some.is))
    c.item-number.ensures

pub loop-next-preserved : goal.loop-next-preserved
loop-next-preserved c =
    let t = c.args.table.now in
    let i = c.args.input in
    record {
      walked = walk-next c.args.files.now.cells.entries c.args.cell c.item-number.result (adds t Forward i)
          c.args.to.now c.loop-next.to c.add_other_rows.new.to c.loop-next.next c.before-next.result c.in-Some.entry
          c.loop-next.invariant.walked c.in-Some.is c.item-number.ensures c.add_other_rows.ensures
          c.before-next.ensures;
      done = done-now (adds t Forward i) c.item-number.result c.loop-next.to c.add_other_rows.new.to
          c.add_other_rows.ensures;
    }

pub returns-clause-to : goal.returns-clause-to
returns-clause-to c =
    let t = c.args.table.now in
    let i = c.args.input in
    walk-end c.args.files.now.cells.entries c.args.cell (adds t Forward i) c.args.to.now c.loop-next.to
    c.loop-next.next (steps Forward (full_stands (pairings t) i) (cell_of (extent_at t.ins i) c.args.cell))
    c.loop-next.invariant.walked c.in_default.is
    (λ x held. forward-found t c.args.files.now i c.args.cell x c.requires.files c.len.ensures.named c.requires.input
    c.requires.cell)
