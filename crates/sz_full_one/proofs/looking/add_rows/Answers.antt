-- Each row of the set adds its output set.
use Rattle.std.proofs.Common.{◌≡◌, ℕ, length, sym, ap, ◌∙◌}
use Rattle.sz_cells.specs.Cells.{has, with_those}
use Rattle.sz_spec.specs.declared.modes.Dir.TheVariants.{Forward}
use Rattle.sz_tables.specs.Rows.{row_at, set_at}
use Rattle.sz_full_one.specs.ByCells.{adds}
use Rattle.sz_full_one.proofs.Entries.{walk-start, walk-next, walk-here, walk-end, is-inside}
use Rattle.sz_full_one.proofs.FoundPairs.{rows-found, row-of_set, named-out}
use Rattle.sz_full_one.proofs.looking.add_rows.Goals as goal

pub loop-next-init : goal.loop-next-init
loop-next-init c =
    walk-start c.args.files.now.rows.entries c.args.number (λ n x. has (set_at c.args.table.now.outs
    (row_at c.args.table.now.rows n).out) x) c.args.to.now c.last-next.result c.shape.ensures.rising
    c.last-next.ensures

pub item-requires : goal.item-requires
item-requires c = is-inside c.args.files.now.rows.entries c.args.number c.in-Some.entry (walk-here _ _ _ _ _ _ _
    c.loop-next.invariant c.in-Some.is)

pub out_number-requires : goal.out_number-requires
out_number-requires c =
    row-of_set c.args.table.now c.args.input c.args.files.now c.in-Some.entry c.item.result c.requires.files
    (is-inside c.args.files.now.rows.entries c.args.number c.in-Some.entry (walk-here _ _ _ _ _ _ _
    c.loop-next.invariant c.in-Some.is))
    c.item.ensures

pub add_out_set-requires-clause-number : goal.add_out_set-requires-clause-number
add_out_set-requires-clause-number c =
    let row = row-of_set c.args.table.now c.args.input c.args.files.now c.in-Some.entry c.item.result c.requires.files
    (is-inside c.args.files.now.rows.entries c.args.number c.in-Some.entry (walk-here _ _ _ _ _ _ _
    c.loop-next.invariant c.in-Some.is))
    c.item.ensures in
    rw c.out_number.ensures (named-out c.args.table.now c.item.result c.len.ensures.named row)

pub loop-next-preserved : goal.loop-next-preserved
loop-next-preserved c =
    let t = c.args.table.now in
    walk-next c.args.files.now.rows.entries c.args.number c.item.result (λ n x. has (set_at t.outs
    (row_at t.rows n).out) x) c.args.to.now c.loop-next.to c.add_out_set.new.to c.loop-next.next c.before-next.result
    c.in-Some.entry c.loop-next.invariant c.in-Some.is c.item.ensures
    (c.add_out_set.ensures ∙ ap (λ (n : ℕ). with_those c.loop-next.to (has (set_at t.outs n))) c.out_number.ensures)
    c.before-next.ensures

pub returns : goal.returns
returns c =
    let t = c.args.table.now in
    walk-end c.args.files.now.rows.entries c.args.number (λ n x. has (set_at t.outs (row_at t.rows n).out) x)
    c.args.to.now c.loop-next.to c.loop-next.next (adds t Forward c.args.input c.args.number)
    c.loop-next.invariant c.in_default.is
    (λ x held. rows-found t c.args.files.now c.args.input c.args.number x c.requires.files)
