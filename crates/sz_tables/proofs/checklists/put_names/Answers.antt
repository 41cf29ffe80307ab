-- One name more.
use Rattle.std.proofs.Common.{◌≡◌, ◌∙◌, ap, map, take, arith, List}
use Rattle.std.proofs.lemmas.List.{take_all}
use Rattle.sz_tables.specs.Rows.{Row, pairing_of}
use Rattle.sz_tables.specs.Checklists.{pair_named}
use Rattle.sz_tables.proofs.Ticking.{names-more}
use Rattle.sz_tables.proofs.checklists.put_names.Goals as goal

pub loop-row-preserved : goal.loop-row-preserved
loop-row-preserved c =
    let t = c.args.table.now in
    let i = c.loop-row.row in
    ap (map (pair_named t)) c.in_ok-push.ensures.items
    ∙ names-more t c.loop-row.to.items c.name_at.result i (omega
    (arith, c.len-row-end.ensures.count, c.loop-row-test.true))
    c.loop-row.invariant c.name_at.ensures

pub returns : goal.returns
returns c =
    let t = c.args.table.now in
    c.loop-row.invariant
    ∙ ap (λ (rows : List Row). map (pairing_of t.outs t.sets) rows)
    (take_all c.loop-row.row t.rows (omega (arith, c.len-row-end.ensures.count, c.loop-row-test.false)))
