-- The key idea: a row's numbers lie within the list, so the first one does.
use Rattle.std.proofs.Common.{◌≡◌, ◌+◌, ◌*◌, ◌<◌, ◌≤◌, ◌∙◌, length, sym, arith}
use Rattle.std.proofs.lemmas.List.{get_or_read}
use Rattle.sz_tables.proofs.Rows.{rows-length, row-inside, out-at}
use Rattle.sz_tables.proofs.region_table.RegionTable.out_number.Goals as goal
use Rattle.sz_tables.proofs.region_table.RegionTable.out_number.Goals.{After-len}

-- the row is there, and its numbers lie within the list
inside : (c : After-len) → (c.args.row < c.self.inside.count)
    × (c.args.row * (c.len.result + 1) + (c.len.result + 1) ≤ length c.self.inside.names.items)
    × (c.len.result ≡ length c.self.inside.ins.items)
inside c =
    let t = c.self.inside in
    let row : c.args.row < t.count =
    omega (arith, rw (← c.self.view_is, rows-length (length t.ins.items) t.count t.names.items) at c.requires) in
    let same : c.len.result ≡ length t.ins.items = omega (arith, t.ins.ok.0, c.len.ensures) in
    (row, rw same (row-inside (length t.ins.items) t.count c.args.row t.names.items c.self.invariant.0.whole row), same)

pub overflow_mul-row : goal.overflow_mul-row
overflow_mul-row c = let i = inside c in omega (arith, c.self.inside.names.ok.0, c.self.inside.names.small)

pub index-requires : goal.index-requires
index-requires c = let i = inside c in omega (arith, c.self.inside.names.ok.0)

pub returns : goal.returns
returns c =
    let t = c.self.inside in
    let i = inside (goal.at.returns c).After-len in
    let same = i.2 in
    rw (← c.self.view_is)
    (get_or_read t.names.items _ _ (omega (arith, t.names.ok.0)) c.index.ensures 0
    ∙ (rw same (sym (out-at (length t.ins.items) t.count c.args.row t.names.items i.0))))
