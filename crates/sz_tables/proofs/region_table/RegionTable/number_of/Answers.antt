-- The key idea: a row's numbers lie within the list, so no sum on the way to one passes its length.
use Rattle.std.proofs.Common.{◌≡◌, ◌+◌, ◌*◌, ◌<◌, ◌≤◌, ◌∙◌, length, sym, arith}
use Rattle.std.proofs.lemmas.List.{get_or_read, length-map}
use Rattle.sz_tables.specs.Tables.{SetsByNumber}
use Rattle.sz_tables.proofs.Rows.{rows-length, row-inside, in-at}
use Rattle.sz_tables.proofs.region_table.RegionTable.number_of.Goals as goal
use Rattle.sz_tables.proofs.region_table.RegionTable.number_of.Goals.{After-len}

-- the row and the input are there, and the row's numbers lie within the list
inside : (c : After-len) → (c.args.row < c.self.inside.count) × (c.args.input < length c.self.inside.ins.items)
    × (c.args.row * (c.len.result + 1) + (c.len.result + 1) ≤ length c.self.inside.names.items)
    × (c.len.result ≡ length c.self.inside.ins.items)
inside c =
    let t = c.self.inside in
    let row : c.args.row < t.count =
    omega (arith, rw (← c.self.view_is, rows-length (length t.ins.items) t.count t.names.items) at c.requires.row) in
    let input : c.args.input < length t.ins.items =
    omega (arith, rw (← c.self.view_is, length-map t.ins.items (λ (s : SetsByNumber). s.extent)) at c.requires.input) in
    let same : c.len.result ≡ length t.ins.items = omega (arith, t.ins.ok.0, c.len.ensures) in (
      row,
      input,
      rw same (row-inside (length t.ins.items) t.count c.args.row t.names.items c.self.invariant.0.whole row),
      same,
    )

pub overflow_mul-start : goal.overflow_mul-start
overflow_mul-start c = let i = inside c in omega (arith, c.self.inside.names.ok.0, c.self.inside.names.small)

pub overflow_add-start-2 : goal.overflow_add-start-2
overflow_add-start-2 c = let i = inside c in omega (arith, c.self.inside.names.ok.0, c.self.inside.names.small)

pub overflow_add-start-3 : goal.overflow_add-start-3
overflow_add-start-3 c = let i = inside c in omega (arith, c.self.inside.names.ok.0, c.self.inside.names.small)

pub index-requires : goal.index-requires
index-requires c = let i = inside c in omega (arith, c.self.inside.names.ok.0)

pub returns : goal.returns
returns c =
    let t = c.self.inside in
    let i = inside (goal.at.returns c).After-len in
    let is = in-at (length t.ins.items) t.count c.args.row c.args.input t.names.items i.0 i.1 in
    rw (← c.self.view_is)
    (get_or_read t.names.items _ _ (omega (arith, t.names.ok.0)) c.index.ensures 0
    ∙ (let same = i.3 in rw same (sym is)))
