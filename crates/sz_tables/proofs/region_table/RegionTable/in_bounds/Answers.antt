-- The set of an input of a row is the one of the row's number in the input's table.
use Rattle.std.proofs.Common.{◌≡◌, ◌<◌, length, ap₂, sym, subst, ◌∙◌, arith}
use Rattle.std.proofs.lemmas.List.{length-map}
use Rattle.sz_spec.specs.declared.modes.Dir.TheVariants.{Forward}
use Rattle.sz_frame.specs.Stands.{set_of}
use Rattle.sz_tables.specs.Tables.{SetsByNumber}
use Rattle.sz_tables.specs.Rows.{row_at, set_at, sets_of}
use Rattle.sz_tables.specs.Scans.{pairing_at}
use Rattle.sz_tables.specs.Sets.{IsRound}
use Rattle.sz_tables.proofs.Scanned.{near-is, row-named}
use Rattle.sz_tables.proofs.Taking.{read-sets}
use Rattle.sz_tables.proofs.region_table.RegionTable.in_bounds.Goals as goal

pub returns : goal.returns
returns c =
    let ts = c.self.inside.ins.items in
    let t = c.args.self.now in
    let i = c.args.input in
    let table = c.index.result.now in
    let row = row_at t.rows c.args.row in
    let inside : i < length ts =
    omega (arith, rw (← c.self.view_is, length-map ts (λ (s : SetsByNumber). s.extent)) at c.requires.input) in
    let sets : sets_of t.sets i ≡ table.sets = rw (← c.self.view_is) (read-sets ts i table inside c.index.ensures) in
    let named = row-named t c.args.row c.len.ensures.named c.requires.row in
    let is : set_of (pairing_at t c.args.row) i ≡ set_at table.sets c.number_of.result =
    near-is Forward t row i named c.requires.input ∙ ap₂ set_at sets (sym c.number_of.ensures) in
    subst (IsRound c.bounds_in.result) (sym is) c.bounds_in.ensures
