-- The key idea: a turn appends the numbers of the row at the index.
use Rattle.std.proofs.Common.{◌≡◌, ℕ, ◌+◌, ◌-◌, ◌*◌, ◌∙◌, length, refl, sym, arith}
use Rattle.sz_tables.specs.Listing.{shifted, numbers_at}
use Rattle.sz_tables.proofs.Listing.{flat-more}
use Rattle.sz_tables.proofs.region_table.shift_each.Goals as goal

pub loop-row-preserved : goal.loop-row-preserved
loop-row-preserved c =
    let width = length c.args.starts.now in
    let row = c.loop-row.row in
    let f = λ (n : ℕ). shifted c.args.starts.now (numbers_at width c.args.names.now n) in
    let long : row * width + width - row * width ≡ width = omega arith in
    (rw (c.in_ok-shift.ensures, c.loop-row.invariant, long) refl) ∙ sym (flat-more f row)
