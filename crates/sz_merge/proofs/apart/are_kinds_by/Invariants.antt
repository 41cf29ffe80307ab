-- The region pairs of the rows so far are kinds, their output cells are seen, and the numbers of their sets are
-- noted, no number for two of them.
use Rattle.std.proofs.Common.{◌≡◌, ℕ, ◌<◌, true, length, map, take}
use Rattle.std.specs.Prelude.{slice_index_or}
use Rattle.sz_frame.specs.Stands.{set_of}
use Rattle.sz_tables.specs.Rows.{pairings, row_at, number_in, sets_of}
use Rattle.sz_merge.specs.Apart.{AreSeen}
use Rattle.sz_merge.proofs.apart.are_kinds_by.Given as goal

abbrev pub invariant-loop-row : goal.invariant-loop-row
invariant-loop-row l =
    let rs = take l.row (pairings l.table) in
    record {
      shape : l.seen.extent ≡ l.table.out;
      many : length l.known.items ≡ length (sets_of l.table.sets l.input);
      seen : AreSeen l.input rs l.seen (map (λ r. set_of r l.input) rs);
      noted : (m : ℕ) → m < l.row → slice_index_or l.known.items (number_in
          (row_at l.table.rows m) l.input) true ≡ true;
      fresh : (m n : ℕ) → m < l.row → n < l.row
          → number_in (row_at l.table.rows m) l.input ≡ number_in (row_at l.table.rows n) l.input → m ≡ n;
    }
