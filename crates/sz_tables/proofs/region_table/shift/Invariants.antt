-- The key idea: the numbers before the index are appended, each behind the start of its array.
use Rattle.std.proofs.Common.{◌≡◌, ◌++◌, take}
use Rattle.sz_tables.specs.Listing.{shifted}
use Rattle.sz_tables.proofs.region_table.shift.Given as goal

abbrev pub invariant-loop-i : goal.invariant-loop-i
invariant-loop-i l = l.to.items ≡ l.initial.to.items ++ take l.i (shifted l.starts l.numbers)
