-- None of those before the place has the number.
use Rattle.std.proofs.Common.{◌≡◌, take, None, length}
use Rattle.std.specs.Prelude.{find}
use Rattle.sz_versions.proofs.Residents.{has_number}
use Rattle.sz_versions.proofs.held.place_among.Given as goal

abbrev pub invariant-loop-at : goal.invariant-loop-at
invariant-loop-at l = record {
  end : l.at-end ≡ length l.runs;
  none : find (has_number l.version) (take l.at l.runs) ≡ None;
}
