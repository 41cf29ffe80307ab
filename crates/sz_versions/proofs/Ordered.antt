-- What a catalogue keeps in order is in order for a log too.
--
-- The key idea: what is found under a name or a number is among what is held. So the number and the names of a version
-- that is found are those that are held, and its flow has a list for each node.
use Rattle.std.proofs.Common.{◌≡◌, ℕ, ◌≤◌, true, Some, ap, arith, nat_le}
use Rattle.std.specs.Result.{result_err}
use Rattle.std.proofs.lemmas.Bool.Decides.{nat_tests}
use Rattle.sz_catalogue.specs.Holdings.{Version, Holdings, version_numbered}
use Rattle.sz_catalogue.specs.Order as order
use Rattle.sz_catalogue.proofs.Order.{workflow-found, version-found, number-from_one, version-names}
use Rattle.sz_recover.specs.Growing as growing

-- a version that is found under a number
version-in-order : (c : Holdings) (n : ℕ) (v : Version) → order.IsInOrder c → version_numbered c n ≡ Some v
    → growing.IsVersionIn c n v
version-in-order c n v k found =
    let is = version-found c n v k found in
    record {
      some = from_one n (number-from_one c n v k found);
      names = version-names c v k is;
      flow = is.flow;
      base = is.base;
      count = is.run.1.count;
      fits = ap (λ r. result_err r) is.run.1.fits;
      lists = is.run.1.lists;
    } where
      from_one : (m : ℕ) → 1 ≤ m → nat_le 1 m ≡ true
      from_one m some = grind (arith, nat_tests)

-- all that is held
pub catalogue-in-order : (c : Holdings) → order.IsInOrder c → growing.IsInOrder c
catalogue-in-order c k = record {
  flows = λ name w found. (workflow-found c name w k found).lists;
  rising = k.rising;
  each = λ n v found. version-in-order c n v k found;
  few = k.few_versions;
  few_cells = k.few_cells;
}
