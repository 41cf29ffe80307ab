-- The body of a version that is held is lawful over what is held without it.
--
-- The key idea: without it its number is new, and there are as many versions and cells less as it has; all else that is
-- held stays, and the version is one of it.
use Rattle.std.proofs.Common.{◌≡◌, ℕ, ◌==◌, sym, ap, true, false, not, Option, Some, is_none, eq-eqb}
use Rattle.std.specs.BTreeMap.{is_at}
use Rattle.std.specs.Ordering.{nat_cmp}
use Rattle.std.proofs.lemmas.Map.Entries.{lookup-filter-keys}
use Rattle.sz_catalogue.specs.Holdings.{Version, Holdings, version_numbered, output_cells}
use Rattle.sz_catalogue.specs.Rules.{version_of}
use Rattle.sz_bodies.specs.Lawful.{CanBeAdded}
use Rattle.sz_recover.specs.Growing.{IsInOrder, without, HeldBodiesAreLawful}
use Rattle.sz_recover.proofs.Durable.{AreLess, passed-without, can-be-added, version-found}
use Rattle.sz_recover.proofs.InOrder.{number-same}
use Rattle.sz_bodies.proofs.Written.{written-lawful}

-- what is found under the number has it
left-out : (n k : ℕ) → is_at (nat_cmp n) k ≡ true → not (k == n) ≡ false
left-out n k found = ap not (eq-eqb k n (sym (number-same n k found)))

without-less : (c : Holdings) (n : ℕ) (v : Version) → version_numbered c n ≡ Some v
    → AreLess 1 (output_cells v) (without c n).versions c.versions
without-less c n v found =
    passed-without (λ (e : ℕ × Version). not (e.0 == n)) c.versions n v (λ e at own. left-out n e.0 at) found

-- the version can be added again
added-again : (c : Holdings) (n : ℕ) (v : Version) → IsInOrder c → version_numbered c n ≡ Some v
    → CanBeAdded (without c n) n v
added-again c n v order found =
    can-be-added c (without c n).versions c.merges n v order found
    (ap (λ (o : Option Version). is_none o)
    (lookup-filter-keys (is_at (nat_cmp n)) (λ (k : ℕ). not (k == n)) false (left-out n) c.versions))
    (without-less c n v found)

pub held-lawful : HeldBodiesAreLawful
held-lawful format c n stores bytes order some fit spelled =
    let v : Version = version_of c n in
    written-lawful format (without c n) n v stores bytes (added-again c n v order (version-found c n some)) fit spelled
