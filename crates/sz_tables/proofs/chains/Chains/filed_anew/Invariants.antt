-- The entries so far are filed anew, and there is room for the rest.
use Rattle.std.proofs.Common.{◌≡◌, ◌+◌, length, map, take}
use Rattle.sz_tables.specs.Filed.{entry_of, rest_under}
use Rattle.sz_tables.proofs.chains.Chains.filed_anew.Given as goal

abbrev pub invariant-loop-link : goal.invariant-loop-link
invariant-loop-link l = record {
  keys : l.anew.keys ≡ l.keys;
  entries : l.anew.entries ≡ map (rest_under l.keys) (map entry_of (take l.link-index l.link-items));
  room : l.anew.spare + l.link-index ≡ length l.link-items + l.more;
}
