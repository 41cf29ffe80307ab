-- The operators so far are those of the nodes so far.
use Rattle.std.proofs.Common.{◌≡◌, map, take}
use Rattle.sz_catalogue.specs.Sites.{site_over}
use Rattle.sz_catalogue.proofs.sites.sites_over.Given as goal

abbrev pub invariant-loop-node : goal.invariant-loop-node
invariant-loop-node l = l.sites.items ≡ map (site_over l.base l.outputs) (take l.node-index l.nodes)
