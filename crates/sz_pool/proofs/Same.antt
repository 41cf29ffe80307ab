-- A task stays the same over calls that change its passes alone.
use Rattle.std.proofs.Common.{rules, ◌∙◌}
use Rattle.sz_pool.specs.declared.task.Task.{Task}
use Rattle.sz_pool.specs.Tasks.{IsSameTask}

pub same-task : (a : Task) → IsSameTask a a
same-task a = search rules

pub same-then : (a b c : Task) → IsSameTask a b → IsSameTask b c → IsSameTask a c
same-then a b c g h = record {
  version = h.version ∙ g.version;
  node = h.node ∙ g.node;
  at = h.at ∙ g.at;
  inputs = h.inputs ∙ g.inputs;
  aid = h.aid ∙ g.aid;
  list = h.list ∙ g.list;
  shelf = h.shelf ∙ g.shelf;
  claims = h.claims ∙ g.claims;
}
