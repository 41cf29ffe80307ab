-- The ends of the runs do not fall, so the test splits the runs in two.
use Rattle.std.proofs.Common.{rules, nat_lt}
use Rattle.std.proofs.lemmas.List.Sorted.{IsPartitionPoint-from_clause, IsPartitionedBy-ltb}
use Rattle.sz_payload.proofs.owner.place_of.Goals as goal

pub returns-clause-first : goal.returns-clause-first
returns-clause-first c =
    IsPartitionPoint-from_clause (λ r. nat_lt r.last c.args.index) c.args.runs.now c.partition_point.result
    c.partition_point.ensures.partitioned
    (IsPartitionedBy-ltb (λ r. r.last) c.args.runs.now c.args.index c.requires) (λ a r q k. search rules)
