-- Both were sorted to one list.
use Rattle.sz_tables.proofs.Same.{sorted-alike}
use Rattle.sz_tables.proofs.checklists.are_one_rows.Goals as goal

pub returns : goal.returns
returns c same =
    sorted-alike c.args.a.now c.args.b.now _ _ c.sort_unstable_by_key.ensures.permutation
    c.sort_unstable_by_key-2.ensures.permutation (c.are_same_rows.ensures.0 same)
