-- What is asked of the pairs is what the caller has shown.
use Rattle.sz_core.proofs.relation.PairIndex.new.Goals as goal

pub indexes_of-requires-clause-within : goal.indexes_of-requires-clause-within
indexes_of-requires-clause-within c = rw (c.deref.ensures.value, c.deref-2.ensures.value) c.requires.within

pub indexes_of-requires-2-clause-within : goal.indexes_of-requires-2-clause-within
indexes_of-requires-2-clause-within c = rw (c.deref-3.ensures.value, c.deref-4.ensures.value) c.requires.within
