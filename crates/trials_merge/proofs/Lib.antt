-- A lemma on closures that cross threads.
mod Crossing
