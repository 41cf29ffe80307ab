-- Of two first wrong stores neither is before the other.
use Rattle.sz_recover.proofs.Telling.{none-means-each, each-means-none, one-told}
use Rattle.sz_recover.proofs.laws.one_thing_is_told_of_stores.Goals as goal

pub returns-clause-none : goal.returns-clause-none
returns-clause-none c = none-means-each

pub returns-clause-each : goal.returns-clause-each
returns-clause-each c = each-means-none

pub returns-clause-one : goal.returns-clause-one
returns-clause-one c = one-told
