-- Each clause is a lemma of the definitions.
use Rattle.sz_support.proofs.SuspectSets.{support-led, support-fixes}
use Rattle.sz_support.proofs.values_depend_on_their_support.Goals as goal

pub returns-clause-led_to : goal.returns-clause-led_to
returns-clause-led_to c = support-led

pub returns-clause-values : goal.returns-clause-values
returns-clause-values c = support-fixes
