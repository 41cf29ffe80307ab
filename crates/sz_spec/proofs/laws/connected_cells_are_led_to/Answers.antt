-- Each clause is a lemma of the definitions.
use Rattle.sz_spec.proofs.Components.{connected-is_led, connected-both_high, connected-self}
use Rattle.sz_spec.proofs.Components.{connected-symmetric, connected-parts}
use Rattle.sz_spec.proofs.laws.connected_cells_are_led_to.Goals as goal

pub returns-clause-led_to : goal.returns-clause-led_to
returns-clause-led_to c = connected-is_led

pub returns-clause-high : goal.returns-clause-high
returns-clause-high c = connected-both_high

pub returns-clause-itself : goal.returns-clause-itself
returns-clause-itself c = connected-self

pub returns-clause-symmetric : goal.returns-clause-symmetric
returns-clause-symmetric c = connected-symmetric

pub returns-clause-parts : goal.returns-clause-parts
returns-clause-parts c = connected-parts
