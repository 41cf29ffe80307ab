-- The law is a lemma of the definitions.
use Rattle.sz_spec.proofs.Chains.{composed-led}
use Rattle.sz_spec.proofs.laws.composed_cells_are_led_to.Goals as goal

pub returns : goal.returns
returns c = composed-led
