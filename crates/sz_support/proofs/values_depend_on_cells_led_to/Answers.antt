-- The law is a lemma of the definitions.
use Rattle.sz_support.proofs.OneFlow.{value-led}
use Rattle.sz_support.proofs.values_depend_on_cells_led_to.Goals as goal

pub returns : goal.returns
returns c = value-led
