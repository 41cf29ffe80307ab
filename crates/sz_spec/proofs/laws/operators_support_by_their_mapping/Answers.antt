-- Each clause is a lemma of the definitions.
use Rattle.sz_spec.proofs.Ways.{three-no_mapping, supports-mapped, supports-others}
use Rattle.sz_spec.proofs.Ways.{supports-mapped_forward, supports-others_forward}
use Rattle.sz_spec.proofs.laws.operators_support_by_their_mapping.Goals as goal

pub returns-clause-three : goal.returns-clause-three
returns-clause-three c = three-no_mapping

pub returns-clause-mapped : goal.returns-clause-mapped
returns-clause-mapped c = supports-mapped

pub returns-clause-others : goal.returns-clause-others
returns-clause-others c = supports-others

pub returns-clause-mapped_forward : goal.returns-clause-mapped_forward
returns-clause-mapped_forward c = supports-mapped_forward

pub returns-clause-others_forward : goal.returns-clause-others_forward
returns-clause-others_forward c = supports-others_forward
