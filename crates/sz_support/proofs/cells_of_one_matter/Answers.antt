-- Each clause is a lemma of the definitions.
use Rattle.sz_support.proofs.MatterOne.{negated-matter, abs-matter, add-matter, mul-matter, mul-present}
use Rattle.sz_support.proofs.MatterOne.{clip-matter, clip-present, transposed-matter, sliced-matter}
use Rattle.sz_support.proofs.cells_of_one_matter.Goals as goal

pub returns-clause-neg : goal.returns-clause-neg
returns-clause-neg c = negated-matter

pub returns-clause-abs : goal.returns-clause-abs
returns-clause-abs c = abs-matter

pub returns-clause-add_k : goal.returns-clause-add_k
returns-clause-add_k c = add-matter

pub returns-clause-mul_k : goal.returns-clause-mul_k
returns-clause-mul_k c = mul-matter

pub returns-clause-mul_k_presence : goal.returns-clause-mul_k_presence
returns-clause-mul_k_presence c = mul-present

pub returns-clause-clip : goal.returns-clause-clip
returns-clause-clip c = clip-matter

pub returns-clause-clip_presence : goal.returns-clause-clip_presence
returns-clause-clip_presence c = clip-present

pub returns-clause-transpose : goal.returns-clause-transpose
returns-clause-transpose c = transposed-matter

pub returns-clause-slice : goal.returns-clause-slice
returns-clause-slice c = sliced-matter
