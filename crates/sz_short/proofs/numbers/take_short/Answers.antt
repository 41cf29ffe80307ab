-- A number of four bytes has at most four bytes more than one.
use Rattle.std.proofs.Common.{Option, Some, None}
use Rattle.std.specs.Option.{IfNone}
use Rattle.sz_region.specs.Stores.{NoneAt}
use Rattle.sz_short.specs.ShortNumber.{short_number, IsSmall}
use Rattle.sz_short.proofs.ShortNumbers.{fits-four}
use Rattle.sz_short.proofs.numbers.take_short.Goals as goal

none-weaker : {T : Type 0} (o : Option T) (P Q : Type 0) → (P → Q) → IfNone o P → IfNone o Q
none-weaker None P Q so is = so is
none-weaker (Some x) P Q so is = is

pub returns-clause-some : goal.returns-clause-some
unfolding short_number
returns-clause-some c = c.take_within.ensures.some

pub returns-clause-none : goal.returns-clause-none
unfolding short_number
returns-clause-none c =
    none-weaker c.take_within.result _ (NoneAt IsSmall short_number c.args.bytes.now c.args.at)
    (λ none n rest small spelled. none n rest (fits-four n small) spelled) c.take_within.ensures.none
