-- The key idea: the first offer that attains the least, or else black box.
use Rattle.std.proofs.Common.{refl}
use Rattle.sz_planner.specs.Offers.{black_box_of}
use Rattle.sz_planner.specs.Costs.{cost_over, offer_over}
use Rattle.sz_planner.proofs.reading.offer_over.Goals as goal

pub returns : goal.returns
unfolding offer_over cost_over black_box_of
returns c = record {
  value = rw (
    c.unwrap_or.ensures,
    c.first_of.ensures,
    c.deref-2.ensures.value,
    c.cheapest-least.ensures,
    c.deref.ensures.value,
    c.in_ok-offers.ensures.value,
    c.offer_of-black_box.ensures.value,
  ) refl;
}
