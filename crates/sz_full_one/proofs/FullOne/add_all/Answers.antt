-- The store was given what its table holds.
use Rattle.std.proofs.Common.{◌++◌, map, sym, subst}
use Rattle.std.specs.Arc.{arc_value}
use Rattle.sz_frame.specs.Parts.{Pairing}
use Rattle.sz_tables.specs.Stores.{Store}
use Rattle.sz_tables.specs.Apart.{HaveInputsApart}
use Rattle.sz_full_one.proofs.FullOne.add_all.Goals as goal

pub add_regions-requires-clause-apart : goal.add_regions-requires-clause-apart
add_regions-requires-clause-apart c told =
    subst (λ (s : Store Pairing). HaveInputsApart (s.given ++ map (λ a. arc_value a) c.args.regions.now))
    (sym c.self.view_is) (c.requires.apart told)
