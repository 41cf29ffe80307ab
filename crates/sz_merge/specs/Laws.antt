-- What a reader may take for granted of merged stores: the numbers that are told are those of the
-- kinds of lineage, of the stores that were merged and of an operator. The laws are proved of the
-- definitions.
use Rattle.std.specs.Prelude.{◌≡◌, ℕ, List, filter, map, Bool, true, false, Ok}
use Rattle.sz_spec.specs.declared.modes.Mode.{Mode}
use Rattle.sz_spec.specs.declared.modes.Mode.TheVariants as mode
use Rattle.sz_spec.specs.declared.modes.Strategy.{Strategy}
use Rattle.sz_spec.specs.Kinds.{kinds_of}
use Rattle.sz_spec.specs.Modes.{mode_of}
use Rattle.sz_spec.specs.Shapes.{Site, shape_of}
use Rattle.sz_store.specs.Kept.{Keep, NodeLineage}
use Rattle.sz_shelf.specs.Tags.{Tag, IsTag, StandsFor}
use Rattle.sz_merge.specs.Merged.{AreMerged}
use Rattle.sz_merge.specs.Stood.{kinds_kept}

-- Whatever the stores of a node stand for, the number that is told once they are merged is, for
-- each one that had region pairs, how many kinds of lineage it had.
abbrev pub NumbersToldAreThoseKept : Type 0
NumbersToldAreThoseKept = (s : Site) (list : List Strategy) (before : List Keep)
    (after : NodeLineage) (bytes kinds : List ℕ) → AreMerged s list before after bytes kinds
    → kinds ≡ kinds_kept s before

-- stores of this mode keep region pairs
abbrev pub keeps_pairs : Mode → Bool
keeps_pairs mode.Full = true
keeps_pairs _ = false

-- the strategies of a list whose stores keep region pairs
abbrev pub paired_in : List Strategy → List Strategy
paired_in list = filter (λ s. keeps_pairs (mode_of s)) list

-- Where the stores of a node stand for a tag's relation, the number that is told once they are
-- merged is, for each strategy whose store keeps region pairs, how many kinds of lineage the tag's
-- operator has over the tag's arrays.
abbrev pub NumbersToldAreTheKinds : Type 0
NumbersToldAreTheKinds = (t : Tag) (before after : NodeLineage) (bytes kinds : List ℕ) → IsTag t
    → shape_of t.site.op t.site.ins ≡ Ok t.site.out → StandsFor t before
    → AreMerged t.site t.list before.stores after bytes kinds
    → kinds ≡ map (λ s. kinds_of t.site.op t.inputs) (paired_in t.list)
