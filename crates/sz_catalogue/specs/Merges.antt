-- Versions whose stores are merged.
use Rattle.std.specs.Prelude.{◌==◌, ℕ, List, [], ◌∷◌, ◌++◌, map, filter, Bool, true, false}
use Rattle.std.specs.Prelude.{if◌then◌else◌}
use Rattle.std.specs.List.{list_any}
use Rattle.sz_spec.specs.declared.flow.Node.{Node}
use Rattle.sz_spec.specs.declared.modes.Strategy.{Strategy}
use Rattle.sz_spec.specs.declared.modes.Strategy.TheVariants as strategy
use Rattle.sz_spec.specs.Affected.{arrays_for}
use Rattle.sz_spec.specs.Kinds.{kinds_of}
use Rattle.sz_spec.specs.Flows.{evaluations}
use Rattle.sz_catalogue.specs.Holdings.{Version, Holdings, arrays_of}

-- a version's merge was asked
abbrev pub is_merge_asked : Holdings → ℕ → Bool
is_merge_asked c n = list_any (λ m. m == n) c.merges

-- the merge of a version asked, once
abbrev pub with_merge : Holdings → ℕ → Holdings
with_merge c n = if is_merge_asked c n then c else record c { merges = c.merges ++ n ∷ [] }

-- a store of full lineage, which has region pairs
abbrev pub is_full : Strategy → Bool
is_full strategy.FullOneB = true
is_full strategy.FullOneF = true
is_full strategy.FullManyB = true
is_full strategy.FullManyF = true
is_full _ = false

-- the kinds of lineage of a node, once for each store of full lineage of its list
abbrev pub kinds_in_node : Version → Node → List Strategy → List ℕ
kinds_in_node v x list =
    let inputs = arrays_for (arrays_of v.base) (evaluations v.flow (arrays_of v.base)) x in
    map (λ s. kinds_of x.op inputs) (filter is_full list)

-- of all nodes, one after another
abbrev pub kinds_among : Version → List Node → List (List Strategy) → List ℕ
kinds_among v (x ∷ nodes) (list ∷ lists) = kinds_in_node v x list ++ kinds_among v nodes lists
kinds_among v _ _ = []

abbrev pub kinds_told : Version → List ℕ
kinds_told v = kinds_among v v.flow.nodes v.lists
