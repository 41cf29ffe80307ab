-- Which stores fit a version that is held, and what its body then says.
use Rattle.std.specs.Prelude.{◌≡◌, ℕ, List, [], ◌∷◌, map, true, false, Option, Some, None}
use Rattle.std.specs.Prelude.{option_map}
use Rattle.std.specs.Option.{option_map_or}
use Rattle.std.specs.Arc.{arc_value}
use Rattle.std.specs.declared.sync.Arc.{Arc}
use Rattle.sz_spec.specs.declared.modes.Strategy.{Strategy}
use Rattle.sz_spec.specs.Shapes.{Site}
use Rattle.sz_store.specs.Kept.{NodeLineage, is_whole}
use Rattle.sz_script.specs.declared.command.BaseName.{BaseName}
use Rattle.sz_catalogue.specs.Holdings.{Base, Version}
pub use Rattle.sz_catalogue.specs.Sites.{site_in, sites_of}
use Rattle.sz_catalogue.specs.Rules.{names_a_store}
use Rattle.sz_bodies.specs.Bodies.{NodePart, VersionBody}

-- ---- stores that fit

-- stores that are whole, of an operator at its shapes, for a list of strategies
pub record IsWholeFor (s : Site) (list : List Strategy) (kept : NodeLineage) : Type 0 where
  pub site : kept.site ≡ s
  pub own : kept.list ≡ list
  pub whole : is_whole kept ≡ true

-- there are stores exactly where the list has a strategy that keeps one
abbrev pub FitsNode : Site → List Strategy → Option NodeLineage → Type 0
FitsNode s list None = names_a_store list ≡ false
FitsNode s list (Some kept) = (names_a_store list ≡ true) × IsWholeFor s list kept

-- for each of these nodes there is a list, and stores that fit
abbrev pub FitNodes : List Site → List (List Strategy) → List (Option NodeLineage) → Type 0
FitNodes [] [] [] = Unit {0}
FitNodes (s ∷ sites) (list ∷ lists) (kept ∷ stores) =
    FitsNode s list kept × FitNodes sites lists stores
FitNodes _ _ _ = ⊥

-- the stores fit the version
abbrev pub Fit : Version → List (Option NodeLineage) → Type 0
Fit v stores = FitNodes (sites_of v) v.lists stores

-- what stores in the hands of several owners keep
abbrev pub lineages : {X : Type 0} → List (Option (Arc NodeLineage X)) → List (Option NodeLineage)
lineages stores = map (λ kept. option_map (λ a. arc_value a) kept) stores

-- ---- what the body says

abbrev pub part_of : List Strategy → Option NodeLineage → NodePart
part_of list kept = record { list = list; stores = option_map_or (λ k. k.stores) kept [] }

abbrev pub parts_of : List (List Strategy) → List (Option NodeLineage) → List NodePart
parts_of (list ∷ lists) (kept ∷ stores) = part_of list kept ∷ parts_of lists stores
parts_of _ _ = []

abbrev pub named_base : Base → BaseName
named_base b = record { name = b.name; version = b.version }

-- what the body of a version says, by its number and with these stores
abbrev pub body_of : ℕ → Version → List (Option NodeLineage) → VersionBody
body_of number v stores = record {
  number = number;
  flow_name = v.flow_name;
  base = map named_base v.base;
  nodes = parts_of v.lists stores;
}
