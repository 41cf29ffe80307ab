-- Rows of what a check compares.
use Rattle.std.specs.Prelude.{List, [], ◌∷◌}
use Rattle.std.proofs.Common.{refl, sym, true≢false}
use Rattle.sz_cells.specs.Extent.{flat}
use Rattle.sz_spec.specs.declared.op.Op.TheVariants.{Neg}
use Rattle.sz_spec.specs.declared.modes.Strategy.{Strategy}
use Rattle.sz_spec.specs.declared.modes.Strategy.TheVariants.{FullOneB, FullOneF, Map, PayOne}
use Rattle.sz_spec.specs.Shapes.{Site}
use Rattle.sz_store.specs.Kept.{NodeLineage}
use Rattle.sz_recover.specs.Comparing.{IsOneOf}

-- the negation of one cell
abbrev site : Site
site = record { op = Neg; out = flat 1 1; ins = flat 1 1 ∷ [] }

-- its stores by a list; which they are does not matter here
abbrev kept : List Strategy → NodeLineage
kept list = record { site = site; list = list; placed = []; stores = [] }

one-of-its-list : IsOneOf FullOneB site (kept (FullOneB ∷ []))
one-of-its-list = record { site = refl; listed = refl; stored = refl; supported = refl }

-- a strategy that is not listed, one that stores nothing, and one that negation does not have
one-of-another-list : IsOneOf FullOneF site (kept (FullOneB ∷ [])) → ⊥
one-of-another-list is = true≢false (sym is.listed)

one-that-stores-nothing : IsOneOf Map site (kept (Map ∷ [])) → ⊥
one-that-stores-nothing is = true≢false (sym is.stored)

one-that-is-unsupported : IsOneOf PayOne site (kept (PayOne ∷ [])) → ⊥
one-that-is-unsupported is = true≢false (sym is.supported)
