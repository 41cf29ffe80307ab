-- What a reader may take for granted of stores in the bytes of a format. Each law is proved of the
-- definitions.
use Rattle.std.specs.Prelude.{◌≡◌, ℕ, ◌↔◌, List, ◌∷◌}
use Rattle.sz_spec.specs.declared.modes.Strategy.{Strategy}
use Rattle.sz_spec.specs.Shapes.{Site}
use Rattle.sz_region.specs.LawsStores.{AreRight}
use Rattle.sz_store.specs.Kept.{Keep}
use Rattle.sz_store.specs.Words.{BeginEach}
use Rattle.sz_formats.specs.Words.{BeginEachIn}

-- In format 1 the stores of a node are those that `sz_store` writes.
abbrev pub FormatOneIsAsBefore : Type 0
FormatOneIsAsBefore = (s : Site) (ts : List Strategy) (bytes : List ℕ) (at next : ℕ)
    (fs : List Keep) → BeginEachIn 1 s ts bytes at next fs ↔ BeginEach s ts bytes at next fs

-- At most one list of stores of a format begins at a place of some bytes, and the last one ends at
-- one place.
abbrev pub OneListOfStoresBegins : Type 0
OneListOfStoresBegins = (f : ℕ) (s : Site) (ts : List Strategy) (bytes : List ℕ)
    (at next other : ℕ) (a b : List Keep) → AreRight (s.out ∷ s.ins)
    → BeginEachIn f s ts bytes at next a → BeginEachIn f s ts bytes at other b
    → (a ≡ b) × (next ≡ other)
