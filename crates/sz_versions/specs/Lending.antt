-- What is kept of a version's nodes once it was lent: passes were split off, and each was counted.
use Rattle.std.specs.Prelude.{◌≡◌, ℕ, zero, suc, ◌+◌, ◌≤◌, List, [], ◌∷◌, if◌then◌else◌}
use Rattle.std.specs.List.{AllZip}
use Rattle.sz_spec.specs.declared.modes.Dir.{Dir}
use Rattle.sz_spec.specs.declared.modes.Strategy.{Strategy}
use Rattle.sz_spec.specs.Modes.{is_stored}
use Rattle.sz_spec.specs.Paths.{Step}
use Rattle.sz_shelf.specs.Passes.{Onlooker, place_of}
use Rattle.sz_catalogue.specs.Holdings.{Version}
use Rattle.sz_catalogue.specs.Changes.{way_of}
use Rattle.sz_versions.specs.Stores.{Keeping, nothing, growing, whole, read, Trail}

-- what is kept, once so many passes were split off the one that is kept beside a shelf
abbrev pub lent : ℕ → Keeping → Keeping
lent n nothing = nothing
lent n (growing z p) = growing z record p { splits = p.splits + n }
lent n (whole kept) = whole kept
lent n (read kept) = read kept

-- ---- to views

-- once a view for a way was made of it: one by what a strategy keeps has a pass of its own
abbrev pub once_viewed : Strategy → Keeping → Keeping
once_viewed s kept = if is_stored s then lent 1 kept else kept

-- what stands at a place of a list is changed
abbrev pub changed_at : (Keeping → Keeping) → ℕ → List Keeping → List Keeping
changed_at f n [] = []
changed_at f zero (k ∷ keeps) = f k ∷ keeps
changed_at f (suc n) (k ∷ keeps) = k ∷ changed_at f n keeps

-- a trail once a view was made for a step, and for each step of a path, one after the other
abbrev pub once_asked : Version → Dir → Step → Trail → Trail
once_asked v dir s t =
    record t { kept = changed_at (once_viewed (way_of v dir s)) s.node t.kept }

abbrev pub once_along : Version → Dir → List Step → Trail → Trail
once_along v dir [] t = t
once_along v dir (s ∷ path) t = once_along v dir path (once_asked v dir s t)

-- ---- to workers

-- some passes were split off, and no more than so many; or however many
abbrev pub IsLentTo : ℕ → Keeping → Keeping → Type 0
IsLentTo most before after = (n : ℕ) × (n ≤ most) × (after ≡ lent n before)

abbrev pub IsLent : Keeping → Keeping → Type 0
IsLent before after = (n : ℕ) × (after ≡ lent n before)

abbrev pub AreLent : List Keeping → List Keeping → Type 0
AreLent before after = AllZip IsLent before after

-- ---- to whatever else

-- What is kept of a node stays, but for the pass beside a shelf: that is one of the shelf still.
abbrev pub IsKeptStill : Keeping → Keeping → Type 0
IsKeptStill nothing after = after ≡ nothing
IsKeptStill (growing z p) after =
    (q : Onlooker) × (after ≡ growing z q) × (place_of q ≡ place_of p)
IsKeptStill (whole kept) after = after ≡ whole kept
IsKeptStill (read kept) after = after ≡ read kept

abbrev pub AreKeptStill : List Keeping → List Keeping → Type 0
AreKeptStill before after = AllZip IsKeptStill before after

-- so it is of a trail
pub record IsTrailStill (before after : Trail) : Type 0 where
  pub executions : after.executions ≡ before.executions
  pub kept : AreKeptStill before.kept after.kept
