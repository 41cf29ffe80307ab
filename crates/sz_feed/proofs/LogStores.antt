-- The stores that a log keeps have region pairs where their strategy is one of full lineage, and entries elsewhere.
--
-- The key idea: they begin in the body of their version, and what begins there for a strategy is told by its mode.
use Rattle.std.proofs.Common.{◌≡◌, ◌∙◌, ℕ, List, [], ◌∷◌, Option, Some, None, Bool, true, false, refl, sym}
use Rattle.std.proofs.Common.{subst, inl, inr, length}
use Rattle.std.specs.Prelude.{All}
use Rattle.std.proofs.lemmas.List.Elements.{All-nil, All-cons, All-append}
use Rattle.sz_cells.specs.Cells.{Cells}
use Rattle.sz_spec.specs.declared.modes.Mode.{Mode}
use Rattle.sz_spec.specs.declared.modes.Mode.TheVariants as mode
use Rattle.sz_spec.specs.declared.modes.Strategy.{Strategy}
use Rattle.sz_spec.specs.declared.modes.Strategy.TheVariants as strategy
use Rattle.sz_spec.specs.Modes.{mode_of}
use Rattle.sz_spec.specs.Shapes.{Site}
use Rattle.sz_log.specs.Log.{LogGroup}
use Rattle.sz_store.specs.Kept.{Holding, regions, entries, Keep, NodeLineage, stored_in}
use Rattle.sz_formats.specs.Formats.{spelling}
use Rattle.sz_formats.specs.Words.{BeginsBy, BeginEachBy}
use Rattle.sz_catalogue.specs.Holdings.{Version, Holdings}
use Rattle.sz_catalogue.specs.Merges.{is_full}
use Rattle.sz_bodies.specs.Bodies.{BeginNodes}
use Rattle.sz_bodies.specs.Fitting.{FitNodes, parts_of, sites_of, body_of}
use Rattle.sz_bodies.specs.Lawful.{version_said}
use Rattle.sz_recover.specs.Logs.{Kept, Acts, ActEach}
use Rattle.sz_versions.specs.Merging.{holds_pairs, HasEachHolding}

-- what begins for a mode
abbrev keeps_pairs : Mode → Bool
keeps_pairs mode.Full = true
keeps_pairs _ = false

mode-holds : (spell : Cells → List ℕ) (s : Site) (m : Mode) (bytes : List ℕ) (at next : ℕ) (h : Holding)
    → BeginsBy spell s m bytes at next h → holds_pairs h ≡ keeps_pairs m
mode-holds spell s mode.Full bytes at next (regions rs) begins = refl
mode-holds spell s mode.Full bytes at next (entries comp es) begins = absurd begins
mode-holds spell s mode.Pay bytes at next (regions rs) begins = absurd begins
mode-holds spell s mode.Pay bytes at next (entries comp es) begins = refl
mode-holds spell s mode.Comp bytes at next (regions rs) begins = absurd begins
mode-holds spell s mode.Comp bytes at next (entries comp es) begins = refl
mode-holds spell s mode.Map bytes at next h begins = absurd begins
mode-holds spell s mode.BlackBox bytes at next h begins = absurd begins

mode-full : (t : Strategy) → keeps_pairs (mode_of t) ≡ is_full t
mode-full strategy.FullOneB = refl
mode-full _ = refl

-- the stores of a list
abbrev IsSuch : Keep → Type 0
IsSuch f = holds_pairs f.holding ≡ is_full f.strategy

each-holds : (spell : Cells → List ℕ) (s : Site) (ts : List Strategy) (bytes : List ℕ) (at next : ℕ) (fs : List Keep)
    → BeginEachBy spell s ts bytes at next fs → All IsSuch fs
each-holds spell s [] bytes at next [] begin = All-nil IsSuch
each-holds spell s [] bytes at next (f ∷ fs) begin = absurd begin
each-holds spell s (t ∷ ts) bytes at next [] begin = absurd begin
each-holds spell s (t ∷ ts) bytes at next (f ∷ fs) begin =
    All-cons IsSuch f fs
    (subst (λ (u : Strategy). holds_pairs f.holding ≡ is_full u) (sym begin.2)
    (mode-holds spell s (mode_of t) bytes at begin.0 f.holding begin.3 ∙ mode-full t))
    (each-holds spell s ts bytes begin.0 next fs begin.4)

-- those of the nodes of a body
nodes-hold : (format : ℕ) (sites : List Site) (lists : List (List Strategy)) (stores : List (Option NodeLineage))
    (bytes : List ℕ) (at next : ℕ) → FitNodes sites lists stores
    → BeginNodes format sites bytes at next (parts_of lists stores) → All HasEachHolding stores
nodes-hold format [] [] [] bytes at next fit begin = All-nil HasEachHolding
nodes-hold format (s ∷ sites) (l ∷ lists) (None ∷ stores) bytes at next fit begin =
    All-cons HasEachHolding None stores tt (nodes-hold format sites lists stores bytes begin.1 next fit.1 begin.5)
nodes-hold format (s ∷ sites) (l ∷ lists) (Some kept ∷ stores) bytes at next fit begin =
    All-cons HasEachHolding (Some kept) stores
    (each-holds (spelling format) s (stored_in l) bytes begin.0 begin.1 kept.stores begin.4)
    (nodes-hold format sites lists stores bytes begin.1 next fit.1 begin.5)
nodes-hold format _ _ _ bytes at next fit begin = absurd fit

-- those of an entry
abbrev pub HasHoldings : Kept → Type 0
HasHoldings k = All HasEachHolding k.stores

acts-hold : (format after : ℕ) (c d : Holdings) (e : LogGroup) (kept : List Kept) → Acts format c e after d kept
    → All HasHoldings kept
acts-hold format after c d e kept (to, inl l) = subst (All HasHoldings) (sym l.none) (All-nil HasHoldings)
acts-hold format after c d e kept (to, inr (inr u)) = subst (All HasHoldings) (sym u.none) (All-nil HasHoldings)
acts-hold format after c d e kept (to, inr (inl v)) =
    let body = v.lawful.spelled in
    let said = version_said c (body_of v.one.number v.version v.one.stores) in
    let fit : FitNodes (sites_of said) v.version.lists v.one.stores =
    subst (λ (w : Version). FitNodes (sites_of w) v.version.lists v.one.stores) v.said v.fit in
    let own : HasHoldings v.one =
    nodes-hold format (sites_of said) v.version.lists v.one.stores e.body body.place (length e.body) fit body.nodes in
    subst (All HasHoldings) (sym v.kept_is) (All-cons HasHoldings v.one [] own (All-nil HasHoldings))

-- and of groups one after another
pub logs-hold : (format after : ℕ) (c d : Holdings) (es : List LogGroup) (kept : List Kept)
    → ActEach format c es after d kept → All HasHoldings kept
logs-hold format after c d [] kept (to, same, none) = subst (All HasHoldings) (sym none) (All-nil HasHoldings)
logs-hold format after c d (e ∷ es) kept (between, mid, first, rest, acts, all, is) =
    subst (All HasHoldings) (sym is)
    (All-append HasHoldings first rest (acts-hold format between c mid e first acts)
    (logs-hold between after mid d es rest all))
