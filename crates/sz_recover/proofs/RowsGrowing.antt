-- What is in order, which part of it is durable, which lines stand in which groups, and what one reading keeps: small
-- values on both sides of each.
--
-- The key idea: on written-out values each is a computation; what does not hold gives two different ones as equal.
use Rattle.std.proofs.Common.{◌≡◌, ℕ, ◌+◌, List, [], ◌∷◌, Some, None, Option, refl, sym, ap, arith, false}
use Rattle.std.proofs.Common.{true≢false}
use Rattle.std.proofs.Common.{filter, inl, inr, length, get_or}
use Rattle.std.specs.List.{range_with_len}
use Rattle.std.specs.List.Sorted.{IsStrictlySortedBy}
use Rattle.std.proofs.lemmas.List.Elements.{All-cons, All-nil}
use Rattle.sz_spec.specs.declared.modes.Dir.{Dir}
use Rattle.sz_spec.specs.declared.modes.Strategy.{Strategy}
use Rattle.sz_spec.specs.declared.modes.Strategy.TheVariants as strategy
use Rattle.sz_spec.specs.Flows.{Graph}
use Rattle.sz_spec.specs.Paths.{Step}
use Rattle.sz_spec.specs.Values.{Grid}
use Rattle.sz_script.specs.declared.command.BaseName.{BaseName}
use Rattle.sz_script.specs.declared.command.Command.{Command}
use Rattle.sz_script.specs.declared.command.Command.TheVariants as command
use Rattle.sz_script.specs.declared.command.NamedCell.{NamedCell}
use Rattle.sz_store.specs.Kept.{Holding, Keep, NodeLineage, regions, entries}
use Rattle.sz_catalogue.specs.Holdings.{Base, Version, Holdings, no_holdings, array_version, held_cells}
use Rattle.sz_catalogue.specs.Rules as rules
use Rattle.sz_log.specs.Laws.{Reads}
use Rattle.sz_log.specs.Log.{LogGroup, empty_log}
use Rattle.sz_log.proofs.Rows.{one}
use Rattle.sz_recover.specs.Logs.{Kept, is_of_kind}
use Rattle.sz_recover.specs.Growing.{durable, without, IsVersionIn, IsInOrder, Growth, GrowsOrKeeps}
use Rattle.sz_recover.specs.OneReading.{unplaced, bare, all_bare}
use Rattle.sz_bodies.proofs.Rows.{whole}
use Rattle.sz_recover.proofs.RowsLogs.{empty-made, made-kept}
use Rattle.sz_recover.proofs.RowsSound.{array, version, held, right, wrong}

-- ---- which lines stand in groups of which kind

abbrev kinds_of : Command → List ℕ
kinds_of order = filter (λ kind. is_of_kind kind order) (range_with_len 0 256)

pub kinds-array : (name : List ℕ) (grid : Grid) → kinds_of (command.Array name grid) ≡ 1 ∷ []
kinds-array name grid = refl

pub kinds-csv : (name : List ℕ) (grid : Grid) → kinds_of (command.Csv name grid) ≡ 1 ∷ []
kinds-csv name grid = refl

pub kinds-layers : (name : List ℕ) (grid : Grid) → kinds_of (command.Layers name grid) ≡ 1 ∷ []
kinds-layers name grid = refl

pub kinds-flow : (name : List ℕ) (flow : Graph) → kinds_of (command.Flow name flow) ≡ 2 ∷ []
kinds-flow name flow = refl

pub kinds-strategy : (name : List ℕ) (node : ℕ) (list : List Strategy)
    → kinds_of (command.Strategy name node list) ≡ 3 ∷ []
kinds-strategy name node list = refl

-- no other line stands in one
pub kinds-start : (name : List ℕ) (base : List BaseName) → kinds_of (command.Start name base) ≡ []
kinds-start name base = refl

pub kinds-plan : (name : List ℕ) (base : List BaseName) (units back forward : ℕ)
    → kinds_of (command.Plan name base units back forward) ≡ []
kinds-plan name base units back forward = refl

pub kinds-await : (n : ℕ) → kinds_of (command.Await n) ≡ []
kinds-await n = refl

pub kinds-ask : (n : ℕ) (dir : Dir) (path : List Step) (named : List NamedCell)
    → kinds_of (command.Ask n dir path named) ≡ []
kinds-ask n dir path named = refl

pub kinds-explain : (n : ℕ) (dir : Dir) (path : List Step) (named : List NamedCell)
    → kinds_of (command.Explain n dir path named) ≡ []
kinds-explain n dir path named = refl

pub kinds-show : (n node : ℕ) → kinds_of (command.Show n node) ≡ []
kinds-show n node = refl

-- ---- what is durable

-- version 2 was started and not awaited
abbrev begun : Version
begun = record version { awaited = false }

abbrev more : Holdings
more = record held { versions = (1, version) ∷ (2, begun) ∷ [] }

pub durable-drops : durable more ≡ held
durable-drops = refl

pub durable-keeps : durable held ≡ held
durable-keeps = refl

pub without-one : without more 1 ≡ record held { versions = (2, begun) ∷ [] }
without-one = refl

pub without-other : without more 3 ≡ more
without-other = refl

-- ---- a version of what is held

abbrev Held : Base → Type 0
Held b = array_version held b.name b.version ≡ Some b.array

pub version-in : IsVersionIn held 1 version
version-in = record {
  some = refl;
  names = refl;
  flow = refl;
  base = All-cons Held (record { name = 97 ∷ []; version = 1; array = array }) [] refl (All-nil Held);
  count = refl;
  fits = refl;
  lists = refl;
}

-- no version has the number 0
pub version_0 : IsVersionIn held 0 version → ⊥
version_0 is = true≢false (sym is.some)

-- an upper-case letter is no name
pub version-name : IsVersionIn held 1 (record version { flow_name = 70 ∷ [] }) → ⊥
version-name is = true≢false (sym is.names)

-- no flow `g` is held
pub version-flow : IsVersionIn held 1 (record version { flow_name = 103 ∷ [] }) → ⊥
version-flow is = cc

-- the array `a` has one version
pub version-base : IsVersionIn held 1
    (record version { base = record { name = 97 ∷ []; version = 2; array = array } ∷ [] }) → ⊥
version-base is =
    let other = is.base 0 (record { name = 97 ∷ []; version = 2; array = array }) (omega arith) in cc

-- the flow takes one
pub version-count : IsVersionIn held 1 (record version { base = [] }) → ⊥
version-count is = omega (arith, is.count)

-- its node has a list for `neg`
pub version-no_list : IsVersionIn held 1 (record version { lists = [] }) → ⊥
version-no_list is = true≢false (sym is.lists)

pub version-list : IsVersionIn held 1 (record version { lists = (strategy.PayOne ∷ []) ∷ [] }) → ⊥
version-list is = true≢false (sym is.lists)

-- ---- what is in order

-- numbers that do not rise
pub order-falls : IsInOrder (record held { versions = (2, version) ∷ (1, version) ∷ [] }) → ⊥
unfolding IsStrictlySortedBy
order-falls is = cc

-- the same number twice
pub order-twice : IsInOrder (record held { versions = (1, version) ∷ (1, version) ∷ [] }) → ⊥
unfolding IsStrictlySortedBy
order-twice is = cc

-- more versions, or more cells, than may be held
pub order-versions : (c : Holdings) → length c.versions ≡ rules.most_versions + 1 → IsInOrder c → ⊥
order-versions c many is = omega (arith, many, is.few)

pub order-cells : (c : Holdings) → held_cells c ≡ rules.most_cells + 1 → IsInOrder c → ⊥
order-cells c many is = omega (arith, many, is.few_cells)

-- a version that is none of what is held
pub order-version : IsInOrder (record no_holdings { versions = (1, version) ∷ [] }) → ⊥
order-version is = let own = (is.each 1 version refl).flow in cc

-- a flow whose node has no list
pub order-flow : IsInOrder (record held {
  flows = (102 ∷ [], record { graph = version.flow; lists = [] }) ∷ [];
  versions = [];
}) → ⊥
order-flow is = let own = is.flows (102 ∷ []) (record { graph = version.flow; lists = [] }) refl in cc

-- ---- a log that grows or stays

abbrev growth : Growth
growth = record {
  format_before = 1;
  before = no_holdings;
  kept = [];
  format_after = 1;
  after = no_holdings;
  more = [];
}

pub stays-empty : GrowsOrKeeps 16 one growth empty_log empty_log
stays-empty = inl empty-made

-- nothing at all is neither
pub stays-not_cut : GrowsOrKeeps 16 one growth empty_log [] → ⊥
stays-not_cut (inl is) = true≢false (sym is.header)
stays-not_cut (inr is) = true≢false (sym is.header)

-- nor is the empty log, where stores were kept: it keeps none, and does not end behind the group
pub stays-not_kept : GrowsOrKeeps 16 one (record growth { kept = right ∷ [] }) empty_log empty_log → ⊥
stays-not_kept (inl is) = made-kept 1 no_holdings right is
stays-not_kept (inr is) = none is.entries is.read where
  none : (es : List LogGroup) → Reads empty_log 16 es 53 → ⊥
  none [] (end, closed) = omega (arith, end)
  none (e ∷ es) (group, body, rest) = cc

-- ---- what one reading keeps: the number and the stores, and not which pieces were placed

pub bare-right : bare right ≡ record { number = 1; stores = Some (record whole { placed = [] }) ∷ [] }
bare-right = refl

pub bare-unplaced : all_bare (right ∷ []) ≡ all_bare (record right { stores = Some (unplaced whole) ∷ [] } ∷ [])
bare-unplaced = refl

pub bare-number : all_bare (right ∷ []) ≡ all_bare (record right { number = 2 } ∷ []) → ⊥
bare-number is = let n : 1 ≡ 2 = ap (λ (ks : List Kept). (get_or ks 0 right).number) is in omega (arith, n)

-- how many region pairs the first store of the first node keeps
pairs-in : Holding → ℕ
pairs-in (regions rs) = length rs
pairs-in (entries composite es) = 0

pairs-of : List Keep → ℕ
pairs-of [] = 0
pairs-of (f ∷ fs) = pairs-in f.holding

first-pairs : List (Option NodeLineage) → ℕ
first-pairs [] = 0
first-pairs (None ∷ stores) = 0
first-pairs (Some x ∷ stores) = pairs-of x.stores

pub bare-stores : all_bare (right ∷ []) ≡ all_bare (wrong ∷ []) → ⊥
unfolding pairs-in pairs-of first-pairs
bare-stores is =
    let n : 1 ≡ 0 = ap (λ (ks : List Kept). first-pairs (get_or ks 0 right).stores) is in omega (arith, n)

pub bare-no_store : all_bare (right ∷ []) ≡ all_bare (record right { stores = [] } ∷ []) → ⊥
bare-no_store is =
    let n : 1 ≡ 0 = ap (λ (ks : List Kept). length (get_or ks 0 right).stores) is in omega (arith, n)

pub bare-entries : all_bare (right ∷ []) ≡ [] → ⊥
bare-entries is = cc
