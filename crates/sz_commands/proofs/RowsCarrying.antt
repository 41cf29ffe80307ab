-- What a line does to what is kept of nodes, worked by hand on both sides.
--
-- The key idea: an entry that was not to change has other nodes or another number, and each of these is seen at once.
use Rattle.std.proofs.Common.{◌≡◌, ℕ, List, [], ◌∷◌, map, length, true, false, refl, sym, ap, arith, true≢false}
use Rattle.std.proofs.Common.{Some, None, Ok, Err}
use Rattle.std.proofs.lemmas.List.Elements.{All-cons, All-nil, All-head}
use Rattle.std.specs.List.{list_all}
use Rattle.sz_spec.specs.Values.{Grid}
use Rattle.sz_store.specs.Kept.{NodeLineage}
use Rattle.sz_shelf.specs.Places.{ShelfPlace}
use Rattle.sz_script.specs.declared.command.BaseName.{BaseName}
use Rattle.sz_script.specs.declared.command.NewCell.{NewCell}
use Rattle.sz_script.specs.declared.command.Command.TheVariants as command
use Rattle.sz_script.specs.declared.refusal.Refusal.TheVariants as refusal
use Rattle.sz_catalogue.specs.Holdings.{Holdings, no_holdings}
use Rattle.sz_versions.specs.Residents.{Stored, none, on_shelf, built, given}
use Rattle.sz_commands.specs.States.{SessionState, nothing_held}
use Rattle.sz_commands.specs.Carrying.{Entries, is_finished, is_given, AreGiven, AddsEntry, FinishesEntry}
use Rattle.sz_commands.specs.Carrying.{EntriesBy, EntriesIf, EntriesRead, StoredBehind}

abbrev number_first : Entries → ℕ
number_first [] = 0
number_first (e ∷ es) = e.0

abbrev nodes_first : Entries → List Stored
nodes_first [] = []
nodes_first (e ∷ es) = e.1

-- ---- nodes

finished-nodes : (z : ShelfPlace) (k : NodeLineage)
    → map is_finished (none ∷ on_shelf z ∷ built k ∷ given k ∷ []) ≡ true ∷ false ∷ true ∷ false ∷ []
finished-nodes z k = refl

given-nodes : (z : ShelfPlace) (k : NodeLineage)
    → map is_given (on_shelf z ∷ built k ∷ given k ∷ []) ≡ false ∷ false ∷ true ∷ []
given-nodes z k = refl

abbrev IsGivenEntry : ℕ × List Stored → Type 0
IsGivenEntry e = list_all is_given e.1 ≡ true

given-all : (k : NodeLineage) → AreGiven ((1, given k ∷ none ∷ []) ∷ [])
given-all k = All-cons IsGivenEntry (1, given k ∷ none ∷ []) [] refl (All-nil IsGivenEntry)

given-one_built : (k : NodeLineage) → AreGiven ((1, given k ∷ built k ∷ []) ∷ []) → ⊥
given-one_built k all = true≢false (sym (All-head IsGivenEntry (1, given k ∷ built k ∷ []) [] all))

-- ---- a start

start-first : AddsEntry no_holdings [] ((1, none ∷ []) ∷ [])
start-first = (none ∷ [], refl)

-- under another number than the next
start-number : AddsEntry no_holdings [] ((2, none ∷ []) ∷ []) → ⊥
start-number (nodes, is) = let n : 2 ≡ 1 = ap number_first is in omega (arith, n)

-- before another, in its place, or with a change to it
start-before : (z : ShelfPlace)
    → AddsEntry no_holdings ((7, none ∷ []) ∷ []) ((1, on_shelf z ∷ []) ∷ (7, none ∷ []) ∷ []) → ⊥
start-before z (nodes, is) = let n : 1 ≡ 7 = ap number_first is in omega (arith, n)

start-instead : (z : ShelfPlace) → AddsEntry no_holdings ((7, none ∷ []) ∷ []) ((1, on_shelf z ∷ []) ∷ []) → ⊥
start-instead z (nodes, is) = let n : 1 ≡ 7 = ap number_first is in omega (arith, n)

start-changes : (z : ShelfPlace) → AddsEntry no_holdings ((7, none ∷ []) ∷ []) ((7, on_shelf z ∷ []) ∷ (1, []) ∷ []) → ⊥
start-changes z (nodes, is) = let one : on_shelf z ∷ [] ≡ none ∷ [] = ap nodes_first is in cc

-- ---- an await

await-own : (z : ShelfPlace) (k : NodeLineage)
    → FinishesEntry false 1 ((1, on_shelf z ∷ none ∷ []) ∷ (2, on_shelf z ∷ []) ∷ [])
    ((1, built k ∷ none ∷ []) ∷ (2, on_shelf z ∷ []) ∷ [])
await-own z k = (
  record { number = refl; other = λ differs. absurd (true≢false differs); own = λ same. refl },
  (record { number = refl; other = λ differs. refl; own = λ same. absurd (true≢false (sym same)) }, tt),
)

-- one node is left on its shelf, or has what no log gave
await-left : (z : ShelfPlace) → FinishesEntry false 1 ((1, on_shelf z ∷ []) ∷ []) ((1, on_shelf z ∷ []) ∷ []) → ⊥
await-left z (is, rest) = true≢false (sym (is.own refl))

await-read : (z : ShelfPlace) (k : NodeLineage)
    → FinishesEntry false 1 ((1, on_shelf z ∷ []) ∷ []) ((1, given k ∷ []) ∷ []) → ⊥
await-read z k (is, rest) = true≢false (sym (is.own refl))

-- another version is finished
await-other : (z : ShelfPlace) (k : NodeLineage)
    → FinishesEntry false 1 ((2, on_shelf z ∷ []) ∷ []) ((2, built k ∷ []) ∷ []) → ⊥
await-other z k (is, rest) = let same : built k ∷ [] ≡ on_shelf z ∷ [] = is.other refl in cc

await-number : (z : ShelfPlace) (k : NodeLineage)
    → FinishesEntry false 1 ((1, on_shelf z ∷ []) ∷ []) ((2, built k ∷ []) ∷ []) → ⊥
await-number z k (is, rest) = let n : 2 ≡ 1 = is.number in omega (arith, n)

-- one entry more, or one less
await-more : (k : NodeLineage) → FinishesEntry false 1 [] ((1, built k ∷ []) ∷ []) → ⊥
await-more k is = is

await-less : (z : ShelfPlace) → FinishesEntry false 1 ((1, on_shelf z ∷ []) ∷ []) [] → ⊥
await-less z is = is

-- a second await
await-again : (es : Entries) → FinishesEntry true 1 es es
await-again es = refl

await-again_changes : (k : NodeLineage) → FinishesEntry true 1 ((1, built k ∷ []) ∷ []) ((1, none ∷ []) ∷ []) → ⊥
await-again_changes k is = let one : none ∷ [] ≡ built k ∷ [] = ap nodes_first is in cc

-- ---- any other command, a refused one, and a line that gives none

abbrev with_shelf : ShelfPlace → Entries
with_shelf z = (1, on_shelf z ∷ []) ∷ []

abbrev without : Entries
without = (1, none ∷ []) ∷ []

lost : (z : ShelfPlace) → without ≡ with_shelf z → ⊥
lost z is = let one : none ∷ [] ≡ on_shelf z ∷ [] = ap nodes_first is in cc

array-stays : (c : Holdings) (name : List ℕ) (grid : Grid) (es : Entries) → EntriesBy c (command.Array name grid) es es
array-stays c name grid es = refl

refresh-adds : (n i : ℕ) (set : List NewCell) → EntriesBy no_holdings (command.Refresh n i set) [] without
refresh-adds n i set = (none ∷ [], refl)

refresh-stays : (c : Holdings) (n i : ℕ) (set : List NewCell) → EntriesBy c (command.Refresh n i set) [] [] → ⊥
refresh-stays c n i set (nodes, is) = let size : 0 ≡ 1 = ap (λ (es : Entries). length es) is in omega (arith, size)

merge-loses : (c : Holdings) (z : ShelfPlace) (n : ℕ) → EntriesBy c (command.Merge n) (with_shelf z) without → ⊥
merge-loses c z n is = lost z is

merged-stays : (c : Holdings) → EntriesBy c (command.Merged 1) without without
merged-stays c = (record { number = refl; other = λ no. refl; own = λ yes. (refl, tt) }, tt)

-- stores that were built are not let go, nor is another version's entry changed, or one added
merged-loses : (c : Holdings) (k : NodeLineage) → EntriesBy c (command.Merged 1) ((1, built k ∷ []) ∷ []) without → ⊥
merged-loses c k (is, rest) = let one = (is.own refl).0 in cc (one.1)

merged-other : (c : Holdings) (k : NodeLineage) → EntriesBy c (command.Merged 2) ((1, built k ∷ []) ∷ []) without → ⊥
merged-other c k (is, rest) = let same : none ∷ [] ≡ built k ∷ [] = is.other refl in cc

merged-more : (c : Holdings) (n : ℕ) → EntriesBy c (command.Merged n) [] without → ⊥
merged-more c n is = is

show-loses : (c : Holdings) (z : ShelfPlace) (n node : ℕ) → EntriesBy c (command.Show n node) (with_shelf z) without → ⊥
show-loses c z n node is = lost z is

plan-loses : (c : Holdings) (z : ShelfPlace) (name : List ℕ) (base : List BaseName) (units back forward : ℕ)
    → EntriesBy c (command.Plan name base units back forward) (with_shelf z) without → ⊥
plan-loses c z name base units back forward is = lost z is

refused-stays : (c : Holdings) (name : List ℕ) (base : List BaseName) (es : Entries)
    → EntriesIf c (command.Start name base) (Some refusal.NoSuchFlow) es es
refused-stays c name base es = refl

refused-loses : (c : Holdings) (z : ShelfPlace) (name : List ℕ) (base : List BaseName)
    → EntriesIf c (command.Start name base) (Some refusal.NoSuchFlow) (with_shelf z) without → ⊥
refused-loses c z name base is = lost z is

refused-adds : (c : Holdings) (name : List ℕ) (base : List BaseName)
    → EntriesIf c (command.Start name base) (Some refusal.NoSuchFlow) [] without → ⊥
refused-adds c name base is = let n : 1 ≡ 0 = ap number_first is in omega (arith, n)

-- a start that no rule refuses is to add one
taken-adds : (name : List ℕ) (base : List BaseName) → EntriesIf no_holdings (command.Start name base) None [] without
taken-adds name base = (none ∷ [], refl)

taken-stays : (name : List ℕ) (base : List BaseName) → EntriesIf no_holdings (command.Start name base) None [] [] → ⊥
taken-stays name base (nodes, is) = let n : 0 ≡ 1 = ap number_first is in omega (arith, n)

read-loses : (c : Holdings) (z : ShelfPlace) → EntriesRead c (Err refusal.NoJson) (with_shelf z) without → ⊥
read-loses c z is = lost z is

-- no version is held, so the await is refused
read-await : (z : ShelfPlace) (n : ℕ) → EntriesRead no_holdings (Ok (command.Await n)) (with_shelf z) without → ⊥
read-await z n is = lost z is

-- a blank line
blank-stays : (s : SessionState) → StoredBehind s (32 ∷ []) s
blank-stays s = refl

blank-loses : (z : ShelfPlace)
    → StoredBehind (record nothing_held { stored = with_shelf z }) (32 ∷ []) (record nothing_held { stored = without })
    → ⊥
blank-loses z is = lost z is
