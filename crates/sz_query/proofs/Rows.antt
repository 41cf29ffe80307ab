-- Rows of answers: where sets lead to along short paths, in each direction and by each kind of view, how much is
-- traced, and which steps can be taken.
--
-- The key idea: on written-out views every definition is a computation, so each row is its own proof. Expected values
-- by hand. Sets are given by the row-major indexes of their cells.
use Rattle.std.proofs.Common.{◌≡◌, ℕ, ℤ, pos, negsuc, List, [], ◌∷◌, map, length, Option, Some, refl, sym, ap, arith}
use Rattle.std.proofs.Common.{true, false, true≢false}
use Rattle.std.specs.Prelude.{is_some}
use Rattle.sz_cells.specs.Extent.{Extent, flat}
use Rattle.sz_cells.specs.Cells.{Cells}
use Rattle.sz_spec.specs.declared.op.Op.TheVariants.{Neg, Add, Transpose, Lookup}
use Rattle.sz_spec.specs.declared.modes.Dir.TheVariants.{Back, Forward}
use Rattle.sz_spec.specs.declared.modes.Strategy.TheVariants as strategy
use Rattle.sz_spec.specs.Values.{Grid}
use Rattle.sz_spec.specs.Shapes.{Site}
use Rattle.sz_frame.specs.Parts.{Pairing}
use Rattle.sz_store.specs.Kept.{NodeLineage, regions}
use Rattle.atomic_table.specs.Seated.{TableId}
use Rattle.sz_shelf.specs.Places.{ShelfPlace}
use Rattle.sz_shelf.specs.Passes.{Onlooker, newcomer}
use Rattle.sz_query.specs.declared.used.Used.TheVariants as used
use Rattle.sz_query.specs.Views.{View, by_map, by_store, by_shelf, by_growth, by_trace, used_of, traced_by, IsUsable}
use Rattle.sz_query.specs.Laws.{may_change}
use Rattle.sz_query.specs.Growths.{FoundOpen}
use Rattle.sz_query.specs.Turns.{LookedOnce, IsAsked}
use Rattle.sz_query.specs.Answers.{answered, traced_of, most_traced_of, AreSteps}

abbrev at : Extent → List ℕ → Cells
at e indexes = record { extent = e; indexes = indexes }

abbrev one : Extent
one = flat 1 1

abbrev grid : Extent → List (Option ℤ) → Grid
grid e values = record { extent = e; values = values }

-- the negation of the one cell of base array 0, and the sum of its output and of that array
abbrev five : Grid
five = grid one (Some (pos 5) ∷ [])

abbrev negated : Grid
negated = grid one (Some (negsuc 4) ∷ [])

abbrev negation : View
negation = by_map (record { op = Neg; ins = one ∷ []; out = one })

abbrev sum : View
sum = by_map (record { op = Add; ins = one ∷ one ∷ []; out = one })

abbrev traced_negation : View
traced_negation = by_trace (record { op = Neg; ins = one ∷ []; out = one }) (five ∷ [])

abbrev traced_sum : View
traced_sum = by_trace (record { op = Add; ins = one ∷ one ∷ []; out = one }) (negated ∷ five ∷ [])

pub back : answered Back (sum ∷ negation ∷ []) (0 ∷ 0 ∷ []) (at one (0 ∷ [])) ≡ at one (0 ∷ [])
back = refl

pub forward : answered Forward (negation ∷ sum ∷ []) (0 ∷ 0 ∷ []) (at one (0 ∷ [])) ≡ at one (0 ∷ [])
forward = refl

pub traced_back : answered Back (traced_sum ∷ traced_negation ∷ []) (0 ∷ 0 ∷ []) (at one (0 ∷ [])) ≡ at one (0 ∷ [])
traced_back = refl

pub traced_forward : answered Forward (traced_negation ∷ sum ∷ []) (0 ∷ 0 ∷ []) (at one (0 ∷ [])) ≡ at one (0 ∷ [])
traced_forward = refl

-- no cell leads to none
pub none : answered Back (traced_sum ∷ negation ∷ []) (1 ∷ 0 ∷ []) (at one []) ≡ at one []
none = refl

-- two rows of three, turned over: the cell of row 2 and column 0 comes from that of row 0 and column 2
abbrev six : Grid
six = grid (flat 2 3)
    (Some (pos 1) ∷ Some (pos 2) ∷ Some (pos 3) ∷ Some (pos 4) ∷ Some (pos 5) ∷ Some (pos 6) ∷ [])

abbrev turned : View
turned = by_map (record { op = Transpose; ins = flat 2 3 ∷ []; out = flat 3 2 })

abbrev traced_turned : View
traced_turned = by_trace (record { op = Transpose; ins = flat 2 3 ∷ []; out = flat 3 2 }) (six ∷ [])

pub turned-back : answered Back (turned ∷ []) (0 ∷ []) (at (flat 3 2) (4 ∷ [])) ≡ at (flat 2 3) (2 ∷ [])
turned-back = refl

pub turned-forward : answered Forward (turned ∷ []) (0 ∷ []) (at (flat 2 3) (2 ∷ [])) ≡ at (flat 3 2) (4 ∷ [])
turned-forward = refl

pub turned-traced : answered Back (traced_turned ∷ []) (0 ∷ []) (at (flat 3 2) (4 ∷ [])) ≡ at (flat 2 3) (2 ∷ [])
turned-traced = refl

-- turned over twice, each cell comes from its own place
abbrev turned_again : View
turned_again = by_map (record { op = Transpose; ins = flat 3 2 ∷ []; out = flat 2 3 })

pub turned-twice : answered Back (turned_again ∷ traced_turned ∷ []) (0 ∷ 0 ∷ []) (at (flat 2 3) (1 ∷ 5 ∷ []))
    ≡ at (flat 2 3) (1 ∷ 5 ∷ [])
turned-twice = refl

-- 0, 0 and 1 looked up in a table of two columns: the first two come from column 0
abbrev looked_up : View
looked_up = by_trace (record { op = Lookup; ins = flat 1 3 ∷ flat 1 2 ∷ []; out = flat 1 3 })
    (grid (flat 1 3) (Some (pos 0) ∷ Some (pos 0) ∷ Some (pos 1) ∷ [])
    ∷ grid (flat 1 2) (Some (pos 10) ∷ Some (pos 20) ∷ []) ∷ [])

pub table-back : answered Back (looked_up ∷ []) (1 ∷ []) (at (flat 1 3) (2 ∷ [])) ≡ at (flat 1 2) (1 ∷ [])
table-back = refl

pub cells-back : answered Back (looked_up ∷ []) (0 ∷ []) (at (flat 1 3) (2 ∷ [])) ≡ at (flat 1 3) (2 ∷ [])
cells-back = refl

pub table-forward : answered Forward (looked_up ∷ []) (1 ∷ []) (at (flat 1 2) (0 ∷ [])) ≡ at (flat 1 3) (0 ∷ 1 ∷ [])
table-forward = refl

-- what is traced is counted by the cells of the output, whatever the inputs' sizes, and mappings are not
pub counts : (traced_of (sum ∷ negation ∷ []) ≡ 0) × (traced_of (traced_turned ∷ []) ≡ 6)
    × (traced_of (looked_up ∷ turned ∷ traced_turned ∷ []) ≡ 9) × (traced_of [] ≡ 0)
counts = (refl, refl, refl, refl)

pub uses : map used_of (turned ∷ traced_turned ∷ []) ≡ used.By strategy.Map ∷ used.Traced ∷ []
uses = refl

-- steps that can be taken, and such that can not: from a set of another shape, by an input that is not there, with an
-- input number too many, by a mapping that an operator does not have, over arrays of other shapes
pub right : AreSteps Back (turned_again ∷ traced_turned ∷ []) (0 ∷ 0 ∷ []) (flat 2 3)
right = (
  record { input = omega arith; near = refl; ready = refl },
  (record { input = omega arith; near = refl; ready = refl }, tt),
)

pub other-shape : AreSteps Back (turned ∷ []) (0 ∷ []) (flat 2 3) → ⊥
other-shape steps = absurd (omega (arith, ap (λ (e : Extent). e.rows) steps.0.near))

pub other-input : AreSteps Back (turned ∷ []) (1 ∷ []) (flat 3 2) → ⊥
other-input steps = absurd (omega (arith, steps.0.input))

pub one-input-more : AreSteps Back (turned ∷ []) (0 ∷ 0 ∷ []) (flat 3 2) → ⊥
one-input-more steps = steps.1

pub no-mapping : IsUsable (by_map (record { op = Lookup; ins = flat 1 3 ∷ flat 1 2 ∷ []; out = flat 1 3 })) → ⊥
no-mapping ready = true≢false (sym ready)

pub other-arrays : IsUsable (by_trace (record { op = Neg; ins = one ∷ []; out = one }) []) → ⊥
other-arrays ready = cc

-- ---- by stores

-- the negation of two cells, its stores indexed each way: that for backward queries keeps both pairs of cells, and that
-- for forward ones, which nobody was to fill so, the first alone
abbrev two : Extent
two = flat 1 2

abbrev pair_at : ℕ → Pairing
pair_at k = record { out = at two (k ∷ []); ins = at two (k ∷ []) ∷ [] }

abbrev opposite : Site
opposite = record { op = Neg; ins = two ∷ []; out = two }

abbrev kept : NodeLineage
kept = record {
  site = opposite;
  list = strategy.FullOneB ∷ strategy.Map ∷ strategy.FullOneF ∷ [];
  placed = true ∷ [];
  stores = record { strategy = strategy.FullOneB; holding = regions (pair_at 0 ∷ pair_at 1 ∷ []) }
      ∷ record { strategy = strategy.FullOneF; holding = regions (pair_at 0 ∷ []) } ∷ [];
}

abbrev kept_back : View
kept_back = by_store opposite kept strategy.FullOneB

abbrev kept_forward : View
kept_forward = by_store opposite kept strategy.FullOneF

-- each strategy is answered by its own store, in both directions
pub kept-back : answered Back (kept_back ∷ []) (0 ∷ []) (at two (0 ∷ 1 ∷ [])) ≡ at two (0 ∷ 1 ∷ [])
kept-back = refl

pub kept-forward : answered Forward (kept_back ∷ []) (0 ∷ []) (at two (1 ∷ [])) ≡ at two (1 ∷ [])
kept-forward = refl

pub kept-other : answered Back (kept_forward ∷ []) (0 ∷ []) (at two (0 ∷ 1 ∷ [])) ≡ at two (0 ∷ [])
kept-other = refl

pub kept-other_forward : answered Forward (kept_forward ∷ kept_back ∷ []) (0 ∷ 0 ∷ []) (at two (0 ∷ 1 ∷ []))
    ≡ at two (0 ∷ [])
kept-other_forward = refl

-- nothing is traced by a store, and the strategy is told
pub kept-traced : (traced_of (kept_back ∷ traced_turned ∷ kept_forward ∷ []) ≡ 6) × (traced_by kept_back ≡ 0)
kept-traced = (refl, refl)

pub kept-uses : map used_of (kept_back ∷ turned ∷ kept_forward ∷ [])
    ≡ used.By strategy.FullOneB ∷ used.By strategy.Map ∷ used.By strategy.FullOneF ∷ []
kept-uses = refl

-- a view that can be used, and such that can not: of another operator, while a piece is missing, by a strategy that
-- keeps no store, by one that is not in the list
pub kept-ready : IsUsable kept_back
kept-ready = record { site = refl; whole = refl; stored = refl; listed = refl }

pub kept-other_operator : IsUsable (by_store (record opposite { ins = [] }) kept strategy.FullOneB) → ⊥
kept-other_operator ready = absurd (omega (arith, ap (λ (s : Site). length s.ins) ready.site))

pub kept-piece_missing : IsUsable (by_store opposite (record kept { placed = true ∷ false ∷ [] }) strategy.FullOneB) → ⊥
kept-piece_missing ready = true≢false (sym ready.whole)

pub kept-no_store : IsUsable (by_store opposite kept strategy.Map) → ⊥
kept-no_store ready = true≢false (sym ready.stored)

pub kept-not_listed : IsUsable (by_store opposite kept strategy.FullManyB) → ⊥
kept-not_listed ready = true≢false (sym ready.listed)

-- ---- by shelves

-- a shelf of the negation of two cells, of which a pass has seen nothing, and the same once it saw the seal
abbrev pair : Grid
pair = grid two (Some (pos 3) ∷ Some (pos 4) ∷ [])

abbrev shelf_at : TableId → ShelfPlace
shelf_at z = record {
  table = z;
  tag = record { site = opposite; inputs = pair ∷ []; list = strategy.FullOneB ∷ strategy.Map ∷ [] };
}

abbrev fresh : TableId → Onlooker
fresh z = newcomer (shelf_at z)

abbrev sealed : TableId → Onlooker
sealed z = record (fresh z) { saw = true }

abbrev growing : TableId → View
growing z = by_growth opposite (pair ∷ []) (shelf_at z) (fresh z) strategy.FullOneB

abbrev grown : TableId → View
grown z = by_growth opposite (pair ∷ []) (shelf_at z) (sealed z) strategy.FullOneB

abbrev stored : TableId → View
stored z = by_shelf opposite (shelf_at z) (sealed z) strategy.FullOneB

-- each gives a set its image, whatever the pass saw
pub shelf-back : (z : TableId) → answered Back (stored z ∷ growing z ∷ []) (0 ∷ 0 ∷ []) (at two (1 ∷ []))
    ≡ at two (1 ∷ [])
shelf-back z = refl

pub shelf-forward : (z : TableId) → answered Forward (grown z ∷ stored z ∷ []) (0 ∷ 0 ∷ []) (at two (0 ∷ []))
    ≡ at two (0 ∷ [])
shelf-forward z = refl

-- how they are told: by the strategy where the pass saw the seal, and else as traced, if it may be traced
pub shelf-uses : (z : TableId) → map used_of (growing z ∷ grown z ∷ stored z ∷ [])
    ≡ used.Traced ∷ used.By strategy.FullOneB ∷ used.By strategy.FullOneB ∷ []
shelf-uses z = refl

pub shelf-counts : (z : TableId) → (traced_of (growing z ∷ grown z ∷ stored z ∷ turned ∷ []) ≡ 2)
    × (most_traced_of (growing z ∷ grown z ∷ stored z ∷ traced_turned ∷ kept_back ∷ []) ≡ 10)
shelf-counts z = (refl, refl)

-- views that can be used, and such that can not: a shelf of which the pass saw no seal, a strategy that is not in the
-- shelf's list, one that keeps no store, the pass of a shelf for other arrays
pub growing-ready : (z : TableId) → IsUsable (growing z)
growing-ready z = record { own = refl; site = refl; inputs = refl; fits = refl; listed = refl; stored = refl }

pub stored-ready : (z : TableId) → IsUsable (stored z)
stored-ready z = record { own = refl; site = refl; saw = refl; listed = refl; stored = refl }

pub stored-unsealed : (z : TableId) → IsUsable (by_shelf opposite (shelf_at z) (fresh z) strategy.FullOneB) → ⊥
stored-unsealed z ready = true≢false (sym ready.saw)

pub growing-not_listed : (z : TableId)
    → IsUsable (by_growth opposite (pair ∷ []) (shelf_at z) (fresh z) strategy.FullOneF) → ⊥
growing-not_listed z ready = true≢false (sym ready.listed)

pub growing-no_store : (z : TableId)
    → IsUsable (by_growth opposite (pair ∷ []) (shelf_at z) (fresh z) strategy.Map) → ⊥
growing-no_store z ready = true≢false (sym ready.stored)

pub growing-other_arrays : (z : TableId)
    → IsUsable (by_growth opposite [] (shelf_at z) (fresh z) strategy.FullOneB) → ⊥
growing-other_arrays z ready = absurd (omega (arith, ap (λ (gs : List Grid). length gs) ready.inputs))

-- how a step goes is told before it is taken, but for a view of a shelf that may grow
pub told-before : map may_change (turned ∷ kept_back ∷ traced_turned ∷ []) ≡ false ∷ false ∷ false ∷ []
told-before = refl

pub told-shelf : (z : TableId) → map may_change (stored z ∷ growing z ∷ grown z ∷ []) ≡ false ∷ true ∷ true ∷ []
told-shelf z = refl

-- how many turns the pass of a view made
abbrev turns_of : View → ℕ
turns_of (by_map s) = 0
turns_of (by_store s kept t) = 0
turns_of (by_shelf s z p t) = p.turns
turns_of (by_growth s inputs z p t) = p.turns
turns_of (by_trace s inputs) = 0

-- a view that is asked stays one of its kind: that by a mapping the same, and one by a shelf has its turn
pub asked-mapping : IsAsked turned turned
asked-mapping = refl

pub asked-no_turn : (z : TableId) → IsAsked (growing z) (growing z) → ⊥
asked-no_turn z asked = absurd (omega (arith, asked.1.turn.turns, ap turns_of asked.2))

-- a pass that took one turn in which it placed the piece, one that sealed in it, and one that keeps another store
-- than before: none of them looked
abbrev placing : TableId → Onlooker
placing z = record (fresh z) { seen = 0 ∷ []; turns = 1 }

abbrev sealing : TableId → Onlooker
sealing z = record (fresh z) { seen = 0 ∷ []; saw = true; turns = 1; found = 0 ∷ [] }

abbrev keeping : TableId → Onlooker
keeping z = record (fresh z) { turns = 1; kept = Some kept }

pub looked-placing : (z : TableId) → LookedOnce (fresh z) (placing z) → ⊥
looked-placing z looked = absurd (omega (arith, ap (λ (ks : List ℕ). length ks) looked.seen))

pub looked-sealing : (z : TableId) → LookedOnce (fresh z) (sealing z) → ⊥
looked-sealing z looked = true≢false looked.saw

pub looked-keeping : (z : TableId) → LookedOnce (fresh z) (keeping z) → ⊥
looked-keeping z looked = true≢false (ap is_some looked.kept)

-- the arrays of a view that is built are lent where its pass took a turn that found no seal, and nowhere else
pub open-looked : (z : TableId) → FoundOpen (record (fresh z) { turns = 1 })
open-looked z = record { turned = omega arith; unsealed = refl }

pub open-no_turn : (z : TableId) → FoundOpen (fresh z) → ⊥
open-no_turn z found = absurd (omega (arith, found.turned))

pub open-sealed : (z : TableId) → FoundOpen (record (fresh z) { saw = true; turns = 1; found_sealed = true }) → ⊥
open-sealed z found = true≢false found.unsealed
