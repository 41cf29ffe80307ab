-- Stores of arrays of one cell, worked by hand, on both sides of what makes them sound.
--
-- The key idea: between arrays of one cell a relation is one bit, so a store is exact where it has that bit.
use Rattle.std.proofs.Common.{◌≡◌, ℕ, [], ◌∷◌, Some, None, refl, sym, ap, subst, arith, true, false, true≢false}
use Rattle.std.proofs.Common.{ap₂}
use Rattle.std.specs.Prelude.{pos, nat_lt}
use Rattle.std.proofs.lemmas.Bool.{and_parts}
use Rattle.std.proofs.lemmas.Bool.Decides.{nat_tests}
use Rattle.std.proofs.lemmas.List.Elements.{All-cons, All-nil}
use Rattle.sz_cells.specs.declared.Cell.{Cell}
use Rattle.sz_cells.specs.Extent.{holds}
use Rattle.sz_spec.specs.declared.flow.Node.{Node}
use Rattle.sz_spec.specs.declared.flow.SourceRef.TheVariants as source
use Rattle.sz_spec.specs.declared.op.Op.TheVariants.{Neg}
use Rattle.sz_spec.specs.declared.modes.Strategy.{Strategy}
use Rattle.sz_spec.specs.declared.modes.Strategy.TheVariants as strategy
use Rattle.sz_spec.specs.Lineage.{related}
use Rattle.sz_spec.specs.Values.{Grid, extent_at}
use Rattle.sz_frame.specs.Stands.{full_stands}
use Rattle.sz_flow.specs.Executions.{Execution, execution}
use Rattle.sz_store.specs.Kept.{Keep, NodeLineage, regions}
use Rattle.sz_catalogue.specs.Holdings.{Version, Holdings}
use Rattle.sz_recover.specs.Logs.{Kept}
use Rattle.sz_recover.specs.Soundness.{IsExact, IsSoundNode, IsSoundKept, executions_of, TellsOfStrategy, TellsOfNode}
use Rattle.sz_recover.specs.Soundness.{TellsOfNodes, TellsOfEntry, TellsOfAll, IsFirstWrong, IsFirstWrongStore}
use Rattle.sz_recover.specs.declared.checking.WrongStore.{WrongStore}
use Rattle.sz_bodies.proofs.Rows.{cell, pair, keep, whole}
use Rattle.sz_recover.proofs.Telling.{one-told}

-- ---- what is held: the array `a` of the number 5, and version 1 of the flow `f` on it, whose one node is `neg`

abbrev pub array : Grid
array = record { extent = cell; values = Some (pos 5) ∷ [] }

abbrev pub node : Node
node = record { op = Neg; from = source.Input 0 ∷ [] }

abbrev pub version : Version
version = record {
  flow_name = 102 ∷ [];
  flow = record { inputs = 1; nodes = node ∷ [] };
  base = record { name = 97 ∷ []; version = 1; array = array } ∷ [];
  lists = (strategy.FullOneB ∷ []) ∷ [];
  awaited = true;
}

abbrev pub held : Holdings
held = record {
  arrays = record { name = 97 ∷ []; thing = array } ∷ [];
  flows = (102 ∷ [], record { graph = version.flow; lists = version.lists }) ∷ [];
  versions = (1, version) ∷ [];
  merges = [];
}

abbrev run : Execution
run = execution Neg (array ∷ [])

pub run-alone : executions_of version ≡ run ∷ []
run-alone = refl

-- ---- a store: the pair of the one cell with the one cell, or none

abbrev nothing : Keep
nothing = record { strategy = strategy.FullOneB; holding = regions [] }

abbrev origin : Cell
origin = record { row = 0; col = 0 }

only : (o : Cell) → holds cell o ≡ true → o ≡ origin
only o is =
    let parts = and_parts (nat_lt o.row 1) (nat_lt o.col 1) is in
    let row : o.row ≡ 0 = grind (arith, nat_tests, parts.0) in
    let col : o.col ≡ 0 = grind (arith, nat_tests, parts.1) in
    ap₂ (λ (r c : ℕ). let there : Cell = record { row = r; col = c } in there) row col

pub exact : IsExact run (regions (pair ∷ []))
exact i o x few there here =
    let first : i ≡ 0 = omega (arith, few) in
    let at : o ≡ origin = only o there in
    let from : x ≡ origin = only x (subst (λ (k : ℕ). holds (extent_at (cell ∷ []) k) x ≡ true) first here) in
    subst (λ (k : ℕ). full_stands (pair ∷ []) k o x ≡ related Neg (array ∷ []) k o x) (sym first)
    (subst (λ (c : Cell). full_stands (pair ∷ []) 0 c x ≡ related Neg (array ∷ []) 0 c x) (sym at)
    (subst (λ (c : Cell). full_stands (pair ∷ []) 0 origin c ≡ related Neg (array ∷ []) 0 origin c) (sym from) refl))

pub inexact : IsExact run (regions []) → ⊥
inexact is =
    let bit : false ≡ true = is 0 origin origin (omega arith) refl refl in true≢false (sym bit)

-- ---- an entry with the one, and one with the other

abbrev pub right : Kept
right = record { number = 1; stores = Some whole ∷ [] }

abbrev lacking : NodeLineage
lacking = record whole { stores = nothing ∷ [] }

abbrev pub wrong : Kept
wrong = record { number = 1; stores = Some lacking ∷ [] }

abbrev first : WrongStore
first = record { version = 1; node = 0; s = strategy.FullOneB }

pub right-node : IsSoundNode run (Some whole)
right-node =
    All-cons (λ (f : Keep). IsExact run f.holding) keep [] exact (All-nil (λ (f : Keep). IsExact run f.holding))

pub right-sound : IsSoundKept held right
right-sound = (right-node, tt)

pub wrong-unsound : IsSoundKept held wrong → ⊥
wrong-unsound is = inexact (is.0 0 nothing (omega arith))

-- stores for a node that was not executed, or none for one that was
pub no_node-unsound : IsSoundKept held (record { number = 1; stores = [] }) → ⊥
no_node-unsound is = is

pub other_version-unsound : IsSoundKept held (record { number = 2; stores = Some whole ∷ [] }) → ⊥
other_version-unsound is = is

-- ---- nothing is kept: it is sound

pub sound_0 : TellsOfAll held [] None
sound_0 = All-nil (IsSoundKept held)

pub sound_1 : TellsOfAll held (right ∷ []) None
sound_1 = All-cons (IsSoundKept held) right [] right-sound (All-nil (IsSoundKept held))

-- one entry whose store is wrong is not
pub sound_1-refused : TellsOfAll held (wrong ∷ []) None → ⊥
sound_1-refused is = wrong-unsound (is 0 wrong (omega arith))

-- nor are two, where the first is right, or the second
pub sound_2-refused : TellsOfAll held (right ∷ wrong ∷ []) None → ⊥
sound_2-refused is = wrong-unsound (is 1 wrong (omega arith))

-- ---- the first wrong store

pub first-store : IsFirstWrongStore run (nothing ∷ []) strategy.FullOneB
first-store = record {
  before = [];
  wrong = nothing;
  after = [];
  all = refl;
  sound = All-nil (λ (f : Keep). IsExact run f.holding);
  strategy = refl;
  unsound = inexact;
}

pub first-is : IsFirstWrong held (wrong ∷ []) first
first-is = record {
  before = [];
  one = wrong;
  after = [];
  all = refl;
  sound = All-nil (IsSoundKept held);
  number = refl;
  wrong = record { e = run; kept = lacking; executed = refl; there = refl; sound = tt; wrong = first-store };
}

-- under another version, of another node or by another strategy there is none
other : (w : WrongStore) → IsFirstWrong held (wrong ∷ []) w → w ≡ first
other w is =
    let same = one-told held (wrong ∷ []) (Some w) (Some first) is first-is in
    let own : w ≡ first = cc in
    own

pub first-other_version : (n : ℕ) (s : Strategy)
    → IsFirstWrong held (wrong ∷ []) (record { version = 2; node = n; s = s }) → ⊥
first-other_version n s is =
    let same : 2 ≡ 1 = ap (λ (w : WrongStore). w.version) (other (record { version = 2; node = n; s = s }) is) in
    omega (arith, same)

pub first-other_node : (v : ℕ) (s : Strategy)
    → IsFirstWrong held (wrong ∷ []) (record { version = v; node = 1; s = s }) → ⊥
first-other_node v s is =
    let same : 1 ≡ 0 = ap (λ (w : WrongStore). w.node) (other (record { version = v; node = 1; s = s }) is) in
    omega (arith, same)

pub first-other_strategy : (v n : ℕ)
    → IsFirstWrong held (wrong ∷ []) (record { version = v; node = n; s = strategy.FullOneF }) → ⊥
first-other_strategy v n is =
    let same : strategy.FullOneF ≡ strategy.FullOneB =
    ap (λ (w : WrongStore). w.s) (other (record { version = v; node = n; s = strategy.FullOneF }) is) in
    cc

-- where all are right there is none
pub first-of_right : (w : WrongStore) → IsFirstWrong held (right ∷ []) w → ⊥
first-of_right w is =
    let same = one-told held (right ∷ []) (Some w) None is sound_1 in cc

-- ---- what looking tells on the way

-- a strategy that keeps no store has none that is wrong
pub strategy-unstored : TellsOfStrategy run lacking strategy.Map false
strategy-unstored stored = absurd (true≢false (sym stored))

pub strategy-right : TellsOfStrategy run whole strategy.FullOneB false
strategy-right stored = exact

pub strategy-wrong : TellsOfStrategy run lacking strategy.FullOneB true
strategy-wrong = (refl, inexact)

pub strategy-not_wrong : TellsOfStrategy run whole strategy.FullOneB true → ⊥
strategy-not_wrong is = is.1 exact

pub strategy-not_right : TellsOfStrategy run lacking strategy.FullOneB false → ⊥
strategy-not_right is = inexact (is refl)

-- a node of no stores has no wrong one
pub node-none : TellsOfNode run None None
node-none = tt

pub node-no_store : (s : Strategy) → TellsOfNode run None (Some s) → ⊥
node-no_store s is = is

pub node-wrong : TellsOfNode run (Some lacking) (Some strategy.FullOneB)
node-wrong = first-store

pub node-not_right : TellsOfNode run (Some lacking) None → ⊥
node-not_right is = inexact (is 0 nothing (omega arith))

pub nodes-not_right : TellsOfNodes (run ∷ []) (Some lacking ∷ []) None → ⊥
nodes-not_right is = inexact (is.0 0 nothing (omega arith))

pub entry-right : TellsOfEntry held right None
entry-right = right-sound

pub entry-not_right : TellsOfEntry held wrong None → ⊥
entry-not_right is = wrong-unsound is

pub entry-other_version : (n : ℕ) (s : Strategy)
    → TellsOfEntry held wrong (Some (record { version = 2; node = n; s = s })) → ⊥
entry-other_version n s is = omega (arith, is.0)
