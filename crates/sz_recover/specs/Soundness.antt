-- Whether what is kept is sound: each store of a node stands for exactly the relation of the
-- operator that was executed there.
use Rattle.std.specs.Prelude.{◌≡◌, ℕ, List, ◌∷◌, ◌++◌, length, take, Option, Some, None, ⊤, All}
use Rattle.std.specs.Prelude.{Bool, true, false}
use Rattle.std.specs.List.{AllZip, slice_get, Contains}
use Rattle.sz_spec.specs.declared.modes.Strategy.{Strategy}
use Rattle.sz_spec.specs.Modes.{is_stored}
use Rattle.sz_frame.specs.Images.{measure_of}
use Rattle.sz_frame.specs.Laws.{IsTheRelation}
use Rattle.sz_flow.specs.Executions.{Execution, executions}
use Rattle.sz_store.specs.Kept.{Holding, Keep, NodeLineage, holding_stands}
use Rattle.sz_store.specs.Kept.{holding_for}
use Rattle.sz_catalogue.specs.Holdings.{Version, Holdings, arrays_of}
use Rattle.sz_catalogue.specs.Rules.{version_of}
use Rattle.sz_recover.specs.Logs.{Kept}
use Rattle.sz_recover.specs.declared.checking.WrongStore.{WrongStore}

-- the executions of a version's nodes
abbrev pub executions_of : Version → List Execution
executions_of v = executions v.flow (arrays_of v.base)

-- what is held stands for exactly the relation of the operator that was executed
abbrev pub IsExact : Execution → Holding → Type 0
IsExact e h = IsTheRelation (measure_of e.site e.inputs) (holding_stands e.site h)

-- each store of a node does
abbrev pub IsSoundNode : Execution → Option NodeLineage → Type 0
IsSoundNode e None = ⊤
IsSoundNode e (Some kept) = All (λ f. IsExact e f.holding) kept.stores

-- the stores of each node do
abbrev pub AreSoundNodes : List Execution → List (Option NodeLineage) → Type 0
AreSoundNodes es stores = AllZip IsSoundNode es stores

-- the stores of an entry do, over the values of the version that is held under its number
abbrev pub IsSoundKept : Holdings → Kept → Type 0
IsSoundKept c k = AreSoundNodes (executions_of (version_of c k.number)) k.stores

-- those of each entry do: with this a log that is well made is sound
abbrev pub AreSoundKept : Holdings → List Kept → Type 0
AreSoundKept c kept = All (IsSoundKept c) kept

-- ---- the first store that is wrong

-- of a node: those before it are exact, and it is not
pub record IsFirstWrongStore (e : Execution) (stores : List Keep) (s : Strategy) : Type 0 where
  pub before : List Keep
  pub wrong : Keep
  pub after : List Keep
  pub all : stores ≡ before ++ wrong ∷ after
  pub sound : All (λ f. IsExact e f.holding) before
  pub strategy : wrong.strategy ≡ s
  pub unsound : IsExact e wrong.holding → ⊥

-- of an entry: the nodes before it are sound
pub record IsFirstWrongNode (es : List Execution) (stores : List (Option NodeLineage)) (n : ℕ)
    (s : Strategy) : Type 0 where
  pub e : Execution
  pub kept : NodeLineage
  pub executed : slice_get es n ≡ Some e
  pub there : slice_get stores n ≡ Some (Some kept)
  pub sound : AreSoundNodes (take n es) (take n stores)
  pub wrong : IsFirstWrongStore e kept.stores s

-- of all entries: those before it are sound
pub record IsFirstWrong (c : Holdings) (kept : List Kept) (w : WrongStore) : Type 0 where
  pub before : List Kept
  pub one : Kept
  pub after : List Kept
  pub all : kept ≡ before ++ one ∷ after
  pub sound : AreSoundKept c before
  pub number : one.number ≡ w.version
  pub wrong : IsFirstWrongNode (executions_of (version_of c one.number)) one.stores w.node w.s

-- ---- what looking tells

-- of a strategy of a list: it has no store that is wrong, or it has one
abbrev pub TellsOfStrategy : Execution → NodeLineage → Strategy → Bool → Type 0
TellsOfStrategy e kept s false = is_stored s ≡ true → IsExact e (holding_for s kept.stores)
TellsOfStrategy e kept s true = (is_stored s ≡ true)
    × (IsExact e (holding_for s kept.stores) → ⊥)

-- of a node: no store is wrong, or the first one that is, by its strategy
abbrev pub TellsOfNode : Execution → Option NodeLineage → Option Strategy → Type 0
TellsOfNode e kept None = IsSoundNode e kept
TellsOfNode e None (Some s) = ⊥
TellsOfNode e (Some kept) (Some s) = IsFirstWrongStore e kept.stores s

-- of the nodes of an entry: none has a wrong store, or the first one that has, and which
abbrev pub TellsOfNodes : List Execution → List (Option NodeLineage) → Option (ℕ × Strategy)
    → Type 0
TellsOfNodes es stores None = AreSoundNodes es stores
TellsOfNodes es stores (Some (n, s)) = IsFirstWrongNode es stores n s

-- of an entry: none of its stores is wrong, or the first one that is
abbrev pub TellsOfEntry : Holdings → Kept → Option WrongStore → Type 0
TellsOfEntry c k None = IsSoundKept c k
TellsOfEntry c k (Some w) = (k.number ≡ w.version)
    × IsFirstWrongNode (executions_of (version_of c k.number)) k.stores w.node w.s

-- of all entries: all are sound, or the first wrong store
abbrev pub TellsOfAll : Holdings → List Kept → Option WrongStore → Type 0
TellsOfAll c kept None = AreSoundKept c kept
TellsOfAll c kept (Some w) = IsFirstWrong c kept w

-- ---- laws

-- Where there is a first wrong store, what is kept is not sound.
abbrev pub WrongStoresAreUnsound : Type 0
WrongStoresAreUnsound = (c : Holdings) (kept : List Kept) (w : WrongStore)
    → IsFirstWrong c kept w → AreSoundKept c kept → ⊥

-- Each entry has a place for the stores of each node that was executed.
abbrev pub HaveEachNode : Holdings → List Kept → Type 0
HaveEachNode c kept =
    All (λ k. length k.stores ≡ length (executions_of (version_of c k.number))) kept

-- Each store of what is kept, whatever its entry and its node, stands for exactly the relation of
-- the operator that was executed at that node.
abbrev pub EachStoreIsExact : Holdings → List Kept → Type 0
EachStoreIsExact c kept = (k : Kept) (n : ℕ) (e : Execution) (x : NodeLineage) (f : Keep)
    → Contains kept k → slice_get (executions_of (version_of c k.number)) n ≡ Some e
    → slice_get k.stores n ≡ Some (Some x) → Contains x.stores f
    → IsTheRelation (measure_of e.site e.inputs) (holding_stands e.site f.holding)

-- Where no wrong store is told, each store is exact.
abbrev pub NoneMeansEach : Type 0
NoneMeansEach = (c : Holdings) (kept : List Kept) → TellsOfAll c kept None
    → HaveEachNode c kept × EachStoreIsExact c kept

-- And where each is, no wrong store is told.
abbrev pub EachMeansNone : Type 0
EachMeansNone = (c : Holdings) (kept : List Kept) → HaveEachNode c kept → EachStoreIsExact c kept
    → TellsOfAll c kept None

-- One thing is told of what is kept: there is no wrong store, or one that is the first.
abbrev pub OneThingIsTold : Type 0
OneThingIsTold = (c : Holdings) (kept : List Kept) (a b : Option WrongStore)
    → TellsOfAll c kept a → TellsOfAll c kept b → a ≡ b
