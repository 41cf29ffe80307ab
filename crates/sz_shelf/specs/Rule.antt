-- The rule that holds between any two steps, of the words, the slot and what each seat knows.
use Rattle.std.specs.Prelude.{◌≡◌, ℕ, ◌+◌, ◌<◌, ◌≤◌, List, [], ◌∷◌, ◌++◌, Bool, true, false}
use Rattle.std.specs.Prelude.{None, All, length, slice_index, if◌then◌else◌}
use mathlib.Core.Option.{none, some}
use lib.ListN.{get_elem?}
use Rattle.atomic_table.specs.Table.{State, Me}
use Rattle.sz_spec.specs.declared.op.Op.TheVariants.{Transpose}
use Rattle.sz_spec.specs.Values.{no_extent}
use Rattle.sz_shelf.specs.Tags.{Tag, tag_pieces}
use Rattle.sz_shelf.specs.Contents.{Contents, is_in, missing_in}
use Rattle.sz_shelf.specs.declared.rule.View.{View}
use Rattle.sz_shelf.specs.declared.rule.Stage.{Stage}
use Rattle.sz_shelf.specs.declared.rule.Stage.TheVariants.{Idle, InTurn, StoreOut, Spent}

-- the words, the slot, and what each seat knows
abbrev pub Table : Type 0
Table = State Contents View

-- what the seat that takes a step knows, and what it has out
abbrev pub Own : Type 0
Own = Me Contents View

-- ys begins with xs
abbrev pub Begins : List ℕ → List ℕ → Type 0
Begins xs ys = (rest : List ℕ) × (ys ≡ xs ++ rest)

-- no piece stands in the list twice
abbrev pub HasNoRepeats : List ℕ → Type 0
HasNoRepeats [] = Unit {0}
HasNoRepeats (x ∷ xs) = (is_in xs x ≡ false) × HasNoRepeats xs

-- no piece stands in the list twice, and each is one of the output
abbrev pub ArePieces : Tag → List ℕ → Type 0
ArePieces t placed = HasNoRepeats placed × All (λ k. k < tag_pieces t) placed

-- the seat has a turn; it has the store; it was joined to another
abbrev pub is_busy : Stage → Bool
is_busy InTurn = true
is_busy StoreOut = true
is_busy _ = false

abbrev pub has_store : Stage → Bool
has_store StoreOut = true
has_store _ = false

abbrev pub is_spent : Stage → Bool
is_spent Spent = true
is_spent _ = false

-- the flag while a seat is so far in a turn
abbrev pub flag_of : Stage → ℕ
flag_of stage = if is_busy stage then 1 else 0

-- the count once the store is sealed, and the count of a placed list
abbrev pub last_of : Tag → ℕ
last_of t = tag_pieces t + 1

abbrev pub count_of : Tag → List ℕ → Bool → ℕ
count_of t placed sealed = if sealed then last_of t else length placed

-- what the slot has: stores of this tag, with these pieces, sealed or not
abbrev pub contents : Tag → List ℕ → Bool → Contents
contents t placed sealed = record { tag = t; placed = placed; sealed = sealed }

-- What a seat knows, where these pieces are placed and `who` is so far in a turn, or nobody is: its
-- list is a beginning of the placed one, it saw a seal only if there is one, and it is busy only if
-- it is that seat. While it has the store, its list is the placed one, and it saw the seal if there
-- is one.
pub record Knows (t : Tag) (placed : List ℕ) (sealed : Bool) (who : ℕ) (doing : Stage) (seat : ℕ)
    (v : View) : Type 0 where
  pub tag : v.tag ≡ t
  pub begins : Begins v.seen placed
  pub saw : v.saw ≡ true → sealed ≡ true
  pub busy : is_busy v.stage ≡ true → (seat ≡ who) × (v.stage ≡ doing)
  pub out : has_store v.stage ≡ true → (v.seen ≡ placed) × (v.saw ≡ sealed)

-- Of the words, the slot and all views: these pieces are placed, and the seat `who` is so far in a
-- turn, or nobody is.
pub record IsKept (t : Tag) (s : Table) : Type 0 where
  pub placed : List ℕ
  pub sealed : Bool
  pub who : ℕ
  pub doing : Stage
  pub two : length s.words ≡ 2
  pub flag : slice_index s.words 0 ≡ flag_of doing
  pub count : slice_index s.words 1 ≡ count_of t placed sealed
  pub pieces : ArePieces t placed
  pub few : length placed ≤ tag_pieces t
  pub whole : sealed ≡ true → missing_in (tag_pieces t) placed ≡ None
  pub home : has_store doing ≡ false
      → get_elem? s.homes 0 ≡ some (some (contents t placed sealed))
  pub out : has_store doing ≡ true → get_elem? s.homes 0 ≡ some none
  pub turn : is_busy doing ≡ true
      → (v : View) × (get_elem? s.views who ≡ some v) × (v.stage ≡ doing)
  pub each : (seat : ℕ) (v : View) → get_elem? s.views seat ≡ some v → is_spent v.stage ≡ false
      → Knows t placed sealed who doing seat v

-- what the first seat knows, and a spent one
abbrev pub first_view : Tag → View
first_view t = record {
  tag = t;
  seen = [];
  saw = false;
  stage = Idle;
  turns = 0;
  loads = 0;
  splits = 0;
  found = [];
  found_sealed = false;
}

-- a tag of nothing, for a spent view
abbrev pub no_tag : Tag
no_tag = record {
  site = record { op = Transpose; ins = []; out = no_extent };
  inputs = [];
  list = [];
}

abbrev pub spent_view : View
spent_view = record (first_view no_tag) { stage = Spent }
