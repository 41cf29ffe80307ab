-- The rule read aloud: what the word of a piece tells of the lists of all seats.
use Rattle.std.specs.Prelude.{◌≡◌, ℕ, List, length, slice_index, Contains}
use mathlib.Core.Option.{some}
use lib.ListN.{get_elem?}
use Rattle.sz_claims.specs.declared.rule.View.{View}
use Rattle.sz_claims.specs.Rule.{Table, HasNoRepeats}

-- one view has the piece in its list of claimed pieces, and no other view has
pub record OneHas (piece : ℕ) (views : List View) : Type 0 where
  pub id : ℕ
  pub view : View
  pub at : get_elem? views id ≡ some view
  pub has : Contains view.claimed piece
  pub others : (other : ℕ) (w : View) → get_elem? views other ≡ some w → Contains w.claimed piece
      → other ≡ id

-- no view has the piece in its list of claimed pieces
abbrev pub NoneHas : ℕ → List View → Type 0
NoneHas piece views = (id : ℕ) (v : View) → get_elem? views id ≡ some v → ¬ Contains v.claimed piece

-- Each piece has a word. A word is 1 exactly where one view has the piece, which it has once, and 0
-- exactly where none has. A piece that a view met has the word 1.
pub record WordsTell (pieces : ℕ) (s : Table) : Type 0 where
  pub each : length s.words ≡ pieces
  pub one : (piece : ℕ) → slice_index s.words piece ≡ 1 → OneHas piece s.views
  pub if_one : (piece : ℕ) → OneHas piece s.views → slice_index s.words piece ≡ 1
  pub none : (piece : ℕ) → slice_index s.words piece ≡ 0 → NoneHas piece s.views
  pub if_none : (piece : ℕ) → NoneHas piece s.views → slice_index s.words piece ≡ 0
  pub once : (id : ℕ) (v : View) → get_elem? s.views id ≡ some v → HasNoRepeats v.claimed
  pub met : (id : ℕ) (v : View) → get_elem? s.views id ≡ some v → (piece : ℕ) → Contains v.met piece
      → slice_index s.words piece ≡ 1
