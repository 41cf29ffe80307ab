-- The same stores in two lists of bytes, their sets spelled in one way in the one and in another
-- way in the other: by the same tables in the same order, and the same names.
use Rattle.std.specs.Prelude.{◌≡◌, ℕ, List, [], ◌∷◌}
use Rattle.sz_cells.specs.Cells.{Cells}
use Rattle.sz_spec.specs.declared.modes.Mode.{Mode}
use Rattle.sz_spec.specs.declared.modes.Mode.TheVariants as mode
use Rattle.sz_spec.specs.declared.modes.Strategy.{Strategy}
use Rattle.sz_spec.specs.Shapes.{Site}
use Rattle.sz_spec.specs.Modes.{mode_of}
use Rattle.sz_frame.specs.Parts.{Pairing, Entry}
use Rattle.sz_region.specs.Counted.{IsAt}
use Rattle.sz_region.specs.FullBytes.{Listed}
use Rattle.sz_short.specs.ShortStores.{AreFullParts, full_word, ArePayParts, pay_word}
use Rattle.sz_formats.specs.Formats.{spelling, other_than}

-- two ways to spell sets, in the one list of bytes and in the other
pub record Spellings : Type 0 where
  pub one : Cells → List ℕ
  pub other : Cells → List ℕ

-- that of a format, and that of the other one
abbrev pub from_format : ℕ → Spellings
from_format f = record { one = spelling f; other = spelling (other_than f) }

-- where something stands in some bytes
pub record Span : Type 0 where
  pub bytes : List ℕ
  pub at : ℕ
  pub next : ℕ

abbrev pub span : List ℕ → ℕ → ℕ → Span
span bytes at next = record { bytes = bytes; at = at; next = next }

pub record IsFullTwice (w : Spellings) (s : Site) (x y : Span) : Type 0 where
  pub table : List Listed
  pub names : List (List ℕ)
  pub regions : List Pairing
  pub are : AreFullParts s.out s.ins table names regions
  pub here : IsAt x.bytes x.at x.next (full_word w.one table names)
  pub there : IsAt y.bytes y.at y.next (full_word w.other table names)

pub record IsPayTwice (w : Spellings) (s : Site) (x y : Span) : Type 0 where
  pub payloads : List (List ℕ)
  pub sets : List Cells
  pub names : List (List ℕ)
  pub entries : List Entry
  pub are : ArePayParts s.out payloads sets names entries
  pub here : IsAt x.bytes x.at x.next (pay_word w.one payloads sets names)
  pub there : IsAt y.bytes y.at y.next (pay_word w.other payloads sets names)

-- a store of a mode; payloads may be any
abbrev pub IsTwice : Spellings → Site → Mode → Span → Span → Type 0
IsTwice w s mode.Full x y = IsFullTwice w s x y
IsTwice w s mode.Pay x y = IsPayTwice w s x y
IsTwice w s mode.Comp x y = IsPayTwice w s x y
IsTwice _ _ _ _ _ = ⊥

-- and so is the store of each of these strategies, one behind another in both
abbrev pub AreTwice : Spellings → Site → List Strategy → Span → Span → Type 0
AreTwice w s [] x y = (x.next ≡ x.at) × (y.next ≡ y.at)
AreTwice w s (t ∷ ts) x y = (m : ℕ) × (n : ℕ)
    × IsTwice w s (mode_of t) (record x { next = m }) (record y { next = n })
    × AreTwice w s ts (record x { at = m }) (record y { at = n })
