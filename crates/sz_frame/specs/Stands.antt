-- What region pairs and payload entries stand for: output cell o, input i, and cell x of that
-- input.
use Rattle.std.specs.Prelude.{ℕ, List, Bool, ◌&&◌, if◌then◌else◌, unwrap_or}
use Rattle.std.specs.List.{slice_get, list_any}
use Rattle.sz_cells.specs.declared.Cell.{Cell}
use Rattle.sz_cells.specs.Cells.{Cells, has, no_cells}
use Rattle.sz_spec.specs.Values.{no_extent}
use Rattle.sz_frame.specs.Parts.{Pairing, Entry}

-- the set of a region pair for input i
abbrev pub set_of : Pairing → ℕ → Cells
set_of r i = unwrap_or (slice_get r.ins i) (no_cells no_extent)

-- full: some region pair has o in its output set and x in its set of input i
abbrev pub full_stands : List Pairing → ℕ → Cell → Cell → Bool
full_stands regions i o x = list_any (λ r. has r.out o && has (set_of r i) x) regions

-- some entry has o in its output set
abbrev pub has_entry : List Entry → Cell → Bool
has_entry entries o = list_any (λ e. has e.out o) entries

-- pay: some entry has o in its output set, and its payload stands for x of input i (`kept payload
-- i o x`)
abbrev pub pay_stands : (List ℕ → ℕ → Cell → Cell → Bool) → List Entry → ℕ → Cell → Cell → Bool
pay_stands kept entries i o x = list_any (λ e. has e.out o && kept e.payload i o x) entries

-- comp: as pay where some entry has o; where none has, the default (`default i o x`)
abbrev pub comp_stands : (List ℕ → ℕ → Cell → Cell → Bool) → (ℕ → Cell → Cell → Bool)
    → List Entry → ℕ → Cell → Cell → Bool
comp_stands kept default entries i o x =
    if has_entry entries o then pay_stands kept entries i o x else default i o x
