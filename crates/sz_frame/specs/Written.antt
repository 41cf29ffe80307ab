-- What the lineage of a piece has: one region pair, or one entry, for the cells that are kept
-- together.
use Rattle.std.specs.Prelude.{ℕ, ◌+◌, ◌*◌, ◌-◌, List, map, length, min, Bool, true, false, ◌&&◌}
use Rattle.std.specs.List.{range_with_len, filter}
use Rattle.sz_cells.specs.declared.Cell.{Cell}
use Rattle.sz_cells.specs.Extent.{Extent, size_of, cell_of}
use Rattle.sz_spec.specs.declared.op.Op.{Op}
use Rattle.sz_spec.specs.declared.modes.Mode.TheVariants as mode
use Rattle.sz_spec.specs.declared.modes.Strategy.{Strategy}
use Rattle.sz_spec.specs.Values.{Grid}
use Rattle.sz_spec.specs.Shapes.{Site}
use Rattle.sz_spec.specs.Payloads.{overrides, payload_of}
use Rattle.sz_frame.specs.declared.groups.Keeping.{Keeping}
use Rattle.sz_frame.specs.Parts.{Pairing, Entry, Parts}
use Rattle.sz_frame.specs.Fits.{needs}
use Rattle.sz_frame.specs.Images.{related_sets}
use Rattle.sz_frame.specs.Groups.{lineage_kind, payload_kind, keeping_of, leads, group_at}

-- how each part keeps output cell o, where the part is wanted; a composite part keeps those cells
-- alone that override the default
abbrev pub full_keeping : Bool → Op → List Grid → Cell → Keeping
full_keeping wanted op inputs o = keeping_of wanted (lineage_kind op inputs o)

abbrev pub pay_keeping : Bool → Op → List Grid → Cell → Keeping
pay_keeping wanted op inputs o = keeping_of wanted (payload_kind op inputs o)

abbrev pub comp_keeping : Bool → Op → List Grid → Cell → Keeping
comp_keeping wanted op inputs o = pay_keeping (wanted && overrides op inputs o) op inputs o

-- how n cells of a shape are kept, from an index on
abbrev pub keepings : Extent → (Cell → Keeping) → ℕ → ℕ → List Keeping
keepings e keep start n = map (λ k. keep (cell_of e k)) (range_with_len start n)

-- the places of a piece of which the cells lead those that are kept with them, below n
abbrev pub leaders_below : List Keeping → ℕ → List ℕ
leaders_below kept n = filter (leads kept) (range_with_len 0 n)

-- the region pair of the cells that are kept with that at place p of a piece, of the cells from
-- index `start` on, and the pairs of all its cells
abbrev pub region_by : Site → List Grid → ℕ → List Keeping → ℕ → Pairing
region_by s inputs start kept p = record {
  out = group_at s.out start kept p;
  ins = related_sets s inputs (cell_of s.out (start + p));
}

abbrev pub regions_by : Site → List Grid → ℕ → List Keeping → List Pairing
regions_by s inputs start kept =
    map (region_by s inputs start kept) (leaders_below kept (length kept))

-- the entry of those cells, and the entries of all cells of the piece
abbrev pub entry_by : Site → List Grid → ℕ → List Keeping → ℕ → Entry
entry_by s inputs start kept p = record {
  out = group_at s.out start kept p;
  payload = payload_of s.op inputs (cell_of s.out (start + p));
}

abbrev pub entries_by : Site → List Grid → ℕ → List Keeping → List Entry
entries_by s inputs start kept =
    map (entry_by s inputs start kept) (leaders_below kept (length kept))

-- a lineage with these entries: in the composite part, or in the payload part
abbrev pub with_entries : Bool → List Entry → Parts → Parts
with_entries true entries p = record p { comps = entries }
with_entries false entries p = record p { pays = entries }

-- how many cells a piece has
abbrev pub cells_in_piece : Extent → ℕ → ℕ
cells_in_piece e k = min (size_of e) (k * 64 + 64) - k * 64

-- how each cell of a piece is kept
abbrev pub keepings_of : Site → (Cell → Keeping) → ℕ → List Keeping
keepings_of s keep k = keepings s.out keep (k * 64) (cells_in_piece s.out k)

-- The lineage of a piece, as the strategies of a list need it: each part has one region pair, or
-- one entry, for the cells that are kept together, and the composite one for cells alone that
-- override the default.
abbrev pub parts_by : Site → List Grid → List Strategy → ℕ → Parts
parts_by s inputs list k = record {
  piece = k;
  regions = regions_by s inputs (k * 64)
      (keepings_of s (full_keeping (needs list mode.Full) s.op inputs) k);
  pays = entries_by s inputs (k * 64)
      (keepings_of s (pay_keeping (needs list mode.Pay) s.op inputs) k);
  comps = entries_by s inputs (k * 64)
      (keepings_of s (comp_keeping (needs list mode.Comp) s.op inputs) k);
}
