-- Region pairs, payload entries, and the lineage of one piece, as contracts see them.
use Rattle.std.specs.Prelude.{ℕ, List, []}
use Rattle.sz_cells.specs.Cells.{Cells}

-- a region pair: a set of output cells, and for each input a set of its cells; each output cell
-- depends on each of these
pub record Pairing : Type 0 where
  pub out : Cells
  pub ins : List Cells

-- a payload that is kept for a set of output cells
pub record Entry : Type 0 where
  pub out : Cells
  pub payload : List ℕ

-- the lineage of one piece: region pairs for full lineage, and entries for payload and for
-- composite lineage
pub record Parts : Type 0 where
  pub piece : ℕ
  pub regions : List Pairing
  pub pays : List Entry
  pub comps : List Entry

-- no part has an entry yet
abbrev pub no_parts : ℕ → Parts
no_parts piece = record { piece = piece; regions = []; pays = []; comps = [] }

-- the most entries that a part may have: 65,536
abbrev pub most_entries : ℕ
most_entries = 65536
