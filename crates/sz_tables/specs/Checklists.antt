-- Which of the region pairs, or of the entries, of a table were ticked.
use Rattle.std.specs.Prelude.{List, [], ◌∷◌, take, length}
use Rattle.sz_frame.specs.Parts.{Pairing}
use Rattle.sz_tables.specs.Rows.{RowTable, set_at, sets_of}
use Rattle.sz_tables.specs.declared.checklists.PairName.{PairName}

-- what is seen of a checklist: its table, and what was ticked, in order
pub record Checklist (T X : Type 0) : Type 0 where
  pub table : T
  pub ticked : List X

-- the region pair that a name says
abbrev pub pair_named : RowTable → PairName → Pairing
pair_named t n = record {
  out = set_at t.outs n.out;
  ins = take (length t.ins) (set_at (sets_of t.sets 0) n.first ∷ set_at (sets_of t.sets 1) n.second ∷ []);
}
