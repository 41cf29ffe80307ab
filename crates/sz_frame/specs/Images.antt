-- What an operator at work gives for one output cell.
use Rattle.std.specs.Prelude.{ℕ, List, length, map}
use Rattle.std.specs.List.{range_with_len}
use Rattle.sz_cells.specs.declared.Cell.{Cell}
use Rattle.sz_cells.specs.Extent.{Extent}
use Rattle.sz_cells.specs.Cells.{Cells, cells_where}
use Rattle.sz_spec.specs.Values.{Grid, extent_at}
use Rattle.sz_spec.specs.Shapes.{Site}
use Rattle.sz_spec.specs.Lineage.{related, mapped}
use Rattle.sz_spec.specs.Payloads.{mapped_by_payload, is_payload}
use Rattle.sz_frame.specs.Fits.{Measure}

-- the cells of input i to which output cell o is related
abbrev pub related_cells : Site → List Grid → ℕ → Cell → Cells
related_cells s inputs i o = cells_where (extent_at s.ins i) (related s.op inputs i o)

-- the cells of each input to which output cell o is related
abbrev pub related_sets : Site → List Grid → Cell → List Cells
related_sets s inputs o = map (λ i. related_cells s inputs i o) (range_with_len 0 (length s.ins))

-- what the lineage of an operator at work is measured by
abbrev pub measure_of : Site → List Grid → Measure
measure_of s inputs = record {
  ins = s.ins;
  out = s.out;
  relation = related s.op inputs;
  kept = mapped_by_payload s.op s.ins;
  is_payload = is_payload s.op s.ins;
  default = mapped s.op s.ins;
}
