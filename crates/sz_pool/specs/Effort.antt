-- How many cells are looked at to make pieces.
use Rattle.std.specs.Prelude.{ℕ, List, not, sum_by}
use Rattle.std.specs.List.{filter, range_with_len}
use Rattle.sz_cells.specs.Extent.{Extent}
use Rattle.sz_frame.specs.Written.{cells_in_piece}
use Rattle.sz_shelf.specs.Tags.{Tag, tag_pieces}
use Rattle.sz_shelf.specs.Contents.{is_in}

-- how many cells these pieces of an output have
abbrev pub cells_of : Extent → List ℕ → ℕ
cells_of out pieces = sum_by (cells_in_piece out) pieces

-- the pieces of a tag's output that are not among those of a list
abbrev pub left_over : Tag → List ℕ → List ℕ
left_over t placed = filter (λ k. not (is_in placed k)) (range_with_len 0 (tag_pieces t))
