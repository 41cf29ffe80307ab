-- Rows: the definitions computed on small shapes and sets, each with the value that it has by hand.
use Rattle.std.proofs.Common.{◌≡◌, true, false, [], ◌∷◌, length, Some, None, refl}
use Rattle.std.proofs.Common.{arith}
use Rattle.sz_cells.specs.Extent.{Extent, size_of, height_of, is_shape, is_layered, is_extent, layered, flat, holds}
use Rattle.sz_cells.specs.Extent.{index_of, cell_of, layer_of, row_in, is_place, cell_in}
use Rattle.sz_cells.specs.Cells.{Cells, is_same, any_cell, no_cells, named_in, union_of, with_cell, next_index}
use Rattle.sz_cells.specs.Runs.{indexes_of, runs_of, run_cells, bounds_of}
use Rattle.sz_cells.specs.SetBytes.{BeginsSet, set_bytes}
use Rattle.sz_cells.specs.Words.{is_one, has_bit}

-- ---- the limits of shapes, on both sides

most_layers : (is_layered 16 1 1 ≡ true) × (is_layered 17 1 1 ≡ false) × (is_layered 0 1 1 ≡ false)
most_layers = (refl, refl, refl)

most_cells : (is_shape 1 1048576 ≡ true) × (is_shape 1 1048577 ≡ false) × (is_shape 1024 1024 ≡ true)
    × (is_shape 1024 1025 ≡ false)
most_cells = (refl, refl, refl, refl)

most_cells_in_layers : (is_layered 16 65536 1 ≡ true) × (is_layered 16 65537 1 ≡ false)
    × (is_layered 16 256 256 ≡ true) × (is_layered 16 256 257 ≡ false)
most_cells_in_layers = (refl, refl, refl, refl)

no_side_is_0 : (is_shape 0 1 ≡ false) × (is_shape 1 0 ≡ false) × (is_layered 1 0 1 ≡ false)
    × (is_layered 1 1 0 ≡ false)
no_side_is_0 = (refl, refl, refl, refl)

-- three rows are no two layers of one height
layers_are_whole : (is_extent (record { layers = 2; rows = 3; cols = 1 }) ≡ false)
    × (is_extent (record { layers = 2; rows = 4; cols = 1 }) ≡ true)
layers_are_whole = (refl, refl)

-- ---- a shape of two layers, each of one row and two columns

abbrev two_layers : Extent
two_layers = layered 2 1 2

two_layers-sides : (two_layers.rows ≡ 2) × (height_of two_layers ≡ 1) × (size_of two_layers ≡ 4)
two_layers-sides = (refl, refl, refl)

two_layers-cells : (cell_in two_layers 1 0 1 ≡ record { row = 1; col = 1 })
    × (index_of two_layers (record { row = 1; col = 1 }) ≡ 3)
    × (layer_of two_layers (record { row = 1; col = 0 }) ≡ 1) × (row_in two_layers (record { row = 1; col = 0 })
    ≡ 0)
two_layers-cells = (refl, refl, refl, refl)

two_layers-places : (is_place two_layers 1 0 1 ≡ true) × (is_place two_layers 2 0 0 ≡ false)
    × (is_place two_layers 0 1 0 ≡ false) × (is_place two_layers 0 0 2 ≡ false)
two_layers-places = (refl, refl, refl, refl)

-- layers of two rows: row 3 is the second row of the second layer
two_by_two : (layer_of (layered 2 2 2) (record { row = 3; col = 0 }) ≡ 1)
    × (row_in (layered 2 2 2) (record { row = 3; col = 0 }) ≡ 1)
    × (cell_in (layered 2 2 2) 1 1 0 ≡ record { row = 3; col = 0 })
two_by_two = (refl, refl, refl)

-- ---- a shape of 2 rows and 3 columns

cells_row_by_row : (index_of (flat 2 3) (record { row = 1; col = 2 }) ≡ 5)
    × (cell_of (flat 2 3) 4 ≡ record { row = 1; col = 1 })
cells_row_by_row = (refl, refl)

cells_held : (holds (flat 2 3) (record { row = 1; col = 2 }) ≡ true)
    × (holds (flat 2 3) (record { row = 2; col = 0 }) ≡ false)
    × (holds (flat 2 3) (record { row = 0; col = 3 }) ≡ false)
cells_held = (refl, refl, refl)

-- of a list out of order and twice, and one more cell
named : named_in (flat 2 3) (record { row = 1; col = 2 } ∷ record { row = 0; col = 1 } ∷ record {
  row = 1;
  col =
      2;
} ∷ [])
    ≡ record { extent = flat 2 3; indexes = 1 ∷ 5 ∷ [] }
named = refl

one_more : with_cell (record { extent = flat 2 3; indexes = 1 ∷ 5 ∷ [] }) (record { row = 1; col = 0 })
    ≡ record { extent = flat 2 3; indexes = 1 ∷ 3 ∷ 5 ∷ [] }
one_more = refl

none_named : (named_in (flat 2 3) [] ≡ no_cells (flat 2 3)) × ((no_cells (flat 2 3)).indexes ≡ [])
none_named = (refl, refl)

-- a cell differs from another in its row or in its column
same_cells : (is_same (record { row = 1; col = 2 }) (record { row = 1; col = 2 }) ≡ true)
    × (is_same (record { row = 1; col = 2 }) (record { row = 0; col = 2 }) ≡ false)
    × (is_same (record { row = 1; col = 2 }) (record { row = 1; col = 1 }) ≡ false)
same_cells = (refl, refl, refl)

some_cell : (any_cell (is_same (record { row = 1; col = 2 })) (record { extent = flat 2 3; indexes = 1 ∷ 5 ∷ [] })
    ≡ true)
    × (any_cell (is_same (record { row = 0; col = 0 })) (record { extent = flat 2 3; indexes = 1 ∷ 5 ∷ [] })
    ≡ false)
some_cell = (refl, refl)

-- ---- unions, runs, bounds and the next index

-- of a shape of 1 by 2, the union of (0,0) and of (0,1) has 2 cells, in one run
union_of_two : (let both = union_of (record { extent = flat 1 2; indexes = 0 ∷ [] })
    (record { extent = flat 1 2; indexes = 1 ∷ [] }) in
    (length both.indexes ≡ 2) × (runs_of both.indexes ≡ record { first = 0; last = 1 } ∷ []))
union_of_two = (refl, refl)

runs_apart : runs_of (1 ∷ 2 ∷ 3 ∷ 5 ∷ []) ≡ record { first = 1; last = 3 } ∷ record {
  first = 5;
  last =
      5;
} ∷ []
runs_apart = refl

run_of_three : (indexes_of (record { first = 5; last = 7 }) ≡ 5 ∷ 6 ∷ 7 ∷ [])
    × ((run_cells (flat 3 4) (record { first = 10; last = 10 })).indexes ≡ 10 ∷ [])
run_of_three = (refl, refl)

-- (0,2) and (1,0) of 2 by 3, one after the other in one run
bounds_of_two : bounds_of (record { extent = flat 2 3; indexes = 2 ∷ 3 ∷ [] })
    ≡ Some (record { top = 0; left = 0; bottom = 1; right = 2 })
bounds_of_two = refl

bounds_of_one : (bounds_of (record { extent = flat 2 3; indexes = 5 ∷ [] })
    ≡ Some (record { top = 1; left = 2; bottom = 1; right = 2 }))
    × (bounds_of (record { extent = flat 2 3; indexes = [] }) ≡ None)
bounds_of_one = (refl, refl)

next_at_or_after : (let set : Cells = record { extent = flat 2 3; indexes = 1 ∷ 3 ∷ 5 ∷ [] } in
    (next_index set 3 ≡ Some 3) × (next_index set 4 ≡ Some 5) × (next_index set 6 ≡ None))
next_at_or_after = (refl, refl, refl)

-- ---- bytes and words

-- the runs 5 to 7 and 10 to 10
twenty_bytes : set_bytes (record { extent = flat 3 4; indexes = 5 ∷ 6 ∷ 7 ∷ 10 ∷ [] })
    ≡ 0 ∷ 0 ∷ 0 ∷ 2 ∷ 0 ∷ 0 ∷ 0 ∷ 5 ∷ 0 ∷ 0 ∷ 0 ∷ 7 ∷ 0 ∷ 0 ∷ 0 ∷ 10 ∷ 0 ∷ 0 ∷ 0
    ∷ 10 ∷ []
twenty_bytes = refl

no_runs : set_bytes (no_cells (flat 3 4)) ≡ 0 ∷ 0 ∷ 0 ∷ 0 ∷ []
no_runs = refl

-- behind another byte, and before one more
one_set_begins : BeginsSet (flat 3 4)
    (255 ∷ 0 ∷ 0 ∷ 0 ∷ 2 ∷ 0 ∷ 0 ∷ 0 ∷ 5 ∷ 0 ∷ 0 ∷ 0 ∷ 7 ∷ 0 ∷ 0 ∷ 0 ∷ 10 ∷ 0 ∷ 0
    ∷ 0 ∷ 10 ∷ 9 ∷ []) 1 21
    (record { extent = flat 3 4; indexes = 5 ∷ 6 ∷ 7 ∷ 10 ∷ [] })
one_set_begins = record {
  is_set = record {
    extent = refl;
    rising = (
      omega arith,
      omega arith,
      (
        omega arith,
        omega arith,
        (omega arith, omega arith, (omega arith, omega arith, tt)),
      ),
    );
  };
  rest = 9 ∷ [];
  spelled = refl;
  ends = refl;
}

-- the lowest bit of the second word is that of index 64
bits_of_words : (has_bit (2 ∷ 1 ∷ []) 1 ≡ true) × (has_bit (2 ∷ 1 ∷ []) 0 ≡ false)
    × (has_bit (2 ∷ 1 ∷ []) 64 ≡ true) × (has_bit (2 ∷ 1 ∷ []) 128 ≡ false)
unfolding has_bit is_one
bits_of_words = (refl, refl, refl, refl)
