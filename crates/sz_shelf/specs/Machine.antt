-- The shelf of the pure machine that a shelf is, and what the machine is told where a call answers.
use Rattle.std.specs.Prelude.{ℕ, List, [], ◌∷◌, map, length, Bool}
use Rattle.std.specs.List.{filter, flat_map, range_with_len}
use Rattle.sz_cells.specs.Extent.{Extent, size_of, cell_of}
use Rattle.sz_cells.specs.Cells.{Cells}
use Rattle.sz_spec.specs.declared.modes.Dir.{Dir}
use Rattle.sz_spec.specs.Values.{extent_at}
use Rattle.sz_spec.specs.Pieces.{is_in_piece}
use Rattle.sz_core.specs.declared.pairs.Pair.{Pair}
use Rattle.sz_core.specs.declared.events.Told.{Told}
use Rattle.sz_core.specs.declared.events.Told.TheVariants as told
use Rattle.sz_core.specs.States.{Shelf, Ask}
use Rattle.sz_core.specs.Steps.{step_of}
use Rattle.sz_shelf.specs.Tags.{Tag, tag_pieces, tag_relation}
use Rattle.sz_shelf.specs.Passes.{Onlooker}
use Rattle.sz_shelf.specs.declared.answers.Placed.{Placed}
use Rattle.sz_shelf.specs.declared.answers.Placed.TheVariants as placed
use Rattle.sz_shelf.specs.declared.answers.SealReply.{SealReply}
use Rattle.sz_shelf.specs.declared.answers.SealReply.TheVariants as seal
use Rattle.sz_shelf.specs.declared.answers.Look.{Look}
use Rattle.sz_shelf.specs.declared.answers.Look.TheVariants as look

-- the row-major indexes of the cells of a piece
abbrev pub cells_of_piece : Extent → ℕ → List ℕ
cells_of_piece out k =
    filter (λ n. is_in_piece out k (cell_of out n)) (range_with_len 0 (size_of out))

-- the pairs of an output cell with the cells of input i to which it is related
abbrev pub pairs_of_cell : Tag → ℕ → ℕ → List Pair
pairs_of_cell t n i =
    let taken = extent_at t.site.ins i in
    map (λ x. record { out = n; input = i; cell = x })
    (filter (λ x. tag_relation t i (cell_of t.site.out n) (cell_of taken x))
    (range_with_len 0 (size_of taken)))

-- the pairs that the tag's relation gives a piece
abbrev pub pairs_of_piece : Tag → ℕ → List Pair
pairs_of_piece t k =
    flat_map (λ n. flat_map (pairs_of_cell t n) (range_with_len 0 (length t.site.ins)))
    (cells_of_piece t.site.out k)

-- a shelf of the machine, with the pairs of the tag's relation
abbrev pub shelf_of : Tag → List ℕ → Bool → Shelf
shelf_of t placed sealed = record {
  out = t.site.out;
  ins = t.site.ins;
  pieces = map (pairs_of_piece t) (range_with_len 0 (tag_pieces t));
  placed = placed;
  sealed = sealed;
}

-- the shelf as the last turn of a pass found it, and as that turn left it
abbrev pub found_shelf : Onlooker → Shelf
found_shelf p = shelf_of p.tag p.found p.found_sealed

abbrev pub left_shelf : Onlooker → Shelf
left_shelf p = shelf_of p.tag p.seen p.saw

-- an ask whose one step goes by an input of the first shelf, from these cells
abbrev pub first_step : Dir → ℕ → Cells → Ask
first_step dir input from = record {
  dir = dir;
  path = step_of (0, input) ∷ [];
  made = 0;
  cells = from;
}

-- what the machine tells where a call answers
abbrev pub told_of_place : Placed → Told
told_of_place placed.New = told.Placed
told_of_place placed.Already = told.Already
told_of_place placed.Sealed = told.SealedBefore

abbrev pub told_of_seal : SealReply → Told
told_of_seal seal.Sealed = told.Sealed
told_of_seal (seal.Missing k) = told.Missing k

abbrev pub told_of_look : Look → Told
told_of_look (look.Done _) = told.FromStore
told_of_look (look.Unsealed _) = told.FromTrace
