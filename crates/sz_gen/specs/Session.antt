-- The text of the session that a seed and a side make: 42 lines, each ended by a newline. The draws
-- are made in the order in which they stand. In each definition x is the generator's number before
-- the first draw of what is written.
use Rattle.std.specs.Prelude.{ℕ, ◌+◌, ◌*◌, ◌/◌, List, [], ◌∷◌, ◌++◌, flat_map, codes, decimal}
use Rattle.std.specs.List.{range_with_len}
use Rattle.sz_gen.specs.Draws.{number_after, draw_of}
use Rattle.sz_gen.specs.Lists.{list_text}

-- the draw of m at k, counted from 0
unfoldable pub draw_text : ℕ → ℕ → ℕ → List ℕ
draw_text x m k = decimal (draw_of (number_after x k) m)

-- a list of n draws of m
unfoldable pub row_text : ℕ → ℕ → ℕ → List ℕ
row_text x n m = list_text (draw_text x m) n

-- the row at r, counted from 0, where each has so many columns
unfoldable pub row_text_at : ℕ → ℕ → ℕ → ℕ → List ℕ
row_text_at x columns m r = row_text (number_after x (r * columns)) columns m

-- a list of rows, one after another, in which each number is a draw of m
unfoldable pub rows_text : ℕ → ℕ → ℕ → ℕ → List ℕ
rows_text x rows columns m = list_text (row_text_at x columns m) rows

-- the line that loads the array of this name: rows of draws of m
unfoldable pub array_line : List ℕ → ℕ → ℕ → ℕ → ℕ → List ℕ
array_line name x rows columns m =
    codes "{\"array\":\"" ++ name ++ codes "\",\"cells\":"
    ++ rows_text x rows columns m ++ codes "}"

-- the line of a flow of six nodes over an image and a table
unfoldable pub flow_line : List ℕ
flow_line =
    codes "{\"flow\":\"scan\",\"inputs\":2,\"nodes\":["
    ++ codes "{\"op\":\"clean\",\"t\":900,\"from\":[{\"i\":0}]},"
    ++ codes "{\"op\":\"convolve\",\"kernel\":[[0,1,0],[1,1,1],[0,1,0]],\"from\":[{\"n\":0}]},"
    ++ codes "{\"op\":\"regions\",\"t\":2500,\"from\":[{\"n\":1}]},"
    ++ codes "{\"op\":\"block\",\"fold\":\"max\",\"h\":2,\"w\":2,\"from\":[{\"n\":2}]},"
    ++ codes "{\"op\":\"clip\",\"lo\":0,\"hi\":15,\"from\":[{\"n\":0}]},"
    ++ codes "{\"op\":\"lookup\",\"from\":[{\"n\":4},{\"i\":1}]}"
    ++ codes "]}"

-- the lines that choose how four of its nodes keep their lineage
unfoldable pub strategy_lines : List (List ℕ)
strategy_lines =
    codes "{\"strategy\":\"scan\",\"node\":0,\"list\":[\"comp_one\"]}"
    ∷ codes "{\"strategy\":\"scan\",\"node\":1,\"list\":[\"full_many_b\",\"full_one_f\"]}"
    ∷ codes "{\"strategy\":\"scan\",\"node\":2,\"list\":[\"pay_many\"]}"
    ∷ codes "{\"strategy\":\"scan\",\"node\":5,\"list\":[\"pay_one\"]}"
    ∷ []

-- the line that starts the flow on the two arrays
unfoldable pub start_line : List ℕ
start_line = codes "{\"start\":\"scan\",\"base\":[[\"img\",1],[\"tab\",1]]}"

-- the line that awaits the version that was started
unfoldable pub await_line : List ℕ
await_line = codes "{\"await\":1}"

-- a line that asks this way, in a direction and along a path, of the cell at two draws of m
unfoldable pub ask_line : List ℕ → ℕ → ℕ → List ℕ
ask_line way x m =
    codes "{\"ask\":1," ++ way ++ codes ",\"cells\":" ++ rows_text x 1 2 m ++ codes "}"

-- back from the block's output, through four nodes to the image
unfoldable pub way_back : List ℕ
way_back = codes "\"dir\":\"back\",\"path\":[[3,0],[2,0],[1,0],[0,0]]"

-- forward from the image, through the same nodes
unfoldable pub way_forward : List ℕ
way_forward = codes "\"dir\":\"forward\",\"path\":[[0,0],[1,0],[2,0],[3,0]]"

-- back from the look-up to the table
unfoldable pub way_to_table : List ℕ
way_to_table = codes "\"dir\":\"back\",\"path\":[[5,1]]"

-- three asks. The block's output, on which the first one asks, has half the image's side, rounded
-- up
unfoldable pub triple : ℕ → ℕ → List (List ℕ)
triple side x =
    ask_line way_back x ((side + 1) / 2)
    ∷ ask_line way_forward (number_after x 2) side
    ∷ ask_line way_to_table (number_after x 4) side
    ∷ []

-- so many triples one after another, each of six draws
unfoldable pub triples : ℕ → ℕ → ℕ → List (List ℕ)
triples count side x = flat_map (λ k. triple side (number_after x (k * 6))) (range_with_len 0 count)

-- the session's lines: two arrays, a flow, its strategies, its start, three asks, the await, and
-- thirty asks. The image has a draw for each of its cells, the table has 16, and a triple has six,
-- so the first asks come after cells + 16 draws and the last ones after cells + 22
abbrev pub load_lines : ℕ → ℕ → List (List ℕ)
load_lines seed side =
    let cells = side * side in
    (array_line (codes "img") seed side side 1000
    ∷ array_line (codes "tab") (number_after seed cells) 1 16 100
    ∷ flow_line ∷ [])
    ++ strategy_lines
    ++ start_line ∷ []
    ++ triples 1 side (number_after seed (cells + 16))
    ++ await_line ∷ []
    ++ triples 10 side (number_after seed (cells + 22))

-- lines, each ended by a newline
abbrev pub text_of_lines : List (List ℕ) → List ℕ
text_of_lines lines = flat_map (λ line. line ++ codes "\n") lines

-- the session's text
unfoldable pub load_text : ℕ → ℕ → List ℕ
load_text seed side = text_of_lines (load_lines seed side)
