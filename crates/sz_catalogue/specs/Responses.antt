-- Replies, and the line that each of them is written as.
use Rattle.std.specs.Prelude.{ℕ, ℤ, List, [], ◌∷◌, ◌++◌, length, codes, flat_map, ◌==◌}
use Rattle.std.specs.Prelude.{if◌then◌else◌, Option, Some, None}
use Rattle.std.specs.Fmt.{decimal, signed_decimal}
use Rattle.sz_cells.specs.Extent.{Extent, cell_of, height_of, layer_of, row_in}
use Rattle.sz_cells.specs.Cells.{Cells}
use Rattle.sz_spec.specs.declared.modes.Strategy.{Strategy}
use Rattle.sz_spec.specs.Values.{Grid}
use Rattle.sz_script.specs.declared.refusal.Refusal.{Refusal}
use Rattle.sz_script.specs.Refusals.{numbers_of}
use Rattle.sz_script.specs.Words.{name_of_strategy}

-- an array is held as this version of a name; a flow is held under a name; the strategies of a node
-- of a flow are set; a version is started; it is awaited; these cells; the ways of a path's steps,
-- and how many cells are traced for them; this array; what a list of strategies that is planned
-- costs, the units that it takes, and the list; a version is started on an array with cells set,
-- and how many node cells were computed again; the merge of a version is asked; the kinds of
-- lineage of its merged stores; the line is refused
pub data Response : Type 0 where
  array_held : List ℕ → ℕ → Response
  flow_held : List ℕ → Response
  strategy_set : List ℕ → ℕ → Response
  started : ℕ → Response
  done : ℕ → Response
  cells : Cells → Response
  explained : List Strategy → ℕ → Response
  values : Grid → Response
  planned : ℕ → ℕ → List Strategy → Response
  refreshed : ℕ → ℕ → Response
  merging : ℕ → Response
  merged : ℕ → List ℕ → Response
  refused : Refusal → Response

-- a blank and a number, and a blank and a text
abbrev pub number_text : ℕ → List ℕ
number_text n = 32 ∷ decimal n

abbrev pub word_text : List ℕ → List ℕ
word_text word = 32 ∷ word

-- a blank, and a cell as ROW,COL, or as LAYER,ROW,COL where the shape has more than one layer
abbrev pub cell_text : Extent → ℕ → List ℕ
cell_text e k = if e.layers == 1
    then number_text (cell_of e k).row ++ 44 ∷ decimal (cell_of e k).col
    else number_text (layer_of e (cell_of e k)) ++ 44 ∷ decimal (row_in e (cell_of e k)) ++ 44
    ∷ decimal (cell_of e k).col

-- a blank, and a value, - where the cell is empty
abbrev pub value_text : Option ℤ → List ℕ
value_text None = 32 ∷ 45 ∷ []
value_text (Some z) = 32 ∷ signed_decimal z

-- how many rows and columns an array has, and its layers before that where it has more than one
abbrev pub shape_text : Extent → List ℕ
shape_text e = if e.layers == 1
    then codes "values" ++ number_text e.rows ++ number_text e.cols
    else codes "layers" ++ number_text e.layers ++ number_text (height_of e) ++ number_text e.cols

abbrev pub reply_text : Response → List ℕ
reply_text (array_held name version) = codes "array" ++ word_text name ++ number_text version
reply_text (flow_held name) = codes "flow" ++ word_text name
reply_text (strategy_set name node) = codes "strategy" ++ word_text name ++ number_text node
reply_text (started version) = codes "started" ++ number_text version
reply_text (done version) = codes "done" ++ number_text version
reply_text (cells set) =
    codes "cells" ++ number_text (length set.indexes)
    ++ flat_map (cell_text set.extent) set.indexes
reply_text (explained ways traced) =
    codes "explain" ++ flat_map (λ s. word_text (name_of_strategy s)) ways
    ++ codes " traced" ++ number_text traced
reply_text (values array) = shape_text array.extent ++ flat_map value_text array.values
reply_text (planned cost units list) =
    codes "plan" ++ number_text cost ++ number_text units
    ++ flat_map (λ s. word_text (name_of_strategy s)) list
reply_text (refreshed version count) =
    codes "refreshed" ++ number_text version ++ codes " cells" ++ number_text count
reply_text (merging version) = codes "merging" ++ number_text version
reply_text (merged version kinds) =
    codes "merged" ++ number_text version ++ flat_map number_text kinds
reply_text (refused rule) = codes "refused" ++ flat_map number_text (numbers_of rule)

-- the reply line of a line: its number, a blank, the reply's text, a newline
abbrev pub reply_line : ℕ → Response → List ℕ
reply_line number reply = decimal number ++ 32 ∷ reply_text reply ++ 10 ∷ []
