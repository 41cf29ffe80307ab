-- What a JSON value that is written for cells must be: it passes the test of what it stands for,
-- and its text, read again, is the value and is short enough for a line.
use Rattle.std.specs.Prelude.{◌≡◌, ◌≤◌, ◌+◌, ◌*◌, ℕ, ℤ, List, length, codes, Bool, true, false}
use Rattle.std.specs.Prelude.{Option, Ok}
use Rattle.std.specs.List.{list_all, flat_map}
use Rattle.serde_json.specs.Data.{Data, string, array, object, no_members, put, depth, items_depth}
use Rattle.serde_json.specs.Read.{max_depth}
use Rattle.serde_json.specs.View.{items_of}
use Rattle.serde_json.specs.Written.{has_float, items_have_float, compact_text, items_text}
use Rattle.sz_script.specs.Drafts.{reading_of_form}
use Rattle.sz_script.specs.Forms.{draft_of}
use Rattle.sz_script.specs.Layers.{is_layer, values_of_layer}
use Rattle.sz_script.specs.Reading.{line_limit}
use Rattle.sz_script.specs.declared.command.Command.{Command}

-- the most bytes of the text of a value, and of a list of so many items, each of at most so many
abbrev pub value_long : ℕ
value_long = 20

abbrev pub list_long : ℕ → ℕ → ℕ
list_long count long = (long + 1) * count + 2

abbrev pub row_long : ℕ → ℕ
row_long width = list_long width value_long

abbrev pub layer_long : ℕ → ℕ → ℕ
layer_long height width = list_long height (row_long width)

-- a value that passes a test, holds no float, nests so deep at most, and has a text of at most so
-- many bytes
pub record IsWritten (test : Data → Bool) (deep long : ℕ) (d : Data) : Type 0 where
  pub tested : test d ≡ true
  pub whole : has_float d ≡ false
  pub shallow : depth d ≤ deep
  pub short : length (compact_text d) ≤ long

-- the same of each item of a list, whose text is no longer than theirs and a comma each
pub record AreWritten (test : Data → Bool) (deep long : ℕ) (ds : List Data) : Type 0 where
  pub tested : list_all test ds ≡ true
  pub whole : items_have_float (items_of ds) ≡ false
  pub shallow : items_depth (items_of ds) ≤ deep
  pub short : length (items_text true (items_of ds)) ≤ (long + 1) * length ds + 1

-- a list of so many layers, which hold these cells
pub record AreLayers (count height width : ℕ) (cells : List (Option ℤ)) (d : Data) : Type 0 where
  pub layers : List Data
  pub is : d ≡ array (items_of layers)
  pub counted : length layers ≡ count
  pub written : AreWritten (is_layer height width) 2 (layer_long height width) layers
  pub given : flat_map values_of_layer layers ≡ cells

-- the object of a line: a name under the word of a form, and cells
abbrev pub order_data : List ℕ → List ℕ → Data → Data
order_data word name cells = object (put (codes "cells") cells (put word (string name) no_members))

-- an object whose text is a line of this command
pub record IsOrder (c : Command) (d : Data) : Type 0 where
  pub whole : has_float d ≡ false
  pub shallow : depth d ≤ max_depth
  pub short : length (compact_text d) ≤ line_limit
  pub read : reading_of_form (draft_of d) ≡ Ok c
