-- What ties the pairs of the machine's shelf to the tag's relation. Each law is proved of the
-- definitions.
use Rattle.std.specs.Prelude.{◌≡◌, ℕ, ◌<◌, List, [], ◌∷◌, length, Bool, true, None}
use Rattle.sz_cells.specs.declared.Cell.{Cell}
use Rattle.sz_cells.specs.Extent.{holds}
use Rattle.sz_cells.specs.Cells.{Cells, cells_where, has}
use Rattle.sz_spec.specs.declared.modes.Dir.{Dir}
use Rattle.sz_spec.specs.Sides.{near_side}
use Rattle.sz_spec.specs.Values.{extent_at}
use Rattle.sz_core.specs.Events.{after_look}
use Rattle.sz_core.specs.Images.{say}
use Rattle.sz_core.specs.Laws.{to_come}
use Rattle.sz_core.specs.States.{whole_pairs}
use Rattle.sz_shelf.specs.Tags.{Tag, tag_pieces, tag_relation, tag_image}
use Rattle.sz_shelf.specs.Contents.{missing_in}
use Rattle.sz_shelf.specs.Machine.{shelf_of, first_step}

-- Of cells of the shapes, the pairs of all pieces say exactly the tag's relation.
abbrev pub PairsSayTheRelation : Type 0
PairsSayTheRelation = (t : Tag) (placed : List ℕ) (sealed : Bool) (i : ℕ) (o x : Cell)
    → i < length t.site.ins → holds t.site.out o ≡ true
    → holds (extent_at t.site.ins i) x ≡ true
    → say t.site.out (extent_at t.site.ins i) (whole_pairs (shelf_of t placed sealed)) i o x
    ≡ tag_relation t i o x

-- So the cells to which a look's ask will come are the image under the tag's relation.
abbrev pub AsksComeToTheTagsImage : Type 0
AsksComeToTheTagsImage = (t : Tag) (placed : List ℕ) (sealed : Bool) (dir : Dir) (i : ℕ)
    (from : Cells) → i < length t.site.ins → from ≡ cells_where from.extent (has from)
    → from.extent ≡ near_side dir t.site i
    → to_come (shelf_of t placed sealed ∷ []) (first_step dir i from) ≡ tag_image dir t i from

-- And so are those that the ask holds once it has looked, where a sealed shelf has every piece.
abbrev pub LooksHoldTheTagsImage : Type 0
LooksHoldTheTagsImage = (t : Tag) (placed : List ℕ) (sealed : Bool) (dir : Dir) (i : ℕ)
    (from : Cells) → (sealed ≡ true → missing_in (tag_pieces t) placed ≡ None)
    → i < length t.site.ins → from ≡ cells_where from.extent (has from)
    → from.extent ≡ near_side dir t.site i
    → (after_look (shelf_of t placed sealed ∷ []) (first_step dir i from)).cells
    ≡ tag_image dir t i from
