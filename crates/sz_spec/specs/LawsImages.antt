-- What a reader may take for granted of images of sets and of paths. Each law is proved of the
-- definitions.
use Rattle.std.specs.Prelude.{◌≡◌, ◌++◌, List, Bool, true, ◌&&◌, ◌↔◌}
use Rattle.sz_cells.specs.declared.Cell.{Cell}
use Rattle.sz_cells.specs.Extent.{Extent, holds}
use Rattle.sz_cells.specs.Cells.{Cells, cells_where, any_cell, has, union_of}
use Rattle.sz_spec.specs.declared.modes.Dir.{Dir}
use Rattle.sz_spec.specs.Values.{Grid}
use Rattle.sz_spec.specs.Flows.{Graph}
use Rattle.sz_spec.specs.Lineage.{back, forward}
use Rattle.sz_spec.specs.Paths.{Step, compose}

-- backward, the image of a set is exactly the cells of the shape to which some cell of the set is
-- related
abbrev pub ImagesBackAreTheRelatedCells : Type 0
ImagesBackAreTheRelatedCells = (relation : Cell → Cell → Bool) (e : Extent) (set : Cells) (x : Cell)
    → has (back relation e set) x ≡ (holds e x && any_cell (λ o. relation o x) set)

-- forward, the image of a set is exactly the cells of the shape that are related to some cell of
-- the set
abbrev pub ImagesForwardAreTheRelatedCells : Type 0
ImagesForwardAreTheRelatedCells = (relation : Cell → Cell → Bool) (e : Extent) (set : Cells)
    (o : Cell)
    → has (forward relation e set) o ≡ (holds e o && any_cell (λ x. relation o x) set)

-- backward, x is in the image of the cells of shape d that pass a test exactly where shape e holds
-- x, and there is a cell o of d that passes and is related to x
abbrev pub ImagesBackSayThereIs : Type 0
ImagesBackSayThereIs = (relation : Cell → Cell → Bool) (e d : Extent) (test : Cell → Bool)
    (x : Cell)
    → (has (back relation e (cells_where d test)) x ≡ true)
    ↔ ((holds e x ≡ true)
    × ((o : Cell) × (holds d o ≡ true) × (test o ≡ true) × (relation o x ≡ true)))

-- forward, o is in the image of the cells of shape d that pass a test exactly where shape e holds
-- o, and there is a cell x of d that passes and to which o is related
abbrev pub ImagesForwardSayThereIs : Type 0
ImagesForwardSayThereIs = (relation : Cell → Cell → Bool) (e d : Extent) (test : Cell → Bool)
    (o : Cell)
    → (has (forward relation e (cells_where d test)) o ≡ true)
    ↔ ((holds e o ≡ true)
    × ((x : Cell) × (holds d x ≡ true) × (test x ≡ true) × (relation o x ≡ true)))

-- the image of the union of two sets is the union of their images, in both directions
abbrev pub ImagesBackOfUnions : Type 0
ImagesBackOfUnions = (relation : Cell → Cell → Bool) (e d : Extent) (test other : Cell → Bool)
    → back relation e (union_of (cells_where d test) (cells_where d other))
    ≡ union_of (back relation e (cells_where d test)) (back relation e (cells_where d other))

abbrev pub ImagesForwardOfUnions : Type 0
ImagesForwardOfUnions = (relation : Cell → Cell → Bool) (e d : Extent) (test other : Cell → Bool)
    → forward relation e (union_of (cells_where d test) (cells_where d other))
    ≡ union_of (forward relation e (cells_where d test)) (forward relation e (cells_where d other))

-- relations that agree on the cells of both shapes have one image of a set made by a test
abbrev pub ImagesBackAgree : Type 0
ImagesBackAgree = (relation other : Cell → Cell → Bool) (e d : Extent) (test : Cell → Bool)
    → ((o x : Cell) → holds d o ≡ true → holds e x ≡ true → relation o x ≡ other o x)
    → back relation e (cells_where d test) ≡ back other e (cells_where d test)

abbrev pub ImagesForwardAgree : Type 0
ImagesForwardAgree = (relation other : Cell → Cell → Bool) (e d : Extent) (test : Cell → Bool)
    → ((o x : Cell) → holds e o ≡ true → holds d x ≡ true → relation o x ≡ other o x)
    → forward relation e (cells_where d test) ≡ forward other e (cells_where d test)

-- a set taken along a path of two parts is the set taken along the first part, and what that gives
-- along the second
abbrev pub PathsComposeByTheirParts : Type 0
PathsComposeByTheirParts = (dir : Dir) (flow : Graph) (base outputs : List Grid)
    (path more : List Step) (set : Cells)
    → compose dir flow base outputs (path ++ more) set
    ≡ compose dir flow base outputs more (compose dir flow base outputs path set)
