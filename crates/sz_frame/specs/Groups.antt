-- Which output cells of a piece are kept together: those of one kind have one lineage, or one
-- payload.
use Rattle.std.specs.Prelude.{ℕ, ◌+◌, ◌-◌, ◌==◌, Bool, true, false, not, ◌&&◌, ◌||◌, nat_le}
use Rattle.std.specs.Prelude.{if◌then◌else◌, List, [], ◌∷◌, take, slice_index_or}
use Rattle.std.specs.Prelude.{Option, Some, None}
use Rattle.std.specs.Option.{option_map_or}
use Rattle.std.specs.List.{list_any}
use Rattle.sz_cells.specs.declared.Cell.{Cell}
use Rattle.sz_cells.specs.Extent.{Extent, index_of}
use Rattle.sz_cells.specs.Cells.{Cells, cells_where}
use Rattle.sz_spec.specs.declared.op.Op.{Op}
use Rattle.sz_spec.specs.declared.op.Op.TheVariants.{Lookup, Regions, Clean}
use Rattle.sz_spec.specs.Values.{Grid, input_at}
use Rattle.sz_spec.specs.Operators.Lookup.{match_of}
use Rattle.sz_spec.specs.Operators.Regions.{component_of}
use Rattle.sz_spec.specs.Operators.Clean.{is_hot}
use Rattle.sz_frame.specs.declared.groups.Keeping.{Keeping}
use Rattle.sz_frame.specs.declared.groups.Keeping.TheVariants.{Nothing, Alone, Kind}

-- the least of rising indexes, where there is one
abbrev pub least_of : List ℕ → Option ℕ
least_of [] = None
least_of (k ∷ ks) = Some k

-- 0 for none, and 1 more than a number that is there
abbrev pub kind_of : Option ℕ → ℕ
kind_of found = option_map_or (λ k. 1 + k) found 0

-- The kind of output cell o, for its lineage: cells of one kind are related to the same cells of
-- each input. Of `regions` it is the least index of the component; a cell of no kind is kept alone.
abbrev pub lineage_kind : Op → List Grid → Cell → Option ℕ
lineage_kind (Regions t) inputs o = least_of (component_of t (input_at inputs 0) o).indexes
lineage_kind _ inputs o = None

-- The kind of output cell o, for its payload: cells of one kind have one payload. It tells the
-- matched column or none, the component or none, and whether the cell is hot.
abbrev pub payload_kind : Op → List Grid → Cell → Option ℕ
payload_kind Lookup inputs o =
    Some (kind_of (match_of (input_at inputs 0) (input_at inputs 1) o))
payload_kind (Regions t) inputs o =
    Some (kind_of (least_of (component_of t (input_at inputs 0) o).indexes))
payload_kind (Clean t) inputs o = Some (if is_hot t (input_at inputs 0) o then 1 else 0)
payload_kind _ inputs o = None

-- how a cell of a kind is kept, or one of no kind, where it is to be kept
abbrev pub keeping_of : Bool → Option ℕ → Keeping
keeping_of false kind = Nothing
keeping_of true None = Alone
keeping_of true (Some n) = Kind n

-- the cell is kept as one of a kind
abbrev pub is_kind : ℕ → Keeping → Bool
is_kind n Nothing = false
is_kind n Alone = false
is_kind n (Kind m) = m == n

-- two cells are kept together
abbrev pub are_together : Keeping → Keeping → Bool
are_together Nothing other = false
are_together Alone other = false
are_together (Kind n) other = is_kind n other

-- the cell is kept, and none of the cells before it is kept with it
abbrev pub is_first : Keeping → List Keeping → Bool
is_first Nothing before = false
is_first Alone before = true
is_first (Kind n) before = not (list_any (is_kind n) before)

-- how the cell at a place of a piece is kept, of a place behind the last one not at all
abbrev pub keeping_at : List Keeping → ℕ → Keeping
keeping_at kept p = slice_index_or kept p Nothing

-- the cell at a place of a piece is the first of those that are kept with it
abbrev pub leads : List Keeping → ℕ → Bool
leads kept p = is_first (keeping_at kept p) (take p kept)

-- the cell of index k is that at place p of a piece of the cells from index `start` on, or is kept
-- with it
abbrev pub is_with : ℕ → List Keeping → ℕ → ℕ → Bool
is_with start kept p k = (start + p == k)
    || (nat_le start k && are_together (keeping_at kept p) (keeping_at kept (k - start)))

-- the cells of a shape that are kept with that at a place of a piece
abbrev pub group_at : Extent → ℕ → List Keeping → ℕ → Cells
group_at e start kept p = cells_where e (λ c. is_with start kept p (index_of e c))
