-- The marks of cells, and the words that keep them.
use Rattle.std.specs.Prelude.{ℕ, ◌-◌, ◌==◌, Bool, true, false, if◌then◌else◌}
use Rattle.std.specs.Prelude.{List, slice_index_or, Option, Some, None}
use Rattle.sz_ops_region.specs.declared.marks.Mark.{Mark}
use Rattle.sz_ops_region.specs.declared.marks.Mark.TheVariants.{Low, Alone, Numbered}

-- the mark that a word keeps
abbrev pub mark_in : ℕ → Mark
mark_in word = if word == 0 then Low else (if word == 1 then Alone else Numbered (word - 2))

-- the mark of the cell of an index
abbrev pub mark_at : List Mark → ℕ → Mark
mark_at marks k = slice_index_or marks k Low

-- the mark says that the cell is high
abbrev pub is_tall : Mark → Bool
is_tall Low = false
is_tall Alone = true
is_tall (Numbered i) = true

-- the number of a mark, where it has one
abbrev pub number_in : Mark → Option ℕ
number_in Low = None
number_in Alone = None
number_in (Numbered i) = Some i

-- the number of the cell of an index, where it has one
abbrev pub number_of : List Mark → ℕ → Option ℕ
number_of marks k = number_in (mark_at marks k)
