-- What is read of a log place by place.
use Rattle.std.specs.Prelude.{◌≡◌, ℕ, ◌+◌, List, [], ◌∷◌, length}
use Rattle.sz_outside.specs.Disk.{bytes_at}
use Rattle.sz_log.specs.Log.{LogGroup, IsLog}
use Rattle.sz_log.specs.Places.{group_on}
use Rattle.sz_log.specs.Steps.{place_behind}
use Rattle.sz_log.specs.declared.groups.Group.TheVariants.{Closed, Whole}

-- From a place on these groups are read, one behind another, up to a closed gate.
abbrev pub Reads : List ℕ → ℕ → List LogGroup → ℕ → Type 0
Reads disk at [] end = (at ≡ end) × (group_on disk at ≡ Closed)
Reads disk at (e ∷ es) end =
    (group_on disk at ≡ Whole e.kind (at + 10) (length e.body) (place_behind at e))
    × (bytes_at disk (at + 10) (length e.body) ≡ e.body)
    × Reads disk (place_behind at e) es end

-- The groups of a log are those that are read from byte 16 on, and its end is where that ends.
abbrev pub GroupsAreRead : Type 0
GroupsAreRead = (disk : List ℕ) (entries : List LogGroup) (end : ℕ) → IsLog disk entries end
    → Reads disk 16 entries end
