-- What stands at a place of a disk.
use Rattle.std.specs.Prelude.{◌≡◌, ℕ, ◌+◌, ◌==◌, nat_le, Bool, ◌&&◌, if◌then◌else◌, ⊤}
use Rattle.std.specs.Prelude.{Option, None, Some, List, [], ◌∷◌, length, take, drop}
use Rattle.std.specs.Int.{w64, from_be_bytes, to_be_bytes}
use Rattle.sz_outside.specs.Disk.{bytes_at}
use Rattle.sz_log.specs.Log.{is_kind, begins_as_log}
use Rattle.sz_log.specs.declared.groups.Group.{Group}
use Rattle.sz_log.specs.declared.groups.Group.TheVariants.{Closed, Whole, Bad}

-- What stands at a place behind an open gate, by the kind and the length there, where so many bytes
-- are left from the gate on: a group where it is whole and its kind is one.
abbrev pub opened_with : ℕ → ℕ → ℕ → ℕ → Group
opened_with at kind len left = if is_kind kind && nat_le (10 + len) left
    then Whole kind (at + 10) len (at + 10 + len)
    else Bad

-- The same by the bytes behind the gate: a kind, and eight bytes of the length.
abbrev pub opened : ℕ → List ℕ → Group
opened at [] = Bad
opened at (kind ∷ bytes) = opened_with at kind (from_be_bytes w64 (take 8 bytes)) (2 + length bytes)

-- The group at a place, by the bytes from there on: a gate that is not 1 is closed.
abbrev pub group_in : ℕ → List ℕ → Group
group_in at [] = Bad
group_in at (gate ∷ bytes) = if gate == 1 then opened at bytes else Closed

abbrev pub group_on : List ℕ → ℕ → Group
group_on disk at = group_in at (drop at disk)

-- It is the group at a place, where the disk is told.
abbrev pub StandsAt : Option (List ℕ) → ℕ → Group → Type 0
StandsAt None at group = ⊤
StandsAt (Some disk) at group = group ≡ group_on disk at

-- Where a whole group stands, its length stands as eight bytes are written.
abbrev pub SpellsLength : List ℕ → ℕ → Group → Type 0
SpellsLength disk at Closed = ⊤
SpellsLength disk at (Whole kind body len next) = bytes_at disk (at + 2) 8 ≡ to_be_bytes w64 len
SpellsLength disk at Bad = ⊤

-- The same where the disk is told.
abbrev pub SpellsAt : Option (List ℕ) → ℕ → Group → Type 0
SpellsAt None at group = ⊤
SpellsAt (Some disk) at group = SpellsLength disk at group

-- Whether the disk begins as a log, where it is told.
abbrev pub SaysWhether : Option (List ℕ) → Bool → Type 0
SaysWhether None is_log = ⊤
SaysWhether (Some disk) is_log = is_log ≡ begins_as_log disk
