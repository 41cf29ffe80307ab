-- What a stop leaves of a disk, and how much it finds said.
use Rattle.std.specs.Prelude.{List, ℕ}
use Rattle.sz_outside.specs.Disk.{Told, Passes}
use Rattle.sz_outside.specs.declared.stations.Station.{Ghosts}

-- What a stop leaves of the disk now, or left at a moment since, is an image to which this step
-- leads from one that a stop might have left before; and at each moment since so much was found
-- said.
abbrev pub StopsFinding : {X : Type 0} → Ghosts X → (List ℕ → List ℕ → Type 0)
    → (List ℕ → Type 0) → X → X → Type 0
StopsFinding T step Finds old new = Told (T.disk old) (Passes (T.moment old) (T.moment new)
    (T.left_since old) (T.left_since new) (T.may_leave old) (T.may_leave new) step Finds)
