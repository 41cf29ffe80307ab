-- What the counts of faults tell of each ending of a line.
--
-- The key idea: each fact on one count is known once the ending is.
use Rattle.std.proofs.Common.{◌≡◌, refl, Result, Ok, Err, OnOk}
use Rattle.sz_outside.specs.Outside.{Rose, Stood}
use Rattle.sz_outside.specs.declared.stations.Station.{Ghosts}
use Rattle.sz_commands.specs.Faults.{CountsTell}
use Rattle.sz_commands.specs.declared.session.Stop.{Stop}
use Rattle.sz_commands.specs.declared.session.Stop.TheVariants as stop

-- no line raises the count of the faults in saying
pub counts-silent : {X A : Type 0} (T : Ghosts X) (r : Result A Stop) (old new : X) → CountsTell T r old new
    → Stood (T.say_faults old) (T.say_faults new)
counts-silent T (Ok a) old new told = told.0
counts-silent T (Err stop.DiskFault) old new told = told.0
counts-silent T (Err stop.NoMemory) old new told = told.0

-- one that is done raises none of the disk
pub counts-quiet : {X A : Type 0} (T : Ghosts X) (r : Result A Stop) (old new : X) → CountsTell T r old new
    → OnOk r (Stood (T.disk_faults old) (T.disk_faults new))
counts-quiet T (Ok a) old new told = told.1
counts-quiet T (Err e) old new told = tt

-- one that a fault of the disk ends raises that count
pub counts-fault : {X A : Type 0} (T : Ghosts X) (r : Result A Stop) (old new : X) → CountsTell T r old new
    → r ≡ Err stop.DiskFault → Rose (T.disk_faults old) (T.disk_faults new)
counts-fault T (Ok a) old new told is = cc
counts-fault T (Err stop.DiskFault) old new told is = told.1
counts-fault T (Err stop.NoMemory) old new told is = cc

-- and one that want of memory ends raises none
pub counts-memory : {X A : Type 0} (T : Ghosts X) (r : Result A Stop) (old new : X) → CountsTell T r old new
    → r ≡ Err stop.NoMemory → Stood (T.disk_faults old) (T.disk_faults new)
counts-memory T (Ok a) old new told is = cc
counts-memory T (Err stop.DiskFault) old new told is = cc
counts-memory T (Err stop.NoMemory) old new told is = told.1

-- where the station is as it was, the line was done or there was no memory
pub counts-still : {X A : Type 0} (T : Ghosts X) (r : Result A Stop) (x : X) → (r ≡ Err stop.DiskFault → ⊥)
    → CountsTell T r x x
counts-still T (Ok a) x other = (refl, refl)
counts-still T (Err stop.DiskFault) x other = absurd (other refl)
counts-still T (Err stop.NoMemory) x other = (refl, refl)
