-- Which counts of faults a line raises.
use Rattle.std.specs.Prelude.{Result, Ok, Err}
use Rattle.sz_outside.specs.Outside.{Rose, Stood}
use Rattle.sz_outside.specs.declared.stations.Station.{Ghosts}
use Rattle.sz_commands.specs.declared.session.Stop.{Stop}
use Rattle.sz_commands.specs.declared.session.Stop.TheVariants as stop

-- The counts tell how a line ended: where a call of the disk failed, that of the disk rose; and
-- where the line was done, or there was no memory, both stand. A line says nothing, so that of
-- saying stands each time.
abbrev pub CountsTell : {X A : Type 0} → Ghosts X → Result A Stop → X → X → Type 0
CountsTell T (Ok a) old new = Stood (T.say_faults old) (T.say_faults new)
    × Stood (T.disk_faults old) (T.disk_faults new)
CountsTell T (Err stop.DiskFault) old new = Stood (T.say_faults old) (T.say_faults new)
    × Rose (T.disk_faults old) (T.disk_faults new)
CountsTell T (Err stop.NoMemory) old new = Stood (T.say_faults old) (T.say_faults new)
    × Stood (T.disk_faults old) (T.disk_faults new)
