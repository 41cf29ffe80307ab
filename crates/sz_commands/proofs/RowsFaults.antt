-- Counts of faults behind a line, worked by hand on both sides.
--
-- The key idea: a count that rose by one is not the count that it was.
use Rattle.std.proofs.Common.{◌≡◌, ℕ, ◌+◌, refl, arith, Ok, Err}
use Rattle.sz_outside.specs.declared.stations.Station.{Ghosts}
use Rattle.sz_commands.specs.Faults.{CountsTell}
use Rattle.sz_commands.specs.declared.session.Stop.TheVariants as stop

module _ {X : Type 0} (T : Ghosts X) where
  -- a line that is done, and want of memory, with the station as it was
  pub done-still : (n : ℕ) (x : X) → CountsTell T (Ok n) x x
  done-still n x = (refl, refl)

  pub memory-still : (x : X) → CountsTell {A = ℕ} T (Err stop.NoMemory) x x
  memory-still x = (refl, refl)

  -- a fault of the disk, which is counted
  pub fault-counted : (old new : X) → T.say_faults new ≡ T.say_faults old → T.disk_faults old ≡ 3
      → T.disk_faults new ≡ 4 → CountsTell {A = ℕ} T (Err stop.DiskFault) old new
  fault-counted old new say before now = (say, omega (arith, before, now))

  -- one that is not counted
  pub fault-uncounted : (old new : X) → T.disk_faults old ≡ 3 → T.disk_faults new ≡ 3
      → CountsTell {A = ℕ} T (Err stop.DiskFault) old new → ⊥
  fault-uncounted old new before now told = omega (arith, before, now, told.1)

  -- a line that is done behind a fault of the disk
  pub done-over_fault : (n : ℕ) (old new : X) → T.disk_faults old ≡ 3 → T.disk_faults new ≡ 4
      → CountsTell T (Ok n) old new → ⊥
  done-over_fault n old new before now told = omega (arith, before, now, told.1)

  -- want of memory behind one
  pub memory-over_fault : (old new : X) → T.disk_faults old ≡ 3 → T.disk_faults new ≡ 4
      → CountsTell {A = ℕ} T (Err stop.NoMemory) old new → ⊥
  memory-over_fault old new before now told = omega (arith, before, now, told.1)

  -- a say that failed, however the line ended
  pub done-say : (n : ℕ) (old new : X) → T.say_faults new ≡ T.say_faults old + 1 → CountsTell T (Ok n) old new → ⊥
  done-say n old new say told = omega (arith, say, told.0)

  pub fault-say : (old new : X) → T.say_faults new ≡ T.say_faults old + 1
      → CountsTell {A = ℕ} T (Err stop.DiskFault) old new → ⊥
  fault-say old new say told = omega (arith, say, told.0)

  pub memory-say : (old new : X) → T.say_faults new ≡ T.say_faults old + 1
      → CountsTell {A = ℕ} T (Err stop.NoMemory) old new → ⊥
  memory-say old new say told = omega (arith, say, told.0)
