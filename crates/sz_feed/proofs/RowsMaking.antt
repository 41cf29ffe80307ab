-- What the making of a log says of the disk, for any station: each part of it as it is taken, and what it refuses.
--
-- The key idea: a disk that is told is a list of bytes, so what was made of it, and what a stop leaves, is read off.
use Rattle.std.proofs.Common.{◌≡◌, ℕ, List, [], Option, Some, None, sym, ap, subst, ◌∙◌, arith, unwrap_or, length}
use Rattle.sz_outside.specs.Disk.{Only}
use Rattle.sz_outside.specs.declared.stations.Station.{Ghosts}
use Rattle.sz_log.specs.Log.{empty_log, bar_to}
use Rattle.sz_log.specs.Steps.{IsMade}
use Rattle.sz_log.specs.declared.LogFault.{LogFault}
use Rattle.sz_log.specs.declared.LogFault.TheVariants as fault
use Rattle.sz_feed.specs.Making.{HasBar, HasMade, IsSpared, IsSilent}

-- ---- a log was made

module _ {X : Type 0} (T : Ghosts X) (old new : X) where
  -- nothing kept the disk from being made one
  pub made-free : (disk : List ℕ) → T.disk old ≡ Some disk → HasMade T old new → bar_to disk ≡ None
  made-free disk told made = subst (λ (o : Option (List ℕ)). HasBar o None) told made.free

  -- it is the empty log
  pub made-empty : (disk : List ℕ) → T.disk old ≡ Some disk → HasMade T old new → T.disk new ≡ Some empty_log
  made-empty disk told made = subst (λ (o : Option (List ℕ)). IsMade o (T.disk new)) told made.made

  -- no write is pending: a stop leaves the empty log
  pub made-synced : (disk image : List ℕ) → T.disk old ≡ Some disk → HasMade T old new → T.may_leave new image
      → image ≡ empty_log
  made-synced disk image told made left =
      subst (λ (o : Option (List ℕ)). Only o (T.may_leave new)) (made-empty disk told made) made.synced image left

  pub made-quiet : HasMade T old new → T.disk_faults new ≡ T.disk_faults old
  made-quiet made = made.quiet

  -- a disk that stayed empty was made no log
  pub made-not_empty : T.disk old ≡ Some [] → T.disk new ≡ Some [] → HasMade T old new → ⊥
  made-not_empty told is made =
      let size : 0 ≡ 17 =
      ap (λ (o : Option (List ℕ)). length (unwrap_or o [])) (sym is ∙ made-empty [] told made) in
      omega (arith, size)

  -- nor was one that was a log before
  pub made-not_again : T.disk old ≡ Some empty_log → HasMade T old new → ⊥
  made-not_again told made = let free = made-free empty_log told made in cc

  -- ---- none was made

  pub spared-bar : (f : LogFault) (disk : List ℕ) → T.disk old ≡ Some disk → IsSpared T f old new → bar_to disk ≡ Some f
  spared-bar f disk told spared = subst (λ (o : Option (List ℕ)). HasBar o (Some f)) told spared.bar

  -- the disk reads as before
  pub spared-disk : (f : LogFault) → IsSpared T f old new → T.disk new ≡ T.disk old
  spared-disk f spared = spared.disk

  pub spared-quiet : (f : LogFault) → IsSpared T f old new → T.disk_faults new ≡ T.disk_faults old
  spared-quiet f spared = spared.quiet

  pub spared-not_cut : (f : LogFault) → T.disk old ≡ Some empty_log → T.disk new ≡ Some [] → IsSpared T f old new → ⊥
  spared-not_cut f told is spared =
      let size : 0 ≡ 17 =
      ap (λ (o : Option (List ℕ)). length (unwrap_or o [])) (sym is ∙ spared.disk ∙ told) in
      omega (arith, size)

  -- a log is refused as one, and by nothing else
  pub spared-log : T.disk old ≡ Some empty_log → IsSpared T fault.NotALog old new → ⊥
  spared-log told spared = let bar = spared-bar fault.NotALog empty_log told spared in cc

  -- ---- nothing was said

  pub silent-said : IsSilent T old new → T.said new ≡ T.said old
  silent-said silent = silent.said

  pub silent-quiet : IsSilent T old new → T.say_faults new ≡ T.say_faults old
  silent-quiet silent = silent.quiet
