-- What the counts of faults tell of a status, and how a session of lines ends, on both sides of each part.
--
-- The key idea: a count that rose rose by one status alone; and what a session of no log leaves is told apart from what
-- one of a log does.
use Rattle.std.proofs.Common.{◌≡◌, ℕ, ◌+◌, List, [], ◌∷◌, Option, Some, None, refl, sym, subst, arith, true, true≢false}
use Rattle.std.proofs.Common.{inl, inr}
use Rattle.sz_outside.specs.Outside.{Rose}
use Rattle.sz_outside.specs.declared.stations.Station.{Ghosts}
use Rattle.sz_commands.specs.Lines.{lines_of}
use Rattle.sz_commands.specs.Logged.{makes_durable}
use Rattle.sz_commands.specs.States.{SessionState, LogPlace}
use Rattle.sz_feed.specs.Calls.{WritesOne}
use Rattle.sz_feed.specs.Moments.{Moment}
use Rattle.sz_feed.specs.Serving.{Opening, Answered}
use Rattle.sz_feed.specs.Running.{StandsBehind}
use Rattle.sz_session.specs.Statuses.{NoneRose, AreCounted, EndsLines}
use Rattle.sz_session.specs.Sessions.{FindsOf, WritesRest, WritesLine, TurnsOn, EndsTurn, EndsSession}
use Rattle.sz_session.specs.declared.serving.Status.{Status}
use Rattle.sz_session.specs.declared.serving.Status.TheVariants as status

module _ {X : Type 0} (T : Ghosts X) (old new : X) where
  -- ---- what the counts tell

  module _ (before now : ℕ) where
    pub counted-done : AreCounted T status.Done before now old new → NoneRose T before now old new
    counted-done is = is

    pub counted-read_fault : AreCounted T status.ReadFault before now old new → Rose before now
    counted-read_fault is = is.0

    pub counted-say_fault : AreCounted T status.SayFault before now old new → Rose (T.say_faults old) (T.say_faults new)
    counted-say_fault is = is.1

    pub counted-disk_fault : AreCounted T status.DiskFault before now old new
        → Rose (T.disk_faults old) (T.disk_faults new)
    counted-disk_fault is = is.2

    -- a fault of the disk is no fault in reading or saying
    pub counted-disk_alone : AreCounted T status.DiskFault before now old new
        → (now ≡ before) × (T.say_faults new ≡ T.say_faults old)
    counted-disk_alone is = (is.0, is.1)

    pub counted-no_log : AreCounted T status.NotALog before now old new → NoneRose T before now old new
    counted-no_log is = is

    pub counted-already : AreCounted T status.AlreadyALog before now old new → NoneRose T before now old new
    counted-already is = is

    pub counted-bad : (at : ℕ) → AreCounted T (status.BadLog at) before now old new → NoneRose T before now old new
    counted-bad at is = is

    pub counted-memory : AreCounted T status.NoMemory before now old new → NoneRose T before now old new
    counted-memory is = is

    pub counted-limit : AreCounted T status.InputLimit before now old new → NoneRose T before now old new
    counted-limit is = is

    pub counted-usage : AreCounted T status.Usage before now old new → ⊥
    counted-usage is = is

  -- want of memory hides no fault
  pub counted-not_hidden : (before now : ℕ) → T.disk_faults old ≡ 0 → T.disk_faults new ≡ 1
      → AreCounted T status.NoMemory before now old new → ⊥
  counted-not_hidden before now none one is = omega (arith, none, one, is.2)

  pub counted-no_read_hidden : AreCounted T status.NoMemory 0 1 old new → ⊥
  counted-no_read_hidden is = omega (arith, is.0)

  -- nor does a call end by a fault that is not counted
  pub counted-not_quiet : AreCounted T status.ReadFault 0 0 old new → ⊥
  counted-not_quiet is = omega (arith, is.0)

  -- ---- what a stop finds

  -- of a session of no log the disk reads as before
  pub finds-none : (o : Opening) (Claim : Type 0) → FindsOf T None o Claim old new → T.disk new ≡ T.disk old
  finds-none o Claim found = found.reads

  -- and of one of a log what is claimed is found
  pub finds-log : (o : Opening) (at : LogPlace) → FindsOf T (Some at) o ⊥ old new → ⊥
  finds-log o at found = found

  -- ---- a turn

  module _ (o : Opening) (total : ℕ) (left : Option (List ℕ)) (reads_before reads : ℕ) (before : Moment) where
    pub turn-answered : (count : ℕ) (now : Moment) → TurnsOn T o total count left reads_before reads before now old new
        → Answered o.held o.left left o.said (T.said new) now (total + count)
    turn-answered count now turn = turn.answered

    pub turn-quiet : (count : ℕ) (now : Moment) → TurnsOn T o total count left reads_before reads before now old new
        → NoneRose T reads_before reads old new
    turn-quiet count now turn = turn.counted

    -- no turn ends a session that is done
    pub ends_turn-not_done : (limit : ℕ)
        → EndsTurn T status.Done limit o total left reads_before reads before old new → ⊥
    ends_turn-not_done limit turn = turn.not_done refl

    -- nor by the disk of one that has no log
    pub ends_turn-plain : (limit : ℕ) → before.end ≡ None
        → EndsTurn T status.DiskFault limit o total left reads_before reads before old new → ⊥
    ends_turn-plain limit none turn = turn.plain none refl

  -- ---- a session

  module _ (s : Status) (limit : ℕ) (o : Opening) (left : Option (List ℕ)) (reads_before reads : ℕ) where
    pub session-ends : (end : Option LogPlace) → EndsSession T s limit o end left reads_before reads old new
        → EndsLines o.held s limit o.left left o.said (T.said new)
    session-ends end session = session.ends

    pub session-behind : (end : Option LogPlace) → EndsSession T s limit o end left reads_before reads old new
        → s ≡ status.Done → StandsBehind T o.held end o.left old new
    session-behind end session = session.behind

    pub session-reads : EndsSession T s limit o None left reads_before reads old new → T.disk new ≡ T.disk old
    session-reads session = session.found.reads

  pub session-plain : (limit : ℕ) (o : Opening) (left : Option (List ℕ)) (reads_before reads : ℕ)
      → EndsSession T status.DiskFault limit o None left reads_before reads old new → ⊥
  session-plain limit o left reads_before reads session = session.plain refl refl

  -- ---- which disk fails

  -- none in a turn in which no line ends, nor in a session of no bytes
  pub ends_turn-written : (limit : ℕ) (o : Opening) (left : Option (List ℕ)) (reads_before reads : ℕ) (before : Moment)
      → o.left ≡ Some [] → EndsTurn T status.DiskFault limit o 0 left reads_before reads before old new → ⊥
  ends_turn-written limit o left reads_before reads before told turn =
      subst (λ (l : Option (List ℕ)). WritesRest before l 0) told (turn.written refl)

  pub session-written : (limit : ℕ) (o : Opening) (end : Option LogPlace) (left : Option (List ℕ))
      (reads_before reads : ℕ)
      → o.left ≡ Some [] → EndsSession T status.DiskFault limit o end left reads_before reads old new → ⊥
  session-written limit o end left reads_before reads told session =
      subst (λ (l : Option (List ℕ)). WritesLine o.held l) told (session.written refl)

-- a blank line is written to no log, and one that makes something durable is
pub writes-blank : (s : SessionState) → WritesLine s (Some (32 ∷ 10 ∷ [])) → ⊥
writes-blank s (inl is) = true≢false (sym is)
writes-blank s (inr none) = none

pub writes-one : (s : SessionState) (bytes line : List ℕ) → lines_of bytes ≡ line ∷ []
    → makes_durable s.held line ≡ true
    → WritesLine s (Some bytes)
writes-one s bytes line is durable = subst (λ (ls : List (List ℕ)). WritesOne s ls) (sym is) (inl durable)
