-- How a session ends.
--
-- The key idea: between two reads, what was said is what the bytes so far tell. What all bytes tell, and what is told
-- at their end, is the transcript; so what was said by then is a first part of it, and at the end it is the whole.
use Rattle.std.proofs.Common.{◌≡◌, ℕ, ◌≤◌, List, []}
use Rattle.std.proofs.Common.{take, refl, sym, subst, ◌∙◌, true, true≢false}
use Rattle.std.proofs.Common.{arith, Some, None, inl, inr}
use Rattle.std.specs.Prelude.{Option, Result, Ok, Err, OnOk, ◌⊎◌}
use Rattle.sz_outside.specs.Outside.{Rose, Gives}
use Rattle.sz_outside.specs.declared.stations.Station.{Ghosts}
use Rattle.sz_feed.specs.Moments.{Moment, cut_after, told_at_end}
use Rattle.sz_commands.specs.States.{SessionState, LogPlace}
use Rattle.sz_feed.specs.Serving.{Opening, Answered, AreAll, SaidToLimit}
use Rattle.sz_feed.specs.Serving.{IsPastLimit, IsWithinLimit}
use Rattle.sz_feed.specs.Disks.{StaysFinding, FoundInPart}
use Rattle.sz_feed.specs.Calls.{CountsTell, SaysText, SaysReplies, IsAnswered}
use Rattle.sz_session.specs.Statuses.{halt_status, end_status, is_of_disk, Ends, EndsLines, NoneRose, AreCounted}
use Rattle.sz_session.specs.Sessions.{FindsOf, EndsTurn}
use Rattle.sz_feed.specs.declared.feed.Halt.{Halt}
use Rattle.sz_feed.specs.declared.feed.Halt.TheVariants as halt
use Rattle.sz_session.specs.declared.serving.Status.{Status}
use Rattle.sz_session.specs.declared.serving.Status.TheVariants as status
use Rattle.sz_feed.proofs.Told.{done, turn-in_part, turn-in_lines, end-in_part, end-in_lines}

-- ---- statuses

-- a turn that stopped
abbrev pub halted : Halt → Result (Unit {0}) Halt
halted h = Err h

turn-replies : (z : SessionState) (s : Halt) (limit : ℕ) (all left next a b c : Option (List ℕ)) (m : Moment)
    (total count : ℕ) (buffer : List ℕ) → Answered z all left a b m total → Gives left next buffer count
    → SaysReplies (halted s) b c m.held m.number (cut_after m (take count buffer)).whole
    → EndsLines z (halt_status s) limit all next a c
turn-replies z halt.SayFault limit all left next a b c m total count buffer so_far gives says =
    turn-in_part z all left next a b c m total count buffer so_far gives says
turn-replies z halt.DiskFault limit all left next a b c m total count buffer so_far gives says =
    turn-in_lines z all left next a b c m total count buffer so_far gives says
turn-replies z halt.NoMemory limit all left next a b c m total count buffer so_far gives says =
    turn-in_lines z all left next a b c m total count buffer so_far gives says

pub turn-ends : {X : Type 0} {T : Ghosts X} {s : Halt} {m n : Moment} {lines : List (List ℕ)} {x y : X}
    (z : SessionState)
    (limit : ℕ) (all left next a : Option (List ℕ)) (total count : ℕ) (buffer : List ℕ)
    → IsAnswered T (halted s) m n [] lines x y → Answered z all left a (T.said x) m total
    → Gives left next buffer count
    → SaysReplies (halted s) (T.said x) (T.said y) m.held m.number (cut_after m (take count buffer)).whole
    → EndsLines z (halt_status s) limit all next a (T.said y)
turn-ends {X} {T} {s} {m} {n} {lines} {x} {y} z limit all left next a total count buffer answered so_far gives says =
    turn-replies z s limit all left next a (T.said x) (T.said y) m total count buffer so_far gives says

-- the end of the source
pub end-ends : (z : SessionState) (r : Result (Unit {0}) Halt) (limit : ℕ) (all left a b c : Option (List ℕ))
    (m : Moment)
    (total : ℕ) → total ≤ limit → Answered z all left a b m total → AreAll all total
    → SaysText r b c (told_at_end m) → EndsLines z (end_status r) limit all left a c
end-ends z (Ok u) limit all left a b c m total le so_far is_all says =
    done z limit all left a b c m total le so_far is_all says
end-ends z (Err halt.SayFault) limit all left a b c m total le so_far is_all says =
    end-in_part z all left a b c m total so_far is_all says
end-ends z (Err halt.DiskFault) limit all left a b c m total le so_far is_all says =
    end-in_lines z all left a b c m total so_far says
end-ends z (Err halt.NoMemory) limit all left a b c m total le so_far is_all says =
    end-in_lines z all left a b c m total so_far says

-- ---- counts

-- what the counts tell of an end
pub end-counted : {X : Type 0} (T : Ghosts X) (h : Result (Unit {0}) Halt) (r r' : ℕ) (x y : X) → r' ≡ r
    → CountsTell T h x y → AreCounted T (end_status h) r r' x y
end-counted {X} T (Ok u) r r' x y same counts = (same, counts.0, counts.1)
end-counted {X} T (Err halt.SayFault) r r' x y same counts = (same, counts.0, counts.1)
end-counted {X} T (Err halt.DiskFault) r r' x y same counts = (same, counts.0, counts.1)
end-counted {X} T (Err halt.NoMemory) r r' x y same counts = (same, counts.0, counts.1)

-- and of a turn that stopped
pub turn-counted : {X : Type 0} {T : Ghosts X} {h : Halt} {m n : Moment} {lines : List (List ℕ)} {x y : X} (r r' : ℕ)
    → IsAnswered T (halted h) m n [] lines x y → r' ≡ r → AreCounted T (halt_status h) r r' x y
turn-counted {X} {T} {h} {m} {n} {lines} {x} {y} r r' answered same =
    end-counted T (halted h) r r' x y same answered.counted

-- no count rose in one time, nor in another behind it
pub none-then : {X : Type 0} (T : Ghosts X) (r r' r'' : ℕ) (x y z : X) → NoneRose T r r' x y → NoneRose T r' r'' y z
    → NoneRose T r r'' x z
none-then {X} T r r' r'' x y z one two = (two.0 ∙ one.0, two.1 ∙ one.1, two.2 ∙ one.2)

-- none rose before
pub counted-behind : {X : Type 0} (T : Ghosts X) (s : Status) (r r' r'' : ℕ) (x y z : X) → NoneRose T r r' x y
    → AreCounted T s r' r'' y z → AreCounted T s r r'' x z
counted-behind {X} T status.Usage r r' r'' x y z one two = two
counted-behind {X} T status.ReadFault r r' r'' x y z one two =
    (subst (λ (n : ℕ). Rose n r'') one.0 two.0, two.1 ∙ one.1, two.2 ∙ one.2)
counted-behind {X} T status.SayFault r r' r'' x y z one two =
    (two.0 ∙ one.0, subst (λ (n : ℕ). Rose n (T.say_faults z)) one.1 two.1, two.2 ∙ one.2)
counted-behind {X} T status.DiskFault r r' r'' x y z one two =
    (two.0 ∙ one.0, two.1 ∙ one.1, subst (λ (n : ℕ). Rose n (T.disk_faults z)) one.2 two.2)
counted-behind {X} T _ r r' r'' x y z one two = none-then T r r' r'' x y z one two

-- of a turn that ended the session
pub turn-behind : {X : Type 0} {T : Ghosts X} {s : Status} {limit total : ℕ} {o : Opening} {left : Option (List ℕ)}
    {r' r'' : ℕ} {m : Moment} {y z : X} (r : ℕ) (x : X) → NoneRose T r r' x y
    → EndsTurn T s limit o total left r' r'' m y z → AreCounted T s r r'' x z
turn-behind {X} {T} {s} {limit} {total} {o} {left} {r'} {r''} {m} {y} {z} r x one turn =
    counted-behind T s r r' r'' x y z one turn.counted

-- ---- endings

-- past the limit there were more bytes than it has
pub limit-passed : (z : SessionState) (limit : ℕ) (all left a b : Option (List ℕ)) → SaidToLimit z limit all left a b
    → IsPastLimit limit all
limit-passed z limit None left a b h = tt
limit-passed z limit (Some bytes) left a b h = h.0

-- a session within the limit, with no fault counted, is done unless memory was refused
pub completes : {X : Type 0} (T : Ghosts X) (z : SessionState) (s : Status) (limit : ℕ) (all left a b : Option (List ℕ))
    (r r' : ℕ) (x y : X) → Ends z s limit all left a b → AreCounted T s r r' x y → IsWithinLimit limit all
    → (Rose r r' → ⊥) → (Rose (T.say_faults x) (T.say_faults y) → ⊥) → (s ≡ status.Done) ⊎ (s ≡ status.NoMemory)
completes {X} T z status.Done limit all left a b r r' x y ends counted within no_read no_say = inl refl
completes {X} T z status.ReadFault limit all left a b r r' x y ends counted within no_read no_say =
    absurd (no_read counted.0)
completes {X} T z status.SayFault limit all left a b r r' x y ends counted within no_read no_say =
    absurd (no_say counted.1)
completes {X} T z status.NoMemory limit all left a b r r' x y ends counted within no_read no_say = inr refl
completes {X} T z status.InputLimit limit all left a b r r' x y ends counted within no_read no_say =
    absurd (over all within ends) where
      over : (all : Option (List ℕ)) → IsWithinLimit limit all → SaidToLimit z limit all left a b → ⊥
      over None within past = within
      over (Some bytes) within past = omega (arith, within, past.0)
completes {X} T z _ limit all left a b r r' x y ends counted within no_read no_say = absurd ends

-- ---- where a disk cannot fail

-- a session that ended so, and not since its disk failed
pub plain-ends : (z : SessionState) (s : Status) (limit : ℕ) (all left a b : Option (List ℕ))
    → EndsLines z s limit all left a b
    → (s ≡ status.DiskFault → ⊥) → Ends z s limit all left a b
plain-ends z status.DiskFault limit all left a b ends plain = absurd (plain refl)
plain-ends z _ limit all left a b ends plain = ends

-- which comes of the disk alone in no session of no log
pub ends-not_disk : (z : SessionState) (s : Status) (limit : ℕ) (all left a b : Option (List ℕ))
    → Ends z s limit all left a b
    → is_of_disk s ≡ true → ⊥
ends-not_disk z status.Usage limit all left a b ends is = ends
ends-not_disk z status.DiskFault limit all left a b ends is = ends
ends-not_disk z status.NotALog limit all left a b ends is = ends
ends-not_disk z status.AlreadyALog limit all left a b ends is = ends
ends-not_disk z (status.BadLog at) limit all left a b ends is = ends
ends-not_disk z _ limit all left a b ends is = true≢false (sym is)

-- ---- a turn that stopped, and an end

pub plain-turn : (h : Halt) → (halted h ≡ Err halt.DiskFault → ⊥) → halt_status h ≡ status.DiskFault → ⊥
plain-turn halt.SayFault plain is = cc
plain-turn halt.DiskFault plain is = plain refl
plain-turn halt.NoMemory plain is = cc

pub plain-end : (r : Result (Unit {0}) Halt) → (r ≡ Err halt.DiskFault → ⊥) → end_status r ≡ status.DiskFault → ⊥
plain-end (Ok u) plain is = cc
plain-end (Err halt.SayFault) plain is = cc
plain-end (Err halt.DiskFault) plain is = plain refl
plain-end (Err halt.NoMemory) plain is = cc

-- a turn that stopped is no end
pub not-done : (h : Halt) → halt_status h ≡ status.Done → ⊥
not-done halt.SayFault is = cc
not-done halt.DiskFault is = cc
not-done halt.NoMemory is = cc

-- where a session is done, its end owes what it owes where nothing failed
pub done-end : (r : Result (Unit {0}) Halt) (P : Type 0) → end_status r ≡ status.Done → OnOk r P → P
done-end (Ok u) P is owed = owed
done-end (Err halt.SayFault) P is owed = cc
done-end (Err halt.DiskFault) P is owed = cc
done-end (Err halt.NoMemory) P is owed = cc

-- ---- what a stop finds

-- of a session of no log, and of one of a log
pub of-both : {X : Type 0} (T : Ghosts X) (e : Option LogPlace) (o : Opening) (Claim : Type 0) (a b : X)
    → (e ≡ None → StaysFinding T (FoundInPart o.held o.left o.said) a b) → Claim → FindsOf T e o Claim a b
of-both {X} T None o Claim a b stays claim = stays refl
of-both {X} T (Some at) o Claim a b stays claim = claim

pub of-stays : {X : Type 0} (T : Ghosts X) (e : Option LogPlace) (o : Opening) (Claim : Type 0) (a b : X)
    → FindsOf T e o Claim a b → e ≡ None → StaysFinding T (FoundInPart o.held o.left o.said) a b
of-stays {X} T None o Claim a b found is = found
of-stays {X} T (Some at) o Claim a b found is = cc

-- what is so of a session of no log too
pub of-claim : {X : Type 0} (T : Ghosts X) (e : Option LogPlace) (o : Opening) (Claim : Type 0) (a b : X)
    → FindsOf T e o Claim a b → (e ≡ None → Claim) → Claim
of-claim {X} T None o Claim a b found none = none refl
of-claim {X} T (Some at) o Claim a b found none = found

-- ---- what a call asks

-- the parts of it in their order: of four type parameters, of bounds of some of them, and of what is passed
pub asks : {A B C D E F G H I J K L M : Type 0} → A × (B × (C × D)) → E → F → G → H → I → J → K → L → M
    → A × (B × (C × (D × (E × (F × (G × (H × (I × (J × (K × (L × M)))))))))))
asks lives e f g h i j k l m =
    (lives.0, (lives.1.0, (lives.1.1.0, (lives.1.1.1, (e, (f, (g, (h, (i, (j, (k, (l, m))))))))))))
