-- What a call does to its station, on both sides of each word.
--
-- The key idea: what the counts, the bytes said and the images of a stop are is read off each word; so a call that
-- tells otherwise is refused.
use Rattle.std.proofs.Common.{◌≡◌, ℕ, List, [], ◌∷◌, Option, Some, None, refl, sym, ◌∙◌, arith}
use Rattle.std.proofs.Common.{Result, length, codes, true, false, true≢false, inl, ⊎_elim}
use Rattle.sz_outside.specs.Outside.{Rose}
use Rattle.sz_outside.specs.declared.stations.Station.{Ghosts}
use Rattle.sz_recover.specs.Logs.{Kept, IsWellMade}
use Rattle.sz_recover.specs.Growing.{durable}
use Rattle.sz_commands.specs.Logged.{makes_durable}
use Rattle.sz_commands.specs.States.{SessionState, LogPlace}
use Rattle.sz_commands.specs.declared.asking.AskLine.{AskLine}
use Rattle.sz_feed.specs.Moments.{Moment}
use Rattle.sz_feed.specs.Calls.{CountsStand, CountsTell, SaysText, SaysReplies, IsSaid, IsTaken, FindsBehind}
use Rattle.sz_feed.specs.Calls.{WritesOne, IsAnswered, AreWaiting}
use Rattle.sz_feed.specs.declared.feed.Halt.{Halt}
use Rattle.sz_feed.specs.declared.feed.Halt.TheVariants as halt
use Rattle.sz_feed.proofs.Beside.{none-stays}
use Rattle.sz_feed.proofs.Calls.{went_on, ended}
use Rattle.sz_feed.proofs.RowsRunning.{at-cut, finds-lines}

-- a call that ended by a fault
abbrev by_say : Result (Unit {0}) Halt
by_say = ended (Unit {0}) halt.SayFault

abbrev by_disk : Result (Unit {0}) Halt
by_disk = ended (Unit {0}) halt.DiskFault

abbrev by_memory : Result (Unit {0}) Halt
by_memory = ended (Unit {0}) halt.NoMemory

-- ---- what was said

pub text-all : SaysText went_on (Some (codes "a")) (Some (codes "ab")) (codes "b")
text-all = refl

pub text-first : SaysText by_say (Some []) (Some (codes "a")) (codes "ab")
text-first = (1, omega arith, refl)

pub text-none : SaysText by_memory (Some (codes "a")) (Some (codes "a")) (codes "b")
text-none = refl

bytes-more : (xs : List ℕ) (x : ℕ) → Some (x ∷ xs) ≡ Some [] → ⊥
bytes-more xs x is = cc

-- no byte is said where memory was refused, nor where the disk failed
pub text-not_memory : SaysText by_memory (Some []) (Some (codes "b")) (codes "b") → ⊥
text-not_memory says = bytes-more [] 98 says

pub text-not_disk : SaysText by_disk (Some []) (Some (codes "b")) (codes "b") → ⊥
text-not_disk says = bytes-more [] 98 says

-- and all of it where the call went on
pub text-not_part : SaysText went_on (Some []) (Some []) (codes "b") → ⊥
text-not_part says = cc

-- of no lines nothing is said
pub replies-none : (s : SessionState) (n : ℕ) → SaysReplies went_on (Some []) (Some []) s n []
replies-none s n = refl

pub replies-stopped : (s : SessionState) (n : ℕ) → SaysReplies by_memory (Some []) (Some []) s n []
replies-stopped s n = record { many = 0; within = omega arith; says = refl }

pub replies-more : (s : SessionState) (n : ℕ) → SaysReplies went_on (Some []) (Some (codes "b")) s n [] → ⊥
replies-more s n says = bytes-more [] 98 says

-- ---- lines that are written

pub writes-none : (s : SessionState) → WritesOne s [] → ⊥
writes-none s writes = writes

pub writes-this : (s : SessionState) (line : List ℕ) → makes_durable s.held line ≡ true → WritesOne s (line ∷ [])
writes-this s line is = inl is

pub writes-other : (s : SessionState) (line : List ℕ) → makes_durable s.held line ≡ false → WritesOne s (line ∷ []) → ⊥
writes-other s line rests writes = ⊎_elim (λ is. true≢false (sym is ∙ rests)) (λ none. none) writes

-- ---- asks that wait

pub waiting-none : (end : Option LogPlace) → AreWaiting end []
waiting-none None = record { asks = tt; few = omega arith; idle = tt }
waiting-none (Some at) = record { asks = tt; few = omega arith; idle = refl }

pub waiting-log : (at : LogPlace) (l : AskLine) → AreWaiting (Some at) (l ∷ []) → ⊥
waiting-log at l waiting = let none = waiting.idle in cc

pub waiting-many : (end : Option LogPlace) (lines : List AskLine) → length lines ≡ 65 → AreWaiting end lines → ⊥
waiting-many end lines many waiting = omega (arith, many, waiting.few)

module _ {X : Type 0} (T : Ghosts X) (old new : X) where
  -- ---- faults

  pub counts-went_on : CountsTell T went_on old new → CountsStand T old new
  counts-went_on counts = counts

  pub counts-say : CountsTell T by_say old new → Rose (T.say_faults old) (T.say_faults new)
  counts-say counts = counts.0

  pub counts-say_alone : CountsTell T by_say old new → T.disk_faults new ≡ T.disk_faults old
  counts-say_alone counts = counts.1

  pub counts-disk : CountsTell T by_disk old new → Rose (T.disk_faults old) (T.disk_faults new)
  counts-disk counts = counts.1

  pub counts-disk_alone : CountsTell T by_disk old new → T.say_faults new ≡ T.say_faults old
  counts-disk_alone counts = counts.0

  -- want of memory hides no fault
  pub counts-not_hidden : T.say_faults old ≡ 0 → T.say_faults new ≡ 1 → CountsTell T by_memory old new → ⊥
  counts-not_hidden none one counts = omega (arith, none, one, counts.0)

  pub counts-no_disk_hidden : T.disk_faults old ≡ 0 → T.disk_faults new ≡ 1 → CountsTell T by_memory old new → ⊥
  counts-no_disk_hidden none one counts = omega (arith, none, one, counts.1)

  -- nor does a call stop by a fault that is not counted
  pub counts-not_quiet : T.disk_faults old ≡ 0 → T.disk_faults new ≡ 0 → CountsTell T by_disk old new → ⊥
  counts-not_quiet none still counts = omega (arith, none, still, counts.1)

  -- ---- a say

  pub said-reads : (text : List ℕ) → IsSaid T by_memory text old new → T.disk new ≡ T.disk old
  said-reads text said = said.found.reads

  pub said-no_disk : (text : List ℕ) → IsSaid T by_disk text old new → ⊥
  said-no_disk text said = said.plain refl

  -- ---- a line

  module _ (before now : Moment) where
    pub taken-silent : IsTaken T went_on before now old new → T.said new ≡ T.said old
    taken-silent taken = taken.output.said

    pub taken-no_say : IsTaken T by_say before now old new → ⊥
    taken-no_say taken = taken.silent refl

    -- the disk fails only where the line is written
    pub taken-unwritten : makes_durable before.held.held before.pending ≡ false → IsTaken T by_disk before now old new
        → ⊥
    taken-unwritten rests taken = true≢false (sym (taken.written refl) ∙ rests)

    -- and where there is a log
    pub taken-plain : before.end ≡ None → IsTaken T by_disk before now old new → ⊥
    taken-plain none taken = taken.plain none refl

    pub taken-still : before.end ≡ None → IsTaken T went_on before now old new → new ≡ old
    taken-still none taken = taken.still none

    -- ---- lines

    module _ (first : List ℕ) (lines : List (List ℕ)) where
      pub answered-counts : IsAnswered T by_memory before now first lines old new → CountsStand T old new
      answered-counts answered = answered.counted

      pub answered-plain : before.end ≡ None → IsAnswered T by_disk before now first lines old new → ⊥
      answered-plain none answered = answered.plain none refl

      -- nor does the disk fail where there is no line
      pub answered-no_line : IsAnswered T by_disk before now first [] old new → ⊥
      answered-no_line answered = answered.written refl

      -- a session of no log is given none
      pub answered-no_log : (at : LogPlace) → before.end ≡ None → now.end ≡ Some at
          → IsAnswered T went_on before now first lines old new → ⊥
      answered-no_log at none some answered =
          let still = none-stays T before now old new answered.log none in cc

  module _ (first : List ℕ) (s : SessionState) (n : ℕ) (lines : List (List ℕ)) where
    -- where there is no log the disk reads as before
    pub behind-reads : FindsBehind T None first s n lines old new → T.disk new ≡ T.disk old
    behind-reads found = found.reads

    -- and where there is one it is never found cut
    pub behind-cut : (at : LogPlace) (disk said : List ℕ) (kept : List Kept) → T.disk old ≡ Some disk
        → IsWellMade disk at.gate at.format (durable s.held) kept → FindsBehind T (Some at) first s n lines old new
        → T.left_since new (T.moment old) [] said → ⊥
    behind-cut at disk said kept told made found left =
        at-cut kept s n lines (T.said old) said
        (finds-lines T old new at s n lines disk [] said kept told made found left)
