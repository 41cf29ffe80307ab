-- Where a disk fails, a line is written to a log.
--
-- The key idea: a line is written by what is held before it, and moments that are alike write the same lines; so a line
-- that is written in a turn, or at the end of the source, is one of those of all its bytes.
use Rattle.std.proofs.Common.{◌≡◌, ℕ, List, ◌++◌, take, drop, refl, sym, subst, arith, Some, None}
use Rattle.std.specs.Prelude.{Option, Result, Ok, Err}
use Rattle.std.proofs.lemmas.List.{take-append-drop, take_all}
use Rattle.sz_outside.specs.Outside.{Gives}
use Rattle.sz_commands.specs.Lines.{Cut, cut, lines_of, last_line}
use Rattle.sz_commands.specs.States.{SessionState}
use Rattle.sz_feed.specs.Calls.{WritesOne}
use Rattle.sz_feed.specs.Moments.{Moment, moment_before, cut_after, moment_after, AreAlike}
use Rattle.sz_feed.specs.Serving.{Answered, AreAll}
use Rattle.sz_feed.specs.declared.feed.Halt.{Halt}
use Rattle.sz_feed.specs.declared.feed.Halt.TheVariants as halt
use Rattle.sz_feed.proofs.Cuts.{before_cut-nothing, lines_of-cut}
use Rattle.sz_feed.proofs.Told.{given-next}
use Rattle.sz_feed.proofs.Writing.{writes-first, writes-front, writes-rest, writes-last}
use Rattle.sz_session.specs.Sessions.{WritesRest, WritesLine}
use Rattle.sz_session.specs.Statuses.{halt_status, end_status}
use Rattle.sz_session.specs.declared.serving.Status.TheVariants as status
use Rattle.sz_session.proofs.Ends.{halted}

-- ---- what a status tells of a turn, and of an end

pub turn-failed : (h : Halt) → halt_status h ≡ status.DiskFault → halted h ≡ Err halt.DiskFault
turn-failed halt.SayFault is = cc
turn-failed halt.DiskFault is = refl
turn-failed halt.NoMemory is = cc

pub end-failed : (r : Result (Unit {0}) Halt) → end_status r ≡ status.DiskFault → r ≡ Err halt.DiskFault
end-failed (Ok u) is = cc
end-failed (Err halt.SayFault) is = cc
end-failed (Err halt.DiskFault) is = refl
end-failed (Err halt.NoMemory) is = cc

-- ---- lines of a source

-- one of those that end in what a read gave
pub rest-written : (z : SessionState) (all left next a b : Option (List ℕ)) (m : Moment) (total count : ℕ)
    (buffer : List ℕ)
    → Answered z all left a b m total → Gives left next buffer count
    → WritesOne m.held (cut_after m (take count buffer)).whole → WritesRest m all total
rest-written z None left next a b m total count buffer so_far gives writes = tt
rest-written z (Some bytes) left next a b m total count buffer so_far gives writes =
    let P : List ℕ → Type 0 = λ xs. WritesOne m.held (cut_after m xs).whole in
    writes-front m (drop total bytes) count
    (subst P (given-next bytes left next total count buffer so_far.is_left gives).bytes writes)

-- a whole line is one of all lines
whole-written : (z : SessionState) (bytes : List ℕ) → WritesOne z (cut_after (moment_before z) bytes).whole
    → WritesOne z (lines_of bytes)
whole-written z bytes writes =
    subst (WritesOne z) (sym (lines_of-cut bytes))
    (writes-first z (cut bytes).whole (last_line (cut bytes).last)
    (subst (λ (c : Cut). WritesOne z c.whole) (before_cut-nothing (cut bytes)) writes))

-- one of those behind a place
pub line-written : (z : SessionState) (all left a b : Option (List ℕ)) (m : Moment) (total : ℕ)
    → Answered z all left a b m total → WritesRest m all total → WritesLine z all
line-written z None left a b m total so_far writes = tt
line-written z (Some bytes) left a b m total so_far writes =
    let l = moment_before z in
    let P : List ℕ → Type 0 = λ xs. WritesOne z (cut_after l xs).whole in
    whole-written z bytes
    (subst P (take-append-drop total bytes) (writes-rest l m (take total bytes) (drop total bytes) so_far.alike writes))

-- the line that has not ended, at the end of the source
pub last-written : (z : SessionState) (all left a b : Option (List ℕ)) (m : Moment) (total : ℕ)
    → Answered z all left a b m total → AreAll all total → WritesOne m.held (last_line m.pending) → WritesLine z all
last-written z None left a b m total so_far is_all writes = tt
last-written z (Some bytes) left a b m total so_far is_all writes =
    let l = moment_before z in
    let whole : take total bytes ≡ bytes = take_all total bytes (omega (arith, is_all)) in
    let A : List ℕ → Type 0 = λ xs. AreAlike m (moment_after l xs) in
    let P : Cut → Type 0 = λ c. WritesOne z (c.whole ++ last_line c.last) in
    subst (WritesOne z) (sym (lines_of-cut bytes))
    (subst P (before_cut-nothing (cut bytes)) (writes-last l m bytes (subst A whole so_far.alike) writes))
