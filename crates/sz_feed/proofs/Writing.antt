-- Which lines are written to a log, from one call to the next.
--
-- The key idea: a line past the limit is refused, so it is written to no log, however much of it is kept; and a line
-- behind others is taken from what those left.
use Rattle.std.proofs.Common.{◌≡◌, ℕ, ◌<◌, List, [], ◌∷◌, ◌++◌, length, take, drop, true, false}
use Rattle.std.proofs.Common.{refl, sym, ap, ◌∙◌, subst, inl, inr, arith, true≢false}
use Rattle.std.specs.Prelude.{Option, nat_lt}
use Rattle.std.proofs.lemmas.Bool.{cases_Bool}
use Rattle.std.proofs.lemmas.Bool.Decides.{nat_tests}
use Rattle.std.proofs.lemmas.List.{take-append-drop}
use Rattle.sz_script.specs.Reading.{line_limit}
use Rattle.sz_catalogue.specs.Holdings.{Holdings}
use Rattle.sz_commands.specs.Asks.{asks_text}
use Rattle.sz_commands.specs.Lines.{Cut, is_blank, bytes_first, cut, last_line}
use Rattle.sz_commands.specs.Logged.{makes_durable}
use Rattle.sz_commands.specs.States.{SessionState}
use Rattle.sz_commands.specs.Transcript.{after_lines}
use Rattle.sz_commands.specs.declared.asking.AskLine.{AskLine}
use Rattle.sz_feed.specs.Moments.{Moment, cut_after, moment_after, Alike, AreAlike}
use Rattle.sz_feed.specs.Calls.{WritesOne}
use Rattle.sz_feed.specs.Waiting.{Waits}
use Rattle.sz_feed.proofs.LawsSessions.{after_lines-append}
use Rattle.sz_feed.proofs.Moments.{cut_after-parts, alike-append, after_lines-alike}
use Rattle.sz_feed.proofs.Beside.{only-pending}
use Rattle.sz_feed.proofs.Waiting.{says-some}

-- ---- one line

-- one past the limit is not written
unwritten-long : (c : Holdings) (line : List ℕ) → line_limit < length line → makes_durable c line ≡ false
unwritten-long c line long =
    let test : nat_lt line_limit (length line) ≡ true = grind (arith, nat_tests) in
    elim (cases_Bool (is_blank line)) [ inl blank ↦ rw blank refl | inr other ↦ rw (other, test) refl ]

-- lines that are alike are written together
written-alike : (c : Holdings) (a b : List ℕ) → Alike a b → makes_durable c a ≡ true → makes_durable c b ≡ true
written-alike c a b (inl same) is = subst (λ (line : List ℕ). makes_durable c line ≡ true) same is
written-alike c a b (inr long) is = absurd (true≢false (sym is ∙ unwritten-long c a long.0))

-- the line that has not ended is the one that ends
pub line-writes : (m : Moment) → makes_durable m.held.held m.pending ≡ true
    → WritesOne m.held (cut_after m (10 ∷ [])).whole
line-writes m is = subst (WritesOne m.held) (sym (only-pending m)) (inl is)

-- ---- several

-- one of those behind others
writes-behind : (s : SessionState) (first rest : List (List ℕ)) → WritesOne (after_lines s first) rest
    → WritesOne s (first ++ rest)
writes-behind s [] rest writes = writes
writes-behind s (line ∷ first) rest writes =
    inr (writes-behind (after_lines s (line ∷ [])) first rest
    (subst (λ (z : SessionState). WritesOne z rest) (after_lines-append s (line ∷ []) first) writes))

-- one of the first
pub writes-first : (s : SessionState) (first rest : List (List ℕ)) → WritesOne s first → WritesOne s (first ++ rest)
writes-first s [] rest writes = absurd writes
writes-first s (line ∷ first) rest (inl is) = inl is
writes-first s (line ∷ first) rest (inr writes) =
    inr (writes-first (after_lines s (line ∷ [])) first rest writes)

-- of the front of some bytes
pub writes-front : (l : Moment) (xs : List ℕ) (n : ℕ) → WritesOne l.held (cut_after l (take n xs)).whole
    → WritesOne l.held (cut_after l xs).whole
writes-front l xs n writes =
    let first = (cut_after l (take n xs)).whole in
    let rest = (cut_after (moment_after l (take n xs)) (drop n xs)).whole in
    let P : List ℕ → Type 0 = λ ys. WritesOne l.held (cut_after l ys).whole in
    subst P (take-append-drop n xs)
    (subst (WritesOne l.held) (sym (ap (λ (x : Cut). x.whole) (cut_after-parts l (take n xs) (drop n xs))))
    (writes-first l.held first rest writes))

-- ---- behind other bytes

-- lines behind beginnings that are alike are written together
first-alike : (s : SessionState) (a b : List ℕ) (lines : List (List ℕ)) (last : List ℕ) → Alike a b
    → WritesOne s (bytes_first a lines last).whole → WritesOne s (bytes_first b lines last).whole
first-alike s a b [] last alike writes = writes
first-alike s a b (x ∷ xs) last alike (inl is) =
    inl (written-alike s.held (a ++ x) (b ++ x) (alike-append a b x alike) is)
first-alike s a b (x ∷ xs) last alike (inr writes) =
    inr (subst (λ (z : SessionState). WritesOne z xs)
    (after_lines-alike s (a ++ x) (b ++ x) [] (alike-append a b x alike))
    writes)

writes-alike : (m k : Moment) (bytes : List ℕ) → AreAlike m k → WritesOne m.held (cut_after m bytes).whole
    → WritesOne k.held (cut_after k bytes).whole
writes-alike m k bytes alike writes =
    first-alike k.held m.pending k.pending (cut bytes).whole (cut bytes).last alike.pending
    (subst (λ (s : SessionState). WritesOne s (cut_after m bytes).whole) alike.held writes)

-- lines that end behind some bytes, from a moment like the one that those left
pub writes-rest : (l m : Moment) (xs ys : List ℕ) → AreAlike m (moment_after l xs)
    → WritesOne m.held (cut_after m ys).whole → WritesOne l.held (cut_after l (xs ++ ys)).whole
writes-rest l m xs ys alike writes =
    let after = moment_after l xs in
    subst (WritesOne l.held) (sym (ap (λ (x : Cut). x.whole) (cut_after-parts l xs ys)))
    (writes-behind l.held (cut_after l xs).whole (cut_after after ys).whole (writes-alike m after ys alike writes))

-- the line that ends behind some bytes, and behind asks that wait
pub writes-next : (l k : Moment) (xs : List ℕ) (waiting : List AskLine) (s t : Option (List ℕ))
    → Waits s t l k xs waiting → WritesOne k.held (cut_after k (10 ∷ [])).whole
    → WritesOne l.held (cut_after l (xs ++ 10 ∷ [])).whole
writes-next l k xs waiting s t waits writes =
    let half = says-some t (asks_text k.held waiting) in
    writes-rest l k xs (10 ∷ []) (waits.told half.0 half.1).alike writes

-- last lines that are alike
last-written : (s : SessionState) (a b : List ℕ) → Alike a b → WritesOne s (last_line a) → WritesOne s (last_line b)
last-written s a b (inl same) writes = subst (λ (l : List ℕ). WritesOne s (last_line l)) same writes
last-written s [] b (inr long) writes = absurd writes
last-written s (x ∷ a) b (inr long) (inl is) =
    absurd (true≢false (sym is ∙ unwritten-long s.held (x ∷ a) long.0))
last-written s (x ∷ a) b (inr long) (inr none) = absurd none

-- the line that has not ended, at the end of all bytes
pub writes-last : (l m : Moment) (bytes : List ℕ) → AreAlike m (moment_after l bytes)
    → WritesOne m.held (last_line m.pending)
    → WritesOne l.held ((cut_after l bytes).whole ++ last_line (cut_after l bytes).last)
writes-last l m bytes alike writes =
    let c = cut_after l bytes in
    writes-behind l.held c.whole (last_line c.last)
    (subst (λ (s : SessionState). WritesOne s (last_line c.last)) alike.held
    (last-written m.held m.pending c.last alike.pending writes))
