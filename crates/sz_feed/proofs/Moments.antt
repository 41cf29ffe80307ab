-- What bytes tell as they come, and of which moments they tell the same.
--
-- The key idea: what comes behind some bytes is cut behind their line that has not ended, and replies go on from the
-- catalogue and the number that earlier lines left. So telling goes by parts. A line past the limit is refused for its
-- length, or has no reply where it is blank: so of such a line only these two things matter, and they stay when bytes
-- come behind it.
use Rattle.std.proofs.Common.{◌≡◌, ℕ, suc, zero, ◌+◌, ◌<◌, List, [], ◌∷◌, ◌++◌, length, take}
use Rattle.std.proofs.Common.{refl, sym, ap, ap₂, ◌∙◌, subst, length-append, arith, Bool, true}
use Rattle.std.proofs.Common.{inl, inr}
use Rattle.std.specs.Prelude.{◌==◌, ◌&&◌, ◌||◌, nat_lt}
use Rattle.std.proofs.lemmas.Bool.Decides.{nat_tests}
use Rattle.std.proofs.lemmas.List.Folds.{list_all-append}
use Rattle.sz_script.specs.Reading.{line_limit}
use Rattle.sz_script.specs.declared.refusal.Refusal.TheVariants.{TooLong}
use Rattle.sz_commands.specs.Lines.{is_blank, Cut, bytes_first, before_cut, cut, last_line}
use Rattle.sz_commands.specs.States.{SessionState, after_line}
use Rattle.sz_catalogue.specs.Responses.{refused}
use Rattle.sz_commands.specs.Transcript.{replies_to, after_lines, transcript}
use Rattle.sz_feed.specs.Moments.{Moment, cut_after, moment_of, moment_after}
use Rattle.sz_feed.specs.Moments.{Alike, AreAlike}
use Rattle.sz_feed.specs.Laws.{TellingGoesByParts, MomentsGoByParts, WholeLinesAreTold, TranscriptsAreTold}
use Rattle.sz_feed.specs.Laws.{AlikeTellTheSame, AlikeStayAlike, AlikeEndTheSame}
use Rattle.sz_feed.proofs.Cuts.{lines_before, before_cut-nothing, before_cut-parts, cut-parts, lines_of-cut}
use Rattle.sz_feed.proofs.LawsSessions.{replies-go_on, after_lines-append}

-- ---- by parts

-- the cut of two parts is that of the first, and then that of the second after it
pub cut_after-parts : (m : Moment) (xs ys : List ℕ)
    → cut_after m (xs ++ ys) ≡ lines_before (cut_after m xs).whole (cut_after (moment_after m xs) ys)
cut_after-parts m xs ys =
    ap (before_cut m.pending) (cut-parts xs ys) ∙ before_cut-parts m.pending (cut xs).whole (cut xs).last (cut ys)

-- of bytes in two parts is told what the first part tells, and then what the second does after it
pub told_in-parts : TellingGoesByParts
told_in-parts m first rest =
    ap (λ (c : Cut). replies_to m.held m.number c.whole) (cut_after-parts m first rest)
    ∙ replies-go_on m.held m.number (cut_after m first).whole (cut_after (moment_after m first) rest).whole

-- the moment after two parts is that after the second, from that after the first
pub moment_after-parts : MomentsGoByParts
moment_after-parts m first rest =
    let before = cut_after m first in
    let further = cut_after (moment_after m first) rest in
    ap (moment_of m) (cut_after-parts m first rest)
    ∙ ap₂ (λ (c : SessionState) (n : ℕ). record m { held = c; pending = further.last; number = n })
    (after_lines-append m.held before.whole further.whole)
    (numbers before.whole further.whole) where
      numbers : (xs ys : List (List ℕ)) → m.number + length (xs ++ ys) ≡ m.number + length xs + length ys
      numbers xs ys = omega (arith, length-append xs ys)

-- before the first byte, all whole lines of the bytes are told
pub told_in-whole : WholeLinesAreTold
told_in-whole c bytes = ap (λ (x : Cut). replies_to c 1 x.whole) (before_cut-nothing (cut bytes))

-- a transcript is what is told of the bytes, and then what is told at their end
pub transcript-told : TranscriptsAreTold
transcript-told c bytes =
    let P : Cut
    → Type 0 =
    λ x. transcript c bytes
    ≡ replies_to c 1 x.whole ++ replies_to (after_lines c x.whole) (1 + length x.whole) (last_line x.last) in
    subst P (sym (before_cut-nothing (cut bytes)))
    (ap (replies_to c 1) (lines_of-cut bytes) ∙ replies-go_on c 1 (cut bytes).whole (last_line (cut bytes).last))

-- ---- alike

-- two texts are blank together where each is
pub blank-append : (xs ys : List ℕ) → is_blank (xs ++ ys) ≡ (is_blank xs && is_blank ys)
blank-append xs ys = list_all-append (λ b. (b == 32) || (b == 9) || (b == 13)) xs ys

-- the first beginning is like the third where both are like the second
alike-trans : (a b c : List ℕ) → Alike a b → Alike b c → Alike a c
alike-trans a b c (inl same) q = let P : List ℕ → Type 0 = λ xs. Alike xs c in subst P (sym same) q
alike-trans a b c (inr long) (inl same) = let P : List ℕ → Type 0 = λ xs. Alike a xs in subst P same (inr long)
alike-trans a b c (inr long) (inr long') = inr (long.0, long'.1, long.2 ∙ long'.2)

-- beginnings that are alike stay alike
pub alike-append : (a b rest : List ℕ) → Alike a b → Alike (a ++ rest) (b ++ rest)
alike-append a b rest (inl same) = inl (ap (λ (xs : List ℕ). xs ++ rest) same)
alike-append a b rest (inr long) = inr (
  omega (arith, long.0, length-append a rest),
  omega (arith, long.1, length-append b rest),
  blank-append a rest ∙ ap (λ (t : Bool). t && is_blank rest) long.2 ∙ sym (blank-append b rest),
)

-- a line past the limit is refused
line-long : (c : SessionState) (line : List ℕ) → line_limit < length line → after_line c line ≡ (c, refused TooLong)
line-long c line long = let test : nat_lt line_limit (length line) ≡ true = grind (arith, nat_tests) in rw test refl

-- lines that are alike have one reply, whatever comes behind them
replies-alike : (c : SessionState) (n : ℕ) (a b : List ℕ) (lines : List (List ℕ)) → Alike a b
    → replies_to c n (a ∷ lines) ≡ replies_to c n (b ∷ lines)
replies-alike c n a b lines (inl same) = ap (λ (l : List ℕ). replies_to c n (l ∷ lines)) same
replies-alike c n a b lines (inr long) = rw (line-long c a long.0, line-long c b long.1, long.2) refl

-- and leave one catalogue
pub after_lines-alike : (c : SessionState) (a b : List ℕ) (lines : List (List ℕ)) → Alike a b
    → after_lines c (a ∷ lines) ≡ after_lines c (b ∷ lines)
after_lines-alike c a b lines (inl same) = ap (λ (l : List ℕ). after_lines c (l ∷ lines)) same
after_lines-alike c a b lines (inr long) = rw (line-long c a long.0, line-long c b long.1, long.2) refl

-- ---- what beginnings that are alike tell and leave, before one cut

told-first : (c : SessionState) (n : ℕ) (a b : List ℕ) (ls : List (List ℕ)) (last : List ℕ) → Alike a b
    → replies_to c n (bytes_first a ls last).whole ≡ replies_to c n (bytes_first b ls last).whole
told-first c n a b [] last h = refl
told-first c n a b (x ∷ xs) last h = replies-alike c n (a ++ x) (b ++ x) xs (alike-append a b x h)

some-first : (k : ℕ) (c : SessionState) (n : ℕ) (a b : List ℕ) (ls : List (List ℕ)) (last : List ℕ) → Alike a b
    → replies_to c n (take k (bytes_first a ls last).whole) ≡ replies_to c n (take k (bytes_first b ls last).whole)
some-first k c n a b [] last h = refl
some-first zero c n a b (x ∷ xs) last h = refl
some-first (suc k) c n a b (x ∷ xs) last h = replies-alike c n (a ++ x) (b ++ x) (take k xs) (alike-append a b x h)

left-first : (c : SessionState) (a b : List ℕ) (ls : List (List ℕ)) (last : List ℕ) → Alike a b
    → after_lines c (bytes_first a ls last).whole ≡ after_lines c (bytes_first b ls last).whole
left-first c a b [] last h = refl
left-first c a b (x ∷ xs) last h = after_lines-alike c (a ++ x) (b ++ x) xs (alike-append a b x h)

count-first : (a b : List ℕ) (ls : List (List ℕ)) (last : List ℕ)
    → length (bytes_first a ls last).whole ≡ length (bytes_first b ls last).whole
count-first a b [] last = refl
count-first a b (x ∷ xs) last = refl

pending-first : (a b : List ℕ) (ls : List (List ℕ)) (last : List ℕ) → Alike a b
    → Alike (bytes_first a ls last).last (bytes_first b ls last).last
pending-first a b [] last h = alike-append a b last h
pending-first a b (x ∷ xs) last h = inl refl

-- ---- moments that are alike

-- moments that are alike tell the same of all bytes
pub told_in-alike : AlikeTellTheSame
told_in-alike m n bytes h =
    told-first m.held m.number m.pending n.pending (cut bytes).whole (cut bytes).last h.pending
    ∙ ap₂ (λ (c : SessionState) (k : ℕ). replies_to c k (cut_after n bytes).whole) h.held h.number

-- also of the first so many lines
pub some_told-alike : (k : ℕ) (m n : Moment) (bytes : List ℕ) → AreAlike m n
    → replies_to m.held m.number (take k (cut_after m bytes).whole)
    ≡ replies_to n.held n.number (take k (cut_after n bytes).whole)
some_told-alike k m n bytes h =
    some-first k m.held m.number m.pending n.pending (cut bytes).whole (cut bytes).last h.pending
    ∙ ap₂ (λ (c : SessionState) (i : ℕ). replies_to c i (take k (cut_after n bytes).whole)) h.held h.number

-- and leave the same after these
some_left-first : (k : ℕ) (c : SessionState) (a b : List ℕ) (ls : List (List ℕ)) (last : List ℕ) → Alike a b
    → after_lines c (take k (bytes_first a ls last).whole) ≡ after_lines c (take k (bytes_first b ls last).whole)
some_left-first k c a b [] last h = refl
some_left-first zero c a b (x ∷ xs) last h = refl
some_left-first (suc k) c a b (x ∷ xs) last h = after_lines-alike c (a ++ x) (b ++ x) (take k xs) (alike-append a b x h)

pub some_left-alike : (k : ℕ) (m n : Moment) (bytes : List ℕ) → AreAlike m n
    → after_lines m.held (take k (cut_after m bytes).whole) ≡ after_lines n.held (take k (cut_after n bytes).whole)
some_left-alike k m n bytes h =
    some_left-first k m.held m.pending n.pending (cut bytes).whole (cut bytes).last h.pending
    ∙ ap (λ (c : SessionState). after_lines c (take k (cut_after n bytes).whole)) h.held

-- as many lines end in them
pub count-alike : (m n : Moment) (bytes : List ℕ) → AreAlike m n
    → length (cut_after m bytes).whole ≡ length (cut_after n bytes).whole
count-alike m n bytes h = count-first m.pending n.pending (cut bytes).whole (cut bytes).last

-- and are alike after them
pub moment_after-alike : AlikeStayAlike
moment_after-alike m n bytes h =
    let rest = cut bytes in
    record {
      held = left-first m.held m.pending n.pending rest.whole rest.last h.pending
          ∙ ap (λ (c : SessionState). after_lines c (cut_after n bytes).whole) h.held;
      number = ap₂ ◌+◌ h.number (count-first m.pending n.pending rest.whole rest.last);
      pending = pending-first m.pending n.pending rest.whole rest.last h.pending;
    }

end-long : (c : SessionState) (n : ℕ) (a b : List ℕ) → line_limit < length a → line_limit < length b
    → is_blank a ≡ is_blank b
    → replies_to c n (last_line a) ≡ replies_to c n (last_line b)
end-long c n [] b long long' same = absurd (omega arith)
end-long c n (x ∷ a) [] long long' same = absurd (omega arith)
end-long c n (x ∷ a) (y ∷ b) long long' same = replies-alike c n (x ∷ a) (y ∷ b) [] (inr (long, long', same))

end-alike : (c : SessionState) (n : ℕ) (a b : List ℕ) → Alike a b
    → replies_to c n (last_line a) ≡ replies_to c n (last_line b)
end-alike c n a b (inl same) = ap (λ (l : List ℕ). replies_to c n (last_line l)) same
end-alike c n a b (inr long) = end-long c n a b long.0 long.1 long.2

-- as do the first so many of their last lines, of which there is one at most
last-long : (k : ℕ) (c : SessionState) (n : ℕ) (a b : List ℕ) → line_limit < length a → line_limit < length b
    → is_blank a ≡ is_blank b
    → (replies_to c n (take k (last_line a)) ≡ replies_to c n (take k (last_line b)))
    × (after_lines c (take k (last_line a)) ≡ after_lines c (take k (last_line b)))
    × (length (last_line a) ≡ length (last_line b))
last-long k c n [] b long long' same = absurd (omega arith)
last-long k c n (x ∷ a) [] long long' same = absurd (omega arith)
last-long zero c n (x ∷ a) (y ∷ b) long long' same = (refl, refl, refl)
last-long (suc k) c n (x ∷ a) (y ∷ b) long long' same = (
  replies-alike c n (x ∷ a) (y ∷ b) (take k []) (inr (long, long', same)),
  after_lines-alike c (x ∷ a) (y ∷ b) (take k []) (inr (long, long', same)),
  refl,
)

pub last-alike : (k : ℕ) (c : SessionState) (n : ℕ) (a b : List ℕ) → Alike a b
    → (replies_to c n (take k (last_line a)) ≡ replies_to c n (take k (last_line b)))
    × (after_lines c (take k (last_line a)) ≡ after_lines c (take k (last_line b)))
    × (length (last_line a) ≡ length (last_line b))
last-alike k c n a b (inl same) = (
  ap (λ (l : List ℕ). replies_to c n (take k (last_line l))) same,
  ap (λ (l : List ℕ). after_lines c (take k (last_line l))) same,
  ap (λ (l : List ℕ). length (last_line l)) same,
)
last-alike k c n a b (inr long) = last-long k c n a b long.0 long.1 long.2

-- and tell the same at the end
pub told_at_end-alike : AlikeEndTheSame
told_at_end-alike m n h =
    end-alike m.held m.number m.pending n.pending h.pending
    ∙ ap₂ (λ (c : SessionState) (k : ℕ). replies_to c k (last_line n.pending)) h.held h.number

-- the first moment is like the third where both are like the second
pub are_alike-trans : (l m n : Moment) → AreAlike l m → AreAlike m n → AreAlike l n
are_alike-trans l m n p q = record {
  held = p.held ∙ q.held;
  number = p.number ∙ q.number;
  pending = alike-trans l.pending m.pending n.pending p.pending q.pending;
}

-- a moment is like itself
pub are_alike-same : (m n : Moment) → m ≡ n → AreAlike m n
are_alike-same m n same =
    let P : Moment → Type 0 = λ k. AreAlike m k in
    subst P same (record { held = refl; number = refl; pending = inl refl })
