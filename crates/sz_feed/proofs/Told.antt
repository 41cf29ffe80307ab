-- What was said of a source's bytes when so many of them were read.
--
-- The key idea: what was said is the transcript of what was taken in, so a turn or the end of the source says a next
-- part of it, or a first part of that.
use Rattle.std.proofs.Common.{◌≡◌, ℕ, ◌+◌, ◌<◌, ◌≤◌, List, []}
use Rattle.std.proofs.Common.{◌++◌, length, take, drop, refl, sym, ap, ap₂, ◌∙◌, subst, append_assoc}
use Rattle.std.proofs.Common.{arith, take-add, length-drop, Some, None}
use Rattle.std.specs.Prelude.{Option}
use Rattle.std.proofs.lemmas.List.{append-nil, take-append-drop, drop-drop, take_all}
use Rattle.std.proofs.Math.Seq.{drop-length}
use Rattle.sz_outside.specs.Outside.{Says, SaysPart, Gives, GivesNext, Keeps}
use Rattle.sz_commands.specs.Lines.{lines_of, Cut, cut, last_line}
use Rattle.sz_commands.specs.Transcript.{transcript, whole_replies}
use Rattle.sz_feed.specs.Moments.{Moment, moment_before, cut_after, told_in, moment_after, told_at_end, AreAlike}
use Rattle.sz_commands.specs.States.{SessionState}
use Rattle.sz_feed.specs.Serving.{Advances, SaysFirst, HasAnswered, Answered, AreAll, Done, SaidOfRead, SaidToLimit}
use Rattle.sz_feed.specs.Serving.{SaidInPart, SaidInLines}
use Rattle.sz_feed.proofs.Cuts.{before_cut-nothing, lines_of-cut}
use Rattle.sz_feed.proofs.Moments.{cut_after-parts, told_in-parts, told_in-whole, transcript-told, told_at_end-alike}
use Rattle.sz_feed.proofs.Moments.{are_alike-same}
use Rattle.sz_feed.proofs.Turns.{says-nothing, says-then, says-quiet, part-longer, part-then, first-longer}
use Rattle.sz_feed.proofs.Turns.{advances-then, advances-part, advances-first, first-whole}

-- ---- between two reads

-- before the first byte
abbrev pub start : SessionState → Moment
start z = moment_before z

-- what the bytes so far told, and what is held
pub so_far-advances : (z : SessionState) (bytes : List ℕ) (left a b : Option (List ℕ)) (m : Moment) (count : ℕ)
    → HasAnswered z bytes left a b m count → Advances a b (start z) m (take count bytes)
so_far-advances z bytes left a b m count h =
    let P : List ℕ → Type 0 = λ told. Says a b told in
    record { says = subst P (sym (told_in-whole z (take count bytes))) h.says; alike = h.alike }

-- nothing was read yet
pub answered-start : (z : SessionState) (left said : Option (List ℕ)) → Answered z left left said said (start z) 0
answered-start z None said = tt
answered-start z (Some bytes) said = record {
  within = omega arith;
  is_left = refl;
  says = says-nothing said;
  alike = are_alike-same (start z) (moment_after (start z) []) refl;
}

-- the bytes so far, and those that a read gives
pub front-more : (bytes buffer : List ℕ) (total count : ℕ) → take count buffer ≡ take count (drop total bytes)
    → take total bytes ++ take count buffer ≡ take (total + count) bytes
front-more bytes buffer total count same = ap (λ (xs : List ℕ). take total bytes ++ xs) same
    ∙ sym (take-add total count bytes)

-- what a read gave, where so many bytes were read before
pub given-next : (bytes : List ℕ) (left next : Option (List ℕ)) (total count : ℕ) (buffer : List ℕ)
    → left ≡ Some (drop total bytes)
    → Gives left next buffer count → GivesNext (drop total bytes) next buffer count
given-next bytes left next total count buffer is gives = let P : Option (List ℕ)
    → Type 0 = λ o. Gives o next buffer count in subst P is gives

-- a read and the turn that takes in what it gave
pub answered-turn : (z : SessionState) (all left next a b c : Option (List ℕ)) (m n : Moment) (total count : ℕ)
    (buffer : List ℕ)
    → Answered z all left a b m total → Gives left next buffer count → Advances b c m n (take count buffer)
    → Answered z all next a c n (total + count)
answered-turn z None left next a b c m n total count buffer so_far gives turn = tt
answered-turn z (Some bytes) left next a b c m n total count buffer so_far gives turn =
    let given = given-next bytes left next total count buffer so_far.is_left gives in
    let P : List ℕ → Type 0 = λ told. Says a c told in
    let Q : List ℕ → Type 0 = λ xs. Advances a c (start z) n xs in
    let both : Advances a c (start z) n (take (total + count) bytes) =
    subst Q (front-more bytes buffer total count given.bytes)
    (advances-then a b c (start z) m n (take total bytes) (take count buffer)
    (so_far-advances z bytes left a b m total so_far) turn) in
    record {
      within = omega (arith, so_far.within, given.fits, length-drop total bytes);
      is_left = given.left ∙ ap (λ (xs : List ℕ). Some xs) (drop-drop count total bytes);
      says = subst P (told_in-whole z (take (total + count) bytes)) both.says;
      alike = both.alike;
    }

-- a read that gave no byte came to the end
pub all-read : (z : SessionState) (all left next a b : Option (List ℕ)) (m : Moment) (total : ℕ) (buffer : List ℕ)
    → 0 < length buffer
    → Answered z all left a b m total → Gives left next buffer 0 → AreAll all total
all-read z None left next a b m total buffer some so_far gives = tt
all-read z (Some bytes) left next a b m total buffer some so_far gives =
    let given = given-next bytes left next total 0 buffer so_far.is_left gives in
    let none : length (drop total bytes) ≡ 0 = ap (λ (xs : List ℕ). length xs) (given.end some refl) in
    omega (arith, so_far.within, none, length-drop total bytes)

-- ---- the transcript, and what the first of its bytes tell

-- a transcript is what the first bytes tell, and more
pub transcript-front : (z : SessionState) (bytes : List ℕ) (n : ℕ)
    → (more : List ℕ) × (told_in (start z) (take n bytes) ++ more ≡ transcript z bytes)
transcript-front z bytes n =
    let first = told_in (start z) (take n bytes) in
    let rest = told_in (moment_after (start z) (take n bytes)) (drop n bytes) in
    let end = told_at_end (moment_after (start z) bytes) in (
      rest ++ end,
      sym (append_assoc first rest end)
          ∙ ap (λ (xs : List ℕ). xs ++ end) (sym (told_in-parts (start z) (take n bytes) (drop n bytes))
          ∙ ap (told_in (start z)) (take-append-drop n bytes))
          ∙ sym (transcript-told z bytes),
    )

-- lines that end in the first bytes are the first of all lines
pub lines-front : (z : SessionState) (a b : Option (List ℕ)) (bytes : List ℕ) (n : ℕ)
    → SaysFirst a b z 1 (cut_after (start z) (take n bytes)).whole
    → SaysFirst a b z 1 (lines_of bytes)
lines-front z a b bytes n p =
    let first = (cut_after (start z) (take n bytes)).whole in
    let further = (cut_after (moment_after (start z) (take n bytes)) (drop n bytes)).whole in
    let last = last_line (cut bytes).last in
    let P : List (List ℕ) → Type 0 = λ ls. SaysFirst a b z 1 ls in
    let same : (first ++ further) ++ last ≡ lines_of bytes =
    ap (λ (ls : List (List ℕ)). ls ++ last)
    (sym (ap (λ (c : Cut). c.whole) (cut_after-parts (start z) (take n bytes) (drop n bytes)))
    ∙ ap (λ (xs : List ℕ). (cut_after (start z) xs).whole) (take-append-drop n bytes)
    ∙ ap (λ (c : Cut). c.whole) (before_cut-nothing (cut bytes)))
    ∙ sym (lines_of-cut bytes) in
    subst P same
    (first-longer a b z 1 (first ++ further) last (first-longer a b z 1 first further p))

-- what all bytes told, and what is told at their end, is the transcript
pub whole-transcript : (z : SessionState) (bytes : List ℕ) (m : Moment) (total : ℕ) → total ≡ length bytes
    → AreAlike m (moment_after (start z) (take total bytes))
    → told_in (start z) (take total bytes) ++ told_at_end m ≡ transcript z bytes
whole-transcript z bytes m total is_all alike =
    let whole : take total bytes ≡ bytes = take_all total bytes (omega (arith, is_all)) in
    ap (λ (xs : List ℕ). told_in (start z) (take total bytes) ++ xs)
    (told_at_end-alike m (moment_after (start z) (take total bytes)) alike)
    ∙ ap (λ (xs : List ℕ). told_in (start z) xs ++ told_at_end (moment_after (start z) xs)) whole
    ∙ sym (transcript-told z bytes)

-- ---- endings

-- every byte was read, and what is told at the end was said
pub done : (z : SessionState) (limit : ℕ) (all left a b c : Option (List ℕ)) (m : Moment) (total : ℕ) → total ≤ limit
    → Answered z all left a b m total → AreAll all total → Says b c (told_at_end m) → Done z limit all left a c
done z limit None left a b c m total le so_far is_all end = tt
done z limit (Some bytes) left a b c m total le so_far is_all end =
    let none : drop total bytes ≡ [] = ap (λ (n : ℕ). drop n bytes) is_all ∙ drop-length bytes in
    let front = so_far-advances z bytes left a b m total so_far in
    let P : List ℕ → Type 0 = λ told. Says a c told in (
      so_far.is_left ∙ ap (λ (xs : List ℕ). Some xs) none,
      omega (arith, is_all, le),
      subst P (whole-transcript z bytes m total is_all so_far.alike)
          (says-then a b c (told_in (start z) (take total bytes)) (told_at_end m) front.says end),
    )

-- a read failed between two lines or within one
pub read-failed : (z : SessionState) (all left next a b : Option (List ℕ)) (m : Moment) (total : ℕ)
    → Answered z all left a b m total
    → Keeps left next → SaidOfRead z all next a b
read-failed z None left next a b m total so_far keeps = tt
read-failed z (Some bytes) left next a b m total so_far keeps =
    let P : Option (List ℕ) → Type 0 = λ o. Keeps o next in
    (total, so_far.within, subst P so_far.is_left keeps, so_far.says)

-- at the limit a further read gave a byte
pub past-limit : (z : SessionState) (limit : ℕ) (all left next a b : Option (List ℕ)) (m : Moment) (total count : ℕ)
    (buffer : List ℕ) → total ≡ limit → count ≡ 1
    → Answered z all left a b m total → Gives left next buffer count → SaidToLimit z limit all next a b
past-limit z limit None left next a b m total count buffer at one so_far gives = tt
past-limit z limit (Some bytes) left next a b m total count buffer at one so_far gives =
    let given = given-next bytes left next total count buffer so_far.is_left gives in
    let P : ℕ → Type 0 = λ n. Says a b (whole_replies z (take n bytes)) in (
      omega (arith, at, one, given.fits, length-drop total bytes),
      given.left
          ∙ ap (λ (xs : List ℕ). Some xs) (drop-drop count total bytes
          ∙ ap₂ (λ (n k : ℕ). drop (n + k) bytes) at one),
      subst P at so_far.says,
    )

-- a say failed in a turn
pub turn-in_part : (z : SessionState) (all left next a b c : Option (List ℕ)) (m : Moment) (total count : ℕ)
    (buffer : List ℕ)
    → Answered z all left a b m total → Gives left next buffer count → SaysPart b c (told_in m (take count buffer))
    → SaidInPart z all a c
turn-in_part z None left next a b c m total count buffer so_far gives part = tt
turn-in_part z (Some bytes) left next a b c m total count buffer so_far gives part =
    let given = given-next bytes left next total count buffer so_far.is_left gives in
    let P : List ℕ → Type 0 = λ xs. SaysPart a c (told_in (start z) xs) in
    let Q : List ℕ → Type 0 = λ xs. SaysPart a c xs in
    let both = subst P (front-more bytes buffer total count given.bytes)
    (advances-part a b c (start z) m (take total bytes) (take count buffer)
    (so_far-advances z bytes left a b m total so_far) part) in
    let front = transcript-front z bytes (total + count) in
    subst Q front.1 (part-longer a c (told_in (start z) (take (total + count) bytes)) front.0 both)

-- memory was refused in a turn
pub turn-in_lines : (z : SessionState) (all left next a b c : Option (List ℕ)) (m : Moment) (total count : ℕ)
    (buffer : List ℕ)
    → Answered z all left a b m total → Gives left next buffer count
    → SaysFirst b c m.held m.number (cut_after m (take count buffer)).whole → SaidInLines z all a c
turn-in_lines z None left next a b c m total count buffer so_far gives first = tt
turn-in_lines z (Some bytes) left next a b c m total count buffer so_far gives first =
    let given = given-next bytes left next total count buffer so_far.is_left gives in
    let P : List ℕ → Type 0 = λ xs. SaysFirst a c z 1 (cut_after (start z) xs).whole in
    lines-front z a c bytes (total + count) (subst P (front-more bytes buffer total count given.bytes)
    (advances-first a b c (start z) m (take total bytes) (take count buffer)
    (so_far-advances z bytes left a b m total so_far) first))

-- between two turns what was said is a first part
pub answered-in_part : (z : SessionState) (all left a b c : Option (List ℕ)) (m : Moment) (total : ℕ)
    → Answered z all left a b m total
    → SaysPart b c [] → SaidInPart z all a c
answered-in_part z None left a b c m total so_far part = tt
answered-in_part z (Some bytes) left a b c m total so_far part =
    let told = told_in (start z) (take total bytes) in
    let front = transcript-front z bytes total in
    let Q : List ℕ → Type 0 = λ xs. SaysPart a c xs in
    subst Q front.1 (part-longer a c told front.0 (subst Q (append-nil told)
    (part-then a b c told [] (so_far-advances z bytes left a b m total so_far).says part)))

-- a say failed at the end
pub end-in_part : (z : SessionState) (all left a b c : Option (List ℕ)) (m : Moment) (total : ℕ)
    → Answered z all left a b m total → AreAll all total → SaysPart b c (told_at_end m) → SaidInPart z all a c
end-in_part z None left a b c m total so_far is_all part = tt
end-in_part z (Some bytes) left a b c m total so_far is_all part =
    let front = so_far-advances z bytes left a b m total so_far in
    let P : List ℕ → Type 0 = λ xs. SaysPart a c xs in
    subst P (whole-transcript z bytes m total is_all so_far.alike)
    (part-then a b c (told_in (start z) (take total bytes)) (told_at_end m) front.says part)

-- memory was refused at the end
pub end-in_lines : (z : SessionState) (all left a b c : Option (List ℕ)) (m : Moment) (total : ℕ)
    → Answered z all left a b m total
    → Says b c [] → SaidInLines z all a c
end-in_lines z None left a b c m total so_far nothing = tt
end-in_lines z (Some bytes) left a b c m total so_far nothing =
    let front = so_far-advances z bytes left a b m total so_far in
    let told = told_in (start z) (take total bytes) in
    let P : List ℕ → Type 0 = λ xs. SaysFirst a c z 1 (cut_after (start z) xs).whole in
    lines-front z a c bytes total (subst P (append-nil (take total bytes))
    (first-whole a c (start z) (take total bytes) [] (says-quiet a b c told front.says nothing)))

-- memory was refused before the first read
pub none-in_lines : (z : SessionState) (all said : Option (List ℕ)) → SaidInLines z all said said
none-in_lines z None said = tt
none-in_lines z (Some bytes) said = record { many = 0; within = omega arith; says = says-nothing said }
