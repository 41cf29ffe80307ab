-- What was said goes on from turn to turn.
--
-- The key idea: telling goes by parts, and a feed that keeps less of a long line than came is like the moment that kept
-- all. So what two turns said is what the bytes of both tell, wherever they were cut; a turn that stopped said a first
-- part of that.
use Rattle.std.proofs.Common.{◌≡◌, ℕ, ◌+◌, ◌-◌, ◌<◌, ◌≤◌, List, [], ◌∷◌, ◌++◌}
use Rattle.std.proofs.Common.{length, get_or, take, drop, refl, sym, ap, ap₂, ◌∙◌, subst, append_assoc}
use Rattle.std.proofs.Common.{length-append, arith, take-add, true, Some, None}
use Rattle.std.specs.Prelude.{Option}
use Rattle.std.proofs.lemmas.List.{take_more, append-nil, take-append-le, take-append-drop}
use Rattle.std.proofs.Math.Seq.{take-append-add, take-append_seam}
use Rattle.sz_outside.specs.Outside.{Says, SaysPart, Rose}
use Rattle.sz_commands.specs.Lines.{is_within_line, Cut, before_cut, cut, last_line}
use Rattle.sz_commands.specs.States.{SessionState}
use Rattle.sz_commands.specs.Transcript.{replies_to, after_lines}
use Rattle.sz_feed.specs.Moments.{Moment, cut_after, told_in, moment_of, moment_after, told_at_end, Alike, AreAlike}
use Rattle.sz_feed.specs.Serving.{Advances, SaysFirst, line_to_say}
use Rattle.sz_commands.specs.Commands.{Responds}
use Rattle.sz_catalogue.specs.declared.reply.Reply.{Reply}
use Rattle.sz_feed.specs.Laws.{FirstRepliesAreAPart}
use Rattle.sz_feed.proofs.Cuts.{cut-within}
use Rattle.sz_feed.proofs.LawsSessions.{replies-go_on}
use Rattle.sz_feed.proofs.Moments.{cut_after-parts, told_in-parts, moment_after-parts, told_in-alike}
use Rattle.sz_feed.proofs.Moments.{some_told-alike, moment_after-alike, are_alike-trans, are_alike-same}

-- ---- saying

-- saying nothing
pub says-nothing : (said : Option (List ℕ)) → Says said said []
says-nothing None = tt
says-nothing (Some xs) = ap (λ (ys : List ℕ). Some ys) (sym (append-nil xs))

-- saying one text and then another
pub says-then : (a b c : Option (List ℕ)) (x y : List ℕ) → Says a b x → Says b c y → Says a c (x ++ y)
says-then None b c x y p q = tt
says-then (Some xs) b c x y p q =
    let P : Option (List ℕ) → Type 0 = λ o. Says o c y in
    subst P p q ∙ ap (λ (ys : List ℕ). Some ys) (append_assoc xs x y)

-- saying a text and then nothing
pub says-quiet : (a b c : Option (List ℕ)) (x : List ℕ) → Says a b x → Says b c [] → Says a c x
says-quiet a b c x p q = let P : List ℕ → Type 0 = λ ys. Says a c ys in
    subst P (append-nil x) (says-then a b c x [] p q)

-- saying a first part of a text is saying one of a longer text
pub part-longer : (a b : Option (List ℕ)) (x y : List ℕ) → SaysPart a b x → SaysPart a b (x ++ y)
part-longer None b x y p = tt
part-longer (Some xs) b x y p = (
  p.0,
  omega (arith, p.1, length-append x y),
  p.2 ∙ ap (λ (ys : List ℕ). Some (xs ++ ys)) (sym (take-append-le p.0 x y p.1)),
)

-- saying a text, and then a first part of another
pub part-then : (a b c : Option (List ℕ)) (x y : List ℕ) → Says a b x → SaysPart b c y → SaysPart a c (x ++ y)
part-then None b c x y p q = tt
part-then (Some xs) b c x y p q =
    let P : Option (List ℕ) → Type 0 = λ o. SaysPart o c y in
    let r : SaysPart (Some (xs ++ x)) c y = subst P p q in (
      length x + r.0,
      omega (arith, r.1, length-append x y),
      r.2 ∙ ap (λ (ys : List ℕ). Some ys) (append_assoc xs x (take r.0 y)
          ∙ ap (λ (ys : List ℕ). xs ++ ys) (sym (take-append-add x y r.0))),
    )

-- saying the replies of the first so many of some lines is saying those of the first so many of more
pub first-longer : (a b : Option (List ℕ)) (c : SessionState) (n : ℕ) (lines more : List (List ℕ))
    → SaysFirst a b c n lines → SaysFirst a b c n (lines ++ more)
first-longer a b c n lines more p =
    let P : List (List ℕ) → Type 0 = λ ls. Says a b (replies_to c n ls) in
    record {
      many = p.many;
      within = omega (arith, p.within, length-append lines more);
      says = subst P (sym (take-append-le p.many lines more p.within)) p.says;
    }

-- saying all of a text is saying a first part of more
part-whole : (a b : Option (List ℕ)) (x y : List ℕ) → Says a b x → SaysPart a b (x ++ y)
part-whole None b x y p = tt
part-whole (Some xs) b x y p = (
  length x,
  omega (arith, length-append x y),
  p ∙ ap (λ (ys : List ℕ). Some (xs ++ ys)) (sym (take-append_seam x y)),
)

-- the first so many replies are a first part of the bytes of all replies
pub first-part : FirstRepliesAreAPart
first-part a b c n lines p =
    let first = take p.many lines in
    let further = drop p.many lines in
    let P : List ℕ → Type 0 = λ told. SaysPart a b told in
    subst P (sym (replies-go_on c n first further) ∙ ap (replies_to c n) (take-append-drop p.many lines))
    (part-whole a b (replies_to c n first) (replies_to (after_lines c first) (n + length first) further) p.says)

-- ---- two turns

-- what bytes tell, and then what further ones tell a moment that is like the one after them
pub tells-then : (l m : Moment) (xs ys : List ℕ) → AreAlike m (moment_after l xs)
    → told_in l xs ++ told_in m ys ≡ told_in l (xs ++ ys)
tells-then l m xs ys h =
    ap (λ (zs : List ℕ). told_in l xs ++ zs) (told_in-alike m (moment_after l xs) ys h)
    ∙ sym (told_in-parts l xs ys)

-- one turn and then another
pub advances-then : (a b c : Option (List ℕ)) (l m n : Moment) (xs ys : List ℕ) → Advances a b l m xs
    → Advances b c m n ys → Advances a c l n (xs ++ ys)
advances-then a b c l m n xs ys p q =
    let P : List ℕ → Type 0 = λ zs. Says a c zs in
    let Q : Moment → Type 0 = λ k. AreAlike (moment_after m ys) k in
    record {
      says = subst P (tells-then l m xs ys p.alike) (says-then a b c (told_in l xs) (told_in m ys) p.says q.says);
      alike = are_alike-trans n (moment_after m ys) (moment_after l (xs ++ ys)) q.alike
          (subst Q (sym (moment_after-parts l xs ys)) (moment_after-alike m (moment_after l xs) ys p.alike));
    }

-- one turn, and then one that stopped in the middle of a reply
pub advances-part : (a b c : Option (List ℕ)) (l m : Moment) (xs ys : List ℕ) → Advances a b l m xs
    → SaysPart b c (told_in m ys) → SaysPart a c (told_in l (xs ++ ys))
advances-part a b c l m xs ys p q =
    let P : List ℕ → Type 0 = λ zs. SaysPart a c zs in
    subst P (tells-then l m xs ys p.alike) (part-then a b c (told_in l xs) (told_in m ys) p.says q)

-- a part of what some bytes tell is one of what more of them tell
pub part-more : (a b : Option (List ℕ)) (l : Moment) (xs ys : List ℕ) → SaysPart a b (told_in l xs)
    → SaysPart a b (told_in l (xs ++ ys))
part-more a b l xs ys p =
    let P : List ℕ → Type 0 = λ zs. SaysPart a b zs in
    subst P (sym (told_in-parts l xs ys)) (part-longer a b (told_in l xs) (told_in (moment_after l xs) ys) p)

-- one turn, and then one that stopped between two replies
pub advances-first : (a b c : Option (List ℕ)) (l m : Moment) (xs ys : List ℕ) → Advances a b l m xs
    → SaysFirst b c m.held m.number (cut_after m ys).whole
    → SaysFirst a c l.held l.number (cut_after l (xs ++ ys)).whole
advances-first a b c l m xs ys p q =
    let first = (cut_after l xs).whole in
    let after = moment_after l xs in
    let further = (cut_after after ys).whole in
    let P : List ℕ → Type 0 = λ zs. Says a c zs in
    let same : told_in l xs ++ replies_to m.held m.number (take q.many (cut_after m ys).whole)
    ≡ replies_to l.held l.number (take (length first + q.many) (cut_after l (xs ++ ys)).whole) =
    ap (λ (zs : List ℕ). told_in l xs ++ zs) (some_told-alike q.many m after ys p.alike)
    ∙ sym (replies-go_on l.held l.number first (take q.many further))
    ∙ ap (replies_to l.held l.number) (sym (take-append-add first further q.many))
    ∙ ap (λ (ls : List (List ℕ)). replies_to l.held l.number (take (length first + q.many) ls))
    (sym (ap (λ (c : Cut). c.whole) (cut_after-parts l xs ys))) in
    record {
      many = length first + q.many;
      within = omega (
        arith,
        q.within,
        ap length (ap (λ (c : Cut). c.whole) (cut_after-parts l xs ys)),
        length-append first further,
        (moment_after-alike m after ys p.alike).number,
        p.alike.number,
      );
      says = subst P same
          (says-then a b c (told_in l xs)
          (replies_to m.held m.number (take q.many (cut_after m ys).whole)) p.says q.says);
    }

-- all lines that end in some bytes are the first so many of those that end in more
pub first-whole : (a b : Option (List ℕ)) (l : Moment) (xs ys : List ℕ) → Says a b (told_in l xs)
    → SaysFirst a b l.held l.number (cut_after l (xs ++ ys)).whole
first-whole a b l xs ys p =
    let first = (cut_after l xs).whole in
    let further = (cut_after (moment_after l xs) ys).whole in
    let P : List (List ℕ) → Type 0 = λ ls. SaysFirst a b l.held l.number ls in
    let Q : List (List ℕ) → Type 0 = λ ls. Says a b (replies_to l.held l.number ls) in
    subst P (sym (ap (λ (c : Cut). c.whole) (cut_after-parts l xs ys))) (record {
      many = length first;
      within = omega (arith, length-append first further);
      says = subst Q (sym (take-append_seam first further)) p;
    })

-- the lines that end in the front of some bytes are the first of those that end in them
pub first-front : (a b : Option (List ℕ)) (l : Moment) (xs : List ℕ) (n : ℕ) → Says a b (told_in l (take n xs))
    → SaysFirst a b l.held l.number (cut_after l xs).whole
first-front a b l xs n p =
    let P : List ℕ → Type 0 = λ ys. SaysFirst a b l.held l.number (cut_after l ys).whole in
    subst P (take-append-drop n xs) (first-whole a b l (take n xs) (drop n xs) p)

-- ---- the parts of a turn

-- no bytes tell nothing, and leave the moment as it is
pub advances-nothing : (said : Option (List ℕ)) (m : Moment) → Advances said said m m []
advances-nothing said m =
    let same : record m { pending = m.pending ++ []; number = m.number + 0 } ≡ m =
    ap₂ (λ (line : List ℕ) (n : ℕ). record m { pending = line; number = n }) (append-nil m.pending)
    (omega arith) in
    record { says = says-nothing said; alike = are_alike-same m (moment_after m []) (sym same) }

-- bytes that end no line tell nothing, and those that stand for them are kept
pub advances-kept : (said : Option (List ℕ)) (m : Moment) (bytes kept : List ℕ) → is_within_line bytes ≡ true
    → Alike (m.pending ++ kept) (m.pending ++ bytes)
    → Advances said said m (record m { pending = m.pending ++ kept }) bytes
advances-kept said m bytes kept within stands =
    let all : cut bytes ≡ record { whole = []; last = bytes } = cut-within bytes within in
    let P : List ℕ → Type 0 = λ ys. Says said said ys in
    let Q : Moment → Type 0 = λ k. AreAlike (record m { pending = m.pending ++ kept }) k in
    let same : record m { pending = m.pending ++ bytes; number = m.number + 0 } ≡ moment_after m bytes =
    ap (λ (c : Cut). moment_of m (before_cut m.pending c)) (sym all) in
    record {
      says = subst P (ap (λ (c : Cut). replies_to m.held m.number (before_cut m.pending c).whole) (sym all))
          (says-nothing said);
      alike = subst Q same (record { held = refl; number = omega arith; pending = stands });
    }

-- the reply of a line
replies-line : (c next : SessionState) (n : ℕ) (line : List ℕ) (r : Option Reply) → Responds c line next r
    → replies_to c n (line ∷ []) ≡ line_to_say n r
replies-line c next n line None replies = rw replies.0 refl
replies-line c next n line (Some r) replies = rw (replies.0, replies.1, append-nil) refl

-- the catalogue that it leaves
left-line : (c next : SessionState) (line : List ℕ) (r : Option Reply) → Responds c line next r
    → after_lines c (line ∷ []) ≡ next
left-line c next line None replies = rw replies.0 (sym replies.1)
left-line c next line (Some r) replies = rw (replies.0, replies.1) refl

-- the lines that end in a byte 10
pub line-only : (m : Moment) → cut_after m (10 ∷ []) ≡ record { whole = m.pending ∷ []; last = [] }
line-only m = ap (λ (line : List ℕ). record { whole = line ∷ []; last = [] }) (append-nil m.pending)

-- the end of a line tells its reply, where it has one
pub told-line : (m : Moment) (c : SessionState) (r : Option Reply) → Responds m.held m.pending c r
    → told_in m (10 ∷ []) ≡ line_to_say m.number r
told-line m c r replies =
    ap (λ (x : Cut). replies_to m.held m.number x.whole) (line-only m)
    ∙ replies-line m.held c m.number m.pending r replies

-- and leaves the catalogue that the line leaves
pub moment-line : (m : Moment) (c : SessionState) (r : Option Reply) → Responds m.held m.pending c r
    → moment_after m (10 ∷ []) ≡ record m { held = c; pending = []; number = m.number + 1 }
moment-line m c r replies =
    ap (moment_of m) (line-only m)
    ∙ ap (λ (x : SessionState). record m { held = x; pending = []; number = m.number + 1 })
    (left-line m.held c m.pending r replies)

-- the end of a line
pub advances-line : (a b : Option (List ℕ)) (m : Moment) (c : SessionState) (r : Option Reply)
    → Responds m.held m.pending c r → Says a b (line_to_say m.number r)
    → Advances a b m (record m { held = c; pending = []; number = m.number + 1 }) (10 ∷ [])
advances-line a b m c r replies says =
    let P : List ℕ → Type 0 = λ ys. Says a b ys in
    record {
      says = subst P (sym (told-line m c r replies)) says;
      alike = are_alike-same _ (moment_after m (10 ∷ [])) (sym (moment-line m c r replies));
    }

-- a line that has not ended and has bytes tells at the end what it tells where it ends
pub told_at_end-line : (m : Moment) → 0 < length m.pending → told_in m (10 ∷ []) ≡ told_at_end m
told_at_end-line m some =
    ap (λ (x : Cut). replies_to m.held m.number x.whole) (line-only m)
    ∙ ap (replies_to m.held m.number) (one_line m.pending some) where
      one_line : (xs : List ℕ) → 0 < length xs → xs ∷ [] ≡ last_line xs
      one_line [] some = absurd (omega arith)
      one_line (x ∷ xs) some = refl

-- ---- lists and counts

-- the bytes up to a byte 10, and that byte
pub take-line : (xs : List ℕ) (start at : ℕ) → start ≤ at → at < length xs → get_or xs at 0 ≡ 10
    → (take start xs ++ take (at - start) (drop start xs)) ++ 10 ∷ [] ≡ take (at + 1) xs
take-line xs start at le lt is =
    let sum : start + (at - start) ≡ at = omega arith in
    ap (λ (ys : List ℕ). ys ++ 10 ∷ []) (sym (take-add start (at - start) xs) ∙ ap (λ (k : ℕ). take k xs) sum)
    ∙ ap (λ (x : ℕ). take at xs ++ x ∷ []) (sym is) ∙ sym (take_more xs at 0 lt)

-- a fault that is counted after a time in which no count fell
pub rose-later : (a b c : ℕ) → a ≤ b → Rose b c → Rose a c
rose-later a b c le rose = omega arith
