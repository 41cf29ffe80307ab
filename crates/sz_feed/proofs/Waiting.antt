-- Asks that wait, from line to line.
--
-- The key idea: what waits is told of by its own text, so a feed behind which asks wait is one that has advanced, once
-- that text is said too. An ask changes nothing that is held, so the texts do not depend on when they are worked out.
use Rattle.std.proofs.Common.{◌≡◌, ℕ, ◌+◌, ◌-◌, ◌<◌, ◌≤◌, List, [], ◌∷◌, ◌++◌, length, get_or, take, drop, map}
use Rattle.std.proofs.Common.{Option, None, Some, Result, Ok, Err, true, false, refl, sym, ap, ap₂, ◌∙◌, subst}
use Rattle.std.proofs.Common.{⊎_elim, inl, inr, arith}
use Rattle.std.proofs.Common.{append_assoc}
use Rattle.std.proofs.lemmas.List.{append-nil, append_cancel_left, take-append-drop, length-take-le}
use Rattle.std.proofs.lemmas.List.Concat.{flat_map-cons}
use Rattle.std.proofs.lemmas.Grind.{flat_map-append}
use Rattle.sz_outside.specs.Outside.{Says, SaysPart}
use Rattle.sz_outside.specs.declared.stations.Station.{Ghosts}
use Rattle.sz_script.specs.declared.command.Command.{Command}
use Rattle.sz_script.specs.Reading.{reading}
use Rattle.sz_catalogue.specs.declared.reply.Reply.{Reply}
use Rattle.sz_commands.specs.States.{SessionState, apart, after_command}
use Rattle.sz_versions.proofs.Keeping.{one-taken}
use Rattle.sz_commands.proofs.States.{reply-apart}
use Rattle.sz_catalogue.specs.Responses.{Response, reply_line}
use Rattle.sz_catalogue.specs.Seen.{response_of}
use Rattle.sz_commands.specs.Lines.{Cut, is_blank}
use Rattle.sz_commands.specs.Transcript.{replies_to, after_lines}
use Rattle.sz_feed.specs.Moments.{Moment, cut_after, told_in, moment_of, moment_after}
use Rattle.sz_feed.specs.Serving.{Advances, SaysFirst}
use Rattle.sz_feed.specs.Disks.{OnlySays}
use Rattle.sz_commands.specs.Asks.{is_ask, ask_reply, asks_text}
use Rattle.sz_feed.specs.Waiting.{told_text, Lags, SaysWhole, SaysBy, Waits}
use Rattle.sz_feed.specs.Calls.{SaysText, SaysReplies}
use Rattle.sz_feed.specs.declared.feed.Halt.{Halt}
use Rattle.sz_feed.specs.declared.feed.Halt.TheVariants as halt
use Rattle.sz_commands.specs.declared.asking.AskLine.{AskLine}
use Rattle.sz_commands.proofs.Asks.{ask-stays}
use Rattle.sz_feed.proofs.Moments.{cut_after-parts, are_alike-same}
use Rattle.sz_feed.proofs.Turns.{says-then, says-quiet, part-then, part-longer, part-more, first-longer, tells-then}
use Rattle.sz_feed.proofs.Turns.{advances-then, advances-nothing, first-whole, first-front, line-only, take-line}
use Rattle.sz_feed.proofs.Disks.{stays-both, stays-finding, only-more, only-longer}

-- ---- saying

-- what is said behind what was said
pub says-some : (a : Option (List ℕ)) (x : List ℕ) → (b : Option (List ℕ)) × Says a b x
says-some None x = (None, tt)
says-some (Some xs) x = (Some (xs ++ x), refl)

-- two texts that were said are one, and then the other
says-split : (a c : Option (List ℕ)) (x y : List ℕ) → Says a c (x ++ y) → (b : Option (List ℕ))
    × Says a b x × Says b c y
says-split None c x y h = (None, tt, tt)
says-split (Some xs) c x y h =
    (Some (xs ++ x), refl, h ∙ ap (λ (ys : List ℕ). Some ys) (sym (append_assoc xs x y)))

-- where nothing more is said, a feed has advanced as before
pub advances-quiet : (a b c : Option (List ℕ)) (m n : Moment) (xs : List ℕ) → Advances a b m n xs → Says b c []
    → Advances a c m n xs
advances-quiet a b c m n xs p q = record { says = says-quiet a b c (told_in m xs) p.says q; alike = p.alike }

-- the lines that end in some bytes are among those that end in more
first-more : (a b : Option (List ℕ)) (l : Moment) (xs ys : List ℕ) → SaysFirst a b l.held l.number
    (cut_after l xs).whole
    → SaysFirst a b l.held l.number (cut_after l (xs ++ ys)).whole
first-more a b l xs ys p =
    let further = (cut_after (moment_after l xs) ys).whole in
    let P : List (List ℕ) → Type 0 = λ ls. SaysFirst a b l.held l.number ls in
    subst P (sym (ap (λ (c : Cut). c.whole) (cut_after-parts l xs ys)))
    (first-longer a b l.held l.number (cut_after l xs).whole further p)

-- the same, of the front of some bytes
pub first-taken : (a b : Option (List ℕ)) (l : Moment) (xs : List ℕ) (n : ℕ)
    → SaysFirst a b l.held l.number (cut_after l (take n xs)).whole
    → SaysFirst a b l.held l.number (cut_after l xs).whole
first-taken a b l xs n p =
    let P : List ℕ → Type 0 = λ ys. SaysFirst a b l.held l.number (cut_after l ys).whole in
    subst P (take-append-drop n xs) (first-more a b l (take n xs) (drop n xs) p)

-- where nothing more is said, the same lines have their replies
pub first-quiet : (a b c : Option (List ℕ)) (l : Moment) (lines : List (List ℕ)) → SaysFirst a b l.held l.number lines
    → Says b c [] → SaysFirst a c l.held l.number lines
first-quiet a b c l lines p q = record {
  many = p.many;
  within = p.within;
  says = says-quiet a b c (replies_to l.held l.number (take p.many lines)) p.says q;
}

-- ---- the line of an ask

-- the reply lines of asks, and of one more
text-more : (c : SessionState) (lines : List AskLine) (l : AskLine)
    → asks_text c (lines ++ l ∷ []) ≡ asks_text c lines ++ reply_line l.number (ask_reply c l)
text-more c lines l =
    let f = λ (x : AskLine). reply_line x.number (ask_reply c x) in
    flat_map-append f lines (l ∷ [])
    ∙ ap (λ (ys : List ℕ). asks_text c lines ++ ys) (flat_map-cons f l [] ∙ append-nil (f l))

-- the reply lines that were made are those of the asks
pub text-told : (c : SessionState) (lines : List AskLine) (replies : List Reply)
    → map response_of replies ≡ map (ask_reply c) lines → told_text lines replies ≡ asks_text c lines
text-told c [] replies is = refl
text-told c (l ∷ lines) [] is = cc
text-told c (l ∷ lines) (r ∷ replies) is =
    let one : response_of r ≡ ask_reply c l = cc in
    let rest : map response_of replies ≡ map (ask_reply c) lines = cc in
    ap₂ (λ (x : Response) (ys : List ℕ). reply_line l.number x ++ ys) one (text-told c lines replies rest)
    ∙ sym (flat_map-cons (λ (x : AskLine). reply_line x.number (ask_reply c x)) l lines)

-- the replies are the same wherever a log ends
replies-apart : (s : SessionState) (lines : List AskLine) → map (ask_reply s) lines ≡ map (ask_reply (apart s)) lines
replies-apart s [] = refl
replies-apart s (l ∷ lines) =
    ap₂ (λ (x : Response) (xs : List Response). x ∷ xs) (sym (reply-apart s l.ask)) (replies-apart s lines)

-- so what is sent is the text of the asks
pub text-said : (c s : SessionState) (lines lent told : List AskLine) (replies given : List Reply) (text sent : List ℕ)
    → apart s ≡ c → lent ≡ lines → told ≡ lines → given ≡ replies → map response_of replies ≡ map (ask_reply s) lent
    → text ≡ told_text told given → sent ≡ text → sent ≡ asks_text c lines
text-said c s lines lent told replies given text sent held one two three is made same =
    same ∙ made ∙ ap₂ told_text two three
    ∙ text-told c lines replies
    (is ∙ replies-apart s lent ∙ ap₂ (λ (x : SessionState) (ls : List AskLine). map (ask_reply x) ls) held one)

-- one reply more
pub told-more : (lines : List AskLine) (replies : List Reply) (l : AskLine) (r : Reply) → length lines ≡ length replies
    → told_text (lines ++ l ∷ []) (replies ++ r ∷ [])
    ≡ told_text lines replies ++ reply_line l.number (response_of r)
told-more [] [] l r is = append-nil (reply_line l.number (response_of r))
told-more [] (s ∷ replies) l r is = absurd (omega (arith, is))
told-more (k ∷ lines) [] l r is = absurd (omega (arith, is))
told-more (k ∷ lines) (s ∷ replies) l r is =
    ap (λ (ys : List ℕ). reply_line k.number (response_of s) ++ ys) (told-more lines replies l r (omega (arith, is)))
    ∙ sym (append_assoc (reply_line k.number (response_of s)) (told_text lines replies)
    (reply_line l.number (response_of r)))

-- those of the next line and of the reply beside it
pub told-next : (lines : List AskLine) (replies : List Reply) (n : ℕ) (l : AskLine) (r : Reply) (text line : List ℕ)
    → n < length lines → length replies ≡ length lines → l ≡ get_or lines n l → r ≡ get_or replies n r
    → text ≡ told_text (take n lines) (take n replies) → line ≡ reply_line (get_or lines n l).number (response_of r)
    → text ++ line ≡ told_text (take (n + 1) lines) (take (n + 1) replies)
told-next lines replies n l r text line few same is_l is_r so_far told =
    let below : n < length replies = omega (arith, few, same) in
    let long : length (take n lines) ≡ length (take n replies) =
    length-take-le n lines (omega (arith, few)) ∙ sym (length-take-le n replies (omega (arith, below))) in
    ap₂ (λ (xs ys : List ℕ). xs ++ ys) so_far
    (told ∙ ap (λ (x : AskLine). reply_line x.number (response_of r)) (sym is_l))
    ∙ sym (told-more (take n lines) (take n replies) l r long)
    ∙ sym (ap₂ told_text (one-taken lines n l few is_l) (one-taken replies n r below is_r))

-- what a line that gives an ask replies, and leaves
line-ask : (c : SessionState) (n : ℕ) (line : List ℕ) (ask : Command) → is_blank line ≡ false → reading line ≡ Ok ask
    → replies_to c n (line ∷ []) ≡ reply_line n (after_command c ask).1
line-ask c n line ask blank reads = rw (blank, reads, append-nil) refl

left-ask : (c : SessionState) (line : List ℕ) (ask : Command) → is_blank line ≡ false → reading line ≡ Ok ask
    → is_ask ask ≡ true → after_lines c (line ∷ []) ≡ c
left-ask c line ask blank reads is = rw (blank, reads) (ask-stays c ask is)

-- the end of a line that gives an ask
advances-ask : (a b : Option (List ℕ)) (m : Moment) (ask : Command) → is_blank m.pending ≡ false
    → reading m.pending ≡ Ok ask → is_ask ask ≡ true
    → Says a b (reply_line m.number (after_command m.held ask).1)
    → Advances a b m (record m { pending = []; number = m.number + 1 }) (10 ∷ [])
advances-ask a b m ask blank reads is says =
    let P : List ℕ → Type 0 = λ ys. Says a b ys in
    let told : told_in m (10 ∷ []) ≡ reply_line m.number (after_command m.held ask).1 =
    ap (λ (x : Cut). replies_to m.held m.number x.whole) (line-only m)
    ∙ line-ask m.held m.number m.pending ask blank reads in
    let left : moment_after m (10 ∷ []) ≡ record m { pending = []; number = m.number + 1 } =
    ap (moment_of m) (line-only m)
    ∙ ap (λ (x : SessionState). record m { held = x; pending = []; number = m.number + 1 })
    (left-ask m.held m.pending ask blank reads is) in
    record {
      says = subst P (sym told) says;
      alike = are_alike-same _ (moment_after m (10 ∷ [])) (sym left);
    }

-- ---- one line

-- an ask that waits behind others
pub lags-wait : (s : Option (List ℕ)) (m : Moment) (ask : Command) (waited : List AskLine) → is_blank m.pending ≡ false
    → reading m.pending ≡ Ok ask → is_ask ask ≡ true
    → Lags s s m (record m { pending = []; number = m.number + 1 }) waited
    (waited ++ record { number = m.number; ask = ask } ∷ [])
lags-wait s m ask waited blank reads is = λ later says.
    let l : AskLine = record { number = m.number; ask = ask } in
    let P : List ℕ → Type 0 = λ ys. Says s later ys in
    let half = says-split s later (asks_text m.held waited) (reply_line m.number (ask_reply m.held l))
    (subst P (text-more m.held waited l) says) in
    (half.0, half.1, advances-ask half.0 later m ask blank reads is half.2)

-- an ask that waits once those before it were answered
pub lags-first : (s t : Option (List ℕ)) (m : Moment) (ask : Command) (waited none : List AskLine)
    → is_blank m.pending ≡ false → reading m.pending ≡ Ok ask → is_ask ask ≡ true
    → Says s t (asks_text m.held waited) → none ≡ []
    → Lags s t m (record m { pending = []; number = m.number + 1 }) waited
    (none ++ record { number = m.number; ask = ask } ∷ [])
lags-first s t m ask waited none blank reads is said empty = λ later says.
    let l : AskLine = record { number = m.number; ask = ask } in
    let P : List AskLine → Type 0 = λ ls. Says t later (asks_text m.held (ls ++ l ∷ [])) in
    let Q : List ℕ → Type 0 = λ ys. Says t later ys in
    let one = subst Q (text-more m.held [] l) (subst P empty says) in
    (t, said, advances-ask t later m ask blank reads is one)

-- a line that was answered once those before it were
pub lags-line : (s t u : Option (List ℕ)) (m n : Moment) (waited none : List AskLine)
    → Says s t (asks_text m.held waited) → none ≡ [] → Advances t u m n (10 ∷ []) → Lags s u m n waited none
lags-line s t u m n waited none said empty line = λ later says.
    let P : List AskLine → Type 0 = λ ls. Says u later (asks_text n.held ls) in
    (t, said, advances-quiet t u later m n (10 ∷ []) line (subst P empty says))

-- a call that failed so
abbrev failed : Halt → Result (Unit {0}) Halt
failed h = Err h

-- what is said behind a line that could not be taken in, since those that wait before it could not be answered
pub says-waited : (h : Halt) (s u : Option (List ℕ)) (x y : List ℕ) → SaysText (failed h) s u x
    → (failed h ≡ Err halt.DiskFault → ⊥) → SaysBy (failed h) s u x y
says-waited halt.SayFault s u x y says plain = part-longer s u x y says
says-waited halt.DiskFault s u x y says plain = absurd (plain refl)
says-waited halt.NoMemory s u x y says plain = inl says

-- and behind one before which all that waits was said
pub says-line : (r : Result (Unit {0}) Halt) (s t u : Option (List ℕ)) (x y : List ℕ) → Says s t x → SaysText r t u y
    → SaysBy r s u x y
says-line (Ok v) s t u x y first says = inr (inr (says-then s t u x y first says))
says-line (Err halt.SayFault) s t u x y first says = part-then s t u x y first says
says-line (Err halt.DiskFault) s t u x y first says = inr (inl (says-quiet s t u x first says))
says-line (Err halt.NoMemory) s t u x y first says = inr (inl (says-quiet s t u x first says))

-- ---- some lines

pub waits-nothing : (s : Option (List ℕ)) (m : Moment) (none : List AskLine) → none ≡ [] → Waits s s m m [] none
waits-nothing s m none empty = record {
  told = λ later says.
      let P : List AskLine → Type 0 = λ ls. Says s later (asks_text m.held ls) in
      advances-quiet s s later m m [] (advances-nothing s m) (subst P empty says);
  first = first-front s s m [] 0 (advances-nothing s m).says;
}

-- bytes that end no line
pub waits-more : (s t : Option (List ℕ)) (l m n : Moment) (xs ys : List ℕ) (waiting : List AskLine)
    → Waits s t l m xs waiting → ((said : Option (List ℕ)) → Advances said said m n ys) → n.held ≡ m.held
    → Waits s t l n (xs ++ ys) waiting
waits-more s t l m n xs ys waiting w more held = record {
  told = λ later says.
      let P : SessionState → Type 0 = λ c. Says t later (asks_text c waiting) in
      advances-then s later later l m n xs ys (w.told later (subst P held says)) (more later);
  first = first-more s t l xs ys w.first;
}

-- where the asks that wait are said, the feed has advanced
pub waits-said : (s t u : Option (List ℕ)) (l m : Moment) (xs : List ℕ) (waiting : List AskLine)
    → Waits s t l m xs waiting → Says t u (asks_text m.held waiting) → Advances s u l m xs
waits-said s t u l m xs waiting w says = w.told u says

-- what was said by the end of a line is the replies of whole lines
pub first-line : (s t u : Option (List ℕ)) (l m : Moment) (xs : List ℕ) (waiting : List AskLine)
    → Waits s t l m xs waiting → SaysWhole t u (asks_text m.held waiting) (told_in m (10 ∷ []))
    → SaysFirst s u l.held l.number (cut_after l (xs ++ 10 ∷ [])).whole
first-line s t u l m xs waiting w whole =
    ⊎_elim
    (λ none. first-more s u l xs (10 ∷ []) (first-quiet s t u l (cut_after l xs).whole w.first none))
    (λ some. ⊎_elim
    (λ asks. first-whole s u l xs (10 ∷ []) (w.told u asks).says)
    (λ both.
    let half = says-split t u (asks_text m.held waiting) (told_in m (10 ∷ [])) both in
    let so_far = w.told half.0 half.1 in
    let P : List ℕ → Type 0 = λ ys. Says s u ys in
    let Q : List ℕ → Type 0 = λ ys. SaysFirst s u l.held l.number (cut_after l ys).whole in
    subst Q (append-nil (xs ++ 10 ∷ []))
    (first-whole s u l (xs ++ 10 ∷ []) []
    (subst P (tells-then l m xs (10 ∷ []) so_far.alike)
    (says-then s half.0 u (told_in l xs) (told_in m (10 ∷ [])) so_far.says half.2))))
    some)
    whole

-- a line
pub waits-line : (s t u : Option (List ℕ)) (l m n : Moment) (xs : List ℕ) (waited waiting : List AskLine)
    → Waits s t l m xs waited → Lags t u m n waited waiting
    → SaysWhole t u (asks_text m.held waited) (told_in m (10 ∷ [])) → Waits s u l n (xs ++ 10 ∷ []) waiting
waits-line s t u l m n xs waited waiting w lags whole = record {
  told = λ later says.
      let half = lags later says in
      advances-then s half.0 later l m n xs (10 ∷ []) (w.told half.0 half.1) half.2;
  first = first-line s t u l m xs waited w whole;
}

-- a first part of the asks that wait, and of what further bytes tell, is one of what all bytes tell
pub waits-part : (s t u : Option (List ℕ)) (l m : Moment) (xs ys : List ℕ) (waiting : List AskLine)
    → Waits s t l m xs waiting → SaysPart t u (asks_text m.held waiting ++ told_in m ys)
    → SaysPart s u (told_in l (xs ++ ys))
waits-part None t u l m xs ys waiting w part = tt
waits-part (Some zs) t u l m xs ys waiting w part =
    let before = replies_to l.held l.number (take w.first.many (cut_after l xs).whole) in
    let asks = asks_text m.held waiting in
    let half = says-some t asks in
    let so_far = w.told half.0 half.1 in
    let both : half.0 ≡ Some (zs ++ (before ++ asks)) = says-then (Some zs) t half.0 before asks w.first.says half.1 in
    let same : before ++ asks ≡ told_in l xs =
    append_cancel_left zs (before ++ asks) (told_in l xs) (some-same _ _ (sym both ∙ so_far.says)) in
    let P : List ℕ → Type 0 = λ told. SaysPart (Some zs) u told in
    subst P
    (sym (append_assoc before asks (told_in m ys)) ∙ ap (λ (told : List ℕ). told ++ told_in m ys) same
    ∙ tells-then l m xs ys so_far.alike)
    (part-then (Some zs) t u before (asks ++ told_in m ys) w.first.says part) where
      some-same : (a b : List ℕ) → Some a ≡ Some b → a ≡ b
      some-same a b h = cc

-- and where no further bytes come
pub waits-some : (s t u : Option (List ℕ)) (l m : Moment) (xs : List ℕ) (waiting : List AskLine)
    → Waits s t l m xs waiting → SaysPart t u (asks_text m.held waiting) → SaysPart s u (told_in l xs)
waits-some s t u l m xs waiting w part =
    let P : List ℕ → Type 0 = λ ys. SaysPart s u (told_in l ys) in
    subst P (append-nil xs)
    (waits-part s t u l m xs [] waiting w (part-longer t u (asks_text m.held waiting) (told_in m []) part))

-- ---- replies, by how a call ended

-- of a line that was taken in behind others, or not
pub replies-line : (h : Halt) (s t u : Option (List ℕ)) (l m : Moment) (xs : List ℕ) (waiting : List AskLine)
    → Waits s t l m xs waiting → SaysBy (failed h) t u (asks_text m.held waiting) (told_in m (10 ∷ []))
    → SaysReplies (failed h) s u l.held l.number (cut_after l (xs ++ 10 ∷ [])).whole
replies-line halt.SayFault s t u l m xs waiting w says = waits-part s t u l m xs (10 ∷ []) waiting w says
replies-line halt.DiskFault s t u l m xs waiting w says = first-line s t u l m xs waiting w says
replies-line halt.NoMemory s t u l m xs waiting w says = first-line s t u l m xs waiting w says

-- of the front of some bytes
pub replies-front : (h : Halt) (a b : Option (List ℕ)) (l : Moment) (xs : List ℕ) (n : ℕ)
    → SaysReplies (failed h) a b l.held l.number (cut_after l (take n xs)).whole
    → SaysReplies (failed h) a b l.held l.number (cut_after l xs).whole
replies-front halt.SayFault a b l xs n says =
    let P : List ℕ → Type 0 = λ ys. SaysPart a b (told_in l ys) in
    subst P (take-append-drop n xs) (part-more a b l (take n xs) (drop n xs) says)
replies-front halt.DiskFault a b l xs n says = first-taken a b l xs n says
replies-front halt.NoMemory a b l xs n says = first-taken a b l xs n says

-- of asks that wait, behind which nothing comes
pub replies-rest : (r : Result (Unit {0}) Halt) (s t u : Option (List ℕ)) (l m : Moment) (xs : List ℕ)
    (waiting : List AskLine) → Waits s t l m xs waiting → SaysText r t u (asks_text m.held waiting)
    → SaysReplies r s u l.held l.number (cut_after l xs).whole
replies-rest (Ok v) s t u l m xs waiting w says = (waits-said s t u l m xs waiting w says).says
replies-rest (Err halt.SayFault) s t u l m xs waiting w says = waits-some s t u l m xs waiting w says
replies-rest (Err halt.DiskFault) s t u l m xs waiting w says =
    first-quiet s t u l (cut_after l xs).whole w.first says
replies-rest (Err halt.NoMemory) s t u l m xs waiting w says =
    first-quiet s t u l (cut_after l xs).whole w.first says

-- ---- the disk

-- one text and then another
pub only-both : {X : Type 0} (T : Ghosts X) (a b c : X) (x y : List ℕ) → OnlySays T x a b
    → Says (T.said a) (T.said b) x → OnlySays T y b c → OnlySays T (x ++ y) a c
only-both {X} T a b c x y one said two =
    stays-both T _ a b c (only-longer T a b x y one)
    (stays-finding T _ _ b c (λ found part. part-then (T.said a) (T.said b) (Some found) x y said part) two)

-- what was found said while a line was taken in
pub only-waiting : {X : Type 0} (T : Ghosts X) (a b c : X) (l m n : Moment) (xs : List ℕ) (start at : ℕ)
    (waiting : List AskLine) → start ≤ at → at < length xs → get_or xs at 0 ≡ 10
    → OnlySays T (told_in l (take start xs)) a b
    → Waits (T.said a) (T.said b) l n (take start xs ++ take (at - start) (drop start xs)) waiting
    → OnlySays T (asks_text n.held waiting ++ told_in n (10 ∷ [])) b c
    → OnlySays T (told_in l (take (at + 1) xs)) a c
only-waiting {X} T a b c l m n xs start at waiting le lt is so_far w line =
    let P : List ℕ → Type 0 = λ ys. OnlySays T (told_in l ys) a c in
    let more = take (at - start) (drop start xs) in
    let front = take start xs ++ more in
    subst P (take-line xs start at le lt is)
    (stays-both T _ a b c
    (only-more T a b l front (10 ∷ []) (only-more T a b l (take start xs) more so_far))
    (stays-finding T _ _ b c
    (λ found part. waits-part (T.said a) (T.said b) (Some found) l n front (10 ∷ []) waiting w part) line))

-- and at the end
pub only-rest : {X : Type 0} (T : Ghosts X) (a b c : X) (l m : Moment) (xs ys : List ℕ) (waiting : List AskLine)
    → OnlySays T (told_in l xs) a b → Waits (T.said a) (T.said b) l m (xs ++ ys) waiting
    → OnlySays T (asks_text m.held waiting) b c → OnlySays T (told_in l (xs ++ ys)) a c
only-rest {X} T a b c l m xs ys waiting so_far w asks =
    stays-both T _ a b c (only-more T a b l xs ys so_far)
    (stays-finding T _ _ b c
    (λ found part. waits-some (T.said a) (T.said b) (Some found) l m (xs ++ ys) waiting w part) asks)
