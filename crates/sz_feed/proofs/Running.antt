-- What a stop finds while lines are answered beside a log.
--
-- The key idea: a stop finds what is between two beginnings of the lines, and one line is taken in two passes: the log
-- grows with nothing said, and then the reply is said over a log that stays. Lines behind others begin from what those
-- left, with their replies said whole, over stores that are those kept before and more: so passes are joined where logs
-- and replies are.
use Rattle.std.proofs.Common.{◌≡◌, ℕ, ◌+◌, ◌≤◌, List, [], ◌∷◌, ◌++◌, length, take}
use Rattle.std.proofs.Common.{Option, None, Some, refl, sym, ap, ◌∙◌, subst, inl, inr, ⊎_elim, arith}
use Rattle.std.proofs.Common.{append_assoc, length-append}
use Rattle.std.specs.Prelude.{◌⊎◌}
use Rattle.std.proofs.lemmas.Bool.{cases_lt}
use Rattle.std.proofs.lemmas.List.{append-nil, take-append-le, take_all}
use Rattle.std.proofs.Math.Seq.{take-append-add}
use Rattle.sz_outside.specs.Outside.{Says, SaysPart}
use Rattle.sz_outside.specs.Disk.{Told, Passes, Same, Only, Said}
use Rattle.sz_outside.specs.declared.stations.Station.{Ghosts}
use Rattle.sz_catalogue.specs.Holdings.{Holdings}
use Rattle.sz_recover.specs.Growing.{durable}
use Rattle.sz_recover.specs.Logs.{Kept, IsWellMade}
use Rattle.sz_recover.specs.Soundness.{AreSoundKept}
use Rattle.sz_commands.specs.States.{SessionState, LogPlace}
use Rattle.sz_commands.specs.Transcript.{replies_to, after_lines}
use Rattle.sz_feed.specs.Moments.{Moment, cut_after, Alike, AreAlike}
use Rattle.sz_commands.specs.Lines.{last_line, lines_of}
use Rattle.sz_feed.specs.Disks.{OnlySays}
use Rattle.sz_commands.specs.Stops.{StopsFinding}
use Rattle.sz_commands.specs.Logged.{IsLogOf, Grown, Grows, IsLeft, LeavesLog, GoesOn, StopsInLog}
use Rattle.sz_feed.specs.Running.{IfSome, FoundBetween, FoundAt, PassesAmong, FindsLines, FindsAll}
use Rattle.sz_feed.proofs.LawsSessions.{replies-go_on, after_lines-append}
use Rattle.sz_commands.proofs.Logged.{grown-same, still-only}
use Rattle.sz_feed.proofs.Moments.{some_told-alike, some_left-alike, count-alike, last-alike}
use Rattle.sz_feed.proofs.Passes.{Since, FindsNow, CountsNow, among-more, among-then, among-apart}
use Rattle.sz_feed.proofs.Turns.{says-then, says-nothing}

-- ---- logs that grow

-- it grew, and then once more
grown-then : (c d e : Holdings) (kept : List Kept) (mid image : List ℕ) (next at : LogPlace)
    (one : Grown c kept mid next d)
    → Grown d (kept ++ one.more) image at e → Grown c kept image at e
grown-then c d e kept mid image next at one two = record {
  more = one.more ++ two.more;
  made = subst (λ (ks : List Kept). IsWellMade image at.gate at.format (durable e) ks)
      (append_assoc kept one.more two.more) two.made;
  sound = λ sound.
      subst (AreSoundKept (durable e)) (append_assoc kept one.more two.more) (two.sound (one.sound sound));
}

left-then : (c d e : Holdings) (kept : List Kept) (mid image : List ℕ) (next : LogPlace) (one : Grown c kept mid next d)
    → IsLeft d (kept ++ one.more) image e → IsLeft c kept image e
left-then c d e kept mid image next one (at, two) = (at, grown-then c d e kept mid image next at one two)

grows-then : (a b x : Option (List ℕ)) (c d e : Holdings) (at mid next : LogPlace) → Grows a at c b mid d
    → Grows b mid d x next e
    → Grows a at c x next e
grows-then None b x c d e at mid next one two =
    let P : Option (List ℕ) → Type 0 = λ o. Grows o mid d x next e in subst P one two
grows-then (Some disk) b x c d e at mid next (half, is, one) two =
    let P : Option (List ℕ) → Type 0 = λ o. Grows o mid d x next e in
    let more : Grows (Some half) mid d x next e = subst P is two in (
      more.0,
      more.1,
      λ kept made.
          let first = one kept made in
          grown-then c d e kept half more.0 mid next first (more.2 (kept ++ first.more) first.made),
    )

pub goes-then : {X : Type 0} (T : Ghosts X) (c d e : Holdings) (at mid next : LogPlace) (a b x : X)
    → GoesOn T c at d mid a b
    → GoesOn T d mid e next b x → GoesOn T c at e next a x
goes-then {X} T c d e at mid next a b x one two = record {
  grows = grows-then (T.disk a) (T.disk b) (T.disk x) c d e at mid next one.grows two.grows;
  synced = two.synced;
}

stays-grown : (o : Option (List ℕ)) (c : Holdings) (at : LogPlace) → Grows o at c o at c
stays-grown None c at = refl
stays-grown (Some disk) c at = (disk, refl, λ kept made. grown-same c c kept disk at refl made)

pub goes-still : {X : Type 0} (T : Ghosts X) (c : Holdings) (at : LogPlace) (a : X) → IsLogOf T c at a
    → GoesOn T c at c at a a
goes-still {X} T c at a log = record { grows = stays-grown (T.disk a) c at; synced = log.synced }

-- a say leaves the disk, and what a stop leaves of it
pub goes-said : {X : Type 0} (T : Ghosts X) (c d : Holdings) (at next : LogPlace) (bytes : List ℕ) (a b x : X)
    → GoesOn T c at d next a b → OnlySays T bytes b x → GoesOn T c at d next a x
goes-said {X} T c d at next bytes a b x one says =
    let P : Option (List ℕ) → Type 0 = λ o. Grows (T.disk a) at c o next d in
    let Q : Option (List ℕ) → Type 0 = λ o. Only o (T.may_leave x) in
    record {
      grows = subst P (sym says.reads) one.grows;
      synced = subst Q (sym says.reads) (still-only (T.disk b) _ _ _ _ _ _ _ says.stops one.synced);
    }

-- ---- what a stop finds

-- between lines and themselves is between them and more
between-more : (kept : List Kept) (s : SessionState) (n : ℕ) (some more : List (List ℕ)) (a : Option (List ℕ))
    (image found : List ℕ) → FoundBetween kept s n some some a image found
    → FoundBetween kept s n some (some ++ more) a image found
between-more kept s n some more a image found f =
    let told = replies_to s n some in
    let further = replies_to (after_lines s some) (n + length some) more in
    let all : f.bytes ≡ length told = omega (arith, f.whole, f.part) in
    let both : replies_to s n (some ++ more) ≡ told ++ further = replies-go_on s n some more in
    let P : List ℕ → Type 0 = λ ys. Says a (Some found) ys in
    record {
      bytes = f.bytes;
      whole = f.whole;
      part = omega (arith, f.part, ap length both, length-append told further);
      said = subst P (sym (ap (take f.bytes) both ∙ take-append-le f.bytes told further f.part)) f.said;
      holds = inl (all, ⊎_elim (λ one. one.1) (λ one. one) f.holds);
    }

-- and behind other lines, whose replies were said whole
between-behind : (kept : List Kept) (s : SessionState) (n : ℕ) (first some more : List (List ℕ)) (a b : Option (List ℕ))
    (mid image found : List ℕ) (next : LogPlace) (one : Grown s.held kept mid next (after_lines s first).held)
    → Says a b (replies_to s n first)
    → FoundBetween (kept ++ one.more) (after_lines s first) (n + length first) some more b image found
    → FoundBetween kept s n (first ++ some) (first ++ more) a image found
between-behind kept s n first some more a b mid image found next one says f =
    let z = after_lines s first in
    let told = replies_to s n first in
    let fewer = replies_to z (n + length first) some in
    let further = replies_to z (n + length first) more in
    let least : replies_to s n (first ++ some) ≡ told ++ fewer = replies-go_on s n first some in
    let most : replies_to s n (first ++ more) ≡ told ++ further = replies-go_on s n first more in
    let P : List ℕ → Type 0 = λ ys. Says a (Some found) ys in
    let same : told ++ take f.bytes further ≡ take (length told + f.bytes) (replies_to s n (first ++ more)) =
    sym (ap (take (length told + f.bytes)) most ∙ take-append-add told further f.bytes) in
    let L : List (List ℕ) → SessionState → Type 0 = λ ls x. IsLeft s.held kept image x.held in
    let here : (ls : List (List ℕ)) → IsLeft z.held (kept ++ one.more) image (after_lines z ls).held
    → IsLeft s.held kept image (after_lines s (first ++ ls)).held =
    λ ls left. subst (L ls) (sym (after_lines-append s first ls))
    (left-then s.held z.held (after_lines z ls).held kept mid image next one left) in
    record {
      bytes = length told + f.bytes;
      whole = omega (arith, f.whole, ap length least, length-append told fewer);
      part = omega (arith, f.part, ap length most, length-append told further);
      said = subst P same (says-then a b (Some found) told (take f.bytes further) says f.said);
      holds = ⊎_elim
          (λ nothing. inl (
            omega (arith, nothing.0, ap length least, length-append told fewer),
            here some nothing.1,
          ))
          (λ left. inr (here more left)) f.holds;
    }

-- between lines that tell and leave the same
between-alike : (kept : List Kept) (s z : SessionState) (n k : ℕ) (some more some' more' : List (List ℕ))
    (a : Option (List ℕ))
    (image found : List ℕ) → s ≡ z → replies_to s n some ≡ replies_to z k some' → replies_to s n more
    ≡ replies_to z k more'
    → after_lines s some ≡ after_lines z some' → after_lines s more ≡ after_lines z more'
    → FoundBetween kept s n some more a image found → FoundBetween kept z k some' more' a image found
between-alike kept s z n k some more some' more' a image found held least most here there f =
    let P : List ℕ → Type 0 = λ ys. Says a (Some found) ys in
    let L : (x y : SessionState) → x ≡ y → IsLeft s.held kept image x.held → IsLeft z.held kept image y.held =
    λ x y same left.
    subst (λ (w : SessionState). IsLeft w.held kept image y.held) held
    (subst (λ (w : SessionState). IsLeft s.held kept image w.held) same left) in
    record {
      bytes = f.bytes;
      whole = omega (arith, f.whole, ap length least);
      part = omega (arith, f.part, ap length most);
      said = subst P (ap (take f.bytes) most) f.said;
      holds = ⊎_elim
          (λ nothing. inl (nothing.0 ∙ ap length least, L (after_lines s some) (after_lines z some') here nothing.1))
          (λ left. inr (L (after_lines s more) (after_lines z more') there left)) f.holds;
    }

-- ---- of all lines

-- what is found while some lines are answered is found while more are
found-longer : (kept : List Kept) (s : SessionState) (n : ℕ) (lines more : List (List ℕ)) (a : Option (List ℕ))
    (image found : List ℕ) → FoundAt kept s n lines a image found → FoundAt kept s n (lines ++ more) a image found
found-longer kept s n lines more a image found f =
    let P : List (List ℕ) → List (List ℕ) → Type 0 = λ xs ys. FoundBetween kept s n xs ys a image found in
    let fewer : take f.many (lines ++ more) ≡ take f.many lines = take-append-le f.many lines more f.within in
    record {
      many = f.many;
      within = omega (arith, f.within, length-append lines more);
      between = ⊎_elim
          (λ lt.
          let further : take (f.many + 1) (lines ++ more) ≡ take (f.many + 1) lines =
          take-append-le (f.many + 1) lines more (omega (arith, lt)) in
          subst (λ (xs : List (List ℕ)). P xs (take (f.many + 1) (lines ++ more))) (sym fewer)
          (subst (P (take f.many lines)) (sym further) f.between))
          (λ ge.
          let all : f.many ≡ length lines = omega (arith, ge, f.within) in
          let whole : take f.many lines ≡ lines = take_all f.many lines ge in
          let past : take (f.many + 1) lines ≡ lines = take_all (f.many + 1) lines (omega (arith, ge)) in
          let further : take (f.many + 1) (lines ++ more) ≡ lines ++ take 1 more =
          ap (λ (i : ℕ). take (i + 1) (lines ++ more)) all ∙ take-append-add lines more 1 in
          let between : P lines lines =
          subst (λ (xs : List (List ℕ)). P xs lines) whole (subst (P (take f.many lines)) past f.between) in
          subst (λ (xs : List (List ℕ)). P xs (take (f.many + 1) (lines ++ more))) (sym (fewer ∙ whole))
          (subst (P lines) (sym further) (between-more kept s n lines (take 1 more) a image found between)))
          (cases_lt f.many (length lines));
    }

-- and so is what is found while others are answered behind them
found-behind : (kept : List Kept) (s : SessionState) (n : ℕ) (first lines : List (List ℕ)) (a b : Option (List ℕ))
    (mid image found : List ℕ) (next : LogPlace) (one : Grown s.held kept mid next (after_lines s first).held)
    → Says a b (replies_to s n first)
    → FoundAt (kept ++ one.more) (after_lines s first) (n + length first) lines b image found
    → FoundAt kept s n (first ++ lines) a image found
found-behind kept s n first lines a b mid image found next one says f =
    let P : List (List ℕ) → List (List ℕ) → Type 0 = λ xs ys. FoundBetween kept s n xs ys a image found in
    let i = length first + f.many in
    let number : i + 1 ≡ length first + (f.many + 1) = omega arith in
    let further : take (i + 1) (first ++ lines) ≡ first ++ take (f.many + 1) lines =
    ap (λ (k : ℕ). take k (first ++ lines)) number ∙ take-append-add first lines (f.many + 1) in
    record {
      many = i;
      within = omega (arith, f.within, length-append first lines);
      between = subst (λ (xs : List (List ℕ)). P xs (take (i + 1) (first ++ lines)))
          (sym (take-append-add first lines f.many))
          (subst (P (first ++ take f.many lines)) (sym further)
          (between-behind kept s n first (take f.many lines) (take (f.many + 1) lines) a b mid image found next one says
          f.between));
    }

-- moments that are alike find the same
found-alike : (kept : List Kept) (m k : Moment) (bytes : List ℕ) (a : Option (List ℕ)) (image found : List ℕ)
    → AreAlike m k → FoundAt kept m.held m.number (cut_after m bytes).whole a image found
    → FoundAt kept k.held k.number (cut_after k bytes).whole a image found
found-alike kept m k bytes a image found h f = record {
  many = f.many;
  within = omega (arith, f.within, count-alike m k bytes h);
  between = between-alike kept m.held k.held m.number k.number _ _ _ _ a image found h.held
      (some_told-alike f.many m k bytes h) (some_told-alike (f.many + 1) m k bytes h)
      (some_left-alike f.many m k bytes h) (some_left-alike (f.many + 1) m k bytes h) f.between;
}

-- and so do last lines that are alike
found-last : (kept : List Kept) (s : SessionState) (n : ℕ) (x y : List ℕ) (a : Option (List ℕ)) (image found : List ℕ)
    → Alike x y → FoundAt kept s n (last_line x) a image found → FoundAt kept s n (last_line y) a image found
found-last kept s n x y a image found h f =
    let here = last-alike f.many s n x y h in
    let there = last-alike (f.many + 1) s n x y h in
    record {
      many = f.many;
      within = omega (arith, f.within, here.2);
      between = between-alike kept s s n n _ _ _ _ a image found refl here.0 there.0 here.1 there.1 f.between;
    }

-- nothing was said, and the first line was taken or not
found-quiet : (kept : List Kept) (s : SessionState) (n : ℕ) (lines : List (List ℕ)) (a : Option (List ℕ))
    (image found : List ℕ) → Said a found
    → IsLeft s.held kept image s.held ⊎ IsLeft s.held kept image (after_lines s (take 1 lines)).held
    → FoundAt kept s n lines a image found
found-quiet kept s n lines a image found said left = record {
  many = 0;
  within = omega arith;
  between = record {
    bytes = 0;
    whole = omega arith;
    part = omega arith;
    said = quiet a said;
    holds = ⊎_elim (λ before. inl (refl, before)) (λ behind. inr behind) left;
  };
} where
  quiet : (a : Option (List ℕ)) → Said a found → Says a (Some found) []
  quiet None is = tt
  quiet (Some all) is = ap (λ (xs : List ℕ). Some xs) (is ∙ sym (append-nil all))

-- no line was answered
found-none : (kept : List Kept) (s : SessionState) (n : ℕ) (lines : List (List ℕ)) (a : Option (List ℕ))
    (image found : List ℕ)
    (at : LogPlace) → Said a found → IsWellMade image at.gate at.format (durable s.held) kept → FoundAt kept s n lines a
    image found
found-none kept s n lines a image found at said made =
    found-quiet kept s n lines a image found said (inl (at, grown-same s.held s.held kept image at refl made))

-- a line was taken or not, with nothing said
found-taken : (kept : List Kept) (s : SessionState) (n : ℕ) (line : List ℕ) (a : Option (List ℕ)) (image found : List ℕ)
    → Said a found → IsLeft s.held kept image s.held ⊎ IsLeft s.held kept image (after_lines s (line ∷ [])).held
    → FoundAt kept s n (line ∷ []) a image found
found-taken kept s n line a image found said left = found-quiet kept s n (line ∷ []) a image found said left

-- its reply was said, or a part of it
found-said : (kept : List Kept) (s : SessionState) (n : ℕ) (line : List ℕ) (a : Option (List ℕ)) (image found : List ℕ)
    → SaysPart a (Some found) (replies_to s n (line ∷ []))
    → IsLeft s.held kept image (after_lines s (line ∷ [])).held → FoundAt kept s n (line ∷ []) a image found
found-said kept s n line a image found part left =
    let so_far = some a part in
    record {
      many = 0;
      within = omega arith;
      between = record {
        bytes = so_far.0;
        whole = omega arith;
        part = so_far.1;
        said = so_far.2;
        holds = inr left;
      };
    } where
      some : (a : Option (List ℕ)) → SaysPart a (Some found) (replies_to s n (line ∷ []))
          → (k : ℕ) × (k ≤ length (replies_to s n (line ∷ [])))
          × Says a (Some found) (take k (replies_to s n (line ∷ [])))
      some None part = (0, omega arith, tt)
      some (Some all) part = part

-- ---- passes

-- what is told of a value, where there is one
pub some-more : {A : Type 0} (o : Option A) (P Q : A → Type 0) → ((a : A) → P a → Q a) → IfSome o P → IfSome o Q
some-more {A} None P Q f p = tt
some-more {A} (Some a) P Q f p = f a p

-- what is found of a disk, while lines are answered
abbrev FindsOn : Option (List ℕ) → LogPlace → SessionState → ℕ → List (List ℕ) → Option (List ℕ) → ℕ → ℕ → Since
    → Since → Type 0
FindsOn o at s n lines a before now past since = IfSome o (λ disk. (kept : List Kept)
    → IsWellMade disk at.gate at.format (durable s.held) kept
    → PassesAmong before now past since (FoundAt kept s n lines a))

finds-two : (o p : Option (List ℕ)) (before mid now : ℕ) (past half since : Since) (at next : LogPlace)
    (s : SessionState) (n : ℕ) (first lines : List (List ℕ)) (a b : Option (List ℕ))
    → Grows o at s.held p next (after_lines s first).held
    → Says a b (replies_to s n first) → FindsOn o at s n first a before mid past half
    → FindsOn p next (after_lines s first) (n + length first) lines b mid now half since
    → FindsOn o at s n (first ++ lines) a before now past since
finds-two None p before mid now past half since at next s n first lines a b grows says one two = tt
finds-two (Some disk) p before mid now past half since at next s n first lines a b (image, is, grows) says one two =
    let P : Option (List ℕ) → Type 0 = λ o.
    FindsOn o next (after_lines s first) (n + length first) lines b mid now half since in
    let more : P (Some image) = subst P is two in
    λ kept made.
    let grown = grows kept made in
    among-then (FoundAt kept s n first a)
    (FoundAt (kept ++ grown.more) (after_lines s first) (n + length first) lines b)
    (FoundAt kept s n (first ++ lines) a)
    (λ seen found f. found-longer kept s n first lines a seen found f)
    (λ seen found f. found-behind kept s n first lines a b image seen found next grown says f)
    (one kept made) (more (kept ++ grown.more) grown.made)

-- lines, and others behind them
pub finds-then : {X : Type 0} (T : Ghosts X) (at next : LogPlace) (s : SessionState) (n : ℕ)
    (first lines : List (List ℕ))
    (a b c : X)
    → GoesOn T s.held at (after_lines s first).held next a b → Says (T.said a) (T.said b) (replies_to s n first)
    → FindsLines T at s n first a b → FindsLines T next (after_lines s first) (n + length first) lines b c
    → FindsLines T at s n (first ++ lines) a c
finds-then {X} T at next s n first lines a b c goes says one two =
    finds-two (T.disk a) (T.disk b) _ _ _ _ _ _ at next s n first lines (T.said a) (T.said b) goes.grows says one two

-- further lines, which were not answered
pub finds-longer : {X : Type 0} (T : Ghosts X) (at : LogPlace) (s : SessionState) (n : ℕ) (lines more : List (List ℕ))
    (a b : X)
    → FindsLines T at s n lines a b → FindsLines T at s n (lines ++ more) a b
finds-longer {X} T at s n lines more a b one =
    some-more (T.disk a) _ _
    (λ disk finds kept made.
    among-more (FoundAt kept s n lines (T.said a)) (FoundAt kept s n (lines ++ more) (T.said a))
    (λ image found f. found-longer kept s n lines more (T.said a) image found f) (finds kept made)) one

-- moments that are alike
pub finds-alike : {X : Type 0} (T : Ghosts X) (at : LogPlace) (m k : Moment) (bytes : List ℕ) (a b : X) → AreAlike m k
    → FindsLines T at m.held m.number (cut_after m bytes).whole a b
    → FindsLines T at k.held k.number (cut_after k bytes).whole a b
finds-alike {X} T at m k bytes a b h one =
    some-more (T.disk a) _ _
    (λ disk finds kept made.
    let own = subst (λ (s : SessionState). IsWellMade disk at.gate at.format (durable s.held) kept) (sym h.held) made in
    among-more (FoundAt kept m.held m.number (cut_after m bytes).whole (T.said a))
    (FoundAt kept k.held k.number (cut_after k bytes).whole (T.said a))
    (λ image found f. found-alike kept m k bytes (T.said a) image found h f) (finds kept own)) one

-- and last lines
pub finds-last : {X : Type 0} (T : Ghosts X) (at : LogPlace) (s : SessionState) (n : ℕ) (x y : List ℕ) (a b : X)
    → Alike x y
    → FindsLines T at s n (last_line x) a b → FindsLines T at s n (last_line y) a b
finds-last {X} T at s n x y a b h one =
    some-more (T.disk a) _ _
    (λ disk finds kept made.
    among-more (FoundAt kept s n (last_line x) (T.said a)) (FoundAt kept s n (last_line y) (T.said a))
    (λ image found f. found-last kept s n x y (T.said a) image found h f) (finds kept made)) one

-- ---- one line

still-on : (o a : Option (List ℕ)) (at : LogPlace) (s : SessionState) (n : ℕ) (lines : List (List ℕ)) (k : ℕ)
    (since : Since)
    (A : List ℕ → Type 0) → Only o A
    → ((image found : List ℕ) → Told o (since k image found → A image × Said a found))
    → ((t : ℕ) (image found : List ℕ) → Told o (t ≤ k → A image → Said a found → since t image found))
    → FindsOn o at s n lines a k k since since
still-on None a at s n lines k since A synced only counts = tt
still-on (Some disk) a at s n lines k since A synced only counts = λ kept made. record {
  later = omega arith;
  joined = λ t image found le left. inl left;
  kept = λ t image found le was. was;
  earlier = λ t image found le left. counts t image found le (only image found left).0 (only image found left).1;
  within = λ image found left.
      let now = only image found left in
      found-none kept s n lines a image found at now.1
      (subst (λ (i : List ℕ). IsWellMade i at.gate at.format (durable s.held) kept) (sym (synced image now.0)) made);
}

-- where no call is made no line is answered
pub finds-still : {X : Type 0} (T : Ghosts X) (at : LogPlace) (s : SessionState) (n : ℕ) (lines : List (List ℕ)) (a : X)
    → IsLogOf T s.held at a
    → FindsNow T a → CountsNow T a → FindsLines T at s n lines a a
finds-still {X} T at s n lines a log only counts =
    still-on (T.disk a) (T.said a) at s n lines (T.moment a) (T.left_since a) (T.may_leave a) log.synced only counts

taken-on : (o a : Option (List ℕ)) (at : LogPlace) (s : SessionState) (d : Holdings) (n : ℕ) (line : List ℕ)
    (before now : ℕ)
    (past since : Since) (A B : List ℕ → Type 0) → d ≡ (after_lines s (line ∷ [])).held → Only o A
    → Told o (Passes before now past since A B (LeavesLog at s.held d) (Said a))
    → FindsOn o at s n (line ∷ []) a before now past since
taken-on None a at s d n line before now past since A B held synced passes = tt
taken-on (Some disk) a at s d n line before now past since A B held synced passes = λ kept made.
    among-apart (FoundAt kept s n (line ∷ []) a)
    (λ image found (old, was, leaves) said.
    found-taken kept s n line a image found said
    (subst (λ (c : Holdings). IsLeft s.held kept image s.held ⊎ IsLeft s.held kept image c) held
    (leaves kept (subst (λ (i : List ℕ). IsWellMade i at.gate at.format (durable s.held) kept) (sym (synced old was))
    made)))) passes

-- a line is taken
pub finds-taken : {X : Type 0} (T : Ghosts X) (at : LogPlace) (s : SessionState) (d : Holdings) (n : ℕ) (line : List ℕ)
    (a b : X)
    → d ≡ (after_lines s (line ∷ [])).held → IsLogOf T s.held at a → StopsInLog T s.held (Some at) d a b
    → FindsLines T at s n (line ∷ []) a b
finds-taken {X} T at s d n line a b held log stops =
    taken-on (T.disk a) (T.said a) at s d n line _ _ _ _ _ _ held log.synced stops

said-on : (o p a b : Option (List ℕ)) (at next : LogPlace) (s : SessionState) (d : Holdings) (n : ℕ)
    (line bytes : List ℕ)
    (before mid now : ℕ) (past half since : Since) (B C : List ℕ → Type 0) → d ≡ (after_lines s (line ∷ [])).held
    → bytes ≡ replies_to s n (line ∷ []) → b ≡ a → Grows o at s.held p next d → Only p B
    → Told p (Passes mid now half since B C Same (λ found. SaysPart b (Some found) bytes))
    → FindsOn o at s n (line ∷ []) a before mid past half → FindsOn o at s n (line ∷ []) a before now past since
said-on None p a b at next s d n line bytes before mid now past half since B C held told same grows synced says one = tt
said-on (Some disk) p a b at next s d n line bytes before mid now past half since B C held told same (image, is, grows)
    synced says one =
    let Passed : Option (List ℕ) → Type 0 = λ o.
    Told o (Passes mid now half since B C Same (λ found. SaysPart b (Some found) bytes)) in
    let passes : Passed (Some image) = subst Passed is says in
    let alone : Only (Some image) B = subst (λ (o : Option (List ℕ)). Only o B) is synced in
    λ kept made.
    let A = FoundAt kept s n (line ∷ []) a in
    let left : IsLeft s.held kept image (after_lines s (line ∷ [])).held =
    subst (λ (c : Holdings). IsLeft s.held kept image c) held (next, grows kept made) in
    among-then A A A (λ seen found f. f) (λ seen found f. f) (one kept made)
    (among-apart A
    (λ seen found (old, was, is_old) part.
    found-said kept s n line a seen found
    (subst (λ (o : Option (List ℕ)). SaysPart o (Some found) (replies_to s n (line ∷ []))) same
    (subst (λ (ys : List ℕ). SaysPart b (Some found) ys) told part))
    (subst (λ (i : List ℕ). IsLeft s.held kept i (after_lines s (line ∷ [])).held) (sym (is_old ∙ alone old was)) left))
    passes)

-- and then its reply is said
pub finds-said : {X : Type 0} (T : Ghosts X) (at next : LogPlace) (s : SessionState) (d : Holdings) (n : ℕ)
    (line bytes : List ℕ)
    (a b c : X) → d ≡ (after_lines s (line ∷ [])).held → bytes ≡ replies_to s n (line ∷ []) → T.said b ≡ T.said a
    → GoesOn T s.held at d next a b → OnlySays T bytes b c → FindsLines T at s n (line ∷ []) a b
    → FindsLines T at s n (line ∷ []) a c
finds-said {X} T at next s d n line bytes a b c held told same goes says one =
    said-on (T.disk a) (T.disk b) (T.said a) (T.said b) at next s d n line bytes _ _ _ _ _ _ _ _ held told same
    goes.grows goes.synced says.stops one

-- ---- what came before

before-on : (o a : Option (List ℕ)) (s : SessionState) (at : LogPlace) (n before now : ℕ) (past since : Since)
    (A B : List ℕ → Type 0) → Only o A → Told o (Passes before now past since A B Same (Said a))
    → FindsOn o at s n [] a before now past since
before-on None a s at n before now past since A B only passes = tt
before-on (Some disk) a s at n before now past since A B only passes = λ kept made.
    among-apart (FoundAt kept s n [] a)
    (λ image found (old, was, same) said.
    found-none kept s n [] a image found at said
    (subst (λ (i : List ℕ). IsWellMade i at.gate at.format (durable s.held) kept) (sym (same ∙ only old was)) made))
    passes

-- calls that change no image and say nothing, before lines are answered
pub finds-before : {X : Type 0} (T : Ghosts X) (s : SessionState) (at : LogPlace) (left : Option (List ℕ)) (a b x : X)
    → T.disk b ≡ T.disk a → T.said b ≡ T.said a → StopsFinding T Same (Said (T.said a)) a b
    → Only (T.disk a) (T.may_leave a) → IsLogOf T s.held at b → FindsAll T s (Some at) left b x
    → FindsAll T s (Some at) left a x
finds-before {X} T s at None a b x reads said stops only log found = tt
finds-before {X} T s at (Some bytes) a b x reads said stops only log found =
    let grows : Grows (T.disk a) at s.held (T.disk b) at s.held =
    subst (λ (o : Option (List ℕ)). Grows (T.disk a) at s.held o at s.held) (sym reads)
    (stays-grown (T.disk a) s.held at) in
    let goes : GoesOn T s.held at s.held at a b = record { grows = grows; synced = log.synced } in
    let says : Says (T.said a) (T.said b) [] =
    subst (λ (o : Option (List ℕ)). Says (T.said a) o []) (sym said) (says-nothing (T.said a)) in
    let first : FindsLines T at s 1 [] a b = before-on (T.disk a) (T.said a) s at 1 _ _ _ _ _ _ only stops in
    finds-then T at at s 1 [] (lines_of bytes) a b x goes says first found
