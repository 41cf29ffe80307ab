-- A disk that nothing touches stays, from say to say.
--
-- The key idea: a say passes with no change of the image, and so do two of them, one behind the other. And what a stop
-- found said is told by the lemmas on a say that stopped in the middle: it is as if it had failed there.
use Rattle.std.proofs.Common.{◌≡◌, ℕ, ◌+◌, ◌-◌, ◌≤◌, ◌<◌, List, [], ◌∷◌, ◌++◌, length, take, drop, get_or}
use Rattle.std.proofs.Common.{Option, None, Some, refl, sym, ap, ◌∙◌, subst, inl, arith}
use Rattle.std.proofs.lemmas.List.{append-nil, take-append-drop}
use Rattle.sz_outside.specs.Outside.{SaysPart, Gives}
use Rattle.sz_outside.specs.Disk.{Told, Passes, Follows, Same, Said, SaidPart}
use Rattle.sz_outside.specs.declared.stations.Station.{Ghosts}
use Rattle.sz_log.specs.Steps.{MakesIfFree}
use Rattle.sz_log.proofs.Moments.{seen_as}
use Rattle.sz_commands.specs.Transcript.{transcript}
use Rattle.sz_feed.specs.Moments.{Moment, told_in, told_at_end}
use Rattle.sz_commands.specs.States.{SessionState}
use Rattle.sz_feed.specs.Serving.{Advances, Answered, AreAll}
use Rattle.sz_feed.specs.Making.{ready_line}
use Rattle.sz_feed.specs.Disks.{StaysFinding, DiskStays, OnlySays, FoundInPart, StopsMaking}
use Rattle.sz_commands.specs.Stops.{StopsFinding}
use Rattle.sz_commands.proofs.Stops.{told-more, pass-still}
use Rattle.sz_feed.proofs.Passes.{Images, FindsNow, CountsNow, told-both, pass-finds, pass-then}
use Rattle.sz_feed.proofs.Turns.{part-longer, part-more, advances-then, advances-part, take-line}
use Rattle.sz_feed.proofs.Told.{turn-in_part, end-in_part, answered-in_part}

-- two steps that leave the disk as it reads, one behind the other
pub stops-both : {X : Type 0} (T : Ghosts X) (F : List ℕ → Type 0) (a b c : X) → T.disk b ≡ T.disk a
    → StopsFinding T Same F a b → StopsFinding T Same F b c → StopsFinding T Same F a c
stops-both {X} T F a b c reads one two =
    let Second : Type 0 =
    Passes (T.moment b) (T.moment c) (T.left_since b) (T.left_since c) (T.may_leave b) (T.may_leave c) Same F in
    told-both (T.disk a) _ _ _ (λ first second. pass-then F first second) one
    (subst (λ (o : Option (List ℕ)). Told o Second) reads two)

-- a disk that stays stays, finding what follows of what was found
pub stays-finding : {X : Type 0} (T : Ghosts X) (F G : List ℕ → Type 0) (a b : X)
    → ((said : List ℕ) → F said → G said) → StaysFinding T F a b → StaysFinding T G a b
stays-finding {X} T F G a b more one = record {
  reads = one.reads;
  quiet = one.quiet;
  stops = told-more (T.disk a) _ _ (λ passes. pass-finds more passes) one.stops;
}

-- the disk stays in two steps where it stays in each
pub stays-both : {X : Type 0} (T : Ghosts X) (F : List ℕ → Type 0) (a b c : X)
    → StaysFinding T F a b → StaysFinding T F b c → StaysFinding T F a c
stays-both {X} T F a b c one two =
    let Second : Type 0 =
    Passes (T.moment b) (T.moment c) (T.left_since b) (T.left_since c) (T.may_leave b) (T.may_leave c) Same F in
    record {
      reads = two.reads ∙ one.reads;
      quiet = two.quiet ∙ one.quiet;
      stops = told-both (T.disk a) _ _ _ (λ first second. pass-then F first second) one.stops
          (subst (λ (o : Option (List ℕ)). Told o Second) one.reads two.stops);
    }

-- what was said before is a first part, with nothing behind it
pub said-part : (a : Option (List ℕ)) (bytes found : List ℕ) → Said a found → SaysPart a (Some found) bytes
said-part None bytes found is = tt
said-part (Some all) bytes found is =
    (0, omega arith, ap (λ (xs : List ℕ). Some xs) (is ∙ sym (append-nil all)))

-- a step that says nothing finds a first part said of whatever is said behind it
pub stops-silent : {X : Type 0} (T : Ghosts X) (bytes : List ℕ) (a b : X)
    → StopsFinding T Same (Said (T.said a)) a b
    → StopsFinding T Same (λ found. SaysPart (T.said a) (Some found) bytes) a b
stops-silent {X} T bytes a b stops =
    told-more (T.disk a) _ _
    (λ passes. pass-finds (λ found was. said-part (T.said a) bytes found was) passes) stops

-- a first part of what a say says
part-part : (a : Option (List ℕ)) (bytes found : List ℕ) → SaidPart a bytes found → SaysPart a (Some found) bytes
part-part None bytes found part = tt
part-part (Some all) bytes found (n, le, is) = (n, le, ap (λ (xs : List ℕ). Some xs) is)

-- where no call is made nothing is done
pub stays-still : {X : Type 0} (T : Ghosts X) (bytes : List ℕ) (a : X)
    → FindsNow T a → CountsNow T a → OnlySays T bytes a a
stays-still {X} T bytes a only counts = record {
  reads = refl;
  quiet = refl;
  stops = told-more (T.disk a) _ _
      (λ passes. pass-finds (λ found was. said-part (T.said a) bytes found was) passes)
      (pass-still (T.disk a) (T.said a) (T.moment a) (T.left_since a) (T.may_leave a) only counts);
}

-- a say says, and does nothing else
pub stays-said : {X : Type 0} (T : Ghosts X) (bytes : List ℕ) (a b : X)
    → (T.disk b ≡ T.disk a) × (T.disk_faults b ≡ T.disk_faults a)
    → Told (T.disk a) (Passes (T.moment a) (T.moment b) (T.left_since a) (T.left_since b)
    (T.may_leave a) (T.may_leave b) Same (SaidPart (T.said a) bytes))
    → OnlySays T bytes a b
stays-said {X} T bytes a b disk stops = record {
  reads = disk.0;
  quiet = disk.1;
  stops = told-more (T.disk a) _ _
      (λ passes. pass-finds (λ found part. part-part (T.said a) bytes found part) passes)
      stops;
}

-- ---- the making of a log

makes-same : (A : Images) (image : List ℕ) → Follows Same A image → Follows MakesIfFree A image
makes-same A image (old, was, is) = (old, was, inl is)

-- where no call is made nothing is made either
pub making-still : {X : Type 0} (T : Ghosts X) (a : X)
    → FindsNow T a → CountsNow T a → StopsMaking T a a
making-still {X} T a only counts =
    told-more (T.disk a) _ _ (λ passes. seen_as passes (makes-same (T.may_leave a)))
    (stays-still T ready_line a only counts).stops

-- ---- lines

-- saying so much only is saying a first part of more
pub only-longer : {X : Type 0} (T : Ghosts X) (a b : X) (x y : List ℕ) → OnlySays T x a b → OnlySays T (x ++ y) a b
only-longer {X} T a b x y one = stays-finding T _ _ a b (λ found part. part-longer (T.said a) (Some found) x y part) one

-- a turn, and further bytes that have not come
pub only-more : {X : Type 0} (T : Ghosts X) (a b : X) (l : Moment) (xs ys : List ℕ) → OnlySays T (told_in l xs) a b
    → OnlySays T (told_in l (xs ++ ys)) a b
only-more {X} T a b l xs ys one =
    stays-finding T _ _ a b (λ found part. part-more (T.said a) (Some found) l xs ys part) one

-- a turn that took in the front of some bytes
pub only-front : {X : Type 0} (T : Ghosts X) (a b : X) (l : Moment) (xs : List ℕ) (n : ℕ)
    → OnlySays T (told_in l (take n xs)) a b → OnlySays T (told_in l xs) a b
only-front {X} T a b l xs n one =
    let P : List ℕ → Type 0 = λ ys. OnlySays T (told_in l ys) a b in
    subst P (take-append-drop n xs) (only-more T a b l (take n xs) (drop n xs) one)

-- one turn and then another
pub only-then : {X : Type 0} (T : Ghosts X) (a b c : X) (l m : Moment) (xs ys : List ℕ)
    → OnlySays T (told_in l xs) a b → Advances (T.said a) (T.said b) l m xs → OnlySays T (told_in m ys) b c
    → OnlySays T (told_in l (xs ++ ys)) a c
only-then {X} T a b c l m xs ys one took two =
    stays-both T _ a b c (only-more T a b l xs ys one)
    (stays-finding T _ _ b c (λ found part. advances-part (T.said a) (T.said b) (Some found) l m xs ys took part) two)

-- the bytes up to the end of the next line, and that line's reply
pub only-line : {X : Type 0} (T : Ghosts X) (a b c : X) (l m n : Moment) (xs : List ℕ) (start at : ℕ)
    → start ≤ at → at < length xs → get_or xs at 0 ≡ 10
    → OnlySays T (told_in l (take start xs)) a b
    → Advances (T.said a) (T.said b) l m (take start xs)
    → Advances (T.said b) (T.said b) m n (take (at - start) (drop start xs))
    → OnlySays T (told_in n (10 ∷ [])) b c
    → OnlySays T (told_in l (take (at + 1) xs)) a c
only-line {X} T a b c l m n xs start at le lt is so_far took pending line =
    let P : List ℕ → Type 0 = λ ys. OnlySays T (told_in l ys) a c in
    let more = take (at - start) (drop start xs) in
    subst P (take-line xs start at le lt is) (only-then T a b c l n (take start xs ++ more) (10 ∷ [])
    (only-more T a b l (take start xs) more so_far)
    (advances-then (T.said a) (T.said b) (T.said b) l m n (take start xs) more took pending) line)

-- ---- sessions

-- a turn
pub turn-stays : {X : Type 0} (T : Ghosts X) (z : SessionState) (all left next said : Option (List ℕ)) (a b : X)
    (m : Moment)
    (total count : ℕ) (buffer : List ℕ) → Answered z all left said (T.said a) m total → Gives left next buffer count
    → OnlySays T (told_in m (take count buffer)) a b → StaysFinding T (FoundInPart z all said) a b
turn-stays {X} T z all left next said a b m total count buffer so_far gives one =
    stays-finding T _ _ a b
    (λ found part. turn-in_part z all left next said (T.said a) (Some found) m total count buffer so_far gives part) one

-- the end
pub end-stays : {X : Type 0} (T : Ghosts X) (z : SessionState) (all left said : Option (List ℕ)) (a b : X)
    (m : Moment) (total : ℕ)
    → Answered z all left said (T.said a) m total → AreAll all total
    → OnlySays T (told_at_end m) a b → StaysFinding T (FoundInPart z all said) a b
end-stays {X} T z all left said a b m total so_far is_all one =
    stays-finding T _ _ a b
    (λ found part. end-in_part z all left said (T.said a) (Some found) m total so_far is_all part) one

-- between two turns
pub between-stays : {X : Type 0} (T : Ghosts X) (z : SessionState) (all left said : Option (List ℕ)) (a b : X)
    (m : Moment) (total : ℕ)
    → Answered z all left said (T.said a) m total → OnlySays T [] a b → StaysFinding T (FoundInPart z all said) a b
between-stays {X} T z all left said a b m total so_far one =
    stays-finding T _ _ a b
    (λ found part. answered-in_part z all left said (T.said a) (Some found) m total so_far part) one

-- before the first turn
start-found : (z : SessionState) (all said : Option (List ℕ)) (found : List ℕ) → SaysPart said (Some found) []
    → FoundInPart z all said found
start-found z None said found part = tt
start-found z (Some bytes) said found part = part-longer said (Some found) [] (transcript z bytes) part

pub start-stays : {X : Type 0} (T : Ghosts X) (z : SessionState) (all : Option (List ℕ)) (a b : X)
    → OnlySays T [] a b → StaysFinding T (FoundInPart z all (T.said a)) a b
start-stays {X} T z all a b one = stays-finding T _ _ a b (λ found part. start-found z all (T.said a) found part) one

-- whatever was found said
pub disk-stays : {X : Type 0} (T : Ghosts X) (F : List ℕ → Type 0) (a b : X) → StaysFinding T F a b → DiskStays T a b
disk-stays {X} T F a b one = stays-finding T F _ a b (λ found so_much. tt) one
