-- Groups that are read one after another.
--
-- The key idea: the groups so far stand in front and act on nothing, so one more that stands behind them and acts on
-- what they leave makes one list of groups with them.
use Rattle.std.proofs.Common.{◌≡◌, ℕ, ◌+◌, ◌≤◌, List, [], ◌∷◌, ◌++◌, length, take, drop, refl, sym, ap, ap₂, subst, ◌∙◌}
use Rattle.std.proofs.Common.{arith, append_assoc, append-nil, inr, true, false, Bool, ◌&&◌, ◌==◌, if◌then◌else◌}
use Rattle.std.proofs.Common.{Option, Some, None, length-take, length-drop, nat_le}
use Rattle.std.specs.Int.{w64, from_be_bytes, to_be_bytes}
use Rattle.std.proofs.lemmas.Bool.{and_parts, leb-true}
use Rattle.std.proofs.lemmas.List.{take_all}
use Rattle.sz_outside.specs.Disk.{bytes_at, GivesAt}
use Rattle.sz_log.specs.Log.{LogGroup, is_kind, begins_as_log}
use Rattle.sz_log.specs.Laws.{Reads}
use Rattle.sz_log.specs.Places.{group_on, group_in, opened, StandsAt, SpellsAt}
use Rattle.sz_log.specs.Steps.{place_behind}
use Rattle.sz_log.specs.declared.groups.Group.{Group}
use Rattle.sz_log.specs.declared.groups.Group.TheVariants as group
use Rattle.sz_catalogue.specs.Holdings.{Holdings, no_holdings}
use Rattle.sz_recover.specs.Logs.{Kept, Acts, ActEach, AreSpelled, Stands, StandEach, GoesWell, IsBadAt}
use Rattle.sz_recover.specs.Logs.{IsMade, IsBroken, IsSoFar, IsEntryAt, IsBadOn, TakesNext, IsBad}
use Rattle.sz_recover.proofs.Acting.{entry_of}

-- ---- one more group

stand-more : (disk : List ℕ) (a b : ℕ) (es : List LogGroup) (e : LogGroup) → StandEach disk a es b → Stands disk b e
    → StandEach disk a (es ++ e ∷ []) (place_behind b e)
stand-more disk a b [] e same stands =
    (subst (λ (k : ℕ). Stands disk k e) (sym same) stands, ap (λ (k : ℕ). place_behind k e) same)
stand-more disk a b (x ∷ es) e all stands = (all.0, stand-more disk (place_behind a x) b es e all.1 stands)

pub act-more : (m n p : ℕ) (c d f : Holdings) (es : List LogGroup) (e : LogGroup) (kept more : List Kept)
    → ActEach m c es n d kept → Acts n d e p f more → ActEach m c (es ++ e ∷ []) p f (kept ++ more)
act-more m n p c d f [] e kept more all acts = (
  p,
  f,
  more,
  [],
  subst (λ (k : ℕ). Acts k c e p f more) all.0 (subst (λ (h : Holdings). Acts n h e p f more) all.1 acts),
  (refl, refl, refl),
  ap (λ (ks : List Kept). ks ++ more) all.2 ∙ sym (append-nil more),
)
act-more m n p c d f (x ∷ es) e kept more all acts = (
  all.0,
  all.1,
  all.2,
  all.3 ++ more,
  all.4,
  act-more all.0 n p all.1 d f es e all.3 more all.5 acts,
  ap (λ (ks : List Kept). ks ++ more) all.6 ∙ append_assoc all.2 all.3 more,
)

goes-more : (disk : List ℕ) (at next m n : ℕ) (c d : Holdings) (kept all more : List Kept) (e : LogGroup)
    → GoesWell disk at m c kept → Stands disk at e → next ≡ place_behind at e → Acts m c e n d more
    → all ≡ kept ++ more → GoesWell disk next n d all
goes-more disk at next m n c d kept all more e well stands place acts is = record {
  header = well.header;
  entries = well.entries ++ e ∷ [];
  stand = subst (λ (k : ℕ). StandEach disk 16 (well.entries ++ e ∷ []) k) (sym place)
      (stand-more disk 16 at well.entries e well.stand stands);
  acts = subst (λ (ks : List Kept). ActEach 1 no_holdings (well.entries ++ e ∷ []) n d ks) (sym is)
      (act-more 1 m n no_holdings c d well.entries e kept more well.acts acts);
}

-- where the disk is told
pub so_far-start : (o : Option (List ℕ)) (format : ℕ) (c : Holdings) (kept : List Kept) → format ≡ 1
    → c ≡ no_holdings → kept ≡ [] → ((disk : List ℕ) → o ≡ Some disk → begins_as_log disk ≡ true)
    → IsSoFar o 16 format c kept
so_far-start None format c kept first nothing none header = tt
so_far-start (Some disk) format c kept first nothing none header =
    record { header = header disk refl; entries = []; stand = refl; acts = (first, nothing, none) }

pub so_far-more : (o : Option (List ℕ)) (at next m n : ℕ) (c d : Holdings) (kept all : List Kept)
    → IsSoFar o at m c kept → TakesNext o at (Some next) m n c d kept all → IsSoFar o next n d all
so_far-more None at next m n c d kept all well takes = tt
so_far-more (Some disk) at next m n c d kept all well takes =
    goes-more disk at next m n c d kept all takes.3 takes.0 well takes.1 takes.2 takes.4 takes.5

-- ---- the end

reads-closed : (disk : List ℕ) (a b : ℕ) (es : List LogGroup) → StandEach disk a es b → group_on disk b ≡ group.Closed
    → Reads disk a es b
reads-closed disk a b [] same closed =
    (same, subst (λ (k : ℕ). group_on disk k ≡ group.Closed) (sym same) closed)
reads-closed disk a b (e ∷ es) all closed =
    (all.0.0, all.0.1, reads-closed disk (place_behind a e) b es all.1 closed)

spelled-each : (disk : List ℕ) (a b : ℕ) (es : List LogGroup) → StandEach disk a es b → AreSpelled disk a es
spelled-each disk a b [] all = tt
spelled-each disk a b (e ∷ es) all = (all.0.2, spelled-each disk (place_behind a e) b es all.1)

pub so_far-end : (o : Option (List ℕ)) (at m n : ℕ) (c d : Holdings) (kept all : List Kept) → IsSoFar o at m c kept
    → TakesNext o at None m n c d kept all → IsMade o at n d all
so_far-end None at m n c d kept all well takes = tt
so_far-end (Some disk) at m n c d kept all well takes = record {
  header = well.header;
  entries = well.entries;
  read = reads-closed disk 16 at well.entries well.stand takes.0;
  spelled = spelled-each disk 16 at well.entries well.stand;
  acts = subst (λ (k : ℕ). ActEach 1 no_holdings well.entries k d all) (sym takes.1)
      (subst (λ (h : Holdings). ActEach 1 no_holdings well.entries m h all) (sym takes.2)
      (subst (λ (ks : List Kept). ActEach 1 no_holdings well.entries m c ks) (sym takes.3) well.acts));
}

pub so_far-broken : (o : Option (List ℕ)) (at place format : ℕ) (c : Holdings) (kept : List Kept)
    → IsSoFar o at format c kept → IsBadOn o at format c place → IsBroken o place
so_far-broken None at place format c kept well bad = tt
so_far-broken (Some disk) at place format c kept well bad = record {
  format = format;
  c = c;
  kept = kept;
  before = subst (λ (k : ℕ). GoesWell disk k format c kept) (sym bad.0) well;
  bad = subst (λ (k : ℕ). IsBadAt disk k format c) (sym bad.0) bad.1;
}

-- ---- what stands at a place

-- a whole group, part by part
record IsWholeAt (at kind place long next left : ℕ) : Type 0 where
  body : place ≡ at + 10
  behind : next ≡ at + 10 + long
  within : 10 + long ≤ left

chosen : (t : Bool) (at k len left kind place long next : ℕ) → t ≡ (is_kind k && nat_le (10 + len) left)
    → (if t then group.Whole k (at + 10) len (at + 10 + len) else group.Bad) ≡ group.Whole kind place long next
    → IsWholeAt at kind place long next left
chosen false at k len left kind place long next test is = cc
chosen true at k len left kind place long next test is =
    let body : at + 10 ≡ place = cc in
    let same : len ≡ long = cc in
    let behind : at + 10 + len ≡ next = cc in
    let within = leb-true (10 + len) left (and_parts (is_kind k) (nat_le (10 + len) left) (sym test)).1 in
    record { body = sym body; behind = omega (arith, same, behind); within = omega (arith, same, within) }

behind-gate : (at : ℕ) (bytes : List ℕ) (kind place long next : ℕ) → opened at bytes ≡ group.Whole kind place long next
    → IsWholeAt at kind place long next (1 + length bytes)
behind-gate at [] kind place long next is = cc
behind-gate at (k ∷ bytes) kind place long next is =
    let left : 2 + length bytes ≡ 1 + length (k ∷ bytes) = omega arith in
    subst (λ (n : ℕ). IsWholeAt at kind place long next n) left
    (chosen (is_kind k && nat_le (10 + from_be_bytes w64 (take 8 bytes)) (2 + length bytes)) at k
    (from_be_bytes w64 (take 8 bytes)) (2 + length bytes) kind place long next refl is)

in-bytes : (at : ℕ) (bytes : List ℕ) (kind place long next : ℕ) → group_in at bytes ≡ group.Whole kind place long next
    → IsWholeAt at kind place long next (length bytes)
in-bytes at [] kind place long next is = cc
in-bytes at (gate ∷ bytes) kind place long next is = choose (gate == 1) is where
  choose : (t : Bool) → (if t then opened at bytes else group.Closed) ≡ group.Whole kind place long next
      → IsWholeAt at kind place long next (length (gate ∷ bytes))
  choose false clash = cc
  choose true whole =
      let left : 1 + length bytes ≡ length (gate ∷ bytes) = omega arith in
      subst (λ (n : ℕ). IsWholeAt at kind place long next n) left (behind-gate at bytes kind place long next whole)

whole-at : (disk : List ℕ) (at kind place long next : ℕ) → group.Whole kind place long next ≡ group_on disk at
    → IsWholeAt at kind place long next (length (drop at disk))
whole-at disk at kind place long next is = in-bytes at (drop at disk) kind place long next (sym is)

-- a whole group is read wholly
full : (disk : List ℕ) (at kind place long next count : ℕ) → group.Whole kind place long next ≡ group_on disk at
    → count ≡ length (bytes_at disk place long) → count ≡ long
full disk at kind place long next count is read =
    let whole = whole-at disk at kind place long next is in
    omega (
      arith,
      read,
      whole.body,
      whole.within,
      length-take long (drop place disk),
      length-drop place disk,
      length-drop at disk,
    )

pub not-bad : (o p : Option (List ℕ)) (at kind place long next count : ℕ) (into : List ℕ) → p ≡ o
    → StandsAt o at (group.Whole kind place long next) → GivesAt p place long into count
    → (count ≡ long → ⊥) → StandsAt o at group.Bad
not-bad None p at kind place long next count into same stands gives short = tt
not-bad (Some disk) p at kind place long next count into same stands gives short =
    let read : GivesAt (Some disk) place long into count =
    subst (λ (q : Option (List ℕ)). GivesAt q place long into count) same gives in
    absurd (short (full disk at kind place long next count stands read.0))

pub not-behind : (o : Option (List ℕ)) (at kind place long next : ℕ)
    → StandsAt o at (group.Whole kind place long next) → next ≤ at → StandsAt o at group.Bad
not-behind None at kind place long next stands low = tt
not-behind (Some disk) at kind place long next stands low =
    let whole = whole-at disk at kind place long next stands in absurd (omega (arith, whole.behind, low))

pub entry-there : (o p : Option (List ℕ)) (at kind place long next count : ℕ) (into : List ℕ) → p ≡ o
    → StandsAt o at (group.Whole kind place long next) → SpellsAt o at (group.Whole kind place long next)
    → GivesAt p place long into count → count ≡ long → length into ≡ long → IsEntryAt o at kind into next
entry-there None p at kind place long next count into same stands spelled gives all size = tt
entry-there (Some disk) p at kind place long next count into same stands spelled gives all size =
    let whole = whole-at disk at kind place long next stands in
    let read : GivesAt (Some disk) place long into count =
    subst (λ (q : Option (List ℕ)). GivesAt q place long into count) same gives in
    let make : ℕ → ℕ → ℕ → Group = λ b l n. group.Whole kind b l n in
    let bytes : bytes_at disk (at + 10) (length into) ≡ into =
    ap₂ (λ (b l : ℕ). bytes_at disk b l) (sym whole.body) size ∙ sym read.1
    ∙ take_all count into (omega (arith, all, size)) in
    let behind : next ≡ at + 10 + length into = omega (arith, whole.behind, size) in (
      (
        sym stands ∙ ap (λ (b : ℕ). make b long next) whole.body
            ∙ ap₂ (λ (l n : ℕ). make (at + 10) l n) (sym size) behind,
        bytes,
        spelled ∙ ap (to_be_bytes w64) (sym size),
      ),
      behind,
    )

-- a group that is bad over what is held is bad at its place
pub bad-on : (o : Option (List ℕ)) (at kind next format : ℕ) (body : List ℕ) (c : Holdings)
    → IsEntryAt o at kind body next → IsBad format c (entry_of kind body) → IsBadOn o at format c at
bad-on None at kind next format body c there bad = tt
bad-on (Some disk) at kind next format body c there bad = (refl, inr (entry_of kind body, there.0, bad))

-- the front of a list
pub front : (xs ys : List ℕ) (n : ℕ) → length xs ≡ n → take n (xs ++ ys) ≡ xs
front [] ys n is = subst (λ (k : ℕ). take k ys ≡ []) is refl
front (x ∷ xs) ys n is =
    subst (λ (k : ℕ). take k (x ∷ (xs ++ ys)) ≡ x ∷ xs) is
    (ap (λ (zs : List ℕ). x ∷ zs) (front xs ys (length xs) refl))
