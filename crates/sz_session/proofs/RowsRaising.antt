-- What a log is raised to, worked by hand on both sides, and what is known of the disk by then.
--
-- The key idea: the empty log has 17 bytes, and with the group of kind 5 it has 27. A log is read in one way, so
-- neither of these is a log of the other's format, and nothing between them is a log at all.
use Rattle.std.proofs.Common.{◌≡◌, ℕ, List, [], ◌∷◌, ◌++◌, Option, Some, None, refl, sym, ap, subst, arith, inl}
use Rattle.std.proofs.Common.{inr, ◌∙◌, true≢false, length, get_or, unwrap_or}
use Rattle.std.specs.Prelude.{◌⊎◌}
use Rattle.sz_outside.specs.Disk.{Told, Passes, Only}
use Rattle.sz_outside.specs.Outside.{Says, SaysPart}
use Rattle.sz_outside.specs.declared.stations.Station.{Ghosts}
use Rattle.sz_log.specs.Log.{LogGroup, IsLog, header, empty_log, log_bytes, group_bytes}
use Rattle.sz_log.specs.Laws.{Reads}
use Rattle.sz_log.specs.Steps.{Adds, AddsOrKeeps, Added, place_behind}
use Rattle.sz_log.proofs.Moments.{told}
use Rattle.sz_catalogue.specs.Holdings.{Holdings, no_holdings}
use Rattle.sz_recover.specs.Logs.{Kept, IsWellMade, IsMade}
use Rattle.sz_recover.proofs.RowsLogs.{empty-made, raised}
use Rattle.sz_recover.proofs.OneReading.{made-one}
use Rattle.sz_commands.proofs.RowsLogged.{begun}
use Rattle.sz_feed.specs.Making.{IsSilent}
use Rattle.sz_session.specs.Checking.{IsUnlike, IsBadLog}
use Rattle.sz_session.specs.Raising.{raised_line, upgrade_group, IsRaising, RaisesOrStays, StopsRaising}
use Rattle.sz_session.specs.Raising.{HasRaised, IsLeftAlone, RaisesLog}
use Rattle.sz_session.specs.Modes.{EndsUpgrade}
use Rattle.sz_session.specs.declared.serving.Status.TheVariants as status
use Rattle.sz_feed.proofs.Passes.{FindsNow, CountsNow}
use Rattle.sz_session.proofs.Raisings.{raising-still}

-- ---- the line, and the group

pub line-bytes : raised_line ≡ 108 ∷ 111 ∷ 103 ∷ 32 ∷ 50 ∷ 10 ∷ []
line-bytes = refl

pub group-bytes : group_bytes upgrade_group ≡ 1 ∷ 5 ∷ 0 ∷ 0 ∷ 0 ∷ 0 ∷ 0 ∷ 0 ∷ 0 ∷ 0 ∷ []
group-bytes = refl

pub group-behind : place_behind 16 upgrade_group ≡ 26
group-behind = refl

-- the empty log, raised: its header, the bytes 01 05 and eight 00, and a closed gate
abbrev raised_log : List ℕ
raised_log = header ++ 1 ∷ 5 ∷ 0 ∷ 0 ∷ 0 ∷ 0 ∷ 0 ∷ 0 ∷ 0 ∷ 0 ∷ 0 ∷ []

pub log-spelled : log_bytes (upgrade_group ∷ []) ++ 0 ∷ [] ≡ raised_log
log-spelled = refl

pub log-size : length raised_log ≡ 27
log-size = refl

-- it has format 2 and no other, as the empty log has format 1
pub log-made : IsWellMade raised_log 26 2 no_holdings []
log-made = record {
  header = refl;
  entries = upgrade_group ∷ [];
  read = (refl, refl, (refl, refl));
  spelled = (refl, tt);
  acts = raised no_holdings;
}

pub log-not_first : (at : ℕ) (c : Holdings) (kept : List Kept) → IsWellMade raised_log at 1 c kept → ⊥
log-not_first at c kept is =
    let same : 1 ≡ 2 = (made-one raised_log 26 at 2 1 no_holdings c [] kept log-made is).1 in omega (arith, same)

pub empty-not_second : (at : ℕ) (c : Holdings) (kept : List Kept) → IsWellMade empty_log at 2 c kept → ⊥
empty-not_second at c kept is =
    let same : 2 ≡ 1 = (made-one empty_log 16 at 1 2 no_holdings c [] kept empty-made is).1 in omega (arith, same)

-- a gate that is open, with no group behind it, is no log of either
abbrev torn : List ℕ
torn = header ++ 1 ∷ []

torn-not : (at format : ℕ) (c : Holdings) (kept : List Kept) → IsWellMade torn at format c kept → ⊥
torn-not at format c kept is = none is.entries is.read where
  none : (es : List LogGroup) → Reads torn 16 es at → ⊥
  none [] (end, closed) = cc
  none (e ∷ es) (group, body, rest) = cc

-- ---- the group is added

empty-none : (es : List LogGroup) → IsLog empty_log es 16 → es ≡ []
empty-none [] is = refl
empty-none (e ∷ es) is =
    let gate : 0 ≡ 1 = ap (λ (l : List ℕ). get_or l 16 0) is.bytes in absurd (omega (arith, gate))

pub empty-adds : Adds 16 upgrade_group empty_log raised_log
empty-adds es is =
    subst (λ (l : List LogGroup). IsLog raised_log (l ++ upgrade_group ∷ []) 26) (sym (empty-none es is))
    (record {
      gate = 0;
      behind = [];
      closed = omega arith;
      bytes = refl;
      place = refl;
      each = ((refl, omega arith), tt);
    })

-- ---- what a stop leaves

raising : (image : List ℕ) → AddsOrKeeps 16 upgrade_group empty_log image
    → IsWellMade image 16 1 no_holdings [] ⊎ IsWellMade image (place_behind 16 upgrade_group) 2 no_holdings []
    → IsRaising empty_log image
raising image groups left = record {
  at = 16;
  c = no_holdings;
  kept = [];
  made = empty-made;
  groups = groups;
  left = left;
}

pub raising-all : IsRaising empty_log raised_log
raising-all = raising raised_log (λ es is. inr (empty-adds es is)) (inr log-made)

pub raising-none : IsRaising empty_log empty_log
raising-none = raising empty_log (λ es is. inl is) (inl empty-made)

-- nothing that is torn, nor of a log of format 2, nor of what is no log
pub raising-torn : IsRaising empty_log torn → ⊥
raising-torn is =
    elim is.left as (λ _. ⊥) [
      | inl one ↦ torn-not is.at 1 is.c is.kept one
      | inr two ↦ torn-not (place_behind is.at upgrade_group) 2 is.c is.kept two
    ]

pub raising-again : (image : List ℕ) → IsRaising raised_log image → ⊥
raising-again image is = log-not_first is.at is.c is.kept is.made

pub raising-no_log : (image : List ℕ) → IsRaising [] image → ⊥
raising-no_log image is = true≢false (sym is.made.header)

pub stays-raised : RaisesOrStays raised_log raised_log
stays-raised = inl refl

pub stays-torn : RaisesOrStays empty_log torn → ⊥
stays-torn (inl is) = let gate : 1 ≡ 0 = ap (λ (l : List ℕ). get_or l 16 0) is in omega (arith, gate)
stays-torn (inr is) = raising-torn is

module _ {X : Type 0} (T : Ghosts X) (old new : X) where
  pub stops-untold : T.disk old ≡ None → StopsRaising T old new
  stops-untold is =
      let Pass : Type 0 =
      Passes (T.moment old) (T.moment new) (T.left_since old) (T.left_since new) (T.may_leave old) (T.may_leave new)
      RaisesOrStays (λ found. SaysPart (T.said old) (Some found) raised_line) in
      subst (λ (o : Option (List ℕ)). Told o Pass) (sym is) tt

  -- of the empty log, with no write pending, no torn group is left
  pub stops-torn : T.disk old ≡ Some empty_log → Only (Some empty_log) (T.may_leave old) → StopsRaising T old new
      → T.may_leave new torn → ⊥
  stops-torn is only stops left =
      let from = (told (T.disk old) empty_log _ is stops).images torn left in
      stays-torn (subst (λ (l : List ℕ). RaisesOrStays l torn) (only from.0 from.1) from.2)

  -- ---- what is made of the disk

  pub raised-empty : T.disk old ≡ Some empty_log → T.disk new ≡ Some raised_log
      → Only (T.disk new) (T.may_leave new) → HasRaised T old new
  raised-empty is now synced =
      let added : Added (Some empty_log) (T.disk new) 16 upgrade_group = (raised_log, now, empty-adds) in
      record {
        at = begun;
        c = no_holdings;
        kept = [];
        made = subst (λ (o : Option (List ℕ)). IsMade o 16 1 no_holdings []) (sym is) empty-made;
        next = 26;
        raised = subst (λ (o : Option (List ℕ)). IsMade o 26 2 no_holdings []) (sym now) log-made;
        groups = inr (
          refl,
          subst (λ (o : Option (List ℕ)). Added o (T.disk new) 16 upgrade_group) (sym is) added,
        );
        synced = synced;
      }

  pub raised-before : T.disk old ≡ Some raised_log → T.disk new ≡ T.disk old → Only (T.disk new) (T.may_leave new)
      → HasRaised T old new
  raised-before is same synced =
      let made : IsMade (T.disk old) 26 2 no_holdings [] =
      subst (λ (o : Option (List ℕ)). IsMade o 26 2 no_holdings []) (sym is) log-made in
      record {
        at = record { gate = 26; format = 2 };
        c = no_holdings;
        kept = [];
        made = made;
        next = 26;
        raised = subst (λ (o : Option (List ℕ)). IsMade o 26 2 no_holdings []) (sym same) made;
        groups = inl (refl, same);
        synced = synced;
      }

  -- a log of format 1 was not raised where it reads as before
  pub raised-not : T.disk new ≡ Some empty_log → HasRaised T old new → ⊥
  raised-not now one =
      empty-not_second one.next one.c one.kept
      (subst (λ (o : Option (List ℕ)). IsMade o one.next 2 one.c one.kept) now one.raised)

  -- nor is one of format 2 given the group
  pub raised-twice : T.disk old ≡ Some raised_log → T.disk new ≡ Some (raised_log ++ raised_log) → HasRaised T old new
      → ⊥
  raised-twice is now one =
      let made : IsWellMade raised_log one.at.gate one.at.format one.c one.kept =
      subst (λ (o : Option (List ℕ)). IsMade o one.at.gate one.at.format one.c one.kept) is one.made in
      let size : T.disk new ≡ T.disk old → 54 ≡ 27 = λ same.
      ap (λ (o : Option (List ℕ)). length (unwrap_or o [])) (sym now ∙ same ∙ is) in
      elim one.groups as (λ _. ⊥) [
        | inl second ↦ omega (arith, size second.1)
        | inr first ↦
            log-not_first one.at.gate one.c one.kept
            (subst (λ (f : ℕ). IsWellMade raised_log one.at.gate f one.c one.kept) first.0 made)
      ]

  -- no write is pending
  pub raised-pending : T.disk new ≡ Some raised_log → T.may_leave new empty_log → HasRaised T old new → ⊥
  raised-pending now left one =
      let only : Only (Some raised_log) (T.may_leave new) =
      subst (λ (o : Option (List ℕ)). Only o (T.may_leave new)) now one.synced in
      let size : 17 ≡ 27 = ap (λ (l : List ℕ). length l) (only empty_log left) in
      omega (arith, size)

  -- what is no log was not raised
  pub raised-no_log : T.disk old ≡ Some [] → HasRaised T old new → ⊥
  raised-no_log is one =
      true≢false (sym (subst (λ (o : Option (List ℕ)). IsMade o one.at.gate one.at.format one.c one.kept) is
      one.made).header)

  pub alone-same : new ≡ old → IsLeftAlone T old new
  alone-same same = record {
    silent = record { said = ap T.said same; quiet = ap T.say_faults same };
    reads = ap T.disk same;
  }

  pub alone-not_raised : T.disk old ≡ Some empty_log → T.disk new ≡ Some raised_log → IsLeftAlone T old new → ⊥
  alone-not_raised is now alone =
      let size : 27 ≡ 17 = ap (λ (o : Option (List ℕ)). length (unwrap_or o [])) (sym now ∙ alone.reads ∙ is) in
      omega (arith, size)

  -- ---- by each status

  pub raises-done : RaisesLog T status.Done old new → HasRaised T old new × Says (T.said old) (T.said new) raised_line
  raises-done ends = ends

  pub raises-say_fault : RaisesLog T status.SayFault old new
      → HasRaised T old new × SaysPart (T.said old) (T.said new) raised_line
  raises-say_fault ends = ends

  pub raises-disk_fault : RaisesLog T status.DiskFault old new → IsSilent T old new
  raises-disk_fault ends = ends

  pub raises-no_log : RaisesLog T status.NotALog old new → IsLeftAlone T old new × IsUnlike T old new
  raises-no_log ends = ends

  pub raises-bad : (at : ℕ) → RaisesLog T (status.BadLog at) old new → IsLeftAlone T old new × IsBadLog T at old new
  raises-bad at ends = ends

  pub raises-memory : RaisesLog T status.NoMemory old new → IsLeftAlone T old new
  raises-memory ends = ends

  -- the line is not said of a log that was not raised
  pub raises-not_done : T.disk new ≡ Some empty_log → RaisesLog T status.Done old new → ⊥
  raises-not_done now ends = raised-not now ends.0

  pub raises-usage : RaisesLog T status.Usage old new → ⊥
  raises-usage ends = ends

  pub raises-read_fault : RaisesLog T status.ReadFault old new → ⊥
  raises-read_fault ends = ends

  pub raises-already : RaisesLog T status.AlreadyALog old new → ⊥
  raises-already ends = ends

  pub raises-limit : RaisesLog T status.InputLimit old new → ⊥
  raises-limit ends = ends

  pub ends-already : EndsUpgrade T status.AlreadyALog old new → ⊥
  ends-already e = e.ends

pub ends-memory : {X : Type 0} (T : Ghosts X) (x : X) → FindsNow T x → CountsNow T x
    → EndsUpgrade T status.NoMemory x x
ends-memory {X} T x only counts = record {
  ends = alone-same T x x refl;
  counted = (refl, refl, refl);
  found = raising-still T x only counts;
}
