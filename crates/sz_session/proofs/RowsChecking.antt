-- What the check of a log says, worked by hand on both sides, and what is known of the log by then.
--
-- The key idea: one line can be said of what is kept, so another is refused by a byte in which it differs.
use Rattle.std.proofs.Common.{◌≡◌, ℕ, List, [], ◌∷◌, ◌++◌, Option, Some, None, refl, sym, ap, subst, arith}
use Rattle.std.proofs.Common.{true≢false, length, get_or, codes, take, length-append}
use Rattle.std.specs.Fmt.{digits}
use Rattle.std.proofs.lemmas.List.Elements.{All-nil}
use Rattle.sz_outside.specs.Outside.{Says, SaysPart}
use Rattle.sz_outside.specs.declared.stations.Station.{Ghosts}
use Rattle.sz_log.specs.Log.{LogGroup, empty_log}
use Rattle.sz_log.specs.Laws.{Reads}
use Rattle.sz_log.proofs.Rows.{log}
use Rattle.sz_spec.specs.declared.modes.Strategy.TheVariants as strategy
use Rattle.sz_catalogue.specs.Holdings.{Holdings, no_holdings}
use Rattle.sz_recover.specs.Logs.{Kept, ActEach, IsWellMade, IsNoLog, IsBroken}
use Rattle.sz_recover.specs.Soundness.{IsSoundKept}
use Rattle.sz_recover.specs.declared.checking.WrongStore.{WrongStore}
use Rattle.sz_recover.proofs.RowsLogs.{empty-made, gate-bad}
use Rattle.sz_recover.proofs.RowsSound.{held, right, wrong, sound_0, sound_1, first-is}
use Rattle.sz_recover.proofs.OneReading.{made-whole}
use Rattle.sz_session.specs.Checking.{sound_line, check_line, TellsLine, IsLineOf, SaysLine, IsUnlike, IsBadLog}
use Rattle.sz_session.specs.Checking.{IfNoLog, IfBadLog, IsWellMadeLog, BeginsAsLog, SaysPartOfLine}
use Rattle.sz_session.proofs.Sayings.{one-line}
use Rattle.sz_commands.proofs.RowsLogged.{begun}

-- ---- lines

-- the first wrong store of version 1 on the array `a`
abbrev first : WrongStore
first = record { version = 1; node = 0; s = strategy.FullOneB }

abbrev said_0 : List ℕ
said_0 = codes "sound 0" ++ 10 ∷ []

abbrev said_1 : List ℕ
said_1 = codes "sound 1" ++ 10 ∷ []

abbrev said_wrong : List ℕ
said_wrong = codes "unsound version 1 node 0 full_one_b" ++ 10 ∷ []

pub line-none : check_line 0 None ≡ said_0
unfolding digits
line-none = refl

pub line-wrong : check_line 1 (Some first) ≡ said_wrong
unfolding digits
line-wrong = refl

-- ---- what is told of what is kept

pub tells-sound_0 : TellsLine held [] said_0
unfolding digits
tells-sound_0 = (None, sound_0, refl)

pub tells-sound_1 : TellsLine held (right ∷ []) said_1
unfolding digits
tells-sound_1 = (None, sound_1, refl)

pub tells-wrong : TellsLine held (wrong ∷ []) said_wrong
unfolding digits
tells-wrong = (Some first, first-is, refl)

-- one store that is wrong is not told as sound
pub tells-not_sound : TellsLine held (wrong ∷ []) said_1 → ⊥
tells-not_sound is =
    let same = one-line held (wrong ∷ []) said_1 said_wrong is tells-wrong in
    let byte : 115 ≡ 117 = ap (λ (l : List ℕ). get_or l 0 0) same in
    omega (arith, byte)

-- nor one that is right as wrong
pub tells-not_wrong : TellsLine held (right ∷ []) said_wrong → ⊥
tells-not_wrong is =
    let same = one-line held (right ∷ []) said_wrong said_1 is tells-sound_1 in
    let byte : 117 ≡ 115 = ap (λ (l : List ℕ). get_or l 0 0) same in
    omega (arith, byte)

-- another number, and a line of no bytes
pub tells-other_number : TellsLine held [] said_1 → ⊥
tells-other_number is =
    let same = one-line held [] said_1 said_0 is tells-sound_0 in
    let byte : 49 ≡ 48 = ap (λ (l : List ℕ). get_or l 6 0) same in
    omega (arith, byte)

pub tells-nothing : TellsLine held [] [] → ⊥
tells-nothing is =
    let size : 0 ≡ 8 = ap (λ (l : List ℕ). length l) (one-line held [] [] said_0 is tells-sound_0) in
    omega (arith, size)

-- ---- the line of a log

-- the empty log keeps nothing
empty-keeps : (at format : ℕ) (c : Holdings) (kept : List Kept) → IsWellMade empty_log at format c kept → kept ≡ []
empty-keeps at format c kept is = none is.entries is.read is.acts where
  none : (es : List LogGroup) → Reads empty_log 16 es at → ActEach 1 no_holdings es format c kept → kept ≡ []
  none [] read (first, same, kept_is) = kept_is
  none (e ∷ es) (group, body, rest) acts = cc

tells-none : (c : Holdings) (line : List ℕ) → TellsLine c [] line → line ≡ sound_line 0
tells-none c line (None, tells, is) = is
tells-none c line (Some w, tells, is) =
    let size = ap (λ (ks : List Kept). length ks) tells.all in
    absurd (omega (arith, size, length-append tells.before (tells.one ∷ tells.after)))

pub line_of-empty : (line : List ℕ) → IsLineOf (Some empty_log) line → line ≡ sound_line 0
line_of-empty line is =
    tells-none is.c line
    (subst (λ (ks : List Kept). TellsLine is.c ks line) (empty-keeps is.at is.format is.c is.kept is.made) is.tells)

pub line_of-empty_is : IsLineOf (Some empty_log) (sound_line 0)
line_of-empty_is = record {
  at = 16;
  format = 1;
  c = no_holdings;
  kept = [];
  made = empty-made;
  tells = (None, All-nil (IsSoundKept no_holdings), refl);
}

pub line_of-no_log : (line : List ℕ) → IsLineOf (Some []) line → ⊥
line_of-no_log line is = true≢false (sym is.made.header)

-- ---- what a station was told, and which log is none, or bad

module _ {X : Type 0} (T : Ghosts X) (old new : X) where
  pub says-no_log : T.disk old ≡ Some [] → SaysLine T old new → ⊥
  says-no_log told (line, is, says) =
      line_of-no_log line (subst (λ (o : Option (List ℕ)). IsLineOf o line) told is)

  -- of the empty log one line is said, and no other
  pub says-empty : T.disk old ≡ Some empty_log → SaysLine T old new → Says (T.said old) (T.said new) (sound_line 0)
  says-empty told (line, is, says) =
      subst (λ (l : List ℕ). Says (T.said old) (T.said new) l)
      (line_of-empty line (subst (λ (o : Option (List ℕ)). IsLineOf o line) told is)) says

  -- and where saying failed a first part of that line, and no byte beside it
  pub says-part_of_empty : T.disk old ≡ Some empty_log → SaysPartOfLine T old new
      → SaysPart (T.said old) (T.said new) (sound_line 0)
  says-part_of_empty told (line, is, says) =
      subst (λ (l : List ℕ). SaysPart (T.said old) (T.said new) l)
      (line_of-empty line (subst (λ (o : Option (List ℕ)). IsLineOf o line) told is)) says

  pub says-part_of_none : T.disk old ≡ Some [] → SaysPartOfLine T old new → ⊥
  says-part_of_none told (line, is, says) =
      line_of-no_log line (subst (λ (o : Option (List ℕ)). IsLineOf o line) told is)

  pub unlike-log : T.disk old ≡ Some empty_log → IsUnlike T old new → ⊥
  unlike-log told is = true≢false (subst (λ (o : Option (List ℕ)). IsNoLog o) told is.0)

  pub unlike-quiet : IsUnlike T old new → T.disk_faults new ≡ T.disk_faults old
  unlike-quiet is = is.1

  -- a well-made log is not bad anywhere
  pub bad-well_made : (at : ℕ) → T.disk old ≡ Some empty_log → IsBadLog T at old new → ⊥
  bad-well_made at told is =
      made-whole empty_log 16 at 1 no_holdings [] empty-made (subst (λ (o : Option (List ℕ)). IsBroken o at) told is.0)

  pub bad-quiet : (at : ℕ) → IsBadLog T at old new → T.disk_faults new ≡ T.disk_faults old
  bad-quiet at is = is.1

-- ---- which logs are checked

pub if_no_log-nothing : IfNoLog (Some []) ⊥ → ⊥
if_no_log-nothing claim = claim refl

pub if_no_log-log : IfNoLog (Some empty_log) ⊥
if_no_log-log is = true≢false is

pub if_no_log-untold : IfNoLog None ⊥
if_no_log-untold = tt

pub if_bad-cut : IfBadLog (Some (take 17 log)) (λ at. ⊥) → ⊥
if_bad-cut claim = claim 16 gate-bad

pub if_bad-untold : IfBadLog None (λ at. ⊥)
if_bad-untold = tt

pub well_made-empty : IsWellMadeLog (Some empty_log)
well_made-empty = (begun, no_holdings, [], empty-made)

pub well_made-nothing : IsWellMadeLog (Some []) → ⊥
well_made-nothing (at, c, kept, is) = true≢false (sym is.header)

pub well_made-untold : IsWellMadeLog None → ⊥
well_made-untold is = is

pub begins-log : BeginsAsLog (Some log)
begins-log = refl

pub begins-nothing : BeginsAsLog (Some []) → ⊥
begins-nothing is = true≢false (sym is)

pub begins-untold : BeginsAsLog None → ⊥
begins-untold is = is
