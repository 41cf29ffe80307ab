-- What a stop finds of a session beside its log, on both sides of each part.
--
-- The key idea: of no lines nothing is said, and nothing at all is no log; so what is found otherwise is refused.
use Rattle.std.proofs.Common.{◌≡◌, ℕ, ◌+◌, ◌≤◌, List, [], ◌∷◌, Option, Some, None, refl, ap, subst, ◌∙◌, arith}
use Rattle.std.proofs.Common.{length, unwrap_or, take, inl, inr}
use Rattle.sz_outside.specs.declared.stations.Station.{Ghosts}
use Rattle.sz_log.specs.Log.{empty_log}
use Rattle.sz_catalogue.specs.Holdings.{Holdings, no_holdings}
use Rattle.sz_recover.specs.Logs.{Kept, IsWellMade}
use Rattle.sz_recover.specs.Growing.{durable}
use Rattle.sz_commands.specs.Lines.{lines_of}
use Rattle.sz_commands.specs.States.{SessionState, LogPlace}
use Rattle.sz_commands.specs.Transcript.{replies_to, after_lines}
use Rattle.sz_feed.specs.Running.{IfSome, FoundBetween, FoundAt, PassesAmong, FindsLines, GoesBeside, FindsAll}
use Rattle.sz_feed.specs.Running.{StandsBehind, state_of_log}
use Rattle.sz_commands.proofs.RowsLogged.{left-cut, left-empty, goes-synced, goes-not_cut, begun}

-- ---- where there is a value

pub some-claim : (n : ℕ) → IfSome (Some n) (λ (m : ℕ). m ≡ n)
some-claim n = refl

pub some-refused : (n : ℕ) → IfSome (Some n) (λ (m : ℕ). ⊥) → ⊥
some-refused n is = is

pub none-claim : (Claim : ℕ → Type 0) → IfSome None Claim
none-claim Claim = tt

-- ---- between two lines

abbrev state : SessionState
state = state_of_log no_holdings []

-- of no lines nothing is said, and the log is as it was
pub between-nothing : (n : ℕ) → FoundBetween [] state n [] [] (Some []) empty_log []
between-nothing n = record {
  bytes = 0;
  whole = omega arith;
  part = omega arith;
  said = refl;
  holds = inl (refl, left-empty);
}

-- a byte is not found said of no lines
pub between-said : (kept : List Kept) (s : SessionState) (n : ℕ) (image : List ℕ)
    → FoundBetween kept s n [] [] (Some []) image (120 ∷ []) → ⊥
between-said kept s n image is =
    let none : is.bytes ≡ 0 = omega (arith, is.part) in
    let size : 1 ≡ length (take is.bytes []) = ap (λ (o : Option (List ℕ)). length (unwrap_or o [])) is.said in
    let cut : length (take is.bytes []) ≡ 0 = ap (λ (k : ℕ). length (take k [])) none in
    omega (arith, size ∙ cut)

-- the replies of the first lines are found whole
pub between-whole : (kept : List Kept) (s : SessionState) (n : ℕ) (some more : List (List ℕ)) (said : Option (List ℕ))
    (image found : List ℕ) (is : FoundBetween kept s n some more said image found)
    → length (replies_to s n some) ≤ is.bytes
between-whole kept s n some more said image found is = is.whole

-- and the disk is never found cut
pub between-cut : (kept : List Kept) (s : SessionState) (n : ℕ) (some more : List (List ℕ)) (said : Option (List ℕ))
    (found : List ℕ) → FoundBetween kept s n some more said [] found → ⊥
between-cut kept s n some more said found is =
    elim is.holds as (λ _. ⊥) [
      | inl (none, left) ↦ left-cut s.held (after_lines s some).held kept left
      | inr left ↦ left-cut s.held (after_lines s more).held kept left
    ]

-- ---- at some line

pub at-cut : (kept : List Kept) (s : SessionState) (n : ℕ) (lines : List (List ℕ)) (said : Option (List ℕ))
    (found : List ℕ)
    → FoundAt kept s n lines said [] found → ⊥
at-cut kept s n lines said found is =
    between-cut kept s n (take is.many lines) (take (is.many + 1) lines) said found is.between

-- no line is answered that is none of them
pub at-said : (kept : List Kept) (s : SessionState) (n : ℕ) (image : List ℕ)
    → FoundAt kept s n [] (Some []) image (120 ∷ []) → ⊥
at-said kept s n image is =
    let none : is.many ≡ 0 = omega (arith, is.within) in
    between-said kept s n image
    (subst (λ (k : ℕ). FoundBetween kept s n (take k []) (take (k + 1) []) (Some []) image (120 ∷ [])) none is.between)

-- ---- in a call

pub passes-within : (before now : ℕ) (past since : ℕ → List ℕ → List ℕ → Type 0) (Among : List ℕ → List ℕ → Type 0)
    (image said : List ℕ) → PassesAmong before now past since Among → since before image said → Among image said
passes-within before now past since Among image said passes left = passes.within image said left

module _ {X : Type 0} (T : Ghosts X) (old new : X) where
  -- what a stop leaves since the call began is found at some line
  pub finds-lines : (at : LogPlace) (s : SessionState) (n : ℕ) (lines : List (List ℕ)) (disk image said : List ℕ)
      (kept : List Kept)
      → T.disk old ≡ Some disk → IsWellMade disk at.gate at.format (durable s.held) kept
      → FindsLines T at s n lines old new
      → T.left_since new (T.moment old) image said → FoundAt kept s n lines (T.said old) image said
  finds-lines at s n lines disk image said kept told made finds left =
      let P : List ℕ → Type 0 = λ d. (ks : List Kept) → IsWellMade d at.gate at.format (durable s.held) ks
      → PassesAmong (T.moment old) (T.moment new) (T.left_since old) (T.left_since new)
      (FoundAt ks s n lines (T.said old)) in
      let here : IfSome (Some disk) P = subst (λ (o : Option (List ℕ)). IfSome o P) told finds in
      (here kept made).within image said left

  pub finds-all : (s : SessionState) (at : LogPlace) (bytes : List ℕ) → FindsAll T s (Some at) (Some bytes) old new
      → FindsLines T at s 1 (lines_of bytes) old new
  finds-all s at bytes finds = finds

  -- a session of no log stays one, and one of a log too
  pub beside-made : (c d : Holdings) (next : LogPlace) → GoesBeside T c None d (Some next) old new → ⊥
  beside-made c d next is = is

  pub beside-lost : (c d : Holdings) (at : LogPlace) → GoesBeside T c (Some at) d None old new → ⊥
  beside-lost c d at is = is

  -- ---- behind all lines

  -- no write is pending
  pub stands-synced : (s : SessionState) (at : LogPlace) (bytes disk image : List ℕ) → T.disk new ≡ Some disk
      → StandsBehind T s (Some at) (Some bytes) old new → T.may_leave new image → image ≡ disk
  stands-synced s at bytes disk image told (next, goes) left =
      goes-synced T s.held (after_lines s (lines_of bytes)).held at next old new disk image told goes left

  -- and there is a log
  pub stands-not_cut : (bytes : List ℕ) → T.disk old ≡ Some empty_log → T.disk new ≡ Some []
      → StandsBehind T state (Some begun) (Some bytes) old new → ⊥
  stands-not_cut bytes told is (next, goes) =
      goes-not_cut T (after_lines state (lines_of bytes)).held next old new told is goes

-- ---- what a log gives

pub state-held : (c : Holdings) (kept : List Kept) → (state_of_log c kept).held ≡ c
state-held c kept = refl

pub state-logged : (c : Holdings) (kept : List Kept) → (state_of_log c kept).logged ≡ kept
state-logged c kept = refl
