-- Small logs, the same as what the definitions make of them.
--
-- The key idea: on written-out bytes what stands at a place is a computation.
use Rattle.std.proofs.Common.{◌≡◌, ℕ, List, [], ◌∷◌, Some, Err, refl, sym, inl, set, take, true, false}
use Rattle.std.proofs.Common.{true≢false, arith}
use Rattle.std.specs.Prelude.{◌++◌, replicate}
use Rattle.sz_log.specs.Laws.{Reads}
use Rattle.sz_log.specs.Log.{LogGroup, empty_log, header, begins_as_log}
use Rattle.sz_log.specs.Places.{group_on}
use Rattle.sz_log.specs.declared.groups.Group.TheVariants as group
use Rattle.sz_log.proofs.Rows.{log, line, one, kind_0, cut_within, cut_behind_gate}
use Rattle.sz_catalogue.specs.Holdings.{Holdings, no_holdings}
use Rattle.sz_recover.specs.Logs.{Kept, IsWellMade, IsFirstBad, IsMade, IsNoLog, IsBroken, SaysWhy, has_read}
use Rattle.sz_recover.specs.Logs.{Acts, ActsAsLine, ActsAsVersion, ActEach, Stands, StandEach, AreSpelled}
use Rattle.sz_recover.specs.declared.opening.RecoverFault.TheVariants as fault
use Rattle.sz_recover.proofs.Acting.{upgrade-acts, upgrade-bad}

-- the empty log holds nothing
pub empty-made : IsWellMade empty_log 16 1 no_holdings []
empty-made = record { header = refl; entries = []; read = (refl, refl); spelled = tt; acts = (refl, refl, refl) }

-- a group that is bad behind the header is the first bad one
first-bad : (disk : List ℕ) → begins_as_log disk ≡ true → group_on disk 16 ≡ group.Bad → IsFirstBad disk 16
first-bad disk header bad = record {
  format = 1;
  c = no_holdings;
  kept = [];
  before = record { header = header; entries = []; stand = refl; acts = (refl, refl, refl) };
  bad = inl bad;
}

-- so is one of a kind that is none, where its gate stands, and one that is not wholly there
pub kind-bad : IsFirstBad (set log 17 0) 16
kind-bad = first-bad (set log 17 0) refl kind_0

pub cut-bad : IsFirstBad (take 40 log) 16
cut-bad = first-bad (take 40 log) refl cut_within

pub gate-bad : IsFirstBad (take 17 log) 16
gate-bad = first-bad (take 17 log) refl cut_behind_gate

-- ---- a log is not well made

-- where it does not begin as one
pub made-no_header : (at format : ℕ) (c : Holdings) (kept : List Kept) → IsWellMade [] at format c kept → ⊥
made-no_header at format c kept is = true≢false (sym is.header)

-- where its gate is open, and nothing stands behind it
pub made-open : (format : ℕ) (c : Holdings) (kept : List Kept) → IsWellMade (header ++ 1 ∷ []) 16 format c kept → ⊥
made-open format c kept is = none is.entries is.read where
  none : (es : List LogGroup) → Reads (header ++ 1 ∷ []) 16 es 16 → ⊥
  none [] (end, closed) = cc
  none (e ∷ es) (group, body, rest) = cc

-- the empty log ends at byte 16, has format 1, and holds and keeps nothing
pub made-elsewhere : (format : ℕ) (c : Holdings) (kept : List Kept) → IsWellMade empty_log 17 format c kept → ⊥
made-elsewhere format c kept is = none is.entries is.read where
  none : (es : List LogGroup) → Reads empty_log 16 es 17 → ⊥
  none [] (end, closed) = omega (arith, end)
  none (e ∷ es) (group, body, rest) = cc

pub made-kept : (format : ℕ) (c : Holdings) (k : Kept) → IsWellMade empty_log 16 format c (k ∷ []) → ⊥
made-kept format c k is = none is.entries is.read is.acts where
  none : (es : List LogGroup) → Reads empty_log 16 es 16 → ActEach 1 no_holdings es format c (k ∷ []) → ⊥
  none [] read (to, same, kept) = cc
  none (e ∷ es) (group, body, rest) acts = cc

pub made-raised : (c : Holdings) (kept : List Kept) → IsWellMade empty_log 16 2 c kept → ⊥
made-raised c kept is = none is.entries is.read is.acts where
  none : (es : List LogGroup) → Reads empty_log 16 es 16 → ActEach 1 no_holdings es 2 c kept → ⊥
  none [] read (to, same, own) = omega (arith, to)
  none (e ∷ es) (group, body, rest) acts = cc

-- a length that is written otherwise than it is
pub spelled-other : AreSpelled log 16 (record { kind = 1; body = [] } ∷ []) → ⊥
spelled-other (is, rest) = cc

pub spelled-one : AreSpelled log 16 (one ∷ [])
spelled-one = (refl, tt)

-- ---- what stands at a place

pub stands-one : Stands log 16 one
stands-one = (refl, refl, refl)

pub stands-other_body : Stands log 16 (record { kind = 1; body = replicate 27 0 }) → ⊥
stands-other_body (group, body, spelled) = cc

pub stands-other_kind : Stands log 16 (record { kind = 2; body = line }) → ⊥
stands-other_kind (group, body, spelled) = cc

pub stand-to_gate : StandEach log 16 (one ∷ []) 53
stand-to_gate = ((refl, refl, refl), refl)

pub stand-elsewhere : StandEach log 16 (one ∷ []) 54 → ⊥
stand-elsewhere (one, end) = omega (arith, end)

-- ---- which groups act

-- a body that is no line acts as none, nor is anything kept of a line
pub line-kept : (c d : Holdings) (k : Kept) → ActsAsLine c one d (k ∷ []) → ⊥
line-kept c d k is = let none = is.none in cc

-- a group of kind 1 is no version, and none of kind 4 is one in format 2, nor one of kind 6 in format 1
pub version-kind : (c d : Holdings) (kept : List Kept) → ActsAsVersion 1 c one d kept → ⊥
version-kind c d kept is = omega (arith, is.kind)

pub version-other : (c d : Holdings) (body : List ℕ) (kept : List Kept)
    → (ActsAsVersion 2 c (record { kind = 4; body = body }) d kept → ⊥)
    × (ActsAsVersion 1 c (record { kind = 6; body = body }) d kept → ⊥)
version-other c d body kept = (λ is. omega (arith, is.kind), λ is. omega (arith, is.kind))

-- a group of kind 5 raises a log once, where it has no byte, and keeps nothing
abbrev raise : LogGroup
raise = record { kind = 5; body = [] }

pub raised : (c : Holdings) → ActEach 1 c (raise ∷ []) 2 c []
raised c = (2, c, [], [], upgrade-acts c, (refl, refl, refl), refl)

pub raised-again : (after : ℕ) (c d : Holdings) (kept : List Kept) → Acts 2 c raise after d kept → ⊥
raised-again after c d kept acts = upgrade-bad 2 c [] (λ first bare. omega (arith, first)) after d kept acts

pub raised-with-bytes : (after : ℕ) (c d : Holdings) (kept : List Kept)
    → Acts 1 c (record { kind = 5; body = 0 ∷ [] }) after d kept → ⊥
raised-with-bytes after c d kept acts = upgrade-bad 1 c (0 ∷ []) (λ first bare. cc) after d kept acts

pub raised-stays : (c d : Holdings) (kept : List Kept) → Acts 1 c raise 1 d kept → ⊥
raised-stays c d kept acts = omega (arith, acts.0)

-- ---- what opening tells of a told disk, and why a log was not opened

pub told-made : IsMade (Some empty_log) 16 1 no_holdings []
told-made = empty-made

pub told-not_made : (at format : ℕ) (c : Holdings) (kept : List Kept) → IsMade (Some []) at format c kept → ⊥
told-not_made at format c kept is = true≢false (sym is.header)

pub no_log-nothing : IsNoLog (Some [])
no_log-nothing = refl

pub no_log-log : IsNoLog (Some log) → ⊥
no_log-log is = true≢false is

pub why-no_log : SaysWhy (Some []) fault.NotALog
why-no_log = refl

pub why-not_a_log : SaysWhy (Some empty_log) fault.NotALog → ⊥
why-not_a_log is = true≢false is

pub why-bad : SaysWhy (Some (take 17 log)) (fault.BadLog 16)
why-bad = gate-bad

pub broken-no_log : (at : ℕ) → IsBroken (Some []) at → ⊥
broken-no_log at is = true≢false (sym is.before.header)

-- a log that does not begin as one has no first bad group
pub why-no_log_bad : (at : ℕ) → SaysWhy (Some []) (fault.BadLog at) → ⊥
why-no_log_bad at is = true≢false (sym is.before.header)

-- a fault of a call is told as one alone
pub read-failed : (X : Type 0) → has_read {X = X} (Err fault.Failed) ≡ false
read-failed X = refl

pub read-no_log : (X : Type 0) → has_read {X = X} (Err fault.NotALog) ≡ true
read-no_log X = refl

pub read-bad : (X : Type 0) (at : ℕ) → has_read {X = X} (Err (fault.BadLog at)) ≡ true
read-bad X at = refl
