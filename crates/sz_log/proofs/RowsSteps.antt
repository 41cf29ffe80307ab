-- Small disks on both sides of each definition that the calls of the log cite.
--
-- The key idea: on written-out bytes a definition that holds is its own proof, and one that does not gives two
-- different numbers as equal, a byte, a length or a place.
use Rattle.std.proofs.Common.{◌≡◌, ℕ, ◌^◌, true, false, None, Some, Option, List, [], ◌∷◌, ◌++◌, refl, length}
use Rattle.std.proofs.Common.{set, replicate, arith, ap, sym, get_or, inl, inr, Ok, Err, true≢false}
use Rattle.std.proofs.Common.{length-append, subst, unwrap_or}
use Rattle.sz_log.specs.Log.{LogGroup, IsLogGroup, IsLog, EndsAt, empty_log, header, log_bytes}
use Rattle.sz_log.specs.Places.{StandsAt, SpellsAt, SaysWhether}
use Rattle.sz_log.specs.Steps.{Adds, Added, KeepsFront, IsShort, Makes, MakesIfFree, JudgesTold}
use Rattle.sz_log.specs.Steps.{IsMade, Spares, is_no_failure, AddsOrKeeps}
use Rattle.sz_log.specs.Laws.{Reads}
use Rattle.sz_log.specs.declared.LogEnd.{LogEnd}
use Rattle.sz_log.specs.declared.LogFault.TheVariants as fault
use Rattle.sz_log.specs.declared.groups.Group.TheVariants.{Closed, Whole}
use Rattle.sz_log.proofs.Rows.{line, one, log}

-- 18 bytes that are no log, one more than what is short
abbrev long : List ℕ
long = replicate 18 7

-- ---- a group

pub entry-one : IsLogGroup one
entry-one = (refl, omega arith)

pub entry-kind_7 : IsLogGroup (record { kind = 7; body = line }) → ⊥
entry-kind_7 is = true≢false (sym is.0)

pub entry-too_long : (e : LogGroup) → length e.body ≡ 2 ^ 64 → IsLogGroup e → ⊥
entry-too_long e long is = omega (arith, long, is.1)

-- ---- a log

-- a gate of 1 is open, so nothing ends there
pub log-open : IsLog (header ++ 1 ∷ []) [] 16 → ⊥
log-open is = is.closed (sym (ap (λ (l : List ℕ). get_or l 16 0) is.bytes))

-- bytes without the group that is told, and with one that is not
pub log-none_there : IsLog empty_log (one ∷ []) 53 → ⊥
log-none_there is =
    let size : 17 ≡ length (log_bytes (one ∷ []) ++ is.gate ∷ is.behind) = ap (λ (l : List ℕ). length l) is.bytes in
    omega (arith, size)

log-torn : IsLog (header ++ 1 ∷ []) (one ∷ []) 53 → ⊥
log-torn is =
    let size : 17 ≡ length (log_bytes (one ∷ []) ++ is.gate ∷ is.behind) = ap (λ (l : List ℕ). length l) is.bytes in
    omega (arith, size)

pub log-one_untold : IsLog log [] 16 → ⊥
log-one_untold is = is.closed (sym (ap (λ (l : List ℕ). get_or l 16 0) is.bytes))

-- the end is where the first closed gate stands
pub log-other_end : IsLog log (one ∷ []) 54 → ⊥
log-other_end is = let place : 54 ≡ 53 = is.place in omega (arith, place)

pub log-kind_7 : IsLog (set log 17 7) (record { kind = 7; body = line } ∷ []) 53 → ⊥
log-kind_7 is = true≢false (sym is.each.0.0)

pub ends-log : EndsAt (Some log) 53
ends-log = (
  one ∷ [],
  record { gate = 0; behind = []; closed = omega arith; bytes = refl; place = refl; each = ((refl, omega arith), tt) },
)

pub ends-not_before : EndsAt (Some []) 16 → ⊥
ends-not_before (es, is) =
    let size : 0 ≡ length (log_bytes es ++ is.gate ∷ is.behind) = ap (λ (l : List ℕ). length l) is.bytes in
    omega (arith, size, length-append (log_bytes es) (is.gate ∷ is.behind))

pub ends-untold : EndsAt None 5
ends-untold = tt

-- ---- what is read

pub reads-other_place : Reads log 16 (one ∷ []) 54 → ⊥
reads-other_place (group, body, (end, closed)) = omega (arith, end)

pub reads-other_body : Reads log 16 (record { kind = 1; body = replicate 27 0 } ∷ []) 53 → ⊥
reads-other_body (group, body, rest) =
    let first : 123 ≡ 0 = ap (λ (l : List ℕ). get_or l 0 0) body in omega (arith, first)

pub reads-other_kind : Reads log 16 (record { kind = 2; body = line } ∷ []) 53 → ⊥
reads-other_kind (group, body, rest) = cc

-- up to a gate that is closed, and no other
pub reads-open : Reads (set log 53 1) 16 (one ∷ []) 53 → ⊥
reads-open (group, body, (end, closed)) = cc

-- ---- what stands at a place, where the disk is told

pub stands-group : StandsAt (Some log) 16 (Whole 1 26 27 53)
stands-group = refl

pub stands-not_closed : StandsAt (Some log) 16 Closed → ⊥
stands-not_closed is = cc

pub spells-group : SpellsAt (Some log) 16 (Whole 1 26 27 53)
spells-group = refl

pub spells-other : SpellsAt (Some log) 16 (Whole 1 26 26 52) → ⊥
spells-other is = let last : 27 ≡ 26 = ap (λ (l : List ℕ). get_or l 7 0) is in omega (arith, last)

pub whether-log : SaysWhether (Some log) true
whether-log = refl

pub whether-not : SaysWhether (Some log) false → ⊥
whether-not is = true≢false (sym is)

-- ---- a group that is added

pub front-two : KeepsFront 1 (7 ∷ 8 ∷ []) (7 ∷ 9 ∷ [])
front-two = refl

pub front-changed : KeepsFront 2 (7 ∷ 8 ∷ []) (7 ∷ 9 ∷ []) → ⊥
front-changed is = let second : 9 ≡ 8 = ap (λ (l : List ℕ). get_or l 1 0) is in omega (arith, second)

abbrev empty : IsLog empty_log [] 16
empty = record { gate = 0; behind = []; closed = omega arith; bytes = refl; place = refl; each = tt }

-- a log of no group grows to one that has it, and not to itself
pub adds-none : Adds 16 one empty_log empty_log → ⊥
adds-none adds = log-none_there (adds [] empty)

pub added-none : Added (Some empty_log) (Some empty_log) 16 one → ⊥
added-none (image, is, adds) =
    let same : empty_log ≡ image = ap (λ (o : Option (List ℕ)). unwrap_or o []) is in
    adds-none (subst (λ (l : List ℕ). Adds 16 one empty_log l) (sym same) adds)

pub added-untold : Added None None 16 one
added-untold = refl

pub added-told : Added None (Some log) 16 one → ⊥
added-told is = cc

pub keeps-empty : AddsOrKeeps 16 one empty_log empty_log
keeps-empty es is = inl is

-- neither the log before nor the one behind: the gate is open, and the group is not whole
pub keeps-torn : AddsOrKeeps 16 one empty_log (header ++ 1 ∷ []) → ⊥
keeps-torn adds = elim (adds [] empty) as (λ _. ⊥) [ inl is ↦ log-open is | inr is ↦ log-torn is ]

-- ---- the making of a log

pub short-17 : IsShort (replicate 17 7)
short-17 = (omega arith, refl)

pub short-not_18 : IsShort long → ⊥
short-not_18 is = omega (arith, is.0)

pub makes-same : Makes long long
makes-same = inl refl

pub makes-short : Makes long (replicate 17 7)
makes-short = inr (inl (omega arith, refl))

pub makes-log : Makes long empty_log
makes-log = inr (inr refl)

-- an image is not made another one of 18 bytes
pub makes-other : Makes long (replicate 18 8) → ⊥
makes-other (inl is) = let first : 8 ≡ 7 = ap (λ (l : List ℕ). get_or l 0 0) is in omega (arith, first)
makes-other (inr (inl is)) = omega (arith, is.0)
makes-other (inr (inr is)) = let first : 8 ≡ 1 = ap (λ (l : List ℕ). get_or l 0 0) is in omega (arith, first)

pub free-made : MakesIfFree [] empty_log
free-made = inr (refl, inr refl)

-- one that was not to be made a log is not even cut
pub free-barred : MakesIfFree long [] → ⊥
free-barred (inl is) = let size : 0 ≡ 18 = ap (λ (l : List ℕ). length l) is in omega (arith, size)
free-barred (inr (bar, is)) = cc

pub made-log : IsMade (Some []) (Some empty_log)
made-log = refl

pub made-not : IsMade (Some []) (Some []) → ⊥
made-not is = cc

-- ---- what the making answers

abbrev end : LogEnd
end = record { at = 16 }

pub judges-free : JudgesTold (Some []) (Ok end)
judges-free = refl

pub judges-free_only : JudgesTold (Some long) (Ok end) → ⊥
judges-free_only is = cc

pub judges-longer : JudgesTold (Some long) (Err fault.NotALog)
judges-longer = refl

pub judges-not_longer : JudgesTold (Some []) (Err fault.NotALog) → ⊥
judges-not_longer is = cc

pub judges-log : JudgesTold (Some empty_log) (Err fault.AlreadyALog)
judges-log = refl

pub judges-no_log : JudgesTold (Some long) (Err fault.AlreadyALog) → ⊥
judges-no_log is = cc

pub spares-longer : Spares (Err fault.NotALog) ⊥ → ⊥
spares-longer is = is

pub spares-log : Spares (Err fault.AlreadyALog) ⊥ → ⊥
spares-log is = is

pub no_failure-failed : is_no_failure (Err fault.Failed) ≡ false
no_failure-failed = refl

pub no_failure-refused : is_no_failure (Err fault.NotALog) ≡ true
no_failure-refused = refl
