-- Small logs worked by hand, each the same as what the definitions compute, and cases that they must refuse.
--
-- The key idea: on written-out bytes every definition is a computation, so a row that holds is its own proof, and
-- a row that does not holds two different values equal.
use Rattle.std.proofs.Common.{◌≡◌, ℕ, true, false, None, Some, List, [], ◌∷◌, ◌++◌, refl, length, take, drop}
use Rattle.std.proofs.Common.{set, replicate, arith, ap, get_or}
use Rattle.sz_log.specs.Log.{LogGroup, IsLog, empty_log, header, begins_as_log, bar_to, log_bytes}
use Rattle.sz_log.specs.Places.{group_on, SpellsLength}
use Rattle.sz_log.specs.Steps.{IsShort, place_behind}
use Rattle.sz_log.specs.Laws.{Reads}
use Rattle.sz_log.specs.declared.LogFault.TheVariants as fault
use Rattle.sz_log.specs.declared.groups.Group.TheVariants.{Closed, Whole, Bad}

-- the empty log: 01 53 75 62 5a 65 72 6f 20 6c 6f 67 20 31 0d 0a 00
pub empty : empty_log
    ≡ 1 ∷ 83 ∷ 117 ∷ 98 ∷ 90 ∷ 101 ∷ 114 ∷ 111 ∷ 32 ∷ 108 ∷ 111 ∷ 103 ∷ 32 ∷ 49 ∷ 13 ∷ 10 ∷ 0 ∷ []
empty = refl

-- the line `{"array":"a","cells":[[5]]}`
abbrev pub line : List ℕ
line =
    123 ∷ 34 ∷ 97 ∷ 114 ∷ 114 ∷ 97 ∷ 121 ∷ 34 ∷ 58 ∷ 34 ∷ 97 ∷ 34 ∷ 44 ∷ 34 ∷ 99 ∷ 101 ∷ 108 ∷ 108 ∷ 115 ∷ 34
    ∷ 58 ∷ 91 ∷ 91 ∷ 53 ∷ 93 ∷ 93 ∷ 125 ∷ []

abbrev pub one : LogGroup
one = record { kind = 1; body = line }

-- the log of 54 bytes that has it as its one group
abbrev pub log : List ℕ
log =
    1 ∷ 83 ∷ 117 ∷ 98 ∷ 90 ∷ 101 ∷ 114 ∷ 111 ∷ 32 ∷ 108 ∷ 111 ∷ 103 ∷ 32 ∷ 49 ∷ 13 ∷ 10 ∷ 1 ∷ 1 ∷ 0 ∷ 0 ∷ 0 ∷ 0
    ∷ 0 ∷ 0 ∷ 0 ∷ 27 ∷ 123 ∷ 34 ∷ 97 ∷ 114 ∷ 114 ∷ 97 ∷ 121 ∷ 34 ∷ 58 ∷ 34 ∷ 97 ∷ 34 ∷ 44 ∷ 34 ∷ 99 ∷ 101 ∷ 108
    ∷ 108 ∷ 115 ∷ 34 ∷ 58 ∷ 91 ∷ 91 ∷ 53 ∷ 93 ∷ 93 ∷ 125 ∷ 0 ∷ []

pub log-size : length log ≡ 54
log-size = refl

pub log-spelled : log_bytes (one ∷ []) ++ 0 ∷ [] ≡ log
log-spelled = refl

pub log-behind : place_behind 16 one ≡ 53
log-behind = refl

pub log-held : IsLog log (one ∷ []) 53
log-held =
    record { gate = 0; behind = []; closed = omega arith; bytes = refl; place = refl; each = ((refl, omega arith), tt) }

pub log-group : group_on log 16 ≡ Whole 1 26 27 53
log-group = refl

pub log-gate : group_on log 53 ≡ Closed
log-gate = refl

pub log-end : group_on log 54 ≡ Bad
log-end = refl

-- its length of 27 is spelled by eight bytes from byte 18 on, and no other length is
pub log-spells : SpellsLength log 16 (Whole 1 26 27 53)
log-spells = refl

pub log-spells-none : SpellsLength log 16 (Whole 1 26 26 52) → ⊥
log-spells-none is = let last : 27 ≡ 26 = ap (λ (l : List ℕ). get_or l 7 0) is in omega (arith, last)

-- cut to 40 bytes it is bad at 16, and cut to 53 bytes at 53
pub cut_within : group_on (take 40 log) 16 ≡ Bad
cut_within = refl

pub cut_at_gate : group_on (take 53 log) 16 ≡ Whole 1 26 27 53
cut_at_gate = refl

pub cut_before_gate : group_on (take 53 log) 53 ≡ Bad
cut_before_gate = refl

pub cut_one_less : group_on (take 52 log) 16 ≡ Bad
cut_one_less = refl

pub cut_behind_gate : group_on (take 17 log) 16 ≡ Bad
cut_behind_gate = refl

pub cut_within_length : group_on (take 25 log) 16 ≡ Bad
cut_within_length = refl

-- with byte 16 set to 0 it holds nothing, whatever stands behind; so with any gate but 1
pub gate_closed : group_on (set log 16 0) 16 ≡ Closed
gate_closed = refl

pub gate_2 : group_on (set log 16 2) 16 ≡ Closed
gate_2 = refl

pub gate_255 : group_on (set log 16 255) 16 ≡ Closed
gate_255 = refl

pub closed-held : IsLog (set log 16 0) [] 16
closed-held =
    record { gate = 0; behind = drop 17 log; closed = omega arith; bytes = refl; place = refl; each = tt }

-- a group is bad whose kind is none, or whose length is of the wrong end or the greatest number
pub kind_0 : group_on (set log 17 0) 16 ≡ Bad
kind_0 = refl

pub kind_4 : group_on (set log 17 4) 16 ≡ Whole 4 26 27 53
kind_4 = refl

pub kind_5 : group_on (set log 17 5) 16 ≡ Whole 5 26 27 53
kind_5 = refl

pub kind_6 : group_on (set log 17 6) 16 ≡ Whole 6 26 27 53
kind_6 = refl

pub kind_7 : group_on (set log 17 7) 16 ≡ Bad
kind_7 = refl

pub kind_255 : group_on (set log 17 255) 16 ≡ Bad
kind_255 = refl

pub length_reversed : group_on (set (set log 18 27) 25 0) 16 ≡ Bad
length_reversed = refl

pub length_one_more : group_on (set log 25 28) 16 ≡ Whole 1 26 28 54
length_one_more = refl

pub length_two_more : group_on (set log 25 29) 16 ≡ Bad
length_two_more = refl

pub length_greatest : group_on (header ++ 1 ∷ 1 ∷ replicate 8 255 ++ line) 16 ≡ Bad
length_greatest = refl

pub length_0 : group_on (set log 25 0) 16 ≡ Whole 1 26 0 26
length_0 = refl

-- a disk begins as a log by 16 bytes
pub begins : begins_as_log (take 16 log) ≡ true
begins = refl

pub begins-cut : begins_as_log (take 15 log) ≡ false
begins-cut = refl

pub begins-closed : begins_as_log (set log 0 0) ≡ false
begins-closed = refl

pub begins-changed : begins_as_log (set log 15 13) ≡ false
begins-changed = refl

-- what is made a log: no log, and at most 17 bytes
pub bar-nothing : bar_to [] ≡ None
bar-nothing = refl

pub bar-17 : bar_to (replicate 17 7) ≡ None
bar-17 = refl

pub bar-18 : bar_to (replicate 18 7) ≡ Some fault.NotALog
bar-18 = refl

pub bar-empty : bar_to empty_log ≡ Some fault.AlreadyALog
bar-empty = refl

pub bar-header : bar_to header ≡ Some fault.AlreadyALog
bar-header = refl

pub bar-closed : bar_to (set empty_log 0 0) ≡ None
bar-closed = refl

pub bar-log : bar_to log ≡ Some fault.AlreadyALog
bar-log = refl

-- short and no log is what a stop leaves before the gate is opened, and not the empty log
pub short-closed : IsShort (set empty_log 0 0)
short-closed = (omega arith, refl)

pub short-empty : IsShort empty_log → ⊥
short-empty (few, is) = let e = is in cc

-- the groups are those that are read
pub reads : Reads log 16 (one ∷ []) 53
reads = (refl, refl, (refl, refl))

pub reads-none : Reads log 16 [] 16 → ⊥
reads-none (here, closed) = let e = closed in cc
