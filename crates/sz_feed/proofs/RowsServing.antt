-- Worked rows of what a session tells in the middle and by its endings: each is found by computing.
use Rattle.std.specs.Prelude.{◌≡◌, ℕ, List, [], ◌∷◌, ◌++◌, codes, Option, None, Some, drop, replicate}
use Rattle.std.specs.Fmt.{digits}
use Rattle.std.specs.Str.{is_utf8, chars}
use Rattle.std.proofs.Common.{refl, arith}
use Rattle.serde_json.proofs.OnLiterals.{serde_json_on_literals}
use Rattle.sz_commands.specs.Lines.{cut}
use Rattle.sz_feed.specs.Moments.{Moment, moment_before, told_in, moment_after, told_at_end}
use Rattle.sz_feed.specs.Serving.{Done, SaidOfRead, SaidToLimit, SaidInPart, SaidInLines}
use Rattle.sz_commands.specs.States.{nothing_held}
use Rattle.sz_feed.specs.Serving.{IsWithinLimit}
use Rattle.sz_feed.specs.Serving.{IsPastLimit}
use Rattle.sz_log.specs.Log.{empty_log, header}
use Rattle.sz_log.specs.declared.LogFault.{LogFault}
use Rattle.sz_log.specs.declared.LogFault.TheVariants as log
use Rattle.sz_feed.specs.Making.{ready_line, HasBar, IsFree, IfBarred}

-- ---- the cut

cut-two : cut (codes "a" ++ 10 ∷ 10 ∷ codes "bc") ≡ record { whole = codes "a" ∷ [] ∷ []; last = codes "bc" }
cut-two = refl

cut-none : cut (codes "ab") ≡ record { whole = []; last = codes "ab" }
cut-none = refl

cut-all : cut (codes "ab" ++ 10 ∷ []) ≡ record { whole = codes "ab" ∷ []; last = [] }
cut-all = refl

-- ---- in the third line, of which one byte was read

abbrev middle : Moment
middle = record { held = nothing_held; pending = codes "{"; number = 3; end = None }

told-none : told_in middle (codes "{") ≡ []
told-none = refl

told-two : told_in middle (codes "x" ++ 10 ∷ codes "{" ++ 10 ∷ codes "{")
    ≡ codes "3 refused 1" ++ 10 ∷ codes "4 refused 1" ++ 10 ∷ []
unfolding serde_json_on_literals is_utf8 chars digits
told-two = refl

after-two : moment_after middle (codes "x" ++ 10 ∷ codes "{" ++ 10 ∷ codes "y")
    ≡ record { held = nothing_held; pending = codes "y"; number = 5; end = None }
unfolding serde_json_on_literals is_utf8 chars
after-two = refl

end-open : told_at_end middle ≡ codes "3 refused 1" ++ 10 ∷ []
unfolding serde_json_on_literals is_utf8 chars digits
end-open = refl

end-none : told_at_end (moment_before nothing_held) ≡ []
end-none = refl

-- ---- endings of a session of three lines that are no JSON, the last of which does not end

abbrev text : List ℕ
text = codes "{" ++ 10 ∷ codes "{" ++ 10 ∷ codes "{"

abbrev one : List ℕ
one = codes "1 refused 1" ++ 10 ∷ []

abbrev two : List ℕ
two = one ++ codes "2 refused 1" ++ 10 ∷ []

abbrev three : List ℕ
three = two ++ codes "3 refused 1" ++ 10 ∷ []

ends-done : Done nothing_held 5 (Some text) (Some []) (Some (codes "x")) (Some (codes "x" ++ three))
unfolding serde_json_on_literals is_utf8 chars digits
ends-done = (refl, omega arith, refl)

ends-not_done : (left said said' : Option (List ℕ)) → Done nothing_held 4 (Some text) left said said' → ⊥
ends-not_done left said said' h = omega (arith, h.1)

-- after four bytes two lines have ended
ends-read_fault : SaidOfRead nothing_held (Some text) (Some (codes "{")) (Some []) (Some two)
unfolding serde_json_on_literals is_utf8 chars digits
ends-read_fault = (4, omega arith, refl, refl)

-- of all five bytes too, and the third line has no reply
ends-read_fault_last : SaidOfRead nothing_held (Some text) (Some []) (Some []) (Some two)
unfolding serde_json_on_literals is_utf8 chars digits
ends-read_fault_last = (5, omega arith, refl, refl)

-- a limit of three bytes: the fourth is read, and the second line has no reply
ends-limit : SaidToLimit nothing_held 3 (Some text) (Some (codes "{")) (Some []) (Some one)
unfolding serde_json_on_literals is_utf8 chars digits
ends-limit = (omega arith, refl, refl)

ends-not_limit : (left said said' : Option (List ℕ)) → SaidToLimit nothing_held 5 (Some text) left said said' → ⊥
ends-not_limit left said said' h = omega (arith, h.0)

-- a part of a reply
ends-say_fault : SaidInPart nothing_held (Some text) (Some []) (Some (one ++ codes "2 re"))
unfolding serde_json_on_literals is_utf8 chars digits
ends-say_fault = (16, omega arith, refl)

-- whole replies alone
ends-no_memory : SaidInLines nothing_held (Some text) (Some []) (Some two)
unfolding serde_json_on_literals is_utf8 chars digits
ends-no_memory = record { many = 2; within = omega arith; says = refl }

within-five : IsWithinLimit 5 (Some text)
within-five = omega arith

within-untold : IsWithinLimit 5 None → ⊥
within-untold h = h

past-four : IsPastLimit 4 (Some text)
past-four = omega arith

-- ---- the making of a log

ready : ready_line ≡ 108 ∷ 111 ∷ 103 ∷ 32 ∷ 114 ∷ 101 ∷ 97 ∷ 100 ∷ 121 ∷ 10 ∷ []
ready = refl

free-untold : IsFree None → ⊥
free-untold h = h

free-empty : IsFree (Some [])
free-empty = refl

-- the title behind a closed gate
free-closed : IsFree (Some (0 ∷ drop 1 empty_log))
free-closed = refl

-- one byte more than a stop of the making leaves
bar-longer : HasBar (Some (replicate 18 7)) (Some log.NotALog)
bar-longer = refl

free-not_longer : IsFree (Some (replicate 18 7)) → ⊥
free-not_longer h = cc

bar-header : HasBar (Some header) (Some log.AlreadyALog)
bar-header = refl

bar-header_only : (IsSuch : LogFault → Type 0) → IfBarred (Some header) IsSuch → IsSuch log.AlreadyALog
bar-header_only IsSuch each = each log.AlreadyALog refl
