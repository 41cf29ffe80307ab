-- The first rule that holds refuses.
--
-- The key idea: a list of rules is gone through, and either one holds, with none before it, or none does.
use Rattle.std.proofs.Common.{◌≡◌, Bool, true, false, List, [], ◌∷◌, ◌++◌, Some, None}
use Rattle.std.proofs.Common.{refl, ap, ◌∙◌}
use Rattle.sz_script.specs.declared.refusal.Refusal.{Refusal}
use Rattle.sz_catalogue.specs.Holdings.{next_number}
use Rattle.sz_catalogue.specs.Rules.{rules_of, first_of}
use Rattle.sz_catalogue.specs.Changes.{after_judging}
use Rattle.sz_catalogue.specs.Laws.{none_holds, RefusedCommandsChangeNothing, OtherCommandsAreTaken}
use Rattle.sz_catalogue.specs.Laws.{RefusalsAreTheFirst, FirstRulesRefuse, TakenCommandsBreakNoRule, NextNumbersAreNew}
use Rattle.sz_catalogue.proofs.Numbers.{next-is_new}
use Rattle.std.proofs.Common.{arith}

pub refused-nothing : RefusedCommandsChangeNothing
refused-nothing c command rule h = ap (after_judging c command) h

pub others-taken : OtherCommandsAreTaken
others-taken c command h = ap (after_judging c command) h

first-from : (rules : List (Bool × Refusal)) (rule : Refusal) → first_of rules ≡ Some rule
    → (before : List (Bool × Refusal)) × (after : List (Bool × Refusal))
    × (rules ≡ before ++ (true, rule) ∷ after) × (none_holds before ≡ true)
first-from [] rule h = (cc)
first-from ((true, r) ∷ rules) rule h =
    let same : r ≡ rule = (cc) in
    ([], rules, ap (λ (s : Refusal). (true, s) ∷ rules) same, refl)
first-from ((false, r) ∷ rules) rule h =
    let rest = first-from rules rule h in
    ((false, r) ∷ rest.0, rest.1, ap (λ (rs : List (Bool × Refusal)). (false, r) ∷ rs) rest.2, rest.3)

first-at : (before after : List (Bool × Refusal)) (rule : Refusal) → none_holds before ≡ true
    → first_of (before ++ (true, rule) ∷ after) ≡ Some rule
first-at [] after rule h = refl
first-at ((true, r) ∷ before) after rule h = (cc)
first-at ((false, r) ∷ before) after rule h = first-at before after rule h

none-to : (rules : List (Bool × Refusal)) → first_of rules ≡ None → none_holds rules ≡ true
none-to [] h = refl
none-to ((true, r) ∷ rules) h = (cc)
none-to ((false, r) ∷ rules) h = none-to rules h

none-from : (rules : List (Bool × Refusal)) → none_holds rules ≡ true → first_of rules ≡ None
none-from [] h = refl
none-from ((true, r) ∷ rules) h = (cc)
none-from ((false, r) ∷ rules) h = none-from rules h

pub refusals-first : RefusalsAreTheFirst
refusals-first c command rule h = first-from (rules_of c command) rule h

pub first-refuses : FirstRulesRefuse
first-refuses c command rule before after is none = ap first_of is ∙ first-at before after rule none

pub taken-break_none : TakenCommandsBreakNoRule
taken-break_none c command = (none-to (rules_of c command), none-from (rules_of c command))

pub next-new : NextNumbersAreNew
next-new c = next-is_new c.versions (next_number c) (omega arith)
