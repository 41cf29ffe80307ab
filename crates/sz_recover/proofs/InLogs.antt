-- What a log holds is in order. The key idea: a group acts as a command that is taken, or adds a version of what is
-- held.
use Rattle.std.proofs.Common.{◌≡◌, inl, inr, ℕ, List, [], ◌∷◌, length, refl, sym, ap, subst, ◌∙◌}
use Rattle.std.proofs.Common.{true, false, true≢false, Bool, ◌&&◌, not, ◌==◌, Option, Some, None, is_none, nat_le}
use Rattle.std.specs.Prelude.{if◌then◌else◌, ◌||◌, Result, Ok, Err}
use Rattle.std.specs.List.{list_any}
use Rattle.std.proofs.lemmas.Bool.{and_parts, eqb-true, not-true, not-false}
use Rattle.sz_script.specs.Reading.{reading}
use Rattle.sz_script.proofs.LawsLines.{are_right}
use Rattle.sz_script.specs.declared.command.Command.{Command}
use Rattle.sz_script.specs.declared.refusal.Refusal.{Refusal}
use Rattle.sz_catalogue.specs.Holdings.{Version, Holdings, no_holdings, version_numbered}
use Rattle.sz_catalogue.specs.Starts.{workflow_of}
use Rattle.sz_catalogue.specs.Rules as rules
use Rattle.sz_catalogue.specs.Rules.{judged}
use Rattle.sz_catalogue.specs.Changes.{accepted, with_version}
use Rattle.sz_log.specs.Log.{LogGroup}
use Rattle.sz_bodies.specs.Bodies.{VersionBody}
use Rattle.sz_bodies.specs.Fitting.{body_of}
use Rattle.sz_bodies.specs.Lawful.{IsLawful, version_said}
use Rattle.sz_recover.specs.Logs.{Kept, Acts, ActEach, is_of_kind, held_by}
use Rattle.sz_recover.specs.Growing.{IsVersionIn, IsInOrder, LogsAreInOrder, FormatsAreByGroups}
use Rattle.sz_recover.proofs.InOrder.{nothing-in-order, commands-keep, added-in-order, named-in}

none-of : {X : Type 0} (o : Option X) → is_none o ≡ true → o ≡ None
none-of None is = refl
none-of (Some x) is = absurd (true≢false (sym is))

-- a line
line-in-order : (c d : Holdings) (kind : ℕ) (line : List ℕ) (r : Result Command Refusal) → reading line ≡ r
    → IsInOrder c → held_by c kind r ≡ Some d → IsInOrder d
line-in-order c d kind line (Err rule) read order held = cc
line-in-order c d kind line (Ok x) read order held =
    by (is_of_kind kind x) (judged c x) refl held where
      by : (b : Bool) (o : Option Refusal) → judged c x ≡ o
          → (if b && is_none o then Some (accepted c x).0 else None) ≡ Some d → IsInOrder d
      by false o is here = cc
      by true (Some rule) is here = cc
      by true None is here =
          let same : (accepted c x).0 ≡ d = cc in
          subst IsInOrder same (commands-keep c x order (are_right line x read) is)

-- a lawful body says a version of what is held
pub lawful-version : (format : ℕ) (c : Holdings) (b : VersionBody) (bytes : List ℕ) → IsLawful format c b bytes
    → IsVersionIn c b.number (version_said c b)
lawful-version format c b bytes is =
    let number = and_parts (nat_le 1 b.number) (rules.has_no_version c b.number) is.number in
    let same = length b.base == (workflow_of c b.flow_name).graph.inputs in
    let count : length b.base ≡ (workflow_of c b.flow_name).graph.inputs =
    eqb-true (length b.base) (workflow_of c b.flow_name).graph.inputs
    (not-false same (not-true (not same) is.each)) in
    named-in c b.number b.flow_name b.base (version_said c b).lists true number.0 is.names
    (not-true (rules.has_no_flow c b.flow_name) is.flow) (not-true (rules.has_no_array c b.base) is.bases) count
    (not-true (rules.has_broken_shapes c b.flow_name b.base) is.shapes) is.lists

version-in-order : (format : ℕ) (c : Holdings) (b : VersionBody) (bytes : List ℕ) → IsInOrder c
    → IsLawful format c b bytes → IsInOrder (with_version c b.number (version_said c b))
version-in-order format c b bytes order is =
    let number = and_parts (nat_le 1 b.number) (rules.has_no_version c b.number) is.number in
    added-in-order c b.number (version_said c b) order (none-of (version_numbered c b.number) number.1) is.room
    (lawful-version format c b bytes is)

acts-in-order : (m n : ℕ) (c d : Holdings) (e : LogGroup) (kept : List Kept) → IsInOrder c → Acts m c e n d kept
    → IsInOrder d
acts-in-order m n c d e kept order (to, inl line) =
    line-in-order c d e.kind e.body (reading e.body) refl order line.held
acts-in-order m n c d e kept order (to, inr (inl v)) =
    let b : VersionBody = body_of v.one.number v.version v.one.stores in
    let made = version-in-order m c b e.body order v.lawful in
    subst IsInOrder (ap (λ (x : Version). with_version c v.one.number x) (sym v.said) ∙ sym v.held) made
acts-in-order m n c d e kept order (to, inr (inr u)) = subst IsInOrder (sym u.held) order

each-in-order : (m n : ℕ) (c d : Holdings) (es : List LogGroup) (kept : List Kept) → IsInOrder c
    → ActEach m c es n d kept → IsInOrder d
each-in-order m n c d [] kept order all = subst IsInOrder (sym all.1) order
each-in-order m n c d (e ∷ es) kept order all =
    each-in-order all.0 n all.1 d es all.3 (acts-in-order m all.0 c all.1 e all.2 order all.4) all.5

pub logs-in-order : LogsAreInOrder
logs-in-order disk at format c kept made =
    each-in-order 1 format no_holdings c made.entries kept nothing-in-order made.acts

-- ---- the format

-- the format behind groups
each-format : (m n : ℕ) (c d : Holdings) (es : List LogGroup) (kept : List Kept) → ActEach m c es n d kept
    → n ≡ (if list_any (λ e. e.kind == 5) es then 2 else m)
each-format m n c d [] kept all = all.0
each-format m n c d (e ∷ es) kept all =
    step (e.kind == 5) (list_any (λ x. x.kind == 5) es) all.4.0 (each-format all.0 n all.1 d es all.3 all.5)
  where
    step : (b t : Bool) → all.0 ≡ (if b then 2 else m) → n ≡ (if t then 2 else all.0)
        → n ≡ (if (b || t) then 2 else m)
    step true true here rest = rest
    step true false here rest = rest ∙ here
    step false true here rest = rest
    step false false here rest = rest ∙ here

pub formats-by-groups : FormatsAreByGroups
formats-by-groups disk at format c kept made = each-format 1 format no_holdings c made.entries kept made.acts
