-- What a start is judged to, once its flow and its base arrays are found; and what a plan is, once a start is judged.
--
-- The key idea: a rule that does not hold is passed over, and the first that holds is the answer.
use Rattle.std.proofs.Common.{◌≡◌, ℕ, Bool, true, false, not, ◌==◌, List, [], ◌∷◌, length, if◌then◌else◌}
use Rattle.std.proofs.Common.{Option, Some, None, is_none, is_some, unwrap_or, refl, ap, sym, ◌∙◌, true≢false}
use Rattle.std.specs.Prelude.{Result, Ok, Err}
use Rattle.std.specs.Result.{result_err, result_unwrap_or}
use Rattle.sz_cells.specs.Extent.{Extent}
use Rattle.sz_spec.specs.FlowShapes.{output_shapes}
use Rattle.sz_script.specs.declared.command.BaseName.{BaseName}
use Rattle.sz_script.specs.declared.command.Command.TheVariants as command
use Rattle.sz_script.specs.declared.refusal.Refusal.{Refusal}
use Rattle.sz_script.specs.declared.refusal.Refusal.TheVariants as rule
use Rattle.sz_catalogue.specs.Holdings.{Workflow, Holdings, flow_named, no_workflow, shapes_of, cells_of}
use Rattle.sz_catalogue.specs.Starts.{bases_of}
use Rattle.sz_catalogue.specs.Rules.{first_of, judged, has_no_array, has_no_room_for_outputs, has_no_flow}
use Rattle.sz_catalogue.specs.Rules.{has_wrong_base, has_broken_shapes, first_broken, has_no_room_for_version}
use Rattle.sz_catalogue.specs.Rules.{has_too_many_units}
use Rattle.sz_catalogue.specs.Kept.{refusal_by, is_open}

-- ---- a start

pub passes : (b : Bool) (r : Refusal) (rest : List (Bool × Refusal)) → b ≡ false
    → first_of ((b, r) ∷ rest) ≡ first_of rest
passes true r rest h = (cc)
passes false r rest h = refl

-- the rules of shapes, whatever is found, and the first of them
abbrev found-rules : Holdings → Result (List Extent) ℕ → List (Bool × Refusal)
found-rules c found =
    (is_some (result_err found), rule.ShapesDoNotFit (unwrap_or (result_err found) 0))
    ∷ (has_no_room_for_outputs c (cells_of (result_unwrap_or found [])), rule.NoRoomForVersion) ∷ []

only : (b : Bool) (r : Refusal) → first_of ((b, r) ∷ []) ≡ (if b then Some r else None)
only true r = refl
only false r = refl

found-first : (c : Holdings) (found : Result (List Extent) ℕ) → first_of (found-rules c found) ≡ refusal_by c found
found-first c (Err n) = refl
found-first c (Ok outputs) = only (has_no_room_for_outputs c (cells_of outputs)) rule.NoRoomForVersion

-- the rules of a start, whatever is held under the flow's name
abbrev rules-from : Holdings → List BaseName → Option Workflow → List (Bool × Refusal)
rules-from c base o =
    (is_none o, rule.NoSuchFlow) ∷ (has_no_array c base, rule.NoSuchArray)
    ∷ (not (length base == (unwrap_or o no_workflow).graph.inputs), rule.WrongBase)
    ∷ found-rules c (output_shapes (unwrap_or o no_workflow).graph (shapes_of (bases_of c base)))

pub start-shapes : (c : Holdings) (name : List ℕ) (base : List BaseName) (w : Workflow) → flow_named c name ≡ Some w
    → has_no_array c base ≡ false → (length base == w.graph.inputs) ≡ true
    → judged c (command.Start name base) ≡ refusal_by c (output_shapes w.graph (shapes_of (bases_of c base)))
start-shapes c name base w some held count =
    let found = output_shapes w.graph (shapes_of (bases_of c base)) in
    ap (λ (o : Option Workflow). first_of (rules-from c base o)) some
    ∙ passes (has_no_array c base) rule.NoSuchArray
    ((not (length base == w.graph.inputs), rule.WrongBase) ∷ found-rules c found) held
    ∙ passes (not (length base == w.graph.inputs)) rule.WrongBase (found-rules c found) (ap not count)
    ∙ found-first c found

-- ---- a plan

-- the rules of a start and of a plan: those on the flow and on its base arrays, and one behind them
abbrev five : Bool → Bool → Bool → Bool → ℕ → Bool × Refusal → List (Bool × Refusal)
five a b d e n last =
    (a, rule.NoSuchFlow) ∷ (b, rule.NoSuchArray) ∷ (d, rule.WrongBase) ∷ (e, rule.ShapesDoNotFit n) ∷ last ∷ []

shut : {A : Type 0} (o p : Option Refusal) → is_open o ≡ false → o ≡ p → is_open p ≡ true → A
shut o p off same on = absurd (true≢false (sym on ∙ ap is_open (sym same) ∙ off))

five-open : (a b d e f u : Bool) (n : ℕ) (o : Option Refusal) → is_open o ≡ true
    → first_of (five a b d e n (f, rule.NoRoomForVersion)) ≡ o
    → first_of (five a b d e n (u, rule.TooManyUnits)) ≡ first_of ((u, rule.TooManyUnits) ∷ [])
five-open true b d e f u n o on is = shut (Some rule.NoSuchFlow) o refl is on
five-open false true d e f u n o on is = shut (Some rule.NoSuchArray) o refl is on
five-open false false true e f u n o on is = shut (Some rule.WrongBase) o refl is on
five-open false false false true f u n o on is = shut (Some (rule.ShapesDoNotFit n)) o refl is on
five-open false false false false f u n o on is = refl

five-shut : (a b d e f u : Bool) (n : ℕ) (o : Option Refusal) → is_open o ≡ false
    → first_of (five a b d e n (f, rule.NoRoomForVersion)) ≡ o
    → first_of (five a b d e n (u, rule.TooManyUnits)) ≡ o
five-shut true b d e f u n o off is = is
five-shut false true d e f u n o off is = is
five-shut false false true e f u n o off is = is
five-shut false false false true f u n o off is = is
five-shut false false false false true u n o off is = shut o (Some rule.NoRoomForVersion) off (sym is) refl
five-shut false false false false false u n o off is = shut o None off (sym is) refl

-- where want of room alone could refuse a start, a plan is refused by its units alone
pub plan-by_units : (c : Holdings) (name : List ℕ) (base : List BaseName) (units back forward : ℕ) (o : Option Refusal)
    → is_open o ≡ true → o ≡ judged c (command.Start name base)
    → judged c (command.Plan name base units back forward)
    ≡ first_of ((has_too_many_units units, rule.TooManyUnits) ∷ [])
plan-by_units c name base units back forward o on is =
    five-open (has_no_flow c name) (has_no_array c base) (has_wrong_base c name base) (has_broken_shapes c name base)
    (has_no_room_for_version c name base) (has_too_many_units units) (first_broken c name base) o on (sym is)

-- and else by what refuses the start
pub plan-as_start : (c : Holdings) (name : List ℕ) (base : List BaseName) (units back forward : ℕ) (o : Option Refusal)
    → is_open o ≡ false → o ≡ judged c (command.Start name base)
    → judged c (command.Plan name base units back forward) ≡ o
plan-as_start c name base units back forward o off is =
    five-shut (has_no_flow c name) (has_no_array c base) (has_wrong_base c name base) (has_broken_shapes c name base)
    (has_no_room_for_version c name base) (has_too_many_units units) (first_broken c name base) o off (sym is)
