-- The laws of reading a line. The key idea: a reading is a chain of tests, so each result tells which of them held; a
-- result that comes only of a draft leads back to the draft.
use Rattle.std.proofs.Common.{◌≡◌, ℕ, ◌<◌, ◌≤◌, List, length, Bool, true, false, not, ◌&&◌, Option, Some, None}
use Rattle.std.proofs.Common.{ap, ◌∙◌, refl, sym, arith, true≢false, is_none}
use Rattle.std.specs.Prelude.{◌↔◌, nat_lt, if◌then◌else◌, Result, Ok, Err}
use Rattle.std.specs.List.{list_all}
use Rattle.std.proofs.lemmas.Bool.{ltb-true, ltb-false, lt-ltb, le-ltb}
use Rattle.serde_json.specs.Data.{Data}
use Rattle.sz_spec.specs.declared.flow.FlowFault.{FlowFault}
use Rattle.sz_spec.specs.declared.modes.Strategy.{Strategy}
use Rattle.sz_spec.specs.declared.modes.Strategy.TheVariants as strategy
use Rattle.sz_script.specs.Names.{is_name}
use Rattle.sz_script.specs.Right.{names_in, fault_in, is_right}
use Rattle.sz_script.specs.Words.{name_of_strategy, strategy_named}
use Rattle.sz_script.specs.Drafts.{Draft, has_bad_name, has_bad_cells, has_too_many_cells, unless_fault}
use Rattle.sz_script.specs.Drafts.{reading_of_draft, reading_of_form}
use Rattle.sz_script.specs.Forms.{draft_of}
use Rattle.sz_script.specs.Reading.{line_limit, json_of, reading_of_json, reading}
use Rattle.sz_script.specs.Laws.{Says, PassesUpToFlow, is_of_lines}
use Rattle.sz_script.specs.declared.command.Command.{Command}
use Rattle.sz_script.specs.declared.refusal.Refusal.{Refusal}
use Rattle.sz_script.specs.declared.refusal.Refusal.TheVariants as refusal

-- ---- results apart

abbrev Read : Type 0
Read = Result Command Refusal

-- a result's rank among the tests
abbrev rank : Read → ℕ
rank (Ok c) = 9
rank (Err refusal.TooLong) = 2
rank (Err refusal.NoJson) = 1
rank (Err refusal.NoForm) = 3
rank (Err refusal.BadName) = 4
rank (Err refusal.BadCells) = 5
rank (Err refusal.TooManyCells) = 6
rank (Err (refusal.BadFlow fault)) = 8
rank (Err _) = 0

-- results of other ranks are not one
apart : {A : Type 0} (r s : Read) → (rank r ≡ rank s → ⊥) → r ≡ s → A
apart r s ne e = absurd (ne (ap rank e))

-- ---- the draft of a result that comes of one

abbrev is_past_form : Read → Bool
is_past_form (Err refusal.TooLong) = false
is_past_form (Err refusal.NoJson) = false
is_past_form (Err refusal.NoForm) = false
is_past_form _ = true

other : {A : Type 0} (r v : Read) → is_past_form r ≡ false → is_past_form v ≡ true → r ≡ v → A
other r v early later e = absurd (true≢false (sym later ∙ ap is_past_form (sym e) ∙ early))

of_draft : (o : Option Draft) (v : Read) → is_past_form v ≡ true → reading_of_form o ≡ v
    → (x : Draft) × (o ≡ Some x) × (reading_of_draft x ≡ v)
of_draft None v h e = other (Err refusal.NoForm) v refl h e
of_draft (Some x) v h e = (x, refl, e)

abbrev read_by : Bool → Option Data → Read
read_by long j = if long then Err refusal.TooLong else reading_of_json j

of_json : (long : Bool) (j : Option Data) (v : Read) → is_past_form v ≡ true → read_by long j ≡ v
    → (long ≡ false) × (d : Data) × (j ≡ Some d) × (x : Draft) × (draft_of d ≡ Some x) × (reading_of_draft x ≡ v)
of_json true j v h e = other (Err refusal.TooLong) v refl h e
of_json false None v h e = other (Err refusal.NoJson) v refl h e
of_json false (Some d) v h e = let t = of_draft (draft_of d) v h e in (refl, d, refl, t.0, t.1, t.2)

through : (line : List ℕ) (v : Read) → is_past_form v ≡ true → reading line ≡ v
    → (x : Draft) × Says line x × (reading_of_draft x ≡ v)
through line v h e =
    let t = of_json (nat_lt line_limit (length line)) (json_of line) v h e in (
      t.3,
      record { short = ltb-false line_limit (length line) t.0; value = t.1; json = t.2; form = t.4 },
      t.5,
    )

back : (line : List ℕ) (x : Draft) (v : Read) → Says line x → reading_of_draft x ≡ v → reading line ≡ v
back line x v s e =
    ap (λ (b : Bool). read_by b (json_of line)) (le-ltb line_limit (length line) s.short)
    ∙ ap (λ (j : Option Data). reading_of_json j) s.json
    ∙ ap reading_of_form s.form ∙ e

-- ---- the tests of a draft, one after another

abbrev tests : Bool → Bool → Bool → Option FlowFault → Command → Read
tests n b m f c = if n then Err refusal.BadName else if b then Err refusal.BadCells
    else if m then Err refusal.TooManyCells else unless_fault f c

name-held : (n b m : Bool) (f : Option FlowFault) (c : Command) → tests n b m f c ≡ Err refusal.BadName
    → n ≡ true
name-held true b m f c e = refl
name-held false true m f c e = cc
name-held false false true f c e = cc
name-held false false false None c e = cc
name-held false false false (Some g) c e = cc

cells-held : (n b m : Bool) (f : Option FlowFault) (c : Command) → tests n b m f c ≡ Err refusal.BadCells
    → (n ≡ false) × (b ≡ true)
cells-held true b m f c e = cc
cells-held false true m f c e = (refl, refl)
cells-held false false true f c e = cc
cells-held false false false None c e = cc
cells-held false false false (Some g) c e = cc

many-held : (n b m : Bool) (f : Option FlowFault) (c : Command) → tests n b m f c ≡ Err refusal.TooManyCells
    → (n ≡ false) × (b ≡ false) × (m ≡ true)
many-held true b m f c e = cc
many-held false true m f c e = cc
many-held false false true f c e = (refl, refl, refl)
many-held false false false None c e = cc
many-held false false false (Some g) c e = cc

flow-held : (n b m : Bool) (f : Option FlowFault) (c : Command) (g : FlowFault)
    → tests n b m f c ≡ Err (refusal.BadFlow g)
    → (n ≡ false) × (b ≡ false) × (m ≡ false) × (f ≡ Some g)
flow-held true b m f c g e = cc
flow-held false true m f c g e = cc
flow-held false false true f c g e = cc
flow-held false false false None c g e = cc
flow-held false false false (Some h) c g e = (refl, refl, refl, cc)

none-held : (n b m : Bool) (f : Option FlowFault) (c k : Command) → tests n b m f c ≡ Ok k
    → (n ≡ false) × (b ≡ false) × (m ≡ false) × (f ≡ None) × (c ≡ k)
none-held true b m f c k e = cc
none-held false true m f c k e = cc
none-held false false true f c k e = cc
none-held false false false None c k e = (refl, refl, refl, refl, cc)
none-held false false false (Some h) c k e = cc

reading_by : (x : Draft) (n b m : Bool) (f : Option FlowFault) → has_bad_name x ≡ n → has_bad_cells x ≡ b
    → has_too_many_cells x ≡ m → fault_in x.command ≡ f → reading_of_draft x ≡ tests n b m f x.command
reading_by x n b m f name cells many fault =
    ap (λ (y : Bool). tests y (has_bad_cells x) (has_too_many_cells x) (fault_in x.command) x.command) name
    ∙ ap (λ (y : Bool). tests n y (has_too_many_cells x) (fault_in x.command) x.command) cells
    ∙ ap (λ (y : Bool). tests n b y (fault_in x.command) x.command) many
    ∙ ap (λ (y : Option FlowFault). tests n b m y x.command) fault

-- ---- results that come of no draft

-- what is so of each result of the tests is so of what they give
each-tests : (p : Read → Bool) → p (Err refusal.BadName) ≡ true → p (Err refusal.BadCells) ≡ true
    → p (Err refusal.TooManyCells) ≡ true → ((c : Command) → p (Ok c) ≡ true)
    → ((g : FlowFault) → p (Err (refusal.BadFlow g)) ≡ true)
    → (n b m : Bool) (f : Option FlowFault) (c : Command) → p (tests n b m f c) ≡ true
each-tests p name cells many right fault true b m f c = name
each-tests p name cells many right fault false true m f c = cells
each-tests p name cells many right fault false false true f c = many
each-tests p name cells many right fault false false false None c = right c
each-tests p name cells many right fault false false false (Some g) c = fault g

reading_of_draft-later : (x : Draft) → is_past_form (reading_of_draft x) ≡ true
reading_of_draft-later x = each-tests is_past_form refl refl refl (λ c. refl) (λ g. refl)
    (has_bad_name x) (has_bad_cells x) (has_too_many_cells x) (fault_in x.command) x.command

drafted : (o : Option Draft) (v : Read) → is_past_form v ≡ false → reading_of_form o ≡ v
    → (o ≡ None) × (Err refusal.NoForm ≡ v)
drafted None v h e = (refl, e)
drafted (Some x) v h e = absurd (true≢false (sym (reading_of_draft-later x) ∙ ap is_past_form e ∙ h))

long-held : (long : Bool) (j : Option Data) → read_by long j ≡ Err refusal.TooLong → long ≡ true
long-held true j e = refl
long-held false None e = apart (Err refusal.NoJson) (Err refusal.TooLong) (λ same. omega (arith, same)) e
long-held false (Some d) e =
    apart (Err refusal.NoForm) (Err refusal.TooLong) (λ same. omega (arith, same))
    (drafted (draft_of d) (Err refusal.TooLong) refl e).1

json-held : (long : Bool) (j : Option Data) → read_by long j ≡ Err refusal.NoJson
    → (long ≡ false) × (j ≡ None)
json-held true j e = apart (Err refusal.TooLong) (Err refusal.NoJson) (λ same. omega (arith, same)) e
json-held false None e = (refl, refl)
json-held false (Some d) e =
    apart (Err refusal.NoForm) (Err refusal.NoJson) (λ same. omega (arith, same))
    (drafted (draft_of d) (Err refusal.NoJson) refl e).1

form-held : (long : Bool) (j : Option Data) → read_by long j ≡ Err refusal.NoForm
    → (long ≡ false) × (d : Data) × (j ≡ Some d) × (draft_of d ≡ None)
form-held true j e = apart (Err refusal.TooLong) (Err refusal.NoForm) (λ same. omega (arith, same)) e
form-held false None e = apart (Err refusal.NoJson) (Err refusal.NoForm) (λ same. omega (arith, same)) e
form-held false (Some d) e = (refl, d, refl, (drafted (draft_of d) (Err refusal.NoForm) refl e).0)

-- ---- the laws

pub too_long : (line : List ℕ) → (reading line ≡ Err refusal.TooLong) ↔ (33554432 < length line)
too_long line = (
  λ e. ltb-true line_limit (length line) (long-held (nat_lt line_limit (length line)) (json_of line) e),
  λ long. ap (λ (b : Bool). read_by b (json_of line)) (lt-ltb line_limit (length line) long),
)

pub no_json : (line : List ℕ)
    → (reading line ≡ Err refusal.NoJson) ↔ ((length line ≤ 33554432) × (json_of line ≡ None))
no_json line = (
  λ e. let t = json-held (nat_lt line_limit (length line)) (json_of line) e in
      (ltb-false line_limit (length line) t.0, t.1),
  λ h. ap (λ (b : Bool). read_by b (json_of line)) (le-ltb line_limit (length line) h.0)
      ∙ ap (λ (j : Option Data). reading_of_json j) h.1,
)

pub no_form : (line : List ℕ) → (reading line ≡ Err refusal.NoForm)
    ↔ ((length line ≤ 33554432) × (d : Data) × (json_of line ≡ Some d) × (draft_of d ≡ None))
no_form line = (
  λ e. let t = form-held (nat_lt line_limit (length line)) (json_of line) e in
      (ltb-false line_limit (length line) t.0, t.1, t.2, t.3),
  λ h. ap (λ (b : Bool). read_by b (json_of line)) (le-ltb line_limit (length line) h.0)
      ∙ ap (λ (j : Option Data). reading_of_json j) h.2 ∙ ap reading_of_form h.3,
)

pub bad_name : (line : List ℕ) → (reading line ≡ Err refusal.BadName)
    ↔ ((x : Draft) × Says line x × (has_bad_name x ≡ true))
bad_name line = (
  λ e. let t = through line (Err refusal.BadName) refl e in (
    t.0,
    t.1,
    name-held (has_bad_name t.0) (has_bad_cells t.0) (has_too_many_cells t.0) (fault_in t.0.command)
        t.0.command t.2,
  ),
  λ h. back line h.0 (Err refusal.BadName) h.1 (reading_by h.0 true _ _ _ h.2 refl refl refl),
)

pub bad_cells : (line : List ℕ) → (reading line ≡ Err refusal.BadCells)
    ↔ ((x : Draft) × Says line x × (has_bad_name x ≡ false) × (has_bad_cells x ≡ true))
bad_cells line = (
  λ e. let t = through line (Err refusal.BadCells) refl e in
      let h =
      cells-held (has_bad_name t.0) (has_bad_cells t.0) (has_too_many_cells t.0) (fault_in t.0.command)
      t.0.command t.2 in (t.0, t.1, h.0, h.1),
  λ h. back line h.0 (Err refusal.BadCells) h.1 (reading_by h.0 false true _ _ h.2 h.3 refl refl),
)

pub too_many_cells : (line : List ℕ) → (reading line ≡ Err refusal.TooManyCells)
    ↔ ((x : Draft) × Says line x × (has_bad_name x ≡ false) × (has_bad_cells x ≡ false)
    × (has_too_many_cells x ≡ true))
too_many_cells line = (
  λ e. let t = through line (Err refusal.TooManyCells) refl e in
      let h =
      many-held (has_bad_name t.0) (has_bad_cells t.0) (has_too_many_cells t.0) (fault_in t.0.command)
      t.0.command t.2 in (t.0, t.1, h.0, h.1, h.2),
  λ h. back line h.0 (Err refusal.TooManyCells) h.1 (reading_by h.0 false false true _ h.2 h.3 h.4 refl),
)

pub bad_flow : (line : List ℕ) (fault : FlowFault) → (reading line ≡ Err (refusal.BadFlow fault))
    ↔ ((x : Draft) × Says line x × PassesUpToFlow x × (fault_in x.command ≡ Some fault))
bad_flow line fault = (
  λ e. let t = through line (Err (refusal.BadFlow fault)) refl e in
      let h =
      flow-held (has_bad_name t.0) (has_bad_cells t.0) (has_too_many_cells t.0) (fault_in t.0.command)
      t.0.command fault t.2 in (t.0, t.1, record { names = h.0; cells = h.1; few = h.2 }, h.3),
  λ h. back line h.0 (Err (refusal.BadFlow fault)) h.1
      (reading_by h.0 false false false (Some fault) h.2.names h.2.cells h.2.few h.3),
)

pub read : (line : List ℕ) (c : Command) → (reading line ≡ Ok c)
    ↔ ((x : Draft) × Says line x × PassesUpToFlow x × (fault_in x.command ≡ None) × (x.command ≡ c))
read line c = (
  λ e. let t = through line (Ok c) refl e in
      let h =
      none-held (has_bad_name t.0) (has_bad_cells t.0) (has_too_many_cells t.0) (fault_in t.0.command)
      t.0.command c t.2 in (t.0, t.1, record { names = h.0; cells = h.1; few = h.2 }, h.3, h.4),
  λ h. back line h.0 (Ok c) h.1
      (reading_by h.0 false false false None h.2.names h.2.cells h.2.few h.3 ∙ ap (λ (k : Command). Ok k) h.4),
)

-- ---- what is read

-- a result is a command, or a refusal of lines
abbrev is_of_reading : Read → Bool
is_of_reading (Ok c) = true
is_of_reading (Err r) = is_of_lines r

drafts-own : (o : Option Draft) → is_of_reading (reading_of_form o) ≡ true
drafts-own None = refl
drafts-own (Some x) = each-tests is_of_reading refl refl refl (λ c. refl) (λ g. refl)
    (has_bad_name x) (has_bad_cells x) (has_too_many_cells x) (fault_in x.command) x.command

reads-own : (long : Bool) (j : Option Data) → is_of_reading (read_by long j) ≡ true
reads-own true j = refl
reads-own false None = refl
reads-own false (Some d) = drafts-own (draft_of d)

pub no_other : (line : List ℕ) (r : Refusal) → reading line ≡ Err r → is_of_lines r ≡ true
no_other line r e = ap is_of_reading (sym e) ∙ reads-own (nat_lt line_limit (length line)) (json_of line)

not-true : (b : Bool) → not b ≡ false → b ≡ true
not-true true e = refl
not-true false e = absurd (true≢false e)

pub are_right : (line : List ℕ) (c : Command) → reading line ≡ Ok c → is_right c ≡ true
are_right line c e =
    let h = (read line c).0 e in
    let names : list_all is_name (names_in h.0.command) ≡ true = not-true _ h.2.names in
    ap is_right (sym h.4) ∙ ap (λ (b : Bool). b && is_none (fault_in h.0.command)) names ∙ ap is_none h.3

pub words : (s : Strategy) → strategy_named (name_of_strategy s) ≡ Some s
words strategy.Map = refl
words strategy.FullOneB = refl
words strategy.FullOneF = refl
words strategy.FullManyB = refl
words strategy.FullManyF = refl
words strategy.PayOne = refl
words strategy.PayMany = refl
words strategy.CompOne = refl
words strategy.CompMany = refl
words strategy.BlackBox = refl
