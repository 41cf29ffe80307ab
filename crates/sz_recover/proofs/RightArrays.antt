-- An array that a line gives is within the limits. The key idea: it is made of the cells that the line gives, and a
-- line is read only where these are neither bad nor too many.
use Rattle.std.proofs.Common.{◌≡◌, ℕ, ◌*◌, ◌<◌, ◌≤◌, List, [], ◌∷◌, length, true, false, true≢false, Bool, not, ◌&&◌}
use Rattle.std.proofs.Common.{Option, Some, None, option_map, option_and_then, subst, refl, arith, nat_lt, nat_le}
use Rattle.std.specs.Prelude.{if◌then◌else◌, codes, Ok}
use Rattle.std.specs.List.{list_all}
use Rattle.std.proofs.lemmas.Bool.{and_parts, ltb-true, leb-true, ltb-false}
use Rattle.std.proofs.Math.Nat.{mul-pos}
use Rattle.sz_cells.specs.Extent.{is_extent}
use Rattle.sz_cells.proofs.Shapes.{within-sides, layered-is_extent}
use Rattle.sz_spec.specs.declared.modes.Strategy.{Strategy}
use Rattle.sz_script.specs.declared.command.BaseName.{BaseName}
use Rattle.sz_script.specs.declared.command.NewCell.{NewCell}
use Rattle.sz_script.specs.declared.command.Command.{Command}
use Rattle.sz_script.specs.declared.command.Command.TheVariants as command
use Rattle.sz_script.specs.Fields.{has_fields, at, list_at, number_in, list_in}
use Rattle.sz_script.specs.Form.{Form}
use Rattle.sz_script.specs.Drafts.{Draft, plain, has_bad_cells, has_too_many_cells}
use Rattle.sz_script.specs.Forms.{forms, draft_by}
use Rattle.sz_script.specs.Forms.Array.{array_form, one_layer, with_one_layer}
use Rattle.sz_script.specs.Forms.Csv.{csv_form, with_text}
use Rattle.sz_script.specs.Forms.Layers.{layers_form, with_layers}
use Rattle.sz_script.specs.Forms.Flow.{flow_form, with_flow}
use Rattle.sz_script.specs.Forms.Strategy.{strategy_form}
use Rattle.sz_script.specs.Forms.Start.{start_form, base_in, with_base}
use Rattle.sz_script.specs.Forms.Plan.{plan_form, within_units}
use Rattle.sz_script.specs.Forms.Refresh.{refresh_form, new_cell_in, with_set}
use Rattle.sz_script.specs.Forms.Merge.{merge_form}
use Rattle.sz_script.specs.Forms.Merged.{merged_form}
use Rattle.sz_script.specs.Forms.Await.{await_form}
use Rattle.sz_script.specs.Forms.Ask.{ask_form, as_ask}
use Rattle.sz_script.specs.Forms.Explain.{explain_form, as_explain}
use Rattle.sz_script.specs.Forms.Show.{show_form}
use Rattle.sz_script.specs.Layers as layers
use Rattle.sz_script.specs.Nodes.{node_in}
use Rattle.sz_script.specs.Questions.{question_in}
use Rattle.sz_script.specs.Reading.{reading}
use Rattle.sz_script.specs.Records as records
use Rattle.sz_script.specs.Words.{strategy_in}
use Rattle.sz_script.proofs.LawsLines.{read}

-- ---- cells that are neither bad nor too many

kept : (b : Bool) → not b ≡ false → b ≡ true
kept true is = refl
kept false is = absurd (true≢false is)

-- layers of them make a shape
layers-right : (ds : _) → layers.are_bad_cells ds ≡ false → layers.are_too_many_cells ds ≡ false
    → is_extent (layers.grid_of ds).extent ≡ true
layers-right ds bad many =
    let n = length ds in
    let h = layers.height_of ds in
    let w = layers.width_of ds in
    let all = and_parts (layers.are_counted ds) (list_all (layers.is_layer h w) ds) (kept (layers.are_layers ds) bad) in
    let wide = and_parts (nat_lt 0 n && nat_le n 16 && nat_lt 0 h) (nat_lt 0 w) all.0 in
    let high = and_parts (nat_lt 0 n && nat_le n 16) (nat_lt 0 h) wide.0 in
    let few = and_parts (nat_lt 0 n) (nat_le n 16) high.0 in
    layered-is_extent n h w
    (within-sides n h w (ltb-true 0 n few.0) (leb-true n 16 few.1)
    (mul-pos (ltb-true 0 n few.0) (ltb-true 0 h high.1)) (ltb-true 0 w wide.1)
    (ltb-false 1048576 ((n * h) * w) many))

-- and so do records of them
text-right : (text : List ℕ) → records.is_bad_text text ≡ false → records.has_too_many_fields text ≡ false
    → is_extent (records.grid_of_text text).extent ≡ true
text-right text bad many =
    let rows = records.records_in text in
    let n = length rows in
    let w = records.width_of rows in
    let all = and_parts (nat_lt 0 n && nat_lt 0 w) (list_all (records.is_row w) rows)
    (kept (records.are_rows rows) bad) in
    let some = and_parts (nat_lt 0 n) (nat_lt 0 w) all.0 in
    let high : 0 < n = ltb-true 0 n some.0 in
    let small : n * w ≤ 1048576 = ltb-false 1048576 (n * w) many in
    layered-is_extent 1 n w
    (within-sides 1 n w (omega arith) (omega arith) (omega (arith, high)) (ltb-true 0 w some.1)
    (omega (arith, small)))

-- ---- what a form says

-- the array of a command is within the limits
abbrev pub HasRightArray : Command → Type 0
HasRightArray (command.Array name array) = is_extent array.extent ≡ true
HasRightArray (command.Csv name array) = is_extent array.extent ≡ true
HasRightArray (command.Layers name array) = is_extent array.extent ≡ true
HasRightArray _ = Unit {0}

-- so is that of a draft, where the cells are neither bad nor too many
abbrev IsRightDraft : Draft → Type 0
IsRightDraft x = has_bad_cells x ≡ false → has_too_many_cells x ≡ false → HasRightArray x.command

-- what is so of each value that is mapped is so of the one that comes of it
mapped : {X Y : Type 0} (P : Y → Type 0) (f : X → Y) (o : Option X) (y : Y) → ((x : X) → P (f x))
    → option_map f o ≡ Some y → P y
mapped P f None y each is = let no : ⊥ = cc in absurd no
mapped P f (Some x) y each is = let same : f x ≡ y = cc in subst P same (each x)

-- and of each that a further value is found of
found : {X Y : Type 0} (P : Y → Type 0) (f : X → Option Y) (o : Option X) (y : Y) → ((x : X) → f x ≡ Some y → P y)
    → option_and_then f o ≡ Some y → P y
found P f None y each is = let no : ⊥ = cc in absurd no
found P f (Some x) y each is = each x is

-- a draft of a name and one more part
two-parts : {A : Type 0} (make : List ℕ → A → Draft) → ((name : List ℕ) (a : A) → IsRightDraft (make name a))
    → (name : Option (List ℕ)) (part : Option A) (x : Draft)
    → option_and_then (λ n. option_map (make n) part) name ≡ Some x → IsRightDraft x
two-parts {A} make each name part x is =
    found IsRightDraft (λ (n : List ℕ). option_map (make n) part) name x
    (λ n there. mapped IsRightDraft (make n) part x (each n) there) is

-- of a name, a number and one more part
three-parts : {A : Type 0} (make : List ℕ → ℕ → A → Draft)
    → ((name : List ℕ) (n : ℕ) (a : A) → IsRightDraft (make name n a)) → (name : Option (List ℕ)) (number : Option ℕ)
    → (part : Option A) (x : Draft)
    → option_and_then (λ n. option_and_then (λ k. option_map (make n k) part) number) name ≡ Some x → IsRightDraft x
three-parts {A} make each name number part x is =
    found IsRightDraft (λ (n : List ℕ). option_and_then (λ (k : ℕ). option_map (make n k) part) number) name x
    (λ n one. found IsRightDraft (λ (k : ℕ). option_map (make n k) part) number x
    (λ k two. mapped IsRightDraft (make n k) part x (each n k) two) one) is

array-draft : (d : _) (x : Draft) → array_form.draft d ≡ Some x → IsRightDraft x
array-draft d x is = two-parts with_one_layer (λ name ds. layers-right ds) _ (at one_layer (codes "cells") d) x is

csv-draft : (d : _) (x : Draft) → csv_form.draft d ≡ Some x → IsRightDraft x
csv-draft d x is = two-parts with_text (λ name text. text-right text) _ _ x is

layers-draft : (d : _) (x : Draft) → layers_form.draft d ≡ Some x → IsRightDraft x
layers-draft d x is = two-parts with_layers (λ name ds. layers-right ds) _ (at list_in (codes "cells") d) x is

flow-draft : (d : _) (x : Draft) → flow_form.draft d ≡ Some x → IsRightDraft x
flow-draft d x is =
    three-parts with_flow (λ name inputs nodes bad many. tt) _ (at number_in (codes "inputs") d)
    (list_at node_in (codes "nodes") d) x is

strategy-draft : (d : _) (x : Draft) → strategy_form.draft d ≡ Some x → IsRightDraft x
strategy-draft d x is =
    let make : List ℕ → ℕ → List Strategy → Draft = λ name node list. plain (command.Strategy name node list) in
    three-parts make (λ name node list bad many. tt) _ (at number_in (codes "node") d)
    (list_at strategy_in (codes "list") d) x is

start-draft : (d : _) (x : Draft) → start_form.draft d ≡ Some x → IsRightDraft x
start-draft d x is = two-parts with_base (λ name base bad many. tt) _ (list_at base_in (codes "base") d) x is

plan-draft : (d : _) (x : Draft) → plan_form.draft d ≡ Some x → IsRightDraft x
plan-draft d x is =
    let base : Option (List BaseName) = list_at base_in (codes "base") d in
    let units : Option ℕ = at number_in (codes "units") d in
    let back : Option ℕ = at number_in (codes "back") d in
    let forward : Option ℕ = at number_in (codes "forward") d in
    let from_back : List ℕ → List BaseName → ℕ → ℕ → Option Draft =
    λ name bases u b. option_map (within_units name bases u b) forward in
    let from_units : List ℕ → List BaseName → ℕ → Option Draft =
    λ name bases u. option_and_then (from_back name bases u) back in
    let from_base : List ℕ → List BaseName → Option Draft =
    λ name bases. option_and_then (from_units name bases) units in
    found IsRightDraft (λ (name : List ℕ). option_and_then (from_base name) base) _ x
    (λ name one. found IsRightDraft (from_base name) base x
    (λ bases two. found IsRightDraft (from_units name bases) units x
    (λ u three. found IsRightDraft (from_back name bases u) back x
    (λ b four. mapped IsRightDraft (within_units name bases u b) forward x (λ f bad many. tt) four) three) two) one) is

await-draft : (d : _) (x : Draft) → await_form.draft d ≡ Some x → IsRightDraft x
await-draft d x is =
    mapped IsRightDraft (λ (n : ℕ). plain (command.Await n)) (at number_in (codes "await") d) x (λ n bad many. tt) is

merge-draft : (d : _) (x : Draft) → merge_form.draft d ≡ Some x → IsRightDraft x
merge-draft d x is =
    mapped IsRightDraft (λ (n : ℕ). plain (command.Merge n)) (at number_in (codes "merge") d) x (λ n bad many. tt) is

merged-draft : (d : _) (x : Draft) → merged_form.draft d ≡ Some x → IsRightDraft x
merged-draft d x is =
    mapped IsRightDraft (λ (n : ℕ). plain (command.Merged n)) (at number_in (codes "merged") d) x (λ n bad many. tt) is

refresh-draft : (d : _) (x : Draft) → refresh_form.draft d ≡ Some x → IsRightDraft x
refresh-draft d x is =
    let set : Option (List NewCell) = list_at new_cell_in (codes "set") d in
    let input : Option ℕ = at number_in (codes "input") d in
    let from_version : ℕ → Option Draft =
    λ n. option_and_then (λ i. option_map (with_set n i) set) input in
    found IsRightDraft from_version (at number_in (codes "refresh") d) x
    (λ n one. found IsRightDraft (λ (i : ℕ). option_map (with_set n i) set) input x
    (λ i two. mapped IsRightDraft (with_set n i) set x (λ s bad many. tt) two) one) is

ask-draft : (d : _) (x : Draft) → ask_form.draft d ≡ Some x → IsRightDraft x
ask-draft d x is = mapped IsRightDraft as_ask (question_in (codes "ask") d) x (λ q bad many. tt) is

explain-draft : (d : _) (x : Draft) → explain_form.draft d ≡ Some x → IsRightDraft x
explain-draft d x is = mapped IsRightDraft as_explain (question_in (codes "explain") d) x (λ q bad many. tt) is

show-draft : (d : _) (x : Draft) → show_form.draft d ≡ Some x → IsRightDraft x
show-draft d x is =
    let make : ℕ → ℕ → Draft = λ n node. plain (command.Show n node) in
    let node : Option ℕ = at number_in (codes "node") d in
    found IsRightDraft (λ (n : ℕ). option_map (make n) node) (at number_in (codes "show") d) x
    (λ n there. mapped IsRightDraft (make n) node x (λ k bad many. tt) there) is

-- ---- the first form whose fields a value has

abbrev AreRightForms : List Form → Type 0
AreRightForms [] = Unit {0}
AreRightForms (f ∷ fs) = ((d : _) (x : Draft) → f.draft d ≡ Some x → IsRightDraft x) × AreRightForms fs

by-form : (fs : List Form) (d : _) (x : Draft) → AreRightForms fs → draft_by fs d ≡ Some x → IsRightDraft x
by-form [] d x all is = let no : ⊥ = cc in absurd no
by-form (f ∷ fs) d x all is = choose (has_fields f.fields d) (all.0 d x) (by-form fs d x all.1) is where
  choose : (b : Bool) → (f.draft d ≡ Some x → IsRightDraft x) → (draft_by fs d ≡ Some x → IsRightDraft x)
      → (if b then f.draft d else draft_by fs d) ≡ Some x → IsRightDraft x
  choose true here later one = here one
  choose false here later one = later one

looks-right : AreRightForms (await_form ∷ ask_form ∷ explain_form ∷ show_form ∷ [])
looks-right = (await-draft, (ask-draft, (explain-draft, (show-draft, tt))))

forms-right : AreRightForms forms
forms-right = (
  array-draft,
  (
    csv-draft,
    (
      layers-draft,
      (
        flow-draft,
        (
          strategy-draft,
          (start-draft, (plan-draft, (refresh-draft, (merge-draft, (merged-draft, looks-right))))),
        ),
      ),
    ),
  ),
)

-- ---- what is read

pub arrays-right : (line : List ℕ) (order : Command) → reading line ≡ Ok order → HasRightArray order
arrays-right line order is =
    let says = (read line order).0 is in
    subst HasRightArray says.4
    (by-form forms says.1.value says.0 forms-right says.1.form says.2.cells says.2.few)
