-- The views of a path's steps: what is answered, traced and told by them.
--
-- The key idea: the view of a step is one of the execution of its node, so all that an answer along the path asks of
-- the views, and all that it gives, is read off the executions step by step.
use Rattle.std.proofs.Common.{◌≡◌, ℕ, suc, zero, ◌+◌, ◌<◌, ◌≤◌, List, [], ◌∷◌, ◌++◌, map, length, Bool, true}
use Rattle.std.proofs.Common.{false}
use Rattle.std.proofs.Common.{refl, sym, ap, ap₂, ◌∙◌, subst, arith, Option, Some, unwrap_or, cond, get_or}
use Rattle.std.specs.Prelude.{◌&&◌, nat_lt, nat_le, sum_by, filter, if◌then◌else◌}
use Rattle.std.specs.List.{AllZip, list_all, list_any, slice_get}
use Rattle.std.specs.Option.{option_map}
use Rattle.std.proofs.lemmas.Bool.{and_parts}
use Rattle.std.proofs.lemmas.Bool.Decides.{nat_tests}
use Rattle.std.proofs.lemmas.List.Sums.{sum_by-cons}
use Rattle.sz_cells.specs.Extent.{Extent, size_of}
use Rattle.sz_cells.specs.declared.Cell.{Cell}
use Rattle.sz_cells.specs.Cells.{Cells, named_in, is_same}
use Rattle.sz_cells.specs.SetBytes.{IsSetOf}
use Rattle.sz_cells.proofs.LawsOfSets.{sets-rising}
use Rattle.sz_spec.specs.declared.flow.Node.{Node}
use Rattle.sz_spec.specs.declared.op.Op.{Op}
use Rattle.sz_spec.specs.declared.modes.Dir.{Dir}
use Rattle.sz_spec.specs.declared.modes.Dir.TheVariants.{Back}
use Rattle.sz_spec.specs.declared.modes.Strategy.{Strategy}
use Rattle.sz_spec.specs.Modes.{supports, is_listed, way}
use Rattle.sz_spec.specs.Values.{extent_at, extents_of}
use Rattle.sz_spec.specs.Shapes.{Site}
use Rattle.sz_spec.specs.Flows.{Graph}
use Rattle.sz_spec.specs.Paths.{Step, source_of, is_there, follows, are_joined, is_joined, inputs_of, compose}
use Rattle.sz_spec.specs.Sides.{near_side, far_side}
use Rattle.sz_flow.specs.Executions.{Execution}
use Rattle.sz_query.specs.Views.{by_map, by_store, by_shelf, by_growth, by_trace}
use Rattle.sz_query.specs.Views.{View, view_site, IsUsable, used_of, traced_by, most_traced_by}
use Rattle.sz_query.specs.Turns.{IsAsked}
use Rattle.sz_query.specs.Answers.{answered, traced_of, most_traced_of, IsStep, AreSteps}
use Rattle.sz_query.specs.Laws.{IsFaithful, IsOfNode, AreOfPath}
use Rattle.sz_query.proofs.Composed.{answers-composed, steps-asked}
use Rattle.sz_catalogue.specs.Holdings.{Version, arrays_of}
use Rattle.sz_catalogue.specs.Starts as starts
use Rattle.sz_catalogue.specs.Rules.{are_distinct, is_list_for, are_lists_for}
use Rattle.sz_catalogue.specs.Changes.{outputs, way_of, is_black_box, traced}
use Rattle.sz_versions.specs.Runs.{IsSoundVersion}
use Rattle.sz_versions.specs.Stores.{Keeping, IsKeptOf}
use Rattle.sz_versions.specs.Efforts.{sizes_along, most_traced}
use Rattle.sz_versions.specs.Views.{view_by, list_of, IsViewOf, strategy_told, are_there}
use Rattle.sz_versions.proofs.Ways.{way-is_listed, way-supported, view_by-site, view_by-usable, view_by-faithful}
use Rattle.sz_versions.proofs.Ways.{view_by-stays, view_by-traced, view_by-told, view_by-few, view_by-least}
use Rattle.sz_versions.proofs.Steps.{IsStepOf, step-of, step-input, step-out, step-starts, step-leads}

-- ---- the lists of a version's nodes

-- a node has a list of supported strategies, one at least
pub lists-at : (nodes : List Node) (lists : List (List Strategy)) (n : ℕ) (x : Node)
    → are_lists_for nodes lists ≡ true → slice_get nodes n ≡ Some x
    → (list : List Strategy) × (slice_get lists n ≡ Some list) × (is_list_for x.op list ≡ true)
lists-at [] lists n x fit at = cc
lists-at (y ∷ nodes) [] n x fit at = cc
lists-at (y ∷ nodes) (list ∷ lists) zero x fit at =
    let same : y ≡ x = cc in
    let both = and_parts (is_list_for y.op list) (are_lists_for nodes lists) fit in
    (list, refl, ap (λ (z : Node). is_list_for z.op list) (sym same) ∙ both.0)
lists-at (y ∷ nodes) (list ∷ lists) (suc n) x fit at =
    let both = and_parts (is_list_for y.op list) (are_lists_for nodes lists) fit in lists-at nodes lists n x both.1 at

-- it is not empty, and its strategies are supported
pub list-parts : (op : Op) (list : List Strategy) → is_list_for op list ≡ true
    → (0 < length list) × (list_all (supports op) list ≡ true)
list-parts op list fit =
    let outer = and_parts _ (list_all (supports op) list) fit in
    let middle = and_parts _ (are_distinct list) outer.0 in
    let some = and_parts (nat_le 1 (length list)) (nat_le (length list) 3) middle.0 in
    (at_least (length list) some.0, outer.1) where
      at_least : (n : ℕ) → nat_le 1 n ≡ true → 0 < n
      at_least n h = grind (arith, nat_tests)

-- the list of a step whose node has such a list, and the way by it
pub record HasList (v : Version) (dir : Dir) (s : Step) (op : Op) : Type 0 where
  pub listed : is_listed (list_of v s) (way_of v dir s) ≡ true
  pub supported : supports op (way_of v dir s) ≡ true

step-list : (v : Version) (dir : Dir) (s : Step) (e : Execution) → IsSoundVersion v → IsStepOf v s e
    → HasList v dir s e.site.op
step-list v dir s e sound h =
    let known = lists-at v.flow.nodes v.lists s.node h.node sound.run.1.lists h.there in
    let parts = list-parts h.node.op known.0 known.2 in
    let here : list_of v s ≡ known.0 = ap (λ (o : Option (List Strategy)). unwrap_or o []) known.1 in
    let op : e.site.op ≡ h.node.op = ap (λ (x : Execution). x.site.op) h.is in
    record {
      listed =
          way-is_listed (list_of v s) dir (subst (λ (list : List Strategy). 0 < length list) (sym here) parts.0);
      supported =
          ap₂ supports op (ap (λ (list : List Strategy). way list dir) here)
          ∙ way-supported h.node.op known.0 dir parts.0 parts.1;
    }

-- ---- one view

-- what is known of the view of a step that is there
pub record IsSoundView (v : Version) (dir : Dir) (s : Step) (w : View) : Type 0 where
  pub execution : Execution
  pub step : IsStepOf v s execution
  pub list : HasList v dir s execution.site.op
  pub kept : Keeping
  pub own : IsKeptOf v.awaited execution (list_of v s) kept
  pub is : w ≡ view_by (way_of v dir s) execution kept

pub sound-view : (v : Version) (dir : Dir) (s : Step) (w : View) → IsSoundVersion v
    → is_there (source_of v.flow s) ≡ true → IsViewOf v dir s w → IsSoundView v dir s w
sound-view v dir s w sound there view =
    let h = step-of v s view.0 sound there view.1 in
    record {
      execution = view.0;
      step = h;
      list = step-list v dir s view.0 sound h;
      kept = view.2;
      own = view.3;
      is = view.4;
    }

-- its operator is that of the execution
pub sound-site : (v : Version) (dir : Dir) (s : Step) (w : View) (h : IsSoundView v dir s w)
    → view_site w ≡ h.execution.site
sound-site v dir s w h = ap view_site h.is ∙ view_by-site (way_of v dir s) h.execution h.kept

-- it can be used, and stands for the relation of its operator
sound-ready : (v : Version) (dir : Dir) (s : Step) (w : View) → IsSoundView v dir s w → IsUsable w
sound-ready v dir s w h =
    let e = h.execution in
    let ins : extents_of e.inputs ≡ e.site.ins =
    ap (λ (x : Execution). extents_of x.inputs) h.step.is ∙ sym (ap (λ (x : Execution). x.site.ins) h.step.is) in
    subst IsUsable (sym h.is)
    (view_by-usable v.awaited (list_of v s) (way_of v dir s) e h.kept h.list.listed h.list.supported ins h.own)

sound-faithful : (v : Version) (dir : Dir) (s : Step) (w : View) → IsSoundView v dir s w
    → IsFaithful w (inputs_of v.flow (arrays_of v.base) (outputs v) s.node)
sound-faithful v dir s w h =
    let e = h.execution in
    let gs = inputs_of v.flow (arrays_of v.base) (outputs v) s.node in
    let own : e.inputs ≡ gs = ap (λ (x : Execution). x.inputs) h.step.is in
    subst (λ (x : View). IsFaithful x gs) (sym h.is)
    (view_by-faithful v.awaited (list_of v s) (way_of v dir s) e h.kept gs h.list.listed h.list.supported own h.own)

-- it is one of the step's node
pub sound-of_node : (v : Version) (dir : Dir) (s : Step) (w : View) → IsSoundView v dir s w
    → IsOfNode v.flow (arrays_of v.base) (outputs v) s.node w
sound-of_node v dir s w h =
    let e = h.execution in
    let site = sound-site v dir s w h in
    record {
      op = ap (option_map (λ (x : Node). x.op)) h.step.there
          ∙ ap (λ (o : Op). Some o) (sym (ap (λ (x : Site). x.op) site
          ∙ ap (λ (x : Execution). x.site.op) h.step.is));
      ins = ap (λ (x : Site). x.ins) site ∙ ap (λ (x : Execution). x.site.ins) h.step.is;
      out = ap (λ (x : Site). x.out) site ∙ step-out v s e h.step;
      faithful = sound-faithful v dir s w h;
    }

-- the step can be taken from the shape in which it starts
sound-step : (v : Version) (dir : Dir) (s : Step) (w : View) (from : Extent) → IsSoundVersion v → IsSoundView v dir s w
    → from ≡ starts.step_start dir v s → IsStep dir w s.input from
sound-step v dir s w from sound h starts_there =
    let e = h.execution in
    let site = sound-site v dir s w h in
    record {
      input = subst (λ (x : Site). s.input < length x.ins) (sym site) (step-input v s e h.step);
      near = starts_there ∙ sym (step-starts v s e dir sound h.step)
          ∙ ap (λ (x : Site). near_side dir x s.input) (sym site);
      ready = sound-ready v dir s w h;
    }

-- ---- along the path

-- the views of steps that are there
abbrev pub AreSound : Version → Dir → List Step → List View → Type 0
AreSound v dir path views = AllZip (IsSoundView v dir) path views

pub sound-views : (v : Version) (dir : Dir) (path : List Step) (views : List View) → IsSoundVersion v
    → are_there v.flow path ≡ true → AllZip (IsViewOf v dir) path views → AreSound v dir path views
sound-views v dir [] [] sound there zip = tt
sound-views v dir [] (w ∷ views) sound there zip = zip
sound-views v dir (s ∷ path) [] sound there zip = zip
sound-views v dir (s ∷ path) (w ∷ views) sound there zip =
    let both = and_parts (is_there (source_of v.flow s)) (are_there v.flow path) there in
    (sound-view v dir s w sound both.0 zip.0, sound-views v dir path views sound both.1 zip.1)

-- each is one of its step's node
pub views-of_path : (v : Version) (dir : Dir) (path : List Step) (views : List View) → AreSound v dir path views
    → AreOfPath v.flow (arrays_of v.base) (outputs v) path views
views-of_path v dir [] [] zip = tt
views-of_path v dir [] (w ∷ views) zip = zip
views-of_path v dir (s ∷ path) [] zip = zip
views-of_path v dir (s ∷ path) (w ∷ views) zip =
    (sound-of_node v dir s w zip.0, views-of_path v dir path views zip.1)

-- each step of a joined path is there
pub joined-there : (dir : Dir) (flow : Graph) (path : List Step) → are_joined dir flow path ≡ true
    → are_there flow path ≡ true
joined-there dir flow [] joined = refl
joined-there dir flow (s ∷ []) joined = rw joined refl
joined-there dir flow (s ∷ t ∷ path) joined =
    let outer =
    and_parts (is_there (source_of flow s) && follows dir flow s t) (are_joined dir flow (t ∷ path)) joined in
    let both = and_parts (is_there (source_of flow s)) (follows dir flow s t) outer.0 in
    let rest = joined-there dir flow (t ∷ path) outer.1 in
    rw (both.0, rest) refl

-- along a joined path each step can be taken, from the shape in which the path starts
pub views-steps : (v : Version) (dir : Dir) (path : List Step) (views : List View) (from : Extent) → IsSoundVersion v
    → are_joined dir v.flow path ≡ true → AreSound v dir path views → from ≡ starts.path_start dir v path
    → AreSteps dir views (map (λ (s : Step). s.input) path) from
views-steps v dir [] [] from sound joined zip is = tt
views-steps v dir (s ∷ []) (w ∷ []) from sound joined zip is = (sound-step v dir s w from sound zip.0 is, tt)
views-steps v dir (s ∷ []) (w ∷ x ∷ views) from sound joined zip is = absurd zip.1
views-steps v dir (s ∷ t ∷ path) (w ∷ []) from sound joined zip is = absurd zip.1
views-steps v dir (s ∷ t ∷ path) (w ∷ x ∷ views) from sound joined zip is =
    let outer = and_parts (is_there (source_of v.flow s) && follows dir v.flow s t)
    (are_joined dir v.flow (t ∷ path)) joined in
    let both = and_parts (is_there (source_of v.flow s)) (follows dir v.flow s t) outer.0 in
    let g = zip.0 in
    let h = zip.1.0 in
    let leads : far_side dir (view_site w) s.input ≡ starts.step_start dir v t =
    ap (λ (y : Site). far_side dir y s.input) (sound-site v dir s w g)
    ∙ step-leads v s t g.execution h.execution dir g.step h.step both.1
    ∙ step-starts v t h.execution dir sound h.step in (
      sound-step v dir s w from sound g is,
      views-steps v dir (t ∷ path) (x ∷ views) (far_side dir (view_site w) s.input) sound outer.1 zip.1 leads,
    )
views-steps v dir _ _ from sound joined zip is = absurd zip

-- the cells that are named are a set
pub named-set : (e : Extent) (cells : List Cell) → IsSetOf e (named_in e cells)
named-set e cells = record { extent = refl; rising = sets-rising e (λ c. list_any (is_same c) cells) }

-- so the answer by the views, of a set of the shape in which the path starts, is the composed relation
pub views-answer : (v : Version) (dir : Dir) (path : List Step) (views : List View) (set : Cells) → IsSoundVersion v
    → are_joined dir v.flow path ≡ true → AreSound v dir path views → set.extent ≡ starts.path_start dir v path
    → IsSetOf set.extent set
    → answered dir views (map (λ (s : Step). s.input) path) set
    ≡ compose dir v.flow (arrays_of v.base) (outputs v) path set
views-answer v dir path views set sound joined zip is all =
    answers-composed dir v.flow (arrays_of v.base) (outputs v) path views set (views-of_path v dir path views zip)
    (steps-asked dir views (map (λ (s : Step). s.input) path) set
    (views-steps v dir path views set.extent sound joined zip is) all)

-- ---- once they were asked

-- what is traced of a view that was asked is no more than was allowed for
pub asked-most : (w x : View) → IsAsked w x → traced_by x ≤ most_traced_by w
asked-most (by_map s) x asked = omega (arith, ap traced_by asked)
asked-most (by_store s kept t) x asked = omega (arith, ap traced_by asked)
asked-most (by_shelf s z p t) x asked = omega (arith, ap traced_by asked.2)
asked-most (by_growth s inputs z p t) x asked = at asked.0.saw (ap traced_by asked.2) where
  at : (b : Bool) → traced_by x ≡ (if b then 0 else size_of s.out) → traced_by x ≤ size_of s.out
  at true is = omega (arith, is)
  at false is = omega (arith, is)
asked-most (by_trace s inputs) x asked = omega (arith, ap traced_by asked)

-- what a step's node has to tell where its way is black box
abbrev pub black : Version → Dir → Step → ℕ
black v dir s = if is_black_box (way_of v dir s) then size_of (extent_at (starts.outputs_of v) s.node) else 0

-- of a version that is awaited, the view of a step is told by the way, and is traced where that is black box
step-told : (v : Version) (dir : Dir) (s : Step) (w x : View) → v.awaited ≡ true → IsSoundView v dir s w → IsAsked w x
    → (strategy_told (used_of x) ≡ way_of v dir s)
    × (traced_by x ≡ (if is_black_box (way_of v dir s) then size_of (view_site w).out else 0))
step-told v dir s w x awaited h asked =
    let e = h.execution in
    let way = way_of v dir s in
    let own = subst (λ (b : Bool). IsKeptOf b e (list_of v s) h.kept) awaited h.own in
    let same = view_by-stays (list_of v s) way e h.kept x h.list.listed own
    (subst (λ (y : View). IsAsked y x) h.is asked) in
    let site = sound-site v dir s w h in (
      ap (λ (y : View). strategy_told (used_of y)) same
          ∙ view_by-told (list_of v s) way e h.kept h.list.listed own,
      ap traced_by same ∙ view_by-traced (list_of v s) way e h.kept h.list.listed own
          ∙ ap (λ (y : Site). if is_black_box way then size_of y.out else 0) (sym site),
    )

-- the output of the step's node
step-size : (v : Version) (dir : Dir) (s : Step) (w : View) → IsSoundVersion v → IsSoundView v dir s w
    → (view_site w).out ≡ extent_at (starts.outputs_of v) s.node
step-size v dir s w sound h =
    ap (λ (y : Site). y.out) (sound-site v dir s w h) ∙ step-starts v s h.execution Back sound h.step

step-traced : (v : Version) (dir : Dir) (s : Step) (w x : View) → IsSoundVersion v → v.awaited ≡ true
    → IsSoundView v dir s w → IsAsked w x → traced_by x ≡ black v dir s
step-traced v dir s w x sound awaited h asked =
    (step-told v dir s w x awaited h asked).1
    ∙ ap (λ (y : Extent). if is_black_box (way_of v dir s) then size_of y else 0) (step-size v dir s w sound h)

step-least : (v : Version) (dir : Dir) (s : Step) (w x : View) → IsSoundVersion v → IsSoundView v dir s w
    → IsAsked w x → black v dir s ≤ traced_by x
step-least v dir s w x sound h asked =
    let e = h.execution in
    let least = view_by-least (way_of v dir s) e h.kept x (subst (λ (y : View). IsAsked y x) h.is asked) in
    let out : e.site.out ≡ extent_at (starts.outputs_of v) s.node = step-starts v s e Back sound h.step in
    let same = ap (λ (y : Extent). if is_black_box (way_of v dir s) then size_of y else 0) out in
    omega (arith, least, same)

step-most : (v : Version) (dir : Dir) (s : Step) (w x : View) → IsSoundVersion v → IsSoundView v dir s w
    → IsAsked w x → traced_by x ≤ size_of (extent_at (starts.outputs_of v) s.node)
step-most v dir s w x sound h asked =
    let e = h.execution in
    let out : e.site.out ≡ extent_at (starts.outputs_of v) s.node = step-starts v s e Back sound h.step in
    omega (
      arith,
      asked-most w x asked,
      ap most_traced_by h.is,
      view_by-few (way_of v dir s) e h.kept,
      ap size_of out,
    )

-- along a path
pub views-told : (v : Version) (dir : Dir) (path : List Step) (views asked : List View) → v.awaited ≡ true
    → AreSound v dir path views → AllZip IsAsked views asked
    → map strategy_told (map used_of asked) ≡ map (way_of v dir) path
views-told v dir [] [] [] awaited zip all = refl
views-told v dir [] [] (x ∷ asked) awaited zip all = absurd all
views-told v dir [] (w ∷ views) asked awaited zip all = absurd zip
views-told v dir (s ∷ path) [] asked awaited zip all = absurd zip
views-told v dir (s ∷ path) (w ∷ views) [] awaited zip all = absurd all
views-told v dir (s ∷ path) (w ∷ views) (x ∷ asked) awaited zip all =
    ap₂ (λ (y : Strategy) (ys : List Strategy). y ∷ ys) (step-told v dir s w x awaited zip.0 all.0).0
    (views-told v dir path views asked awaited zip.1 all.1)

-- what is black box along a path, with a step more
pub black-more : (v : Version) (dir : Dir) (s : Step) (path : List Step)
    → black v dir s + traced v dir path ≡ traced v dir (s ∷ path)
black-more v dir s path = at (is_black_box (way_of v dir s)) where
  at : (b : Bool) → (if b then size_of (extent_at (starts.outputs_of v) s.node) else 0) + traced v dir path
      ≡ sum_by (λ (t : Step). size_of (extent_at (starts.outputs_of v) t.node))
      (cond b (s ∷ filter (λ t. is_black_box (way_of v dir t)) path)
      (filter (λ t. is_black_box (way_of v dir t)) path))
  at true = sym (sum_by-cons (λ (t : Step). size_of (extent_at (starts.outputs_of v) t.node)) s
      (filter (λ t. is_black_box (way_of v dir t)) path))
  at false = omega arith

pub views-traced : (v : Version) (dir : Dir) (path : List Step) (views asked : List View) → IsSoundVersion v
    → v.awaited ≡ true → AreSound v dir path views → AllZip IsAsked views asked
    → traced_of asked ≡ traced v dir path
views-traced v dir [] [] [] sound awaited zip all = refl
views-traced v dir [] [] (x ∷ asked) sound awaited zip all = absurd all
views-traced v dir [] (w ∷ views) asked sound awaited zip all = absurd zip
views-traced v dir (s ∷ path) [] asked sound awaited zip all = absurd zip
views-traced v dir (s ∷ path) (w ∷ views) [] sound awaited zip all = absurd all
views-traced v dir (s ∷ path) (w ∷ views) (x ∷ asked) sound awaited zip all =
    ap₂ ◌+◌ (step-traced v dir s w x sound awaited zip.0 all.0)
    (views-traced v dir path views asked sound awaited zip.1 all.1)
    ∙ black-more v dir s path

-- that is the least that is told as traced, and the most is what all outputs have
pub views-between : (v : Version) (dir : Dir) (path : List Step) (views asked : List View) → IsSoundVersion v
    → AreSound v dir path views → AllZip IsAsked views asked
    → (traced v dir path ≤ traced_of asked) × (traced_of asked ≤ sizes_along v path)
views-between v dir [] [] [] sound zip all = (omega arith, omega arith)
views-between v dir [] [] (x ∷ asked) sound zip all = absurd all
views-between v dir [] (w ∷ views) asked sound zip all = absurd zip
views-between v dir (s ∷ path) [] asked sound zip all = absurd zip
views-between v dir (s ∷ path) (w ∷ views) [] sound zip all = absurd all
views-between v dir (s ∷ path) (w ∷ views) (x ∷ asked) sound zip all =
    let rest = views-between v dir path views asked sound zip.1 all.1 in
    let size = λ (t : Step). size_of (extent_at (starts.outputs_of v) t.node) in (
      omega (arith, step-least v dir s w x sound zip.0 all.0, rest.0, black-more v dir s path),
      omega (arith, step-most v dir s w x sound zip.0 all.0, rest.1, sum_by-cons size s path),
    )

-- so what is traced in all is within what is said of it
pub views-within : (v : Version) (dir : Dir) (path : List Step) (views asked : List View) → IsSoundVersion v
    → AreSound v dir path views → AllZip IsAsked views asked → traced_of asked ≤ most_traced v dir path
views-within v dir path views asked sound zip all =
    at v.awaited (λ awaited. views-traced v dir path views asked sound awaited zip all)
    (views-between v dir path views asked sound zip all).1 where
      at : (b : Bool) → (b ≡ true → traced_of asked ≡ traced v dir path) → traced_of asked ≤ sizes_along v path
          → traced_of asked ≤ (if b then traced v dir path else sizes_along v path)
      at true exact most = omega (arith, exact refl)
      at false exact most = most

-- ---- what is asked of a path and its views

-- a joined path has 1 to 32 steps
pub joined-parts : (dir : Dir) (flow : Graph) (path : List Step) → is_joined dir flow path ≡ true
    → (0 < length path) × (length path ≤ 32) × (are_joined dir flow path ≡ true)
joined-parts dir flow path joined =
    let outer = and_parts (nat_lt 0 (length path) && nat_le (length path) 32) (are_joined dir flow path) joined in
    let both = and_parts (nat_lt 0 (length path)) (nat_le (length path) 32) outer.0 in
    (some (length path) both.0, few (length path) both.1, outer.1) where
      some : (n : ℕ) → nat_lt 0 n ≡ true → 0 < n
      some n h = grind (arith, nat_tests)

      few : (n : ℕ) → nat_le n 32 ≡ true → n ≤ 32
      few n h = grind (arith, nat_tests)

-- a path starts where its first step does
pub path-starts : (v : Version) (dir : Dir) (path : List Step) (s : Step) → 0 < length path → s ≡ get_or path 0 s
    → starts.path_start dir v path ≡ starts.step_start dir v s
path-starts v dir [] s some is = absurd (omega arith)
path-starts v dir (t ∷ path) s some is = ap (starts.step_start dir v) (sym is)

-- the first step of a path whose steps are there is there
pub first-there : (flow : Graph) (path : List Step) (s : Step) → 0 < length path → s ≡ get_or path 0 s
    → are_there flow path ≡ true → is_there (source_of flow s) ≡ true
first-there flow [] s some is there = absurd (omega arith)
first-there flow (t ∷ path) s some is there =
    ap (λ (x : Step). is_there (source_of flow x)) is
    ∙ (and_parts (is_there (source_of flow t)) (are_there flow path) there).0

-- one more view
pub traced-more : (views : List View) (w : View)
    → most_traced_of (views ++ w ∷ []) ≡ most_traced_of views + most_traced_by w
traced-more [] w = omega arith
traced-more (x ∷ views) w = omega (arith, traced-more views w)
