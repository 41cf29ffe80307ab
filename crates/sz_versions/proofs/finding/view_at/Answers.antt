-- The run of the step's node holds the node's execution, and its list says the way.
use Rattle.std.proofs.Common.{◌≡◌, ◌<◌, ℕ, List, [], map, length, refl, sym, ap, ap₂, ◌∙◌, arith, Some, true}
use Rattle.std.proofs.Common.{Option, unwrap_or}
use Rattle.std.specs.Arc.{arc_value}
use Rattle.std.specs.List.{slice_get}
use Rattle.std.proofs.Math.Seq.{map-set_same}
use Rattle.std.proofs.lemmas.List.{length-map}
use Rattle.std.proofs.lemmas.Option.{slice_get_read}
use Rattle.std.proofs.lemmas.Result.{IfOk-weaker, on_ok_weaker, on_err_weaker}
use Rattle.sz_spec.specs.declared.op.Op.TheVariants as op
use Rattle.sz_spec.specs.declared.modes.Strategy.{Strategy}
use Rattle.sz_spec.specs.Paths.{Step}
use Rattle.sz_flow.specs.Executions.{Execution, execution, execution_of}
use Rattle.sz_cells.specs.Extent.{is_extent}
use Rattle.sz_cells.proofs.Shapes.{sides}
use Rattle.sz_query.specs.Views.{most_traced_by}
use Rattle.sz_catalogue.specs.Holdings.{Version}
use Rattle.sz_catalogue.specs.Changes.{way_of}
use Rattle.sz_recover.proofs.WrongNodes.{all-of}
use Rattle.sz_versions.specs.Stores.{Keeping, nothing, Trail, IsOwn, keeping_of}
use Rattle.sz_versions.specs.Views.{view_by}
use Rattle.sz_versions.specs.Lending.{once_viewed, changed_at, once_asked}
use Rattle.sz_versions.specs.Along.{execution_in, kept_in}
use Rattle.sz_versions.proofs.Ways.{view_by-few}
use Rattle.sz_versions.proofs.Lending.{changed-set}
use Rattle.sz_versions.proofs.Keeping.{read-at}
use Rattle.sz_versions.proofs.Kept.{run-there, run-at, store-there, list-there, list-filled, way-at}
use Rattle.sz_versions.proofs.finding.view_at.Goals as goal

pub bounds-lists-step-inside : goal.bounds-lists-step-inside
bounds-lists-step-inside c =
    let within = list-there c.args.version.now c.args.step c.requires.sound c.requires.there in
    let same : c.step.inside.node ≡ c.args.step.node = ap (λ (s : Step). s.node) c.step.view_is in
    let lists = c.as_slice-lists.ensures ∙ ap (λ (x : Version). x.lists) c.version.view_is in
    omega (arith, within, same, ap (λ (xs : List (List Strategy)). length xs) lists)

pub way-way-requires : goal.way-way-requires
way-way-requires c =
    let v = c.args.version.now in
    let within = list-there v c.args.step c.requires.sound c.requires.there in
    let node : c.step.inside.node ≡ c.args.step.node = ap (λ (s : Step). s.node) c.step.view_is in
    let lists = c.as_slice-lists.ensures ∙ ap (λ (x : Version). x.lists) c.version.view_is in
    let here = rw (lists, node) at c.index-lists-step.is in
    let at = slice_get_read v.lists (length v.lists) c.args.step.node c.index-lists-step.result refl within here in
    let some = list-filled v c.args.step c.index-lists-step.result c.requires.sound c.requires.there at in
    rw c.as_slice.ensures some

pub index-node-requires : goal.index-node-requires
index-node-requires c =
    let runs = arc_value c.run.inside.runs in
    let own = ap (λ (t : Trail). t.executions) c.run.view_is ∙ c.requires.run.executions in
    let within = run-there c.args.version.now c.args.step runs.items c.requires.sound c.requires.there own in
    let same : c.step.inside.node ≡ c.args.step.node = ap (λ (s : Step). s.node) c.step.view_is in
    omega (arith, within, same, ap (λ v. v.len) c.deref.ensures, runs.ok.0)

pub index_mut-stores-requires : goal.index_mut-stores-requires
index_mut-stores-requires c =
    let node : c.step.inside.node ≡ c.args.step.node = ap (λ (s : Step). s.node) c.step.view_is in
    let stores = c.run.inside.stores in
    omega (
      arith,
      store-there c.args.version.now c.args.step c.args.run.now c.requires.sound c.requires.there c.requires.run,
      node,
      ap (λ (t : Trail). length t.kept) c.run.view_is,
      length-map stores.items keeping_of,
      stores.ok.0,
    )

-- there are stores at the step's node
below : (c : goal.After-index_mut-stores) → c.step.inside.node < length c.run.inside.stores.items
below c =
    let there =
    store-there c.args.version.now c.args.step c.args.run.now c.requires.sound c.requires.there c.requires.run in
    let node : c.step.inside.node ≡ c.args.step.node = ap (λ (s : Step). s.node) c.step.view_is in
    let kept = ap (λ (t : Trail). length t.kept) c.run.view_is in
    omega (arith, there, node, kept, length-map c.run.inside.stores.items keeping_of)

-- the execution of the step's node, and what is kept of it, are those of the trail
record IsFound (t : Trail) (s : Step) (e : Execution) (k : Keeping) : Type 0 where
  at : execution_in t s.node ≡ e
  kept : kept_in t s.node ≡ k
  own : IsOwn k

found : (c : goal.After-index_mut-stores)
    → IsFound c.args.run.now c.args.step (execution_of c.index-node.result.now)
    (keeping_of c.index_mut-stores.result.now)
found c =
    let v = c.args.version.now in
    let t = c.args.run.now in
    let n = c.args.step.node in
    let runs = arc_value c.run.inside.runs in
    let stores = c.run.inside.stores in
    let run = c.index-node.result.now in
    let store = c.index_mut-stores.result.now in
    let own = ap (λ (t : Trail). t.executions) c.run.view_is ∙ c.requires.run.executions in
    let within = run-there v c.args.step runs.items c.requires.sound c.requires.there own in
    let node : c.step.inside.node ≡ n = ap (λ (s : Step). s.node) c.step.view_is in
    let run_here = rw (c.deref.ensures, node) at c.index-node.ensures in
    let at = run-at v n runs.items run own within run_here in
    let inside : n < length stores.items = rw node at (below c) in
    let stored : slice_get t.kept n ≡ Some (keeping_of store) =
    ap (λ (t : Trail). slice_get t.kept n) (sym c.run.view_is)
    ∙ read-at keeping_of stores.items n store inside (rw node at c.index_mut-stores.ensures.value) in
    record {
      at = ap (λ (es : List Execution). unwrap_or (slice_get es n) (execution op.Neg [])) c.requires.run.executions
          ∙ ap (λ (o : Option Execution). unwrap_or o (execution op.Neg [])) at;
      kept = ap (λ (o : Option Keeping). unwrap_or o nothing) stored;
      own = all-of IsOwn t.kept n (keeping_of store) c.requires.run.own stored;
    }

pub view_by-requires : goal.view_by-requires
view_by-requires c = (found c).own

-- the way by the list that is at the step's node
the-way : (c : goal.After-index_mut-stores) → way_of c.args.version.now c.args.dir c.args.step ≡ c.way-way.result
the-way c =
    let v = c.args.version.now in
    let list = c.index-lists-step.result in
    let node : c.step.inside.node ≡ c.args.step.node = ap (λ (s : Step). s.node) c.step.view_is in
    let lists = c.as_slice-lists.ensures ∙ ap (λ (x : Version). x.lists) c.version.view_is in
    let list_here = rw (lists, node) at c.index-lists-step.is in
    let listed = slice_get_read v.lists (length v.lists) c.args.step.node list refl
    (list-there v c.args.step c.requires.sound c.requires.there) list_here in
    way-at v c.args.dir c.args.step list listed ∙ sym (rw c.as_slice.ensures at c.way-way.ensures)

pub returns-clause-view : goal.returns-clause-view
returns-clause-view c =
    let h = found c.before.before in
    let s = c.way-way.result in
    let w = sym (the-way c.before.before) in
    let e = execution_of c.index-node.result.now in
    let k = keeping_of c.index_mut-stores.result.now in
    IfOk-weaker c.view_by.result _ _
    (λ v is.
    is ∙ ap₂ (λ (x : Execution) (y : Keeping). view_by s x y) (sym h.at) (sym h.kept)
    ∙ ap (λ (x : Strategy).
    view_by x (execution_in c.args.run.now c.args.step.node) (kept_in c.args.run.now c.args.step.node)) w)
    c.view_by.ensures.view

pub returns-clause-few : goal.returns-clause-few
returns-clause-few c =
    let e = execution_of c.index-node.result.now in
    let shape : is_extent e.site.out ≡ true = rw (c.out.ensures.value, c.deref-2.ensures)
    at c.a_shape_is_within_limits.ensures in
    let size = (sides e.site.out shape).5 in
    IfOk-weaker c.view_by.result _ _
    (λ w is.
    omega (
      arith,
      ap most_traced_by is,
      view_by-few c.way-way.result e (keeping_of c.index_mut-stores.result.now),
      size,
    ))
    c.view_by.ensures.view

pub returns-clause-counted : goal.returns-clause-counted
returns-clause-counted c =
    let n = c.step.inside.node in
    let stores = c.run.inside.stores.items in
    let made : List Keeping → Trail =
    λ ks. record { executions = map execution_of (arc_value c.run.inside.runs).items; kept = ks } in
    let node : n ≡ c.args.step.node = ap (λ (s : Step). s.node) c.step.view_is in
    let way = the-way c.before.before in
    let changed : List Keeping → List Keeping = changed_at (once_viewed c.way-way.result) n in
    let asked : (ks : List Keeping) → changed ks
    ≡ changed_at (once_viewed (way_of c.args.version.now c.args.dir c.args.step)) c.args.step.node ks =
    λ ks. ap₂ (λ (s : Strategy) (i : ℕ). changed_at (once_viewed s) i ks) (sym way) node in
    on_ok_weaker c.view_by.result
    (λ is.
    ap made (changed-set (once_viewed c.way-way.result) stores n c.view_by.new.stores c.index_mut-stores.result.now
    (below c.before.before)
    (is ∙ ap (λ k. once_viewed c.way-way.result (keeping_of k)) c.index_mut-stores.ensures.value))
    ∙ ap (λ (ks : List Keeping). made ks) (asked (map keeping_of stores))
    ∙ ap (once_asked c.args.version.now c.args.dir c.args.step) c.run.view_is)
    c.view_by.ensures.counted

pub returns-clause-err : goal.returns-clause-err
returns-clause-err c =
    let made : List Execution → List Keeping → Trail = λ es ks. record { executions = es; kept = ks } in
    on_err_weaker c.view_by.result
    (λ is.
    let same = map-set_same keeping_of c.run.inside.stores.items c.step.inside.node c.view_by.new.stores
    c.index_mut-stores.result.now (is ∙ ap keeping_of c.index_mut-stores.ensures.value) in
    ap (λ (ks : List Keeping). made (map execution_of (arc_value c.run.inside.runs).items) ks) same ∙ c.run.view_is)
    c.view_by.ensures.err
