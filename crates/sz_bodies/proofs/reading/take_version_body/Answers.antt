-- What was read is a lawful body, and where a part is not there, no lawful body is.
use Rattle.std.proofs.Common.{◌≡◌, ℕ, List, map, true, sym, ap, ap₂, subst, ◌∙◌}
use Rattle.std.specs.Arc.{arc_value}
use Rattle.std.proofs.lemmas.Result.{err_from_is_err_and}
use Rattle.sz_cells.specs.Extent.{Extent}
use Rattle.sz_spec.specs.declared.flow.Node.{Node}
use Rattle.sz_spec.specs.declared.modes.Strategy.{Strategy}
use Rattle.sz_spec.specs.Flows.{Graph}
use Rattle.sz_catalogue.specs.Holdings.{Base, Version}
use Rattle.sz_bodies.specs.Fitting.{FitNodes, lineages, parts_of}
use Rattle.sz_bodies.specs.Taking.{Begun, site_over, AreNodesAt, NoNodesAt, AreOnlyNodes}
use Rattle.sz_bodies.proofs.HeadParts.{if_bad-weaker}
use Rattle.sz_bodies.proofs.Whole.{HeadIs, IsRead, version_read, carried, body-read}
use Rattle.sz_bodies.proofs.Whole.{no-body-head, no-body-shapes, no-body-nodes, no-body-end}
use Rattle.sz_bodies.proofs.reading.take_version_body.Given.{Over}
use Rattle.sz_bodies.proofs.reading.take_version_body.Goals.{In_ok-head, After-nodes-nodes}
use Rattle.sz_bodies.proofs.reading.take_version_body.Goals as goal

-- what stands before the nodes
head-is : (g : Over) (c : In_ok-head g)
    → HeadIs c.args.catalogue.now c.args.body.now c.in_ok-head.head c.in_ok-head.place
head-is g c = record { begun = c.in_ok-head.ensures.held; here = c.in_ok-head.ensures.bytes }

-- the nodes are those of the flow
flow-nodes : (g : Over) (c : After-nodes-nodes g) → c.nodes-nodes.result.now ≡ c.in_ok-head.head.flow.nodes
flow-nodes g c =
    c.nodes-nodes.ensures
    ∙ ap (λ (x : Graph). x.nodes) (c.deref.ensures ∙ ap (λ (b : Begun). b.flow) c.head.view_is)

pub returns-in_err-head-clause-bad : goal.returns-in_err-head-clause-bad
returns-in_err-head-clause-bad g c =
    let none = if_bad-weaker c.in_err-head.field-0.0 (no-body-head c.args.format c.args.catalogue.now c.args.body.now)
    c.in_err-head.ensures.err in
    let p = err_from_is_err_and c.from_residual.result c.from_residual.ensures.1 in
    rw (p.1, p.2) none

pub returns-in_err-base-clause-bad : goal.returns-in_err-base-clause-bad
returns-in_err-base-clause-bad g c =
    let held = c.args.catalogue.now in
    let h : Begun = c.in_ok-head.head in
    let none = if_bad-weaker c.in_err-base.field-0.0
    (no-body-shapes c.args.format held c.args.body.now h c.in_ok-head.place
    (head-is g (goal.at.returns-in_err-base-clause-bad g c).In_ok-head)) c.in_err-base.ensures.err in
    let p = err_from_is_err_and c.from_residual-in_err-base.result c.from_residual-in_err-base.ensures.1 in
    rw (p.1, p.2) none

pub returns-in_err-lists-clause-bad : goal.returns-in_err-lists-clause-bad
returns-in_err-lists-clause-bad g c =
    let s = goal.at.returns-in_err-lists-clause-bad g c in
    let held = c.args.catalogue.now in
    let body = c.args.body.now in
    let h : Begun = c.in_ok-head.head in
    let place = c.in_ok-head.place in
    let base : List Extent = c.in_ok-base.base.items in
    let outs : List Extent = c.in_ok-base.outputs.items in
    let none = if_bad-weaker c.in_err-lists.field-0.0
    (λ missing. no-body-nodes c.args.format held body h place base outs (head-is g s.In_ok-head)
    c.in_ok-base.ensures.base c.in_ok-base.ensures.fit
    (carried (λ (b o : List Extent) (n : List Node). NoNodesAt c.args.format b o n body place) c.deref-2.result.now base
    c.deref-3.result.now outs c.nodes-nodes.result.now h.flow.nodes c.deref-2.ensures.value c.deref-3.ensures.value
    (flow-nodes g s.After-nodes-nodes) missing)) c.in_err-lists.ensures.err in
    let p = err_from_is_err_and c.from_residual-in_err-lists.result c.from_residual-in_err-lists.ensures.1 in
    rw (p.1, p.2) none

pub returns-then-end-body-clause-bad : goal.returns-then-end-body-clause-bad
returns-then-end-body-clause-bad g c =
    let s = goal.at.returns-then-end-body-clause-bad g c in
    let h : Begun = c.in_ok-head.head in
    let place = c.in_ok-head.place in
    let end = c.in_ok-lists.end in
    let base : List Extent = c.in_ok-base.base.items in
    let outs : List Extent = c.in_ok-base.outputs.items in
    let parts = parts_of c.in_ok-lists.lists.items (lineages c.in_ok-lists.stores.items) in
    no-body-end c.args.format c.args.catalogue.now c.args.body.now h place end base outs parts (head-is g s.In_ok-head)
    c.in_ok-base.ensures.base c.in_ok-base.ensures.fit
    (carried (λ (b o : List Extent) (n : List Node). AreOnlyNodes c.args.format b o n c.args.body.now place end parts)
    c.deref-2.result.now base c.deref-3.result.now outs c.nodes-nodes.result.now h.flow.nodes c.deref-2.ensures.value
    c.deref-3.ensures.value (flow-nodes g s.After-nodes-nodes) c.in_ok-lists.ensures.only) c.if-end-body.true

whole : (g : Over) (c : goal.After-drop-base-2 g) → c.nodes-nodes.result.now ≡ c.in_ok-head.head.flow.nodes
    → IsRead c.args.format c.args.catalogue.now c.args.body.now c.head.inside.number (record {
      flow_name = c.head.inside.flow_name;
      flow = arc_value c.head.inside.flow;
      base = c.of.result;
      lists = c.of-2.result;
      awaited = true;
    }) (lineages c.in_ok-lists.stores.items)
whole g c nodes =
    let held = c.args.catalogue.now in
    let body = c.args.body.now in
    let h : Begun = c.in_ok-head.head in
    let place = c.in_ok-head.place in
    let end = c.in_ok-lists.end in
    let base : List Extent = c.in_ok-base.base.items in
    let outs : List Extent = c.in_ok-base.outputs.items in
    let lists : List (List Strategy) = c.in_ok-lists.lists.items in
    let stores = lineages c.in_ok-lists.stores.items in
    let parts = parts_of lists stores in
    let there : AreNodesAt c.args.format base outs h.flow.nodes body place end parts =
    carried (λ (b o : List Extent) (n : List Node). AreNodesAt
    c.args.format b o n body place end parts) c.deref-2.result.now base
    c.deref-3.result.now outs c.nodes-nodes.result.now h.flow.nodes c.deref-2.ensures.value c.deref-3.ensures.value
    nodes c.in_ok-lists.ensures.nodes in
    let fits : FitNodes (map (site_over base outs) h.flow.nodes) lists stores =
    carried (λ (b o : List Extent) (n : List Node). FitNodes (map (site_over b o) n) lists stores) c.deref-2.result.now
    base c.deref-3.result.now outs c.nodes-nodes.result.now h.flow.nodes c.deref-2.ensures.value c.deref-3.ensures.value
    nodes c.in_ok-lists.ensures.fit in
    let own : IsRead c.args.format held body h.number (version_read h lists) stores =
    body-read c.args.format held body h place end base outs lists stores
    (record { begun = c.in_ok-head.ensures.held; here = c.in_ok-head.ensures.bytes }) c.in_ok-base.ensures.base
    c.in_ok-base.ensures.fit there fits c.if-end-body.false in
    let make : List Base → List (List Strategy) → Version = λ bs ls. record {
      flow_name = c.head.inside.flow_name;
      flow = arc_value c.head.inside.flow;
      base = bs;
      lists = ls;
      awaited = true;
    } in
    let version : make c.of.result c.of-2.result ≡ version_read h lists =
    ap₂ make c.of.ensures c.of-2.ensures ∙ ap (λ (b : Begun). version_read b lists) c.head.view_is in
    subst (λ (v : Version). IsRead c.args.format held body c.head.inside.number v stores) (sym version)
    (subst (λ (n : ℕ). IsRead c.args.format held body n (version_read h lists) stores)
    (sym (ap (λ (b : Begun). b.number) c.head.view_is)) own)

pub returns-clause-lawful : goal.returns-clause-lawful
returns-clause-lawful g c = (whole g c (flow-nodes g (goal.at.returns-clause-lawful g c).After-nodes-nodes)).lawful

pub returns-clause-said : goal.returns-clause-said
returns-clause-said g c = (whole g c (flow-nodes g (goal.at.returns-clause-said g c).After-nodes-nodes)).said

pub returns-clause-fit : goal.returns-clause-fit
returns-clause-fit g c = (whole g c (flow-nodes g (goal.at.returns-clause-fit g c).After-nodes-nodes)).fit

pub returns-clause-added : goal.returns-clause-added
returns-clause-added g c = (whole g c (flow-nodes g (goal.at.returns-clause-added g c).After-nodes-nodes)).added
