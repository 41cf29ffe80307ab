-- The list is the only one that stands there, and behind it the stores.
use Rattle.std.proofs.Common.{◌≡◌, List, sym, ap, subst, ◌∙◌}
use Rattle.std.specs.Arc.{arc_value}
use Rattle.std.proofs.lemmas.Result.{err_from_is_err_and}
use Rattle.sz_spec.specs.declared.modes.Strategy.{Strategy}
use Rattle.sz_spec.specs.Shapes.{Site}
use Rattle.sz_store.specs.Kept.{stored_in}
use Rattle.sz_formats.specs.Words.{BeginEachIn, NoneBeginIn}
use Rattle.sz_catalogue.specs.Rules as rules
use Rattle.sz_bodies.specs.Taking.{site_over}
use Rattle.sz_bodies.proofs.HeadParts.{if_bad-weaker}
use Rattle.sz_bodies.proofs.Sequence.{no-node-other, no-node-stores, node-only, bare-stands, bare-only}
use Rattle.sz_bodies.proofs.nodes.take_node.Given.{Over}
use Rattle.sz_bodies.proofs.nodes.take_node.Goals.{After-is_list_for, After-names_a_store}
use Rattle.sz_bodies.proofs.nodes.take_node.Goals as goal

-- whether the list is one for the operator, and whether it names a store
is-for : (g : Over) (c : After-is_list_for g) → rules.is_list_for c.args.node.now.op c.in_ok-list.list
    ≡ c.is_list_for.result
is-for g c = sym (c.is_list_for.ensures ∙ ap (rules.is_list_for c.args.node.now.op) c.as_slice.ensures)

names : (g : Over) (c : After-names_a_store g) → rules.names_a_store c.in_ok-list.list ≡ c.names_a_store.result
names g c = sym (c.names_a_store.ensures ∙ ap rules.names_a_store c.as_slice-2.ensures)

pub returns-then-not-is_list_for-clause-err : goal.returns-then-not-is_list_for-clause-err
returns-then-not-is_list_for-clause-err g c =
    no-node-other c.args.format (site_over c.args.base.now c.args.outputs.now c.args.node.now) c.args.bytes.now
    c.args.at c.in_ok-list.place c.in_ok-list.list c.in_ok-list.ensures.bytes
    (is-for g (goal.at.returns-then-not-is_list_for-clause-err g c).After-is_list_for ∙ c.if-not-is_list_for.true)

pub returns-then-not-names_a_store-clause-node : goal.returns-then-not-names_a_store-clause-node
returns-then-not-names_a_store-clause-node g c =
    let at = goal.at.returns-then-not-names_a_store-clause-node g c in
    bare-stands c.args.format (site_over c.args.base.now c.args.outputs.now c.args.node.now) c.args.bytes.now c.args.at
    c.in_ok-list.place c.in_ok-list.list (is-for g at.After-is_list_for ∙ c.if-not-is_list_for.false)
    c.in_ok-list.ensures.bytes (names g at.After-names_a_store ∙ c.if-not-names_a_store.true)

pub returns-then-not-names_a_store-clause-only : goal.returns-then-not-names_a_store-clause-only
returns-then-not-names_a_store-clause-only g c =
    bare-only c.args.format (site_over c.args.base.now c.args.outputs.now c.args.node.now) c.args.bytes.now c.args.at
    c.in_ok-list.place c.in_ok-list.list c.in_ok-list.ensures.bytes
    (names g (goal.at.returns-then-not-names_a_store-clause-only g c).After-names_a_store ∙ c.if-not-names_a_store.true)

pub returns-in_err-kept-clause-err : goal.returns-in_err-kept-clause-err
returns-in_err-kept-clause-err g c =
    let s : Site = site_over c.args.base.now c.args.outputs.now c.args.node.now in
    let list : List Strategy = c.in_ok-list.list in
    let none = if_bad-weaker c.in_err-kept.field-0.0
    (λ (missing : NoneBeginIn c.args.format s (stored_in c.as_slice-own.result.now) c.args.bytes.now
    c.in_ok-list.place).
    no-node-stores c.args.format s c.args.bytes.now c.args.at c.in_ok-list.place list c.in_ok-list.ensures.bytes
    (subst (λ (ts : List Strategy). NoneBeginIn c.args.format s
    (stored_in ts) c.args.bytes.now c.in_ok-list.place) c.as_slice-own.ensures
    missing)) c.in_err-kept.ensures.err in
    let p = err_from_is_err_and c.from_residual-in_err-kept.result c.from_residual-in_err-kept.ensures.1 in
    rw (p.1, p.2) none

pub returns-clause-only : goal.returns-clause-only
returns-clause-only g c =
    let s : Site = site_over c.args.base.now c.args.outputs.now c.args.node.now in
    let list : List Strategy = c.in_ok-list.list in
    let kept = arc_value c.in_ok-kept.kept in
    node-only c.args.format s c.args.bytes.now c.args.at c.in_ok-list.place c.in_ok-kept.next list kept.stores
    c.in_ok-kept.ensures.right c.in_ok-list.ensures.bytes
    (subst (λ (ts : List Strategy). BeginEachIn c.args.format s
    (stored_in ts) c.args.bytes.now c.in_ok-list.place c.in_ok-kept.next
    kept.stores) c.as_slice-own.ensures c.in_ok-kept.ensures.stores)
