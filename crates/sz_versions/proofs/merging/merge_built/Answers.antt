-- What lies on the shelf is merged: it stands for the relation of the execution, and for the tag.
use Rattle.std.proofs.Common.{◌≡◌, ◌++◌, List, ℕ, sym, ap, ◌∙◌, subst}
use Rattle.std.specs.Prelude.{All, Ok}
use Rattle.std.specs.Arc.{arc_value}
use Rattle.sz_spec.specs.Shapes.{Site, shape_of}
use Rattle.sz_store.specs.Kept.{Keep, NodeLineage}
use Rattle.sz_flow.specs.Executions.{execution_of}
use Rattle.sz_shelf.specs.Passes.{Onlooker, place_of}
use Rattle.sz_shelf.specs.Places.{ShelfPlace}
use Rattle.sz_shelf.specs.Tags.{Tag, StandsFor}
use Rattle.sz_merge.specs.Merged.{AreMerged}
use Rattle.sz_versions.specs.Merging.{HasKinds}
use Rattle.sz_versions.specs.Stores.{AreStoresFor}
use Rattle.sz_versions.proofs.MergedNodes.{AreShelved, merged-own, merged-there, merged-told, merged-kinds}
use Rattle.sz_versions.proofs.merging.merge_built.Given.{Over}
use Rattle.sz_versions.proofs.merging.merge_built.Goals.{In_ok-merged}
use Rattle.sz_versions.proofs.merging.merge_built.Goals as goal

-- what is known once the stores on the shelf are merged
record IsMergedHere (g : Over) (c : In_ok-merged g) : Type 0 where
  pub split : c.in_ok-pass.pass.tag ≡ c.args.built.now.pass.tag
  pub there : AreShelved (execution_of c.args.run.now) c.args.list.now c.args.built.now.pass.tag
      (arc_value c.args.built.now.store) (arc_value c.in_ok-store.store)
  pub merged : AreMerged (execution_of c.args.run.now).site c.args.list.now (arc_value c.in_ok-store.store).stores
      c.in_ok-merged.merged.store c.in_ok-merged.merged.bytes.items c.in_ok-merged.merged.kinds.items

is-merged : (g : Over) (c : In_ok-merged g) → IsMergedHere g c
is-merged g c =
    let e = execution_of c.args.run.now in
    let m = c.in_ok-merged.merged in
    let split : c.in_ok-pass.pass.tag ≡ c.args.built.now.pass.tag =
    ap (λ (p : Onlooker). p.tag) c.in_ok-pass.ensures.new in
    record {
      split = split;
      there = record {
        stored = c.requires.stored;
        first = c.args.built.now.stands;
        own = c.requires.own;
        there = subst (λ (x : Tag). StandsFor x (arc_value c.in_ok-store.store)) split c.in_ok-store.ensures.stands;
      };
      merged =
          subst (λ (k : NodeLineage). AreMerged e.site c.args.list.now k.stores m.store m.bytes.items m.kinds.items)
          c.deref-4.ensures c.in_ok-merged.ensures;
    }

pub put-requires-clause-stands : goal.put-requires-clause-stands
put-requires-clause-stands g c =
    let e = execution_of c.args.run.now in
    let t = c.args.built.now.pass.tag in
    let m = c.in_ok-merged.merged in
    let known = is-merged g (goal.at.put-requires-clause-stands g c).In_ok-merged in
    let tag : c.shelved.new.pass.tag ≡ t =
    ap (λ (z : ShelfPlace). z.tag) c.in_ok-store.ensures.place ∙ known.split in
    let value : arc_value c.in_ok-try_clone.field-0 ≡ m.store =
    c.in_ok-try_clone.ensures ∙ c.in_ok-store-2.ensures.ok in
    subst (λ (x : Tag). StandsFor x (arc_value c.in_ok-try_clone.field-0)) (sym tag)
    (subst (StandsFor t) (sym value) (merged-there e c.args.list.now t (arc_value c.args.built.now.store)
    (arc_value c.in_ok-store.store) m.store m.bytes.items m.kinds.items known.there known.merged))

pub invariant_of-result : goal.invariant_of-result
invariant_of-result g c =
    let e = execution_of c.args.run.now in
    let t = c.args.built.now.pass.tag in
    let m = c.in_ok-merged.merged in
    let known = is-merged g (goal.at.invariant_of-result g c).In_ok-merged in
    let tag : c.shelved.new.pass.tag ≡ t =
    ap (λ (z : ShelfPlace). z.tag) c.in_ok-store.ensures.place ∙ known.split in
    let after : c.put.new.pass.tag ≡ t = ap (λ (z : ShelfPlace). z.tag) c.put.ensures.place ∙ tag in
    record {
      own = c.put.ensures.place ∙ c.in_ok-store.ensures.place ∙ ap place_of c.in_ok-pass.ensures.new
          ∙ c.args.built.now.own ∙ sym c.in_ok-shelf.ensures;
      saw = c.put.ensures.saw;
      stands = subst (λ (x : Tag). StandsFor x (arc_value c.in_ok-store-2.store)) (sym after)
          (subst (StandsFor t) (sym c.in_ok-store-2.ensures.ok)
          (merged-there e c.args.list.now t (arc_value c.args.built.now.store) (arc_value c.in_ok-store.store) m.store
          m.bytes.items m.kinds.items known.there known.merged));
    }

pub returns-clause-stands : goal.returns-clause-stands
returns-clause-stands g c =
    let e = execution_of c.args.run.now in
    let m = c.in_ok-merged.merged in
    let known = is-merged g (goal.at.returns-clause-stands g c).In_ok-merged in
    subst (AreStoresFor e c.args.list.now) (sym c.in_ok-store-2.ensures.ok)
    (merged-own e c.args.list.now c.args.built.now.pass.tag (arc_value c.args.built.now.store)
    (arc_value c.in_ok-store.store) m.store m.bytes.items m.kinds.items known.there known.merged)

pub returns-clause-merged : goal.returns-clause-merged
returns-clause-merged g c =
    let known = is-merged g (goal.at.returns-clause-merged g c).In_ok-merged in
    let HaveKinds : NodeLineage → Type 0 = λ (k : NodeLineage). All (λ (f : Keep). HasKinds f.holding) k.stores in
    subst HaveKinds (sym c.in_ok-store-2.ensures.ok) (merged-kinds (execution_of c.args.run.now).site
    (arc_value c.in_ok-store.store).stores c.in_ok-merged.merged.store.stores known.merged.each)

pub returns-clause-kinds : goal.returns-clause-kinds
returns-clause-kinds g c =
    let e = execution_of c.args.run.now in
    let m = c.in_ok-merged.merged in
    let known = is-merged g (goal.at.returns-clause-kinds g c).In_ok-merged in
    let rule = subst (λ (s : Site). shape_of s.op s.ins ≡ Ok s.out) c.deref.ensures c.out.ensures.rule in
    c.in_ok-extend_from_slice.ensures.items
    ∙ ap (λ (ks : List ℕ). c.args.kinds.now.items ++ ks) (c.deref-5.ensures.value
    ∙ merged-told e c.args.list.now c.args.built.now.pass.tag (arc_value c.args.built.now.store)
    (arc_value c.in_ok-store.store) m.store m.bytes.items m.kinds.items known.there known.merged c.args.run.now.shapes
    c.requires.supported rule)
