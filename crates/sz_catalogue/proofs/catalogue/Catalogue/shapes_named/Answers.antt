-- One name more, held or not.
use Rattle.std.proofs.Common.{◌++◌, ◌∷◌, [], List, ℕ, take, ap, ap₂, sym, ◌∙◌}
use Rattle.std.specs.Arc.{arc_value}
use Rattle.sz_cells.specs.Extent.{Extent}
use Rattle.sz_spec.specs.Values.{Grid}
use Rattle.sz_catalogue.specs.Holdings.{array_version, shapes_of}
use Rattle.sz_catalogue.specs.Starts.{bases_of}
use Rattle.sz_catalogue.proofs.Bases.{named_base, held-more, missing-more, shapes-more}
use Rattle.sz_catalogue.proofs.catalogue.Catalogue.shapes_named.Goals as goal
use Rattle.sz_catalogue.proofs.catalogue.Catalogue.shapes_named.Goals.{in-Some+in_ok-push-in-Some, in-None}

pub loop-only-preserved : goal.loop-only-preserved
loop-only-preserved c =
    let named = ap (λ (n : List ℕ). array_version c.args.self.now n c.only-item.result.version) c.as_str.ensures in
    elim c.match-array.branch [
      | in-Some+in_ok-push-in-Some w ↦
          let more = held-more c.args.self.now c.args.base.now c.loop-only.only-index c.only-item.result
          (arc_value w.in-Some.array.now) c.loop-only-test.true c.only-item.is (w.in-Some.ensures ∙ named) in
          rw w.shapes-is (w.in_ok-push-in-Some.ensures.items
          ∙ ap₂ (λ (es : List Extent) (e : Extent). es ++ e ∷ []) c.loop-only.invariant
          (w.shape.ensures ∙ ap (λ (g : Grid). g.extent) w.deref.ensures)
          ∙ sym (shapes-more (bases_of c.args.self.now (take c.loop-only.only-index c.args.base.now))
          (named_base c.only-item.result (arc_value w.in-Some.array.now)))
          ∙ sym (ap shapes_of more))
      | in-None w ↦
          let more = missing-more c.args.self.now c.args.base.now c.loop-only.only-index c.only-item.result
          c.loop-only-test.true c.only-item.is (w.in-None.ensures ∙ named) in
          rw w.shapes-is (c.loop-only.invariant ∙ sym (ap shapes_of more))
    ]
