-- The labels by the roots are those of the components.
use Rattle.std.proofs.Common.{List, Option, subst, sym, ℕ, ◌≡◌, w64, to_z, of_z}
use Rattle.std.specs.Prelude.{ℤ, IfOk}
use Rattle.std.proofs.lemmas.Int.{to_z-of_z}
use Rattle.sz_cells.specs.Extent.{size_of}
use Rattle.sz_ops_region.specs.Linking.{AreLinked}
use Rattle.sz_ops_region.proofs.Linked.{labels-right}
use Rattle.sz_ops_region.proofs.output.labels_over.Goals as goal

pub returns : goal.returns
returns c =
    let g = c.args.array.now in
    let ws = c.deref_mut.result.now in
    let are : AreLinked c.args.t g ws (size_of g.extent) =
    subst (λ (z : ℤ). AreLinked z g ws (size_of g.extent)) (to_z-of_z w64 c.args.t c.ranges.t)
    (subst (λ (zs : List ℕ). AreLinked (to_z w64 (of_z w64 c.args.t)) g zs (size_of g.extent))
    (sym c.deref_mut.ensures.value) c.in_ok-words.ensures) in
    subst (λ (xs : List (Option ℤ)). IfOk c.labels_of.result (λ v. v.items ≡ xs))
    (labels-right c.args.t g ws are.root are.linking) (c.labels_of.ensures are.root are.linking.roots)
