-- The labels by the roots tell which cells are connected.
use Rattle.std.proofs.Common.{◌≡◌, ℕ, List, length, ◌++◌, take, to_z, of_z, w64, ap, subst, sym, ◌∙◌}
use Rattle.std.specs.Prelude.{ℤ}
use Rattle.std.proofs.Math.Seq.{take-append_seam}
use Rattle.std.proofs.Math.ListN.{drop}
use Rattle.std.proofs.lemmas.Int.{to_z-of_z}
use Rattle.sz_cells.specs.Extent.{size_of}
use Rattle.sz_ops_region.specs.Linking.{AreLinked}
use Rattle.sz_ops_region.specs.Numbers.{AreLabels}
use Rattle.sz_ops_region.proofs.Numbers.{labels-are}
use Rattle.sz_ops_region.proofs.settling.labels_in.Goals as goal

pub returns : goal.returns
returns c =
    let g = c.args.array.now in
    let first = c.deref_mut.result.now in
    let linked : AreLinked (to_z w64 (of_z w64 c.args.t)) g first (size_of g.extent) =
    subst (λ (zs : List ℕ). AreLinked (to_z w64 (of_z w64 c.args.t)) g zs (size_of g.extent))
    (sym c.deref_mut.ensures.value) c.in_ok-words.ensures in
    let are : AreLinked c.args.t g first (size_of g.extent) =
    subst (λ (z : ℤ). AreLinked z g first (size_of g.extent)) (to_z-of_z w64 c.args.t c.ranges.t) linked in
    let ws = c.settle_all.new.words in
    let rest = drop (length ws) c.in_ok-words.words.items in
    let long : c.in_ok-words.words.len ≡ length ws = sym (c.settle_all.auto.words ∙ c.deref_mut.ensures.len) in
    let whole : take c.in_ok-words.words.len (ws ++ rest) ≡ ws =
    ap (λ (n : ℕ). take n (ws ++ rest)) long ∙ take-append_seam ws rest in
    subst (AreLabels c.args.t g) (sym whole)
    (labels-are c.args.t g first ws are.root are.linking c.settle_all.auto.words
    (c.settle_all.ensures are.root are.linking.roots))
