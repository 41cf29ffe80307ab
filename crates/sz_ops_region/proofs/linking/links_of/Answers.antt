-- At first no cell is linked.
use Rattle.std.proofs.Common.{◌≡◌, ℕ, List, length, ◌++◌, get_or, take, to_z, of_z, w64, ap, subst, sym, ◌∙◌}
use Rattle.std.proofs.Common.{replicate}
use Rattle.std.specs.Prelude.{ℤ}
use Rattle.std.proofs.Math.Seq.{take-append_seam}
use Rattle.std.proofs.Math.ListN.{drop}
use Rattle.std.proofs.lemmas.Int.{to_z-of_z}
use Rattle.sz_cells.specs.Extent.{size_of}
use Rattle.sz_ops_region.specs.Linking.{AreLinked}
use Rattle.sz_ops_region.proofs.Linked.{linked-none}
use Rattle.sz_ops_region.proofs.Words.{zeros}
use Rattle.sz_ops_region.proofs.linking.links_of.Goals as goal

pub link_all-requires : goal.link_all-requires
link_all-requires c =
    let size : c.size-size.result ≡ size_of c.args.array.now.extent =
    c.size-size.ensures.value ∙ ap size_of c.shape.ensures in
    let all : c.deref_mut.result.now ≡ replicate c.size-size.result 0 =
    c.deref_mut.ensures.value ∙ c.in_ok-words.ensures.items_if_clones_equal (λ y is. is) in
    linked-none (to_z w64 (of_z w64 c.args.t)) c.args.array.now c.deref_mut.result.now
    (c.deref_mut.ensures.len ∙ c.in_ok-words.ensures.len ∙ size)
    (λ k. ap (λ (ws : List ℕ). get_or ws k 0) all ∙ zeros c.size-size.result k)

pub returns : goal.returns
returns c =
    let ws = c.link_all.new.words in
    let rest = drop (length ws) c.in_ok-words.words.items in
    let long : c.in_ok-words.words.len ≡ length ws = sym (c.link_all.auto.words ∙ c.deref_mut.ensures.len) in
    let whole : take c.in_ok-words.words.len (ws ++ rest) ≡ ws =
    ap (λ (n : ℕ). take n (ws ++ rest)) long ∙ take-append_seam ws rest in
    subst (λ (zs : List ℕ). AreLinked c.args.t c.args.array.now zs (size_of c.args.array.now.extent)) (sym whole)
    (subst (λ (z : ℤ). AreLinked z c.args.array.now ws (size_of c.args.array.now.extent))
    (to_z-of_z w64 c.args.t c.ranges.t) c.link_all.ensures)
